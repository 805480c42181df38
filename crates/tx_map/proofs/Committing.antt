-- What an attempt that locked its writes holds.
use Rattle.std.proofs.Common.{◌≡◌, ◌≢◌, ℕ, ◌<◌, true, false, List, [], ◌∷◌, length, IsSome, sym, ap, ◌∙◌, arith}
use Rattle.std.proofs.lemmas.Bool.Decides.{nat_tests}
use Rattle.attempt_lists.specs.Cells.{Entries, word_at}
use Rattle.cell_table.specs.Cells.{has}
use Rattle.cell_table.specs.Rule.{cells_of}

-- it holds a cell, where it wrote one and holds each that it wrote
pub holds_one : (ws : Entries) (held : List (ℕ × ℕ)) → 0 < length ws → ((c : ℕ) → IsSome (word_at ws c) → has c (cells_of held) ≡ true) → held ≢ []
holds_one [] held some all none = absurd (omega (arith, some))
holds_one (w ∷ ws) held some all none =
    let there : IsSome (word_at (w ∷ ws) w.0) = grind (arith, nat_tests) in
    let e : false ≡ true = ap (λ (h : List (ℕ × ℕ)). has w.0 (cells_of h)) (sym none) ∙ all w.0 there in
    cc
