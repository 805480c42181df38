-- What a list of writes leaves in cells, and what an observation says of them.
use Rattle.std.proofs.Common.{◌≡◌, ℕ, ◌<◌, List, [], ◌∷◌, ◌++◌, length, get_or, Some, None, refl, sym, ap, ◌∙◌, arith}
use mathlib.Core.Logic.{dite}
use native.Mathlib.Decide.{ℕ_discrete}
use Rattle.std.specs.Prelude.{Option}
use Rattle.std.specs.Option.{option_or}
use Rattle.std.proofs.lemmas.Bool.Decides.{nat_tests}
use Rattle.cell_table.specs.Cells.{AllHold, after}
use Rattle.attempt_lists.specs.Cells.{Entries, word_at, IsAscending}
use Rattle.tx_core.specs.Words.{after_written, after_unwritten}

-- what was observed first holds where all does
pub hold_first : (cells : List ℕ) (os more : Entries) → AllHold cells (os ++ more) → AllHold cells os
hold_first cells [] more all = tt
hold_first cells (o ∷ os) more all = (all.0, hold_first cells os more all.1)

-- an observed cell has the word that was observed
pub observed_word : (cells : List ℕ) (os : Entries) (c x : ℕ) → AllHold cells os → word_at os c ≡ Some x → get_or cells c 0 ≡ x
observed_word cells [] c x all is = absurd (cc)
observed_word cells (o ∷ os) c x all is = dite (ℕ_discrete c o.0)
    (λ same. let word : o.1 ≡ x = grind (arith, nat_tests, is, same) in rw same all.0.1 ∙ word)
    (λ apart. observed_word cells os c x all.1 (grind (arith, nat_tests, is, apart)))

-- the attempt's own write, else what it observed
pub known_word : (cells : List ℕ) (ws os : Entries) (c x : ℕ) → IsAscending ws → option_or (word_at ws c) (word_at os c) ≡ Some x → AllHold cells os → c < length cells → get_or (after cells ws) c 0 ≡ x
known_word cells ws os c x ascending is all lt = by (word_at ws c) refl
  where
    by : (own : Option ℕ) → word_at ws c ≡ own → get_or (after cells ws) c 0 ≡ x
    by (Some y) e = after_written ws cells c x ascending (e ∙ sym (ap (λ (o : Option ℕ). option_or o (word_at os c)) e) ∙ is) lt
    by None e = after_unwritten ws cells c e ∙ observed_word cells os c x all (sym (ap (λ (o : Option ℕ). option_or o (word_at os c)) e) ∙ is)
