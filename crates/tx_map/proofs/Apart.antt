-- What writes leave of the cells of a part.
use Rattle.std.proofs.Common.{◌≡◌, ℕ, ◌+◌, ◌<◌, List, [], ◌∷◌, get_or, set, refl, ◌∙◌, arith, length-set, get_or-set_other}
use mathlib.Core.Path.{fun_ext}
use Rattle.std.proofs.lemmas.Bool.Decides.{nat_tests}
use Rattle.attempt_lists.specs.Cells.{Entries}
use Rattle.cell_table.specs.Sorted.{Each}
use Rattle.cell_table.specs.Cells.{after}
use Rattle.tx_map.specs.declared.part.MapPart.{MapPart}
use Rattle.tx_map.specs.Map.{IsFormed, IsOutside, map_of, SameCells}

module _ (part : MapPart) where
  pub same_map : (a b : List ℕ) → SameCells part a b → map_of part a ≡ map_of part b
  same_map a b same = fun_ext (λ position.
      let at : position < part.capacity → get_or a (part.base + position) 0 ≡ get_or b (part.base + position) 0 = λ inside. same.words (part.base + position) (omega arith, omega (arith, inside)) in
      grind (arith, nat_tests, at))

  pub formed-after : (cells : List ℕ) (ws : Entries) → IsFormed part cells → IsFormed part (after cells ws)
  formed-after cells [] formed = formed
  formed-after cells (w ∷ ws) formed = formed-after (set cells w.0 w.1) ws (omega (arith, formed, length-set cells w.0 w.1))

  -- one write
  map_of-set : (cells : List ℕ) (c x : ℕ) → IsOutside part c → map_of part (set cells c x) ≡ map_of part cells
  map_of-set cells c x outside = fun_ext (λ position.
      let other : position < part.capacity → get_or (set cells c x) (part.base + position) 0 ≡ get_or cells (part.base + position) 0 = λ inside. get_or-set_other cells c (part.base + position) x 0 (λ same. omega (arith, outside, inside, same)) in
      grind (arith, nat_tests, other))

  pub map_of-after : (cells : List ℕ) (ws : Entries) → Each (λ w. IsOutside part w.0) ws → map_of part (after cells ws) ≡ map_of part cells
  map_of-after cells [] outside = refl
  map_of-after cells (w ∷ ws) outside = map_of-after (set cells w.0 w.1) ws outside.1 ∙ map_of-set cells w.0 w.1 outside.0
