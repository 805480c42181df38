-- Loads leave a pass idle.
use Rattle.std.proofs.Common.{◌≡◌, ℕ, ◌%◌, Bool, cond, eqb, true, false, sym, ◌∙◌, subst, refl}
use Rattle.cell_table.specs.declared.view.View.{View}
use Rattle.cell_table.specs.Steps.{free_look, held_look, looked, valued, IsIdle}
use Rattle.cell_table.specs.Pass.{PassState, with_view}

module _ {M D : Type 0} where
  abbrev Same : View M D → View M D → Type 0
  Same v w = (w.stage ≡ v.stage) × (w.held ≡ v.held) × (w.draws ≡ v.draws) × (w.total ≡ v.total)

  looked_same : (v : View M D) (c r : ℕ) → Same v (looked v c r)
  looked_same v c r = at (eqb (r % 2) 0)
    where
      at : (b : Bool) → Same v (cond b (free_look v c r) (held_look v c r))
      at true = (refl, refl, refl, refl)
      at false = (refl, refl, refl, refl)

  abbrev Kept : PassState M D → PassState M D → Type 0
  Kept p q = (q.books ≡ p.books) × (q.room ≡ p.room) × (q.view.total ≡ p.view.total) × (q.view.draws ≡ p.view.draws) × (q.places ≡ p.places)

  -- after a look at a lock and a load of a value
  pub loads_leave : (p q r : PassState M D) (c w x : ℕ) → q ≡ with_view p (looked p.view c w) → r ≡ with_view q (valued q.view c x) → (IsIdle p.view → IsIdle r.view) × Kept p r
  loads_leave p q r c w x e f = let same = looked_same p.view c w in subst (λ (z : PassState M D). (IsIdle p.view → IsIdle z.view) × Kept p z) (sym f)
      (subst (λ (z : PassState M D). (IsIdle p.view → IsIdle (valued z.view c x)) × Kept p (with_view z (valued z.view c x))) (sym e) ((λ idle. (same.0 ∙ idle.0, same.1 ∙ idle.1)), (refl, refl, same.3, same.2, refl)))
