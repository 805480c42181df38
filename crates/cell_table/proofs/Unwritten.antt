-- What a pass with every caller number finds in cells that nobody wrote.
use Rattle.std.proofs.Common.{◌≡◌, ℕ, ◌<◌, Bool, cond, ltb, List, [], ◌∷◌, length, get_or, inl, inr, ⊎_elim, refl, sym, ap, ◌∙◌, subst, arith}
use Rattle.cell_table.specs.Sorted.{Among, insert_by}
use Rattle.cell_table.specs.declared.view.NotedBook.{NotedBook}
use Rattle.cell_table.specs.declared.view.View.{View}
use Rattle.cell_table.specs.declared.view.Stage.{Stage}
use Rattle.cell_table.specs.declared.view.Stage.TheVariants.{Open}
use Rattle.cell_table.specs.Steps.{cell_key, taken, valued, IsUndecided, Reads, Validated, Observes, Grows}
use Rattle.cell_table.specs.Pass.{PassState, IsSole, new_noted, with_view}
use Rattle.cell_table.specs.Writers.{writers_in, up_to, replay, Alone}
use Rattle.cell_table.proofs.Histories.{bool_cases}

among_inserted : (t : ℕ × ℕ) (ts : List (ℕ × ℕ)) → Among t (insert_by cell_key t ts)
among_inserted t [] = inl refl
among_inserted t (x ∷ xs) = let P : Bool → Type 0 = λ z. Among t (cond z (t ∷ x ∷ xs) (x ∷ insert_by cell_key t xs)) in
    ⊎_elim (λ y. subst P (sym y) (inl refl)) (λ y. subst P (sym y) (inr (among_inserted t xs))) (bool_cases (ltb (cell_key t) (cell_key x)))

module _ {M D : Type 0} where
  pub grows_both : (v w x : View M D) → Grows v w → Grows w x → Grows v x
  grows_both v w x f g = record {
    meaning = g.meaning ∙ f.meaning;
    opening = g.opening ∙ f.opening;
    total = g.total ∙ f.total;
    known = (let a = f.known in let b = g.known in omega arith);
    values = λ t a. g.values t (f.values t a);
    validations = λ t a. g.validations t (f.validations t a);
  }

  reads_opening : (p : PassState M D) (o : List ℕ) (c x k : ℕ) → Alone p → p.books ≡ new_noted 0 2 → p.view.opening ≡ o → c < length o → Reads p.view c 0 x → Validated p.view c 0 k → x ≡ get_or o c 0
  reads_opening p o c x k alone books opening inside reads newest =
      let seen : Observes p.view c x k = (0, k, reads, newest, omega arith, omega arith) in
      sym (alone.observed c x k (subst (λ (z : List ℕ). c < length z) (sym opening) inside) seen) ∙ (λ i. get_or (replay (opening i) (up_to k (writers_in (books i)))) c 0)

  held_now : (p q : PassState M D) (c places : ℕ) → q ≡ record p { view = taken p.view c 0; places = places } → p.view.stage ≡ Open → Among (c, 0) q.view.held × IsUndecided q.view.stage
  held_now p q c places e st = subst (λ (z : PassState M D). Among (c, 0) z.view.held × IsUndecided z.view.stage) (sym e) (among_inserted (c, 0) p.view.held, subst (λ (z : Stage D). IsUndecided z) (sym st) tt)

  same_after : (p q r : PassState M D) (c x places : ℕ) → q ≡ record p { view = taken p.view c 0; places = places } → r ≡ with_view q (valued q.view c x) → (r.books ≡ p.books) × (r.view.total ≡ p.view.total)
  same_after p q r c x places e f = (ap (λ (z : PassState M D). z.books) f ∙ ap (λ (z : PassState M D). z.books) e, ap (λ (z : PassState M D). z.view.total) f ∙ ap (λ (z : PassState M D). z.view.total) e)

  -- the cell was taken at version 0, and then its value loaded
  pub read_held : (p q r : PassState M D) (o : List ℕ) (c x places : ℕ) → q ≡ record p { view = taken p.view c 0; places = places } → r ≡ with_view q (valued q.view c x) → IsSole p → p.books ≡ new_noted 0 2 → p.view.stage ≡ Open → (IsSole r → Alone r) → r.view.opening ≡ o → c < length o
      → Validated q.view c 0 p.view.known → Grows q.view r.view → ((u : ℕ) → Among (c, u) q.view.held → IsUndecided q.view.stage → Reads r.view c u x) → (x ≡ get_or o c 0) × Reads r.view c 0 x
  read_held p q r o c x places e f sole books st alone opening inside newest grows reads = let same = same_after p q r c x places e f in let held = held_now p q c places e st in let found = reads 0 held.0 held.1 in (
    reads_opening r o c x p.view.known (alone (ap (λ (z : List (NotedBook D)). length z) same.0 ∙ (sole ∙ sym same.1))) (same.0 ∙ books) opening inside found (grows.validations (c, 0, p.view.known) newest),
    found,
  )
