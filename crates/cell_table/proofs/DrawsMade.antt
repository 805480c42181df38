-- Where one view has every caller number, the clock counts the draws that it no longer has.
use Rattle.std.proofs.Common.{◌≡◌, ◌≢◌, ℕ, zero, suc, ◌+◌, ◌*◌, ◌^◌, ◌<◌, true, List, [], ◌∷◌, length, sym, ◌∙◌, ap, refl, arith}
use mathlib.Core.Option.{some}
use lib.ListN.{get_elem?}
use Rattle.atomic_table.specs.Table.{State}
use Rattle.cell_table.specs.Sorted.{Each}
use Rattle.cell_table.specs.Cells.{has}
use Rattle.cell_table.specs.declared.view.Book.{Book}
use Rattle.cell_table.specs.declared.view.View.{View}
use Rattle.cell_table.specs.Rule.{clock_of, callers_of, draws_left, Rule}
use Rattle.cell_table.proofs.Sorted.{each_map}
use Rattle.cell_table.proofs.Views.{in_callers}
use Rattle.cell_table.proofs.Callers.{all_books}

module _ {M D : Type 0} where
  none_left : (vs : List (View M D)) → ((j : ℕ) (w : View M D) → get_elem? vs j ≡ some w → w.draws ≡ 0) → draws_left vs ≡ 0
  none_left [] none = refl
  none_left (v ∷ vs) none = let a = none 0 v refl in let b = none_left vs (λ j w e. none (suc j) w e) in omega arith

  -- the draws left are those of the one view that has any
  left_in_one : (vs : List (View M D)) (id : ℕ) (v : View M D) → get_elem? vs id ≡ some v → ((j : ℕ) (w : View M D) → j ≢ id → get_elem? vs j ≡ some w → w.draws ≡ 0) → draws_left vs ≡ v.draws
  left_in_one [] id v at none = absurd (cc)
  left_in_one (x ∷ xs) zero v at none = let same : x ≡ v = cc in let a = ap (λ (z : View M D). z.draws) same in let b = none_left xs (λ j w e. none (suc j) w (λ i. omega arith) e) in omega arith
  left_in_one (x ∷ xs) (suc id) v at none = let a = none 0 x (λ i. omega arith) refl in let b = left_in_one xs id v at (λ j w ne e. none (suc j) w (λ i. ne (omega arith)) e) in omega arith

module _ {M D : Type 0} (lawful : M → List ℕ → Type 0) (explains : M → List (ℕ × ℕ) → List (ℕ × ℕ) → List D → Type 0) (m : M) (opening : List ℕ) (total : ℕ) where
  abbrev S : Type 0
  S = State (Unit {0}) (View M D)

  -- a view whose books are another seat's has none
  no_books : (owner : ℕ → ℕ) (id j : ℕ) (bs : List (Book D)) (P : Book D → Type 0) → ((k : ℕ) → k < total → owner k ≡ id) → j ≢ id → Each (λ b. (owner b.caller ≡ j) × (b.caller < total) × P b) bs → length bs ≡ 0
  no_books owner id j [] P mine ne f = refl
  no_books owner id j (b ∷ bs) P mine ne f = absurd (ne (sym f.0.0 ∙ mine b.caller f.0.1))

  pub draws_made : (s : S) (r : Rule lawful explains m opening total s) (id : ℕ) (v : View M D) → get_elem? s.views id ≡ some v → 0 < length v.books → length v.books ≡ v.total → clock_of s.words + v.draws ≡ total * 2 ^ 48
  draws_made s r id v at acting sole =
      let f = r.views id v at in let tot = (f.same acting).2 in
      let every : (j : ℕ) → j < v.total → has j (callers_of v.books) ≡ true = λ j l. all_books 0 v.total v.books f.order (each_map _ _ (λ b x. let y = x.1 in (omega arith, omega arith)) v.books f.books) (omega arith) j (omega arith) l in
      let mine : (j : ℕ) → j < total → r.owner j ≡ id = λ j l. in_callers (λ i. r.owner i ≡ id) j v.books (every j (omega arith)) (each_map _ _ (λ b x. x.0) v.books f.books) in
      let a = left_in_one s.views id v at (λ j w ne e. let g = r.views j w e in g.spent (no_books r.owner id j w.books _ mine ne g.books)) in let b = r.budget in omega arith
