-- The caller numbers of books that are in ascending order.
use Rattle.std.proofs.Common.{◌≡◌, ℕ, ◌+◌, ◌<◌, ◌≤◌, true, List, [], ◌∷◌, ◌⊎◌, length, inl, inr, ⊎_elim, refl, ap, arith}
use mathlib.Core.Logic.{dite}
use native.Mathlib.Decide.{ℕ_discrete}
use Rattle.cell_table.specs.Sorted.{Each}
use Rattle.cell_table.specs.Cells.{has}
use Rattle.cell_table.specs.declared.view.Book.{Book}
use Rattle.cell_table.specs.Rule.{callers_of, IsAscending}
use Rattle.cell_table.proofs.Sorted.{each_map, each_both}
use Rattle.cell_table.proofs.HeldCells.{has_first, has_later}

module _ {D : Type 0} where
  pub least : (lo total : ℕ) (bs : List (Book D)) → IsAscending bs → Each (λ b. (lo ≤ b.caller) × (b.caller < total)) bs → length bs + lo ≤ total ⊎ (bs ≡ [])
  least lo total [] o e = inr refl
  least lo total (b ∷ bs) o e = let a = e.0.0 in let c = e.0.1 in let up = each_both _ _ (λ x. (b.caller + 1 ≤ x.caller) × (x.caller < total)) (λ x l y. let z = y.1 in (omega arith, omega arith)) bs o.0 e.1 in
      inl (⊎_elim (λ l. omega arith) (λ z. let n : length bs ≡ 0 = ap length z in omega arith) (least (b.caller + 1) total bs o.1 up))

  -- as many books as caller numbers: each number has one
  pub all_books : (lo total : ℕ) (bs : List (Book D)) → IsAscending bs → Each (λ b. (lo ≤ b.caller) × (b.caller < total)) bs → length bs + lo ≡ total → (j : ℕ) → lo ≤ j → j < total → has j (callers_of bs) ≡ true
  all_books lo total [] o e n j a b = absurd (omega arith)
  all_books lo total (b ∷ bs) o e n j low high = let a = e.0.0 in let c = e.0.1 in let up = each_both _ _ (λ x. (b.caller + 1 ≤ x.caller) × (x.caller < total)) (λ x l y. let z = y.1 in (omega arith, omega arith)) bs o.0 e.1 in
      let tight : b.caller ≡ lo = ⊎_elim (λ l. omega arith) (λ z. let s : length bs ≡ 0 = ap length z in omega arith) (least (b.caller + 1) total bs o.1 up) in
      dite (ℕ_discrete b.caller j) (λ is. has_first j b.caller (callers_of bs) is) (λ no. has_later j b.caller (callers_of bs) (all_books (b.caller + 1) total bs o.1 up (omega arith) j (omega arith) high))

  -- the books of a view are no more than there are callers
  pub books_few : (total : ℕ) (bs : List (Book D)) → IsAscending bs → Each (λ b. b.caller < total) bs → length bs ≤ total
  books_few total bs o e = ⊎_elim (λ l. omega arith) (λ z. let n : length bs ≡ 0 = ap length z in omega arith) (least 0 total bs o (each_map _ _ (λ b l. (omega arith, l)) bs e))
