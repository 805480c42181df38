-- One version of a cell is the newest up to a place.
use Rattle.std.proofs.Common.{◌≡◌, ℕ, zero, suc, ◌<◌, ◌≤◌, ◌≢◌, Bool, true, false, cond, List, ◌∷◌, [], inl, inr, sym, subst, ◌∙◌, arith}
use Rattle.std.proofs.lemmas.Bool.{cases_lt}
use Rattle.cell_table.specs.Sorted.{Each, Among}
use Rattle.cell_table.specs.History.{Outcome, touches, version_at}
use Rattle.cell_table.specs.declared.view.View.{View}
use Rattle.cell_table.specs.Legal.{LegalNow}
use Rattle.cell_table.specs.Steps.{Validated}

pub each_at : {A : Type 0} (P : A → Type 0) (x : A) (xs : List A) → Each P xs → Among x xs → P x
each_at P x [] e h = elim h [ ]
each_at P x (y ∷ ys) e (inl is) = subst P is e.0
each_at P x (y ∷ ys) e (inr h) = each_at P x ys e.1 h

-- the newest version up to a place stays the newest up to an earlier place that is not below it
version_at_earlier : {D : Type 0} (h : ℕ → Outcome D) (c u q p : ℕ) → version_at h c p ≡ u → u ≤ q → q ≤ p → version_at h c q ≡ u
version_at_earlier h c u q zero is low le = subst (λ z. version_at h c z ≡ u) {x = zero} (omega arith) is
version_at_earlier h c u q (suc p) is low le = elim (cases_lt q (suc p)) [
  | inl below ↦ version_at_earlier h c u q p (earlier below (touches (h (suc p)) c) is) low (omega arith)
  | inr at ↦ subst (λ z. version_at h c z ≡ u) {x = suc p} (omega arith) is
]
  where
    earlier : q < suc p → (b : Bool) → cond b (suc p) (version_at h c p) ≡ u → version_at h c p ≡ u
    earlier below true e = absurd (omega arith)
    earlier below false e = e

module _ {M D : Type 0} (lawful : M → List ℕ → Type 0) (explains : M → List (ℕ × ℕ) → List (ℕ × ℕ) → List D → Type 0) where
  -- a version that is the newest up to a place is above a place up to which another one is, where that isn't above
  pub newer_than : (v : View M D) → LegalNow lawful explains v → (c u q w p : ℕ) → Validated v c u q → Validated v c w p → u ≢ w → q ≤ p → q < w
  newer_than v legal c u q w p a b differ le = elim (cases_lt q w) [
    | inl above ↦ above
    | inr low ↦
        let at_q = (each_at _ _ _ legal.validations a).1.0 in
        let at_p = (each_at _ _ _ legal.validations b).1.0 in
        absurd (differ (sym at_q ∙ version_at_earlier legal.history c w q p at_p low le))
  ]
