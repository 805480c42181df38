-- The stop that a lock word tells of has its cause.
use Rattle.std.proofs.Common.{◌≡◌, ℕ, ◌+◌, ◌*◌, ◌<◌, Bool, true, false, List, inl, inr, refl, sym, subst, arith}
use Rattle.std.proofs.lemmas.Bool.{cases_Bool}
use Rattle.cell_table.specs.Cells.{has}
use Rattle.cell_table.specs.Rule.{cells_of, callers_of}
use Rattle.cell_table.specs.declared.view.View.{View}
use Rattle.cell_table.specs.declared.view.Event.{Event}
use Rattle.cell_table.specs.Steps.{IsWord}
use Rattle.tx_core.specs.declared.stop.Stop.{Stop}
use Rattle.tx_core.specs.declared.stop.Stop.TheVariants.{Held, Newer}
use Rattle.tx_core.specs.Causes.{FoundSince, FoundTwice, IsCausedAt}
use Rattle.tx_core.proofs.Found.{since_start}

module _ {M D : Type 0} (v : View M D) (version n cell word : ℕ) (trail : List Event) (stop : Stop) where
  -- the word was found at a cell that the view doesn't hold, and is that of an owner
  held_by : IsWord v cell word → has cell (cells_of v.held) ≡ false → FoundSince n trail cell word → ((k : ℕ) → word ≡ 2 * k + 1 → stop ≡ Held cell k) → ((u : ℕ) → word ≡ 2 * u → ⊥) → IsCausedAt cell (callers_of v.books) version n trail stop × FoundTwice n trail stop
  held_by (inl free) unheld found holds owned = absurd (owned free.0 free.1)
  held_by (inr taken) unheld found holds owned =
      let P : Stop → Type 0 = λ s. IsCausedAt cell (callers_of v.books) version n trail s × FoundTwice n trail s in
      let outside : has taken.0 (callers_of v.books) ≡ false = elim (cases_Bool (has taken.0 (callers_of v.books))) [
        | inl own ↦ absurd (true_is_false ((taken.4 own).1) unheld)
        | inr other ↦ other
      ] in
      subst P (sym (holds taken.0 taken.1)) (((outside, subst (λ w. FoundSince n trail cell w) taken.1 found), refl), tt)
    where
      true_is_false : {b : Bool} → b ≡ true → b ≡ false → ⊥
      true_is_false e f = cc

  -- the word was found at a cell that the view doesn't hold, and a version in it is above the attempt's
  pub stopped_by : IsWord v cell word → has cell (cells_of v.held) ≡ false → FoundSince n trail cell word → ((k : ℕ) → word ≡ 2 * k + 1 → stop ≡ Held cell k) → ((u : ℕ) → word ≡ 2 * u → stop ≡ Newer cell u) → ((u : ℕ) → word ≡ 2 * u → version < u) → IsCausedAt cell (callers_of v.books) version n trail stop
  stopped_by (inl free) unheld found holds newer above =
      let P : Stop → Type 0 = λ s. IsCausedAt cell (callers_of v.books) version n trail s in
      subst P (sym (newer free.0 free.1)) ((inl (above free.0 free.1), subst (λ w. FoundSince n trail cell w) free.1 found), refl)
  stopped_by (inr taken) unheld found holds newer above = (held_by (inr taken) unheld found holds (λ u is. absurd (omega (arith, is, taken.1)))).0

  -- the word was found at a cell that the view doesn't hold, and a lower version of it was found before
  pub stopped_twice : IsWord v cell word → has cell (cells_of v.held) ≡ false → FoundSince n trail cell word → ((k : ℕ) → word ≡ 2 * k + 1 → stop ≡ Held cell k) → ((u : ℕ) → word ≡ 2 * u → stop ≡ Newer cell u) → ((u : ℕ) → word ≡ 2 * u → (w : ℕ) × (w < u) × FoundSince n trail cell (2 * w)) → IsCausedAt cell (callers_of v.books) version n trail stop × FoundTwice n trail stop
  stopped_twice (inl free) unheld found holds newer lower =
      let P : Stop → Type 0 = λ s. IsCausedAt cell (callers_of v.books) version n trail s × FoundTwice n trail s in
      let low = lower free.0 free.1 in
      subst P (sym (newer free.0 free.1)) (((inr (low.0, low.1, since_start _ _ _ _ low.2), subst (λ w. FoundSince n trail cell w) free.1 found), refl), low)
  stopped_twice (inr taken) unheld found holds newer lower = held_by (inr taken) unheld found holds (λ u is. absurd (omega (arith, is, taken.1)))
