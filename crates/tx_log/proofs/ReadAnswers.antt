-- The answers of a read of a log.
use Rattle.std.proofs.Common.{◌≡◌, ℕ, ◌+◌, ◌-◌, ◌<◌, ◌≤◌, ◌⊎◌, inl, inr, Some, refl, sym, ap, ◌∙◌, arith}
use Rattle.std.specs.Prelude.{Option}
use Rattle.std.specs.List.{slice_get}
use Rattle.cell_table.specs.Cells.{after}
use Rattle.tx_core.specs.Tx.{Attempt}
use Rattle.tx_core.specs.Parts.{Shows}
use Rattle.tx_log.specs.declared.part.LogPart.{LogPart}
use Rattle.tx_log.specs.Log.{IsLog, MakesOf, HasAt, length_in, word_in}
use Rattle.tx_core.specs.Calls.{known, waiting}
use Rattle.tx_log.proofs.Replies.{entry_there, entry_waits}
use Rattle.tx_log.proofs.OneRead.{length_shown, word_shown}

module _ {M D : Type 0} (log : LogPart) (i : ℕ) where
  -- what the word of an entry says: it is known where there is such an entry, and else 0
  abbrev pub IsEntryWord : Attempt M D → ℕ → Type 0
  IsEntryWord a w = (i < log.capacity → known a (log.end + 1 + i) ≡ Some w) × (log.capacity ≤ i → w ≡ 0)

  -- the two lists of writes and of additions are the same
  abbrev pub KeepsLists : Attempt M D → Attempt M D → Type 0
  KeepsLists a b = (b.writes ≡ a.writes) × (b.additions ≡ a.additions)

  abbrev pub AllShown : Attempt M D → Type 0
  AllShown a = (c x : ℕ) → known a c ≡ Some x → Shows a c x

  -- the entry is there
  pub read_entry : (a b : Attempt M D) (w : ℕ) → KeepsLists a b → IsEntryWord b w → 0 < w → AllShown b → MakesOf log a b (HasAt i (Some (w - 1)))
  read_entry a b w keeps word full shown cells all is =
      let there : IsLog log (after cells b.writes) = rw keeps.0 is in
      let lt : i < log.capacity = elim (below i log.capacity) [ inl low ↦ low | inr high ↦ absurd (omega (arith, word.1 high)) ] in
      let at : word_in log (after cells b.writes) i ≡ w = word_shown log b i w cells lt (shown _ w (word.0 lt)) all there in
      let found = entry_there log (after cells b.writes) (waiting log.part b) i there lt (omega (arith, at)) in
      (there, (sym (rw (← keeps.0, ← keeps.1) (found ∙ ap (λ v. Some (v - 1)) at)), rw (keeps.0, keeps.1) refl))
    where
      below : (i n : ℕ) → (i < n) ⊎ (n ≤ i)
      below i n = grind arith

  -- it isn't
  pub read_behind : (a b : Attempt M D) (w n : ℕ) (x : Option ℕ) → KeepsLists a b → IsEntryWord b w → w ≡ 0 → known b log.end ≡ Some n → AllShown b → (n ≤ i → x ≡ slice_get (waiting log.part b) (i - n)) → MakesOf log a b (HasAt i x)
  read_behind a b w n x keeps word none end shown answer cells all is =
      let there : IsLog log (after cells b.writes) = rw keeps.0 is in
      let long : length_in log (after cells b.writes) ≡ n = length_shown log b n cells (shown log.end n end) all there in
      let empty : i < log.capacity → word_in log (after cells b.writes) i ≡ 0 = λ lt. word_shown log b i w cells lt (shown _ w (word.0 lt)) all there ∙ none in
      let waits = entry_waits log (after cells b.writes) (waiting log.part b) i there empty in
      (there, (rw (← keeps.0, ← keeps.1) (answer (omega (arith, waits.0, long)) ∙ ap (λ v. slice_get (waiting log.part b) (i - v)) (sym long) ∙ sym waits.1), rw (keeps.0, keeps.1) refl))
