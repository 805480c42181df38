-- What one call at one cell leaves of an attempt: a read, a lock, a lock in the commit, and a write under it.
use Rattle.std.proofs.Common.{◌≡◌, ℕ, ◌+◌, ◌*◌, ◌≤◌, Bool, true, false, [], ◌∷◌, ◌++◌, ◌-◌, ◌⊎◌, inl, inr, length, Some, None, refl, sym, ap, subst, ◌∙◌, arith}
use Rattle.std.specs.Prelude.{Option, IsSome}
use Rattle.std.specs.Option.{option_or}
use Rattle.cell_table.specs.Cells.{has}
use Rattle.cell_table.specs.Rule.{cells_of}
use mathlib.Core.Logic.{dite}
use native.Mathlib.Decide.{ℕ_discrete}
use Rattle.cell_table.specs.Pass.{PassState, IsHeld, trail_of}
use Rattle.attempt_lists.specs.Cells.{Entries, word_at, put}
use Rattle.tx_core.specs.Calls.{TouchesOnly, UsesAtMost, HoldsWrites, KeepsHeld, Locks}
use Rattle.tx_core.specs.Causes.{GrewBy}
use Rattle.tx_core.specs.Facts.{grew_none, grew_more, grew_trans, held_kept, length_insert}
use Rattle.tx_core.specs.Sequences.{LocksUpTo, LocksAnd}
use Rattle.tx_core.specs.Tx.{Attempt, Observed, ObservedLate}
use Rattle.tx_core.specs.Words.{put_other}

known_or_not : (w o : Option ℕ) → ((w ≡ None) × (o ≡ None)) ⊎ IsSome (option_or w o)
known_or_not (Some x) o = inr refl
known_or_not None (Some x) = inr refl
known_or_not None None = inl (refl, refl)

module _ {M D : Type 0} where
  -- nothing is new, or one observation is
  abbrev pub Reading : Attempt M D → Attempt M D → ℕ → ℕ → Type 0
  Reading a b cell x = (b ≡ a) ⊎ Observed a b cell x

  pub reading_is : {R : ℕ → Type 0} (a b : Attempt M D) (cell x : ℕ)
      → ((y : ℕ) → word_at a.writes cell ≡ Some y → R y × (b ≡ a))
      → ((y : ℕ) → word_at a.writes cell ≡ None → word_at a.observations cell ≡ Some y → R y × (b ≡ a))
      → (word_at a.writes cell ≡ None → word_at a.observations cell ≡ None → Observed a b cell x)
      → Reading a b cell x
  reading_is {R} a b cell x own seen new = by (word_at a.writes cell) (word_at a.observations cell) refl refl
    where
      by : (w o : Option ℕ) → word_at a.writes cell ≡ w → word_at a.observations cell ≡ o → Reading a b cell x
      by (Some y) o is seen_is = inl (own y is).1
      by None (Some y) is seen_is = inl (seen y is seen_is).1
      by None None is seen_is = inr (new is seen_is)

  pub reading_keeps : (a b : Attempt M D) (cell x : ℕ) → Reading a b cell x → (b.writes ≡ a.writes) × (b.additions ≡ a.additions)
  reading_keeps a b cell x (inl same) = (ap (λ (t : Attempt M D). t.writes) same, ap (λ (t : Attempt M D). t.additions) same)
  reading_keeps a b cell x (inr more) = (ap (λ (t : Attempt M D). t.writes) more.is, ap (λ (t : Attempt M D). t.additions) more.is)

  -- the lock of a cell was taken, and no more than its observation is new
  pub holding_keeps : (a b : Attempt M D) (cell : ℕ) {P Q : Type 0} → (b ≡ record a { pass = b.pass }) ⊎ (P × Q × (x : ℕ) × Observed a b cell x) → (b.writes ≡ a.writes) × (b.additions ≡ a.additions)
  holding_keeps a b cell (inl same) = (ap (λ (t : Attempt M D). t.writes) same, ap (λ (t : Attempt M D). t.additions) same)
  holding_keeps a b cell (inr more) = (ap (λ (t : Attempt M D). t.writes) more.3.is, ap (λ (t : Attempt M D). t.additions) more.3.is)

-- ---- locks of the commit

module _ {M D : Type 0} where
  -- a call of the commit that took the lock of a cell: what was observed is as before, or one observation of the cell more
  pub record IsLateHold (a b : Attempt M D) (cell : ℕ) : Type 0 where
    pub seen : (b.observations ≡ a.observations) ⊎ ((x : ℕ) × (b.observations ≡ a.observations ++ (cell, x) ∷ []))
    pub used : UsesAtMost 1 0 a.spare b.spare
    pub is : b ≡ record a { pass = b.pass; observations = b.observations; versions = b.versions; spare = b.spare; committing = true }

  -- the attempt a with what a lock may change taken from t
  abbrev pub locked_as : Attempt M D → Attempt M D → Attempt M D
  locked_as a t = record a { pass = t.pass; observations = t.observations; versions = t.versions; spare = t.spare; committing = true }

  pub late_hold_is : (a b : Attempt M D) (cell x : ℕ)
      → (has cell (cells_of a.pass.view.held) ≡ true → b ≡ record a { committing = true })
      → (has cell (cells_of a.pass.view.held) ≡ false → IsSome (option_or (word_at a.writes cell) (word_at a.observations cell)) → b ≡ record a { pass = b.pass; spare = record a.spare { locks = a.spare.locks - 1 }; committing = true })
      → (has cell (cells_of a.pass.view.held) ≡ false → word_at a.writes cell ≡ None → word_at a.observations cell ≡ None → ObservedLate a b cell x)
      → IsLateHold a b cell
  late_hold_is a b cell x already known new = by (has cell (cells_of a.pass.view.held)) refl
    where
      by : (h : Bool) → has cell (cells_of a.pass.view.held) ≡ h → IsLateHold a b cell
      by true is = let e = already is in let sp : b.spare ≡ a.spare = ap (λ (t : Attempt M D). t.spare) e in record { used = rw sp (record { locks = omega arith; observations = omega arith; writes = omega arith }); seen = inl (ap (λ (t : Attempt M D). t.observations) e); is = e ∙ sym (ap (locked_as a) e) }
      by false is = elim (known_or_not (word_at a.writes cell) (word_at a.observations cell)) [
        | inl none ↦ let o = new is none.0 none.1 in let sp : b.spare ≡ record a.spare { locks = a.spare.locks - 1; observations = a.spare.observations - 1 } = ap (λ (t : Attempt M D). t.spare) o.is in record { used = rw sp (record { locks = omega arith; observations = omega arith; writes = omega arith }); seen = inr (x, ap (λ (t : Attempt M D). t.observations) o.is); is = o.is ∙ sym (ap (locked_as a) o.is) }
        | inr some ↦ let e = known is some in let sp : b.spare ≡ record a.spare { locks = a.spare.locks - 1 } = ap (λ (t : Attempt M D). t.spare) e in record { used = rw sp (record { locks = omega arith; observations = omega arith; writes = omega arith }); seen = inl (ap (λ (t : Attempt M D). t.observations) e); is = e ∙ sym (ap (locked_as a) e) }
      ]

  pub late_writes : (a b : Attempt M D) (cell : ℕ) → IsLateHold a b cell → (b.writes ≡ a.writes) × (b.additions ≡ a.additions)
  late_writes a b cell late = (ap (λ (t : Attempt M D). t.writes) late.is, ap (λ (t : Attempt M D). t.additions) late.is)

  pub holds_late : (P : ℕ → Type 0) (a b : Attempt M D) (cell : ℕ) → IsLateHold a b cell → TouchesOnly P a b → HoldsWrites a → HoldsWrites b
  holds_late P a b cell late touches all c some = held_kept P a b touches c (all c (rw (ap (λ (t : Attempt M D). word_at t.writes c) late.is) at some))

  -- one more cell that is held is written
  pub holds_put : (b d : Attempt M D) (cell x : ℕ) → HoldsWrites b → IsHeld b.pass cell → d.writes ≡ put b.writes cell x → d.pass ≡ b.pass → HoldsWrites d
  holds_put b d cell x all held ws ps c some = rw ps (dite (ℕ_discrete c cell) (λ same. rw same held) (λ apart. all c (rw (ap (λ (w : Entries). word_at w c) ws ∙ put_other b.writes cell x c (λ same. apart (sym same))) at some)))

  -- then all that was observed was validated
  pub locked_and_checked : (a b d : Attempt M D) (cell : ℕ) → IsLateHold a b cell → d ≡ record b { pass = d.pass; committing = true } → d ≡ locked_as a d
  locked_and_checked a b d cell late checked = let e = checked ∙ ap (λ (t : Attempt M D). record t { pass = d.pass; committing = true }) late.is in e ∙ sym (ap (locked_as a) e)

-- ---- how many cells are held

module _ {M D : Type 0} where
  pub locks_none : (p q : PassState M D) → q ≡ p → LocksUpTo 0 p q
  locks_none p q is = subst (LocksUpTo 0 p) (sym is) (record { least = omega arith; most = omega arith; steps = grew_more 0 _ _ _ (omega arith) (grew_none (trail_of p)) })

  pub locks_trans : (n m : ℕ) (p q r : PassState M D) → LocksUpTo n p q → LocksUpTo m q r → LocksUpTo (n + m) p r
  locks_trans n m p q r a b = record {
    least = omega (arith, a.least, b.least);
    most = omega (arith, a.most, b.most);
    steps = grew_more (3 * (length q.view.held - length p.view.held) + 3 * (length r.view.held - length q.view.held)) _ _ _ (omega (arith, a.least, b.least)) (grew_trans _ _ _ _ _ a.steps b.steps);
  }

  pub locks_wider : (n m : ℕ) (p q : PassState M D) → n ≤ m → LocksUpTo n p q → LocksUpTo m p q
  locks_wider n m p q le a = record { least = a.least; most = omega (arith, le, a.most); steps = a.steps }

  pub locks_then : (n m : ℕ) (p q r : PassState M D) → LocksUpTo n p q → LocksAnd m q r → LocksAnd m p r
  locks_then n m p q r a b = record {
    least = omega (arith, a.least, b.least);
    steps = grew_more (3 * (length q.view.held - length p.view.held) + (3 * (length r.view.held - length q.view.held) + m)) _ _ _ (omega (arith, a.least, b.least)) (grew_trans _ _ _ _ _ a.steps b.steps);
  }

  -- steps that lock nothing
  pub locks_looked : (n m : ℕ) (p q : PassState M D) → n ≤ m → q.view.held ≡ p.view.held → GrewBy n (trail_of p) (trail_of q) → LocksAnd m p q
  locks_looked n m p q le held grew = record { least = omega (arith, ap length held); steps = grew_more n _ _ _ (omega (arith, le)) grew }

  -- a cell that isn't held later wasn't before
  pub free_before : (a b : Attempt M D) → KeepsHeld a b → (c : ℕ) → has c (cells_of b.pass.view.held) ≡ false → has c (cells_of a.pass.view.held) ≡ false
  free_before a b kept c free = by (has c (cells_of a.pass.view.held)) refl
    where
      by : (h : Bool) → has c (cells_of a.pass.view.held) ≡ h → h ≡ false
      by true is = let there = kept c is in cc
      by false is = refl

  -- nor is one that is held by no means
  pub free_cell : (a : Attempt M D) (c : ℕ) → (IsHeld a.pass c → ⊥) → has c (cells_of a.pass.view.held) ≡ false
  free_cell a c never = by (has c (cells_of a.pass.view.held)) refl
    where
      by : (h : Bool) → has c (cells_of a.pass.view.held) ≡ h → h ≡ false
      by true is = absurd (never is)
      by false is = refl

  -- a lock of the commit
  pub locks_late : (a b : Attempt M D) (cell : ℕ)
      → (has cell (cells_of a.pass.view.held) ≡ true → b ≡ record a { committing = true })
      → (has cell (cells_of a.pass.view.held) ≡ false → (u : ℕ) × Locks a b cell u)
      → GrewBy 3 (trail_of a.pass) (trail_of b.pass) → LocksUpTo 1 a.pass b.pass
  locks_late a b cell already takes grew = by (has cell (cells_of a.pass.view.held)) refl
    where
      by : (h : Bool) → has cell (cells_of a.pass.view.held) ≡ h → LocksUpTo 1 a.pass b.pass
      by true is = locks_wider 0 1 a.pass b.pass (omega arith) (locks_none a.pass b.pass (ap (λ (s : Attempt M D). s.pass) (already is)))
      by false is =
          let took = takes is in
          let more : length b.pass.view.held ≡ length a.pass.view.held + 1 = ap length took.1 ∙ length_insert (cell, took.0) a.pass.view.held in
          record { least = omega (arith, more); most = omega (arith, more); steps = grew_more 3 _ _ _ (omega (arith, more)) grew }
