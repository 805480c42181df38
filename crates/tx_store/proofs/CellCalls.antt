-- Plain cells of a store, as an attempt reads and writes them.
use Rattle.std.proofs.Common.{◌≡◌, ℕ, ◌<◌, ltb, refl, ap, sym, ◌∙◌, arith}
use Rattle.std.specs.Prelude.{Option, Some, None, Result, Ok}
use Rattle.std.proofs.lemmas.Bool.{cond-true, lt-ltb}
use Rattle.attempt_lists.specs.Cells.{Entries, word_at}
use Rattle.attempt_lists.specs.Parts.{marked_of}
use Rattle.serial_terms.specs.Renaming.{NamedDone}
use Rattle.tx_store.specs.Calls.{Goes}
use Rattle.tx_store.proofs.Telling.{waits_same}
use Rattle.store_layout.specs.Shapes.{Shape, the_cell, first_of, size_of, IsCellOf}
use Rattle.tx_core.specs.declared.stop.Stop.{Stop}
use Rattle.tx_core.specs.Calls.{Stays}
use Rattle.tx_core.specs.Tx.{Attempt, Observed}

pub inside : (s : Shape) (k at : ℕ) → k < s.cells → at ≡ first_of s (the_cell k) → (c : ℕ) → c ≡ at → IsCellOf s (the_cell k) c
inside s k at there is c own =
    let one : size_of s (the_cell k) ≡ 1 = cond-true {A = ℕ} (ltb k s.cells) 1 0 (lt-ltb k s.cells there) in
    (omega arith, omega arith)

abbrev answer : ℕ → Result ℕ Stop
answer x = Ok x

module _ {M D : Type 0} (old new : Attempt M D) where
  -- an answered read leaves the attempt but for what it observed
  abbrev observed : Attempt M D → Attempt M D
  observed a = record old { pass = a.pass; observations = a.observations; versions = a.versions }

  stays_observed : new ≡ observed new → Stays old new × (new.writes ≡ old.writes)
  stays_observed is = (
    record {
      table = ap (λ (a : Attempt M D). a.table) is;
      version = ap (λ (a : Attempt M D). a.version) is;
      notes = ap (λ (a : Attempt M D). a.notes) is;
      additions = ap (λ (a : Attempt M D). a.additions) is;
      spare = ap (λ (a : Attempt M D). a.spare) is;
      committing = ap (λ (a : Attempt M D). a.committing) is;
      mark = ap (λ (a : Attempt M D). a.mark) is;
    },
    ap (λ (a : Attempt M D). a.writes) is,
  )

  same : new ≡ old → new ≡ observed new
  same is = is ∙ sym (ap observed is)

  pub read_stays : (cell x : ℕ) → ((y : ℕ) → word_at old.writes cell ≡ Some y → (answer x ≡ answer y) × (new ≡ old))
      → ((y : ℕ) → word_at old.writes cell ≡ None → word_at old.observations cell ≡ Some y → (answer x ≡ answer y) × (new ≡ old))
      → (word_at old.writes cell ≡ None → word_at old.observations cell ≡ None → Observed old new cell x) → Stays old new × (new.writes ≡ old.writes)
  read_stays cell x own seen observes = written (word_at old.writes cell) refl
    where
      unwritten : word_at old.writes cell ≡ None → (o : Option ℕ) → word_at old.observations cell ≡ o → Stays old new × (new.writes ≡ old.writes)
      unwritten none (Some y) e = stays_observed (same (seen y none e).1)
      unwritten none None e = let o = observes none e in stays_observed (o.is ∙ sym (ap observed o.is))

      written : (o : Option ℕ) → word_at old.writes cell ≡ o → Stays old new × (new.writes ≡ old.writes)
      written (Some y) e = stays_observed (same (own y e).1)
      written None e = unwritten e (word_at old.observations cell) refl

pub goes_written : {M : Type 0} (s : Shape) (old new : Attempt M NamedDone) (ws : Entries) → new ≡ record old { pass = new.pass; writes = ws } → Goes s old new
goes_written {M = M} s old new ws is = record {
  table = ap (λ (a : Attempt M NamedDone). a.table) is;
  committing = ap (λ (a : Attempt M NamedDone). a.committing) is;
  notes = ap (λ (a : Attempt M NamedDone). a.notes) is;
  child = record { mark = ap (λ (a : Attempt M NamedDone). a.mark) is; marked = λ p. ap (λ (a : Attempt M NamedDone). marked_of a.additions p) is };
  waits = waits_same s old new (ap (λ (a : Attempt M NamedDone). a.additions) is);
}
