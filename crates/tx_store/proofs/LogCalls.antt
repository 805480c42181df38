-- Logs of a store, whose parts are told by a plan.
use Rattle.std.proofs.Common.{◌≡◌, ℕ, ◌+◌, ◌<◌, ◌≤◌, ltb, List, [], ◌∷◌, ◌++◌, length, get_or, ap, inl, inr, arith}
use Rattle.std.specs.List.{sum_by}
use Rattle.std.proofs.lemmas.Bool.{cond-true, lt-ltb}
use Rattle.std.proofs.lemmas.List.Sums.{sum_by-cons}
use Rattle.attempt_lists.specs.Parts.{Waiting, waiting_of, marked_of, ChangesOnly}
use Rattle.serial_terms.specs.Ranges.{IsKept}
use Rattle.serial_terms.specs.Renaming.{NamedDone}
use Rattle.store_layout.specs.Laws.{PartsAreApart}
use Rattle.store_layout.specs.Shapes.{Shape, the_log, with_end, cells_of, most_cells, first_of, size_of, IsCellOf}
use Rattle.store_meaning.specs.Follows.{part_of_log}
use Rattle.store_parts.specs.Parts.{log_part, progress, WaitsAlike}
use Rattle.tx_core.specs.Calls.{waiting}
use Rattle.tx_core.specs.Tx.{Attempt}
use Rattle.tx_core.specs.declared.spare.Spare.{Spare}
use Rattle.tx_core.specs.declared.stop.TxState.{TxState}
use Rattle.tx_log.specs.Log.{IsReadOf}
use Rattle.tx_store.specs.Attempts.{AreWaiting}
use Rattle.tx_store.specs.Calls.{Goes}
use Rattle.tx_store.proofs.Telling.{waits_same, waits_added}

ends_count : (ns : List ℕ) → length ns ≤ sum_by with_end ns
ends_count [] = omega arith
ends_count (n ∷ ns) = omega (arith, sum_by-cons with_end n ns, ends_count ns)

module _ (s : Shape) (l : ℕ) (there : l < length s.logs) where
  sized : size_of s (the_log l) ≡ get_or s.logs l 0 + 1
  sized = cond-true {A = ℕ} (ltb l (length s.logs)) (with_end (get_or s.logs l 0)) 0 (lt-ltb l (length s.logs) there)

  pub few : cells_of s ≤ most_cells → length s.queues + l < most_cells
  few small = omega (arith, ends_count s.queues, ends_count s.logs)

  pub reaches : PartsAreApart → first_of s (the_log l) + get_or s.logs l 0 < cells_of s
  reaches apart = apart.there s (the_log l) (first_of s (the_log l) + get_or s.logs l 0) (omega arith, omega (arith, sized))

  pub end_inside : (c : ℕ) → c ≡ first_of s (the_log l) → IsCellOf s (the_log l) c
  end_inside c is = (omega arith, omega (arith, sized))

  pub read_inside : (i c : ℕ) → IsReadOf (log_part s l) i c → IsCellOf s (the_log l) c
  read_inside i c (inl is) = end_inside c is
  read_inside i c (inr entry) = (omega (arith, entry.1), omega (arith, entry.0, entry.1, sized))

module _ {M : Type 0} (s : Shape) (old new : Attempt M NamedDone) where
  pub goes_looked : new ≡ record old { pass = new.pass; state = new.state; observations = new.observations; versions = new.versions } → Goes s old new
  goes_looked is = record {
    table = ap (λ (a : Attempt M NamedDone). a.table) is;
    committing = ap (λ (a : Attempt M NamedDone). a.committing) is;
    notes = ap (λ (a : Attempt M NamedDone). a.notes) is;
    child = record { mark = ap (λ (a : Attempt M NamedDone). a.mark) is; marked = λ p. ap (λ (a : Attempt M NamedDone). marked_of a.additions p) is };
    waits = waits_same s old new (ap (λ (a : Attempt M NamedDone). a.additions) is);
  }

  pub waits_looked : new ≡ record old { pass = new.pass; state = new.state; observations = new.observations; versions = new.versions } → WaitsAlike (progress old) (progress new)
  waits_looked is p = ap (λ (a : Attempt M NamedDone). waiting_of a.additions p) is

  pub goes_added : (ws : List Waiting) (spare : Spare) → new ≡ record old { pass = new.pass; additions = ws; spare = spare } → ((p : ℕ) → marked_of new.additions p ≡ marked_of old.additions p) → (AreWaiting s (λ p. waiting p old) → AreWaiting s (λ p. waiting p new)) → Goes s old new
  goes_added ws spare is marked waits = record {
    table = ap (λ (a : Attempt M NamedDone). a.table) is;
    committing = ap (λ (a : Attempt M NamedDone). a.committing) is;
    notes = ap (λ (a : Attempt M NamedDone). a.notes) is;
    child = record { mark = ap (λ (a : Attempt M NamedDone). a.mark) is; marked = marked };
    waits = waits;
  }

  pub goes_halted : (state : TxState) → new ≡ record old { pass = new.pass; state = state } → Goes s old new
  goes_halted state is = record {
    table = ap (λ (a : Attempt M NamedDone). a.table) is;
    committing = ap (λ (a : Attempt M NamedDone). a.committing) is;
    notes = ap (λ (a : Attempt M NamedDone). a.notes) is;
    child = record { mark = ap (λ (a : Attempt M NamedDone). a.mark) is; marked = λ p. ap (λ (a : Attempt M NamedDone). marked_of a.additions p) is };
    waits = waits_same s old new (ap (λ (a : Attempt M NamedDone). a.additions) is);
  }

  pub goes_placed : new ≡ record old { pass = new.pass; state = new.state; observations = new.observations; versions = new.versions; additions = new.additions; spare = new.spare } → ((p : ℕ) → marked_of new.additions p ≡ marked_of old.additions p) → (AreWaiting s (λ p. waiting p old) → AreWaiting s (λ p. waiting p new)) → Goes s old new
  goes_placed is marked waits = record {
    table = ap (λ (a : Attempt M NamedDone). a.table) is;
    committing = ap (λ (a : Attempt M NamedDone). a.committing) is;
    notes = ap (λ (a : Attempt M NamedDone). a.notes) is;
    child = record { mark = ap (λ (a : Attempt M NamedDone). a.mark) is; marked = marked };
    waits = waits;
  }

  -- one value more waits for a log
  pub waits_in_log : (l value part : ℕ) → l < length s.logs → IsKept value → part ≡ part_of_log s l → ChangesOnly old.additions new.additions part (waiting part old ++ value ∷ [])
      → AreWaiting s (λ p. waiting p old) → AreWaiting s (λ p. waiting p new)
  waits_in_log l value part there kept is added = waits_added s old new part value (omega (arith, is, there)) kept added
