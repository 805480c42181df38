-- What an open attempt sees.
use Rattle.std.proofs.Common.{◌≡◌, ℕ, suc, ◌<◌, ◌≤◌, List, [], ◌∷◌, length, sym, subst, arith}
use Rattle.cell_table.specs.Sorted.{Each}
use Rattle.cell_table.specs.Steps.{Observes}
use Rattle.attempt_lists.specs.Cells.{Entries, cell_at, word_of}
use Rattle.serial_terms.specs.declared.call.Done.{Done}
use Rattle.serial_terms.specs.declared.sight.SightEnd.TheVariants.{Aborted}
use Rattle.serial_terms.specs.Renaming.{NamedDone}
use Rattle.serial_terms.specs.Serial.{State}
use Rattle.store_meaning.specs.declared.meaning.StoreMeaning.{StoreMeaning}
use Rattle.tx_core.specs.Tx.{Attempt}
use Rattle.tx_store.specs.Attempts.{HasSeen}
use Rattle.tx_store.specs.Known.{KnowsHistory}
use Rattle.tx_store.specs.Sees.{SeesHistory}

each_by_index : (P : ℕ → ℕ → Type 0) (os : Entries) → ((i : ℕ) → i < length os → P (cell_at os i) (word_of os i)) → Each (λ o. P o.0 o.1) os
each_by_index P [] all = tt
each_by_index P (o ∷ os) all = (all 0 (omega arith), each_by_index P os (λ i low. all (suc i) (omega arith)))

module _ {P K : Type 0} (lawful_state : P → State → Type 0) (allowed : P → List Done → Type 0) where
  pub sees : (m : StoreMeaning P K) (a : Attempt (StoreMeaning P K) NamedDone) → KnowsHistory lawful_state allowed m a.pass → a.version ≤ a.pass.view.known → a.pass.view.opening ≡ a.table.opening
      → ((i : ℕ) → i < length a.observations → cell_at a.observations i < length a.table.opening)
      → ((i : ℕ) → i < length a.observations → Observes a.pass.view (cell_at a.observations i) (word_of a.observations i) a.version)
      → HasSeen m.plan a.observations a.notes → SeesHistory lawful_state allowed m a
  sees m a knows known opening there stands seen =
      let is = knows.2.sights 0 (record { caller = 0; after = 0; place = a.version; end = Aborted; dones = a.notes }) (record {
        observations = a.observations;
        known = known;
        stand = each_by_index (λ c x. (c < length a.pass.view.opening) × Observes a.pass.view c x a.version) a.observations (λ i low. (subst (λ (o : List ℕ). cell_at a.observations i < length o) (sym opening) (there i low), stands i low));
        run = λ cells lawful hold. let ran = seen cells lawful.0 hold in (ran.0, ran.1, tt);
      }) in
      record { history = knows.0; end = knows.1; one = knows.2; state = is.state; there = is.there; now = is.run.0; run = is.run.1 }
