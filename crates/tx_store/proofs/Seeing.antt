-- What a pass vouches for when an attempt comes back without a record.
use Rattle.std.proofs.Common.{◌≡◌, ℕ, ◌<◌, ◌≤◌, List, length, refl, ap, sym, subst, arith}
use Rattle.cell_table.specs.Steps.{Grows, Observes}
use Rattle.cell_table.specs.Pass.{TableState, PassState, IsPassOf}
use Rattle.attempt_lists.specs.Cells.{word_of, cell_at}
use Rattle.serial_terms.specs.declared.sight.SightEnd.{SightEnd}
use Rattle.serial_terms.specs.declared.sight.SightEnd.TheVariants as sights
use Rattle.serial_terms.specs.Renaming.{NamedDone}
use Rattle.serial_terms.specs.Serial.{State}
use Rattle.serial_terms.specs.Sights.{EndsAs}
use Rattle.store_layout.specs.Shapes.{Shape}
use Rattle.store_meaning.specs.declared.meaning.StoreMeaning.{StoreMeaning}
use Rattle.tx_core.specs.Tx.{Attempt}
use Rattle.tx_store.specs.Attempts.{HasSeen}
use Rattle.tx_store.specs.declared.commit.Receipt.{Receipt}
use Rattle.tx_store.specs.Commits.{Returns, Commits, Refuses, IsCommitted, IsRefused, SeesCalls, sight_of}
use Rattle.tx_store.specs.declared.commit.CommitEnd.{CommitEnd}
use Rattle.tx_store.specs.declared.commit.CommitEnd.TheVariants as ends
use Rattle.tx_store.specs.Stores.{PassView, TxView, AreClaimed, ArePaired, IsPairedAttempt, IsPassOfStore}
use Rattle.tx_store.proofs.Pairing.{paired_same, paired_noted}
use Rattle.tx_store.proofs.Fitting.{each_by_index}
use Rattle.tx_store.proofs.Refusing.{each_grows}

module _ {P K : Type 0} (lawful_state : P → State → Type 0) (a : TxView (StoreMeaning P K)) (p : PassView (StoreMeaning P K)) (claimed : AreClaimed p.keys.claims a.attempt.notes) (grows : Grows a.attempt.pass.view p.pass.view)
    (seen : HasSeen a.store.table.meaning.plan a.attempt.observations a.attempt.notes)
    (there : (i : ℕ) → i < length a.attempt.observations → cell_at a.attempt.observations i < length a.attempt.pass.view.opening)
    (stands : (i : ℕ) → i < length a.attempt.observations → Observes a.attempt.pass.view (cell_at a.attempt.observations i) (word_of a.attempt.observations i) a.attempt.version)
    (known : a.attempt.version ≤ a.attempt.pass.view.known) where
  -- all that was observed stands at the attempt's version
  pub sees_at_version : (end : SightEnd) → ((s : State) → EndsAs (length a.store.table.meaning.plan.queues) s end) → SeesCalls lawful_state a p a.attempt.version end
  sees_at_version end ends_so caller after = record {
    view = record {
      observations = a.attempt.observations;
      known = omega (arith, known, grows.known);
      stand = each_grows a.attempt.pass.view p.pass.view a.attempt.version grows a.attempt.observations
          (each_by_index (λ c x. (c < length a.attempt.pass.view.opening) × Observes a.attempt.pass.view c x a.attempt.version) a.attempt.observations (λ i lt. (there i lt, stands i lt)));
      run = λ cells lawful hold. let ran = seen cells lawful.0 hold in (ran.0, ran.1, ends_so ran.0);
    };
    claimed = claimed;
  }

  pub refused_sees : (end : CommitEnd) → (r : Refuses a.store.table.meaning.plan a.attempt p.pass end) → SeesCalls lawful_state a p r.place (sight_of end)
  refused_sees (ends.Held cell owner) r = subst (λ (n : ℕ). SeesCalls lawful_state a p n sights.Refused) (sym r.cause.0) (sees_at_version sights.Refused (λ s. tt))
  refused_sees (ends.Newer cell found) r = subst (λ (n : ℕ). SeesCalls lawful_state a p n sights.Refused) (sym r.cause.0) (sees_at_version sights.Refused (λ s. tt))
  refused_sees (ends.Full part values adding) r = λ caller after. record {
    view = record {
      observations = r.cause.observations;
      known = r.cause.known;
      stand = r.cause.stand;
      run = λ cells lawful hold. let ran = r.cause.exceeds cells lawful.0 hold in (ran.0, ran.1, ran.2);
    };
    claimed = claimed;
  }

-- ---- what a commit on a store leaves

module _ {P K : Type 0} (v : TxView (StoreMeaning P K)) (pass : PassState (StoreMeaning P K) NamedDone) (table : v.attempt.table ≡ v.store.table) (directory : v.keys.directory ≡ v.store.directory) (paired : IsPairedAttempt v.attempt v.keys)
    (plan : Shape) (is : plan ≡ v.store.table.meaning.plan) where
  store_pass : Returns v.attempt pass → ArePaired pass v.keys → IsPassOfStore v.store (record { pass = pass; keys = v.keys })
  store_pass returns pair = record { cells = subst (λ (t : TableState (StoreMeaning P K)). IsPassOf t pass) table returns.of; keys = directory; paired = pair }

  pub store_committed : (receipt : Receipt) → Returns v.attempt pass → Commits plan v.attempt pass receipt → IsCommitted v (record { pass = pass; keys = v.keys }) receipt
  store_committed receipt returns commits = record {
    of = store_pass returns (paired_noted v.keys receipt.place receipt.writer (record { observations = commits.last.observations; writes = commits.last.writes; dones = v.attempt.notes }) v.attempt.pass pass commits.books returns.room paired.notes paired.pass);
    keys = refl;
    returns = returns;
    commits = subst (λ (s : Shape). Commits s v.attempt pass receipt) is commits;
  }

  pub store_refused : (lawful_state : P → State → Type 0) (end : CommitEnd) → Returns v.attempt pass → Refuses plan v.attempt pass end → HasSeen v.store.table.meaning.plan v.attempt.observations v.attempt.notes
      → ((i : ℕ) → i < length v.attempt.observations → cell_at v.attempt.observations i < length v.attempt.pass.view.opening)
      → ((i : ℕ) → i < length v.attempt.observations → Observes v.attempt.pass.view (cell_at v.attempt.observations i) (word_of v.attempt.observations i) v.attempt.version)
      → v.attempt.version ≤ v.attempt.pass.view.known → IsRefused lawful_state v (record { pass = pass; keys = v.keys }) end
  store_refused lawful_state end returns refuses seen there stands known =
      let here : Refuses v.store.table.meaning.plan v.attempt pass end = subst (λ (s : Shape). Refuses s v.attempt pass end) is refuses in
      record {
        of = store_pass returns (paired_same v.keys v.attempt.pass pass refuses.books returns.room paired.pass);
        keys = refl;
        returns = returns;
        refuses = here;
        sees = refused_sees lawful_state v (record { pass = pass; keys = v.keys }) paired.notes returns.grows seen there stands known end here;
      }

-- the observations of an attempt before its commit
pub observed_there : {M D : Type 0} (a : Attempt M D) → IsPassOf a.table a.pass → ((i : ℕ) → i < length a.observations → cell_at a.observations i < length a.table.opening)
    → (i : ℕ) → i < length a.observations → cell_at a.observations i < length a.pass.view.opening
observed_there a of there i low = omega (arith, there i low, ap (λ (cs : List ℕ). length cs) of.2)
