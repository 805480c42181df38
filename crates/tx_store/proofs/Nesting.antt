-- What an attempt's notes tell where a child is opened, merged or dropped.
use Rattle.std.proofs.Common.{◌≡◌, ℕ, zero, suc, ◌<◌, ◌≤◌, length, List, [], ◌∷◌, refl, sym, subst, arith}
use Rattle.std.proofs.Math.Path.{fun_ext}
use Rattle.std.proofs.Math.Seq.{take-length}
use Rattle.std.specs.Prelude.{take, Some, None}
use Rattle.attempt_lists.specs.Parts.{Waiting, waiting_of, marked_of}
use Rattle.attempt_lists.specs.Cells.{Entries, cell_at, word_of}
use Rattle.cell_table.specs.Cells.{after}
use Rattle.cell_table.specs.Sorted.{Each}
use Rattle.cell_table.specs.Steps.{Observes}
use Rattle.cell_table.specs.Pass.{PassState}
use Rattle.key_directory.specs.Directory as keys
use Rattle.key_directory.specs.declared.view.Claim.{Claim}
use Rattle.serial_terms.specs.Renaming.{NamedDone, by_key, by_name, SameButKeys}
use Rattle.serial_terms.specs.Serial.{State}
use Rattle.store_layout.specs.Shapes.{Shape}
use Rattle.store_meaning.specs.ClaimFacts.{claimed_take}
use Rattle.store_meaning.specs.declared.meaning.StoreMeaning.{StoreMeaning}
use Rattle.store_meaning.specs.Follows.{Progress, Follows, state_with}
use Rattle.store_parts.specs.Parts.{progress}
use Rattle.tx_core.specs.Calls.{IsOpen, MarksWaiting, GoesBack, mark_of}
use Rattle.tx_core.specs.Children.{Marked}
use Rattle.tx_core.specs.declared.stop.TxState.TheVariants.{Running, Child}
use Rattle.tx_core.specs.Tx.{Attempt}
use Rattle.tx_store.specs.Sights.{SawBy}
use Rattle.tx_store.specs.Stores.{AreClaimed, ArePaired, IsPairedAttempt}
use Rattle.tx_store.proofs.Pairing.{paired_same}
use Rattle.tx_store.specs.Attempts.{HasSeen, AreWaiting, Tells, TellsAt, progress_at}

same_taken : (passes : ℕ → ℕ → Type 0) (n : ℕ) (ds : List NamedDone) → SameButKeys passes (by_key ds) (by_name ds) → SameButKeys passes (by_key (take n ds)) (by_name (take n ds))
same_taken passes zero ds same = tt
same_taken passes (suc n) [] same = tt
same_taken passes (suc n) (d ∷ ds) same = (same.0, same_taken passes n ds same.1)

module _ {M : Type 0} (passes : ℕ → ℕ → Type 0) (s : Shape) where
  abbrev As : Attempt M NamedDone → List Waiting → Attempt M NamedDone
  As a ws = record a { state = Child; additions = ws; mark = Some (mark_of a) }

  opened_as : (a : Attempt M NamedDone) (ws : List Waiting) → IsOpen a.state → ((p : ℕ) → (waiting_of ws p ≡ waiting_of a.additions p) × (marked_of ws p ≡ waiting_of a.additions p)) → Tells passes s a → Tells passes s (As a ws)
  opened_as a ws open_now marks tells =
      let waits : ◌≡◌ {A = ℕ → List ℕ} (λ p. waiting_of ws p) (λ p. waiting_of a.additions p) = fun_ext (λ p. (marks p).0) in
      let marked : ◌≡◌ {A = ℕ → List ℕ} (λ p. marked_of ws p) (λ p. waiting_of a.additions p) = fun_ext (λ p. (marks p).1) in
      let now : progress (As a ws) ≡ progress a = rw waits refl in
      let then : progress_at (As a ws) (mark_of a) ≡ progress a = rw (take-length a.observations, marked) refl in
      let follows = tells.follows open_now in
      record {
        follows = λ still. subst (λ (p : Progress). Follows s p a.notes) (sym now) follows;
        seen = tells.seen;
        named = tells.named;
        waits = subst (λ (w : ℕ → List ℕ). AreWaiting s w) (sym waits) tells.waits;
        early = tells.early;
        left = tells.left;
        marked = λ m is. subst (λ (n : Marked). TellsAt s (As a ws) n) (let e : mark_of a ≡ m = cc in e) record {
          observations = omega arith;
          notes = omega arith;
          waits = subst (λ (w : ℕ → List ℕ). AreWaiting s w) (sym marked) tells.waits;
          follows = subst (λ (ds : List NamedDone). Follows s (progress_at (As a ws) (mark_of a)) ds) (sym (take-length a.notes)) (subst (λ (p : Progress). Follows s p a.notes) (sym then) follows);
        };
      }

  pub opened : (a b : Attempt M NamedDone) → a.state ≡ Running → b ≡ As a b.additions → MarksWaiting a b → Tells passes s a → Tells passes s b
  opened a b running is marks tells = subst (λ (x : Attempt M NamedDone). Tells passes s x) (sym is) (opened_as a b.additions (rw running refl) marks tells)

  pub merged : (a b : Attempt M NamedDone) → a.state ≡ Child → b ≡ record a { state = Running; mark = None } → Tells passes s a → Tells passes s b
  merged a b child is tells = subst (λ (x : Attempt M NamedDone). Tells passes s x) (sym is) record {
    follows = λ still. tells.follows (rw child refl);
    seen = tells.seen;
    named = tells.named;
    waits = tells.waits;
    early = tells.early;
    left = tells.left;
    marked = λ m none. absurd (cc);
  }

  abbrev Back : Attempt M NamedDone → Marked → PassState M NamedDone → List Waiting → Attempt M NamedDone
  Back a m pass ws = record a { pass = pass; state = Running; observations = take m.observations a.observations; versions = take m.observations a.versions; writes = m.writes; notes = take m.notes a.notes; additions = ws; mark = None }

  pub dropped : (a b : Attempt M NamedDone) (m : Marked) → a.mark ≡ Some m → GoesBack a b m → b.pass.view.draws ≡ a.pass.view.draws → Tells passes s a → Tells passes s b
  dropped a b m marked back draws tells =
      let at = tells.marked m marked in
      let ws = b.additions in
      let waits : ◌≡◌ {A = ℕ → List ℕ} (λ p. waiting_of ws p) (λ p. marked_of a.additions p) = fun_ext (λ p. (back.additions p).0) in
      let then : progress (Back a m b.pass ws) ≡ progress_at a m = rw waits refl in
      subst (λ (x : Attempt M NamedDone). Tells passes s x) (sym back.is) record {
        follows = λ still. subst (λ (p : Progress). Follows s p (take m.notes a.notes)) (sym then) at.follows;
        seen = λ cells formed hold. (state_with s (after cells m.writes) (λ p. marked_of a.additions p), (at.follows cells formed hold).1);
        named = same_taken passes m.notes a.notes tells.named;
        waits = subst (λ (w : ℕ → List ℕ). AreWaiting s w) (sym waits) at.waits;
        early = tells.early;
        left = rw draws tells.left;
        marked = λ n none. absurd (cc);
      }

  -- an attempt with another version or state, which is not open where it was not
  pub restated : (a b : Attempt M NamedDone) → b ≡ record a { pass = b.pass; version = b.version; state = b.state } → (IsOpen b.state → IsOpen a.state) → b.pass.view.draws ≡ a.pass.view.draws → Tells passes s a → Tells passes s b
  restated a b is opens draws tells =
      let c : Attempt M NamedDone = record a { pass = b.pass; version = b.version; state = b.state } in
      subst (λ (x : Attempt M NamedDone). Tells passes s x) (sym is) record {
        follows = λ still. tells.follows (opens still);
        seen = tells.seen;
        named = tells.named;
        waits = tells.waits;
        early = tells.early;
        left = rw draws tells.left;
        marked = λ m has. let at = tells.marked m has in record { observations = at.observations; notes = at.notes; waits = at.waits; follows = at.follows };
      }

-- ---- what a dropped child saw

each_at : (P : ℕ → ℕ → Type 0) (es : Entries) → ((i : ℕ) → i < length es → P (cell_at es i) (word_of es i)) → Each (λ o. P o.0 o.1) es
each_at P [] all = tt
each_at P (e ∷ es) all = (all 0 (omega arith), each_at P es (λ i lt. all (suc i) (omega arith)))

-- all that was observed stands at the attempt's version, and from there the calls run
pub saw_now : {P K : Type 0} (lawful_state : P → State → Type 0) (m : StoreMeaning P K) (a : Attempt (StoreMeaning P K) NamedDone) (claims : List Claim) → AreClaimed claims a.notes → HasSeen m.plan a.observations a.notes
    → ((i : ℕ) → i < length a.observations → cell_at a.observations i < length a.pass.view.opening)
    → ((i : ℕ) → i < length a.observations → Observes a.pass.view (cell_at a.observations i) (word_of a.observations i) a.version)
    → a.version ≤ a.pass.view.known → SawBy lawful_state m a.pass claims a.version a.notes
saw_now lawful_state m a claims claimed seen there stands known = λ caller after. record {
  view = record {
    observations = a.observations;
    known = known;
    stand = each_at (λ c x. (c < length a.pass.view.opening) × Observes a.pass.view c x a.version) a.observations (λ i lt. (there i lt, stands i lt));
    run = λ cells lawful hold. let ran = seen cells lawful.0 hold in (ran.0, ran.1, tt);
  };
  claimed = claimed;
}

-- ---- the passes of an attempt go together

-- it has the same pass and the same calls
pub paired_kept : {M : Type 0} (k : keys.PassView) (a b : Attempt M NamedDone) → b.pass ≡ a.pass → b.notes ≡ a.notes → IsPairedAttempt a k → IsPairedAttempt b k
paired_kept {M} k a b pass notes pair = record { pass = subst (λ (p : PassState M NamedDone). ArePaired p k) (sym pass) pair.pass; notes = subst (AreClaimed k.claims) (sym notes) pair.notes }

-- it has a beginning of the calls
pub paired_dropped : {M : Type 0} (k : keys.PassView) (a b : Attempt M NamedDone) (n : ℕ) → b.pass.books ≡ a.pass.books → b.pass.room ≡ a.pass.room → b.notes ≡ take n a.notes → IsPairedAttempt a k → IsPairedAttempt b k
paired_dropped k a b n books room notes pair = record { pass = paired_same k a.pass b.pass books room pair.pass; notes = subst (AreClaimed k.claims) (sym notes) (claimed_take k.claims n a.notes pair.notes) }
