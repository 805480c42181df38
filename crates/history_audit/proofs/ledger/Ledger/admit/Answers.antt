use Rattle.std.proofs.Common.{◌≡◌, ◌∙◌, ◌<◌, Bool, [], ◌∷◌, length, refl, ap, sym, subst, arith, length-append}
use Rattle.std.specs.Option.{option_map}
use Rattle.serial_terms.specs.declared.call.Done.{Done}
use Rattle.serial_terms.specs.Entries.{Entry, by_caller}
use Rattle.serial_terms.specs.Histories.{entry_of, IsLegalRun}
use Rattle.serial_terms.specs.Ranges.{AreCallsOf, BelowCapacity}
use Rattle.serial_terms.specs.Serial.{State}
use Rattle.journal_terms.specs.Growing.{last_of}
use Rattle.history_audit.specs.Structures.{state_of, HasCommitted, IsListed}
use Rattle.history_audit.specs.Ledgers.{bare, layout_of}
use Rattle.history_audit.proofs.Growth.{behind_bare, counts_more, last_more}
use Rattle.history_audit.proofs.Running.{listed_run}
use Rattle.history_audit.proofs.Sized.{first_calls}
use Rattle.history_audit.proofs.ledger.Ledger.admit.Goals as goal

pub commit-requires-clause-about : goal.commit-requires-clause-about
commit-requires-clause-about c = first_calls c.args.self.now.sizes.tasks c.args.self.now.sizes.groups c.args.self.now.sizes.findings c.args.record.now.dones
    (subst (AreCallsOf BelowCapacity (layout_of c.args.self.now.sizes)) c.as_slice.ensures (c.if-not-fit.ensures.0 refl))

pub returns-then-not-committed-clause-exactly : goal.returns-then-not-committed-clause-exactly
returns-then-not-committed-clause-exactly c = λ es end l w n u r.
    let no : (t : State) → IsLegalRun (state_of c.args.self.now.structures) (entry_of c.args.record.now ∷ []) t → ⊥
    = subst (λ (b : Bool). HasCommitted b (state_of c.args.self.now.structures) (entry_of c.args.record.now) (state_of c.commit.new.self)) c.if-not-committed.true c.in_ok-committed.ensures in
    no u (subst (λ (s : State). IsLegalRun s (entry_of c.args.record.now ∷ []) u) (sym l.state) r)

pub returns-clause-exactly : goal.returns-clause-exactly
returns-clause-exactly c = λ es end l.
    let e : Entry Done = entry_of c.args.record.now in
    let calls : AreCallsOf BelowCapacity (layout_of c.args.self.now.sizes) e.dones = subst (AreCallsOf BelowCapacity (layout_of c.args.self.now.sizes)) c.as_slice.ensures (c.if-not-fit.ensures.0 refl) in
    let behind = (behind_bare (last_of es) c.args.self.now.last e l.last).0 (c.if-not-behind.ensures.0 refl) in
    let low : e.caller < 16 = omega arith in
    let count : c.get-count.result ≡ length (by_caller e.caller es) = c.get-count.ensures ∙ l.counts e.caller low in
    let run : IsLegalRun (state_of c.args.self.now.structures) (e ∷ []) (state_of c.commit.new.self)
    = subst (λ (b : Bool). HasCommitted b (state_of c.args.self.now.structures) e (state_of c.commit.new.self)) c.if-not-committed.false c.in_ok-committed.ensures in
    let here : IsLegalRun end (e ∷ []) (state_of c.commit.new.self) = subst (λ (s : State). IsLegalRun s (e ∷ []) (state_of c.commit.new.self)) l.state run in
    record {
      within = record { caller = low; place = omega arith; calls = calls };
      next = record { order = behind.0; above = behind.1; counted = c.if-record-count.false ∙ count };
      after = (
        state_of c.commit.new.self,
        here,
        record {
          state = refl;
          listed = subst IsListed here.4 (listed_run c.pools_are_counts.ensures e.dones end here.0 (first_calls c.args.self.now.sizes.tasks c.args.self.now.sizes.groups c.args.self.now.sizes.findings e.dones calls) here.1 l.listed);
          counts = λ k lt. counts_more k es e _ c.get-count.result _ (c.set.ensures k lt) count (l.counts k lt);
          last = ap (option_map bare) (sym (last_more es e));
          records = let r = l.records in omega (arith, r, length-append es (e ∷ []));
        },
      );
    }
