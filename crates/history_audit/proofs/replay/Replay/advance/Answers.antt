use Rattle.std.proofs.Common.{◌≡◌, ◌∙◌, ℕ, ◌≤◌, Some, None, drop, ap, sym, subst, arith, add-one}
use Rattle.serial_terms.specs.declared.call.Done.{Done}
use Rattle.serial_terms.specs.Entries.{Entry}
use Rattle.serial_terms.specs.Histories.{entry_of}
use Rattle.history_audit.specs.declared.lines.Sizes.{Sizes}
use Rattle.history_audit.specs.Begun.{records_in}
use Rattle.history_audit.specs.Replays.{AreReplayed, HasNextRun}
use Rattle.history_audit.proofs.Replaying.{next_stands, next_within, next_later, all_run, next_replayed, listed_replay, few_replayed}
use Rattle.history_audit.proofs.Sized.{first_calls}
use Rattle.history_audit.proofs.replay.Replay.advance.Goals as goal

pub returns-in-None-clause-reached : goal.returns-in-None-clause-reached
returns-in-None-clause-reached c = λ es w.
    let gone : c.records.self.next ≡ None = sym c.take.ensures.value ∙ c.in-None.is in
    all_run c.records.self c.args.self.now.sizes c.args.place es (c.records.invariant.replay es w) w.whole c.records.invariant.kept.place_is gone

pub returns-then-record-place-clause-reached : goal.returns-then-record-place-clause-reached
returns-then-record-place-clause-reached c = λ es w.
    let some : c.records.self.next ≡ Some c.in-Some.record = sym c.take.ensures.value ∙ c.in-Some.is in
    next_later c.records.self c.args.self.now.sizes c.args.place es c.in-Some.record (c.records.invariant.replay es w) w.whole c.records.invariant.kept.place_is some c.if-record-place.true

pub run_next-requires-clause-about : goal.run_next-requires-clause-about
run_next-requires-clause-about c =
    let z : Sizes = c.args.self.now.sizes in
    let w = c.requires.records in
    let some : c.records.self.next ≡ Some c.in-Some.record = sym c.take.ensures.value ∙ c.in-Some.is in
    let own = next_within c.records.self z w.0 c.in-Some.record (c.records.invariant.replay w.0 w.1) w.1.whole some in
    first_calls z.tasks z.groups z.findings c.in-Some.record.dones own.calls

pub run_next-requires-clause-listed : goal.run_next-requires-clause-listed
run_next-requires-clause-listed c = let w = c.requires.records in
    listed_replay c.pools_are_counts.ensures c.records.self c.args.self.now.sizes w.0 c.records.invariant.kept.sizes (c.records.invariant.replay w.0 w.1) w.1.whole

pub run_next-requires-clause-caller : goal.run_next-requires-clause-caller
run_next-requires-clause-caller c =
    let w = c.requires.records in
    let some : c.records.self.next ≡ Some c.in-Some.record = sym c.take.ensures.value ∙ c.in-Some.is in
    let own = next_within c.records.self c.args.self.now.sizes w.0 c.in-Some.record (c.records.invariant.replay w.0 w.1) w.1.whole some in
    own.caller

pub run_next-requires-clause-few : goal.run_next-requires-clause-few
run_next-requires-clause-few c =
    let w = c.requires.records in
    let some : c.records.self.next ≡ Some c.in-Some.record = sym c.take.ensures.value ∙ c.in-Some.is in
    let own = next_within c.records.self c.args.self.now.sizes w.0 c.in-Some.record (c.records.invariant.replay w.0 w.1) w.1.whole some in
    let most = few_replayed c.records.self w.0 c.in-Some.record.caller (c.records.invariant.replay w.0 w.1) own.caller in
    let few = w.1.whole.few in
    omega (arith, most, few)

pub records-preserved : goal.records-preserved
records-preserved c =
    let e : Entry Done = entry_of c.in-Some.record in
    let some : c.records.self.next ≡ Some c.in-Some.record = sym c.take.ensures.value ∙ c.in-Some.is in
    let k = c.records.invariant.kept in
    let h = c.in_ok-run_next.ensures in
    let ran : HasNextRun c.records.self e c.run_next.new.self
    = record { ran = h.ran; done = h.done; counts = h.counts; sizes = h.sizes; place = h.place; caller = h.caller; afters = h.afters; left = h.left } in
    let below : e.place ≤ c.args.place = c.if-record-place.false in
    let here = k.place_is in
    record {
      kept = record { sizes = h.sizes ∙ k.sizes; place_is = h.place ∙ k.place_is; caller = h.caller ∙ k.caller; afters = h.afters ∙ k.afters };
      replay = λ es w.
          let r = c.records.invariant.replay es w in
          let st = next_stands c.records.self es c.in-Some.record r some in
          let own = next_within c.records.self c.args.self.now.sizes es c.in-Some.record r w.whole some in
          let whole : AreReplayed c.records.self.sizes es = subst (λ (y : Sizes). AreReplayed y es) (sym k.sizes) w.whole in
          let next = next_replayed c.records_run_in_parts_law.ensures c.records_leave_one_state_law.ensures c.records.self c.run_next.new.self es e e st.here st.within r whole ran (omega (arith, below, here)) own.caller in
          record {
            done = next.done;
            others = ap (λ (n : ℕ). drop n es) (h.done ∙ add-one c.records.self.done) ∙ (st.behind ∙ (sym (ap records_in h.left) ∙ c.in_ok-next.ensures.read));
            run = next.run;
            counts = next.counts;
            low = next.low;
          };
    }
