use Rattle.std.proofs.Common.{subst}
use Rattle.run_purpose.specs.declared.purpose.RunPurpose.{RunPurpose}
use Rattle.run_bodies.specs.Matching.{HasAppended}
use Rattle.run_bodies.specs.RunStores.{work_of_run}
use Rattle.tx_store.specs.BodyFacts.{stops_after}
use Rattle.run_bodies.proofs.Allowing.{may_after, may_before, may_with, found_by, matched}
use Rattle.run_bodies.proofs.Outside.{may_go_on, wants_memory}
use Rattle.run_bodies.proofs.matching.Matching.match_item.Goals as goal

pub returns-in-Err-find-clause-stopped : goal.returns-in-Err-find-clause-stopped
returns-in-Err-find-clause-stopped g c = wants_memory c.args.tx.now c.take_out.new.tx _ c.in-Ok.ensures.out.does

pub returns-in-Err-find-clause-again : goal.returns-in-Err-find-clause-again
returns-in-Err-find-clause-again g c = may_with c.args.self.now.run.now _ c.args.self.now.ahead.now _ c.args.self.now.found_for _ c.args.self.now.values.items _ c.args.tx.now.store c.find.ensures.run.0 c.find.ensures.run.1 c.requires.may c.find.ensures.found

pub append-requires-clause-running : goal.append-requires-clause-running
append-requires-clause-running g c = may_go_on c.args.tx.now c.take_out.new.tx _ c.requires.running c.in-Ok.ensures.out.does

pub append-requires-clause-may : goal.append-requires-clause-may
append-requires-clause-may g c =
    may_after c.find.new.self.run.now c.args.tx.now c.take_out.new.tx c.in-Ok.ensures.out.does.same _ _ _
    (may_with c.args.self.now.run.now _ c.args.self.now.ahead.now _ c.args.self.now.found_for _ c.args.self.now.values.items _ c.args.tx.now.store c.find.ensures.run.0 c.find.ensures.run.1 c.requires.may c.find.ensures.found)

pub append-requires-clause-kept : goal.append-requires-clause-kept
append-requires-clause-kept g c = (found_by (work_of_run c.args.self.now.run.now) c.find.new.self.found_for c.args.item c.find.new.self.values.items c.in-Ok-find.ensures.now c.find.ensures.found).1

pub returns-in-Ok-append-clause-matched : goal.returns-in-Ok-append-clause-matched
returns-in-Ok-append-clause-matched g c =
    let run = c.args.self.now.run.now in
    let values = c.find.new.self.values.items in
    let found = found_by (work_of_run run) c.find.new.self.found_for c.args.item values c.in-Ok-find.ensures.now c.find.ensures.found in
    matched (work_of_run run) c.told_law.ensures.runs.lawful.sound c.args.item _ values c.args.tx.now c.take_out.new.tx c.append.new.tx c.in-Ok.ensures.out found.0
    (subst (λ (r : RunPurpose). HasAppended (work_of_run r) values c.take_out.new.tx c.append.new.tx) c.find.ensures.run.0 c.in-Ok-append.ensures.appended)

pub returns-in-Ok-append-clause-again : goal.returns-in-Ok-append-clause-again
returns-in-Ok-append-clause-again g c = may_before c.append.new.self.run.now c.args.tx.now c.take_out.new.tx c.in-Ok.ensures.out.does.same _ _ _ c.append.ensures.again

pub returns-in-Err-append-clause-stopped : goal.returns-in-Err-append-clause-stopped
returns-in-Err-append-clause-stopped g c = stops_after c.args.tx.now c.take_out.new.tx c.append.new.tx c.in-Err-append.stop c.in-Ok.ensures.out.does.same c.in-Err-append.ensures.stopped

pub returns-in-Err-append-clause-again : goal.returns-in-Err-append-clause-again
returns-in-Err-append-clause-again g c = may_before c.append.new.self.run.now c.args.tx.now c.take_out.new.tx c.in-Ok.ensures.out.does.same _ _ _ c.append.ensures.again
