use Rattle.std.proofs.Common.{ℕ, List, [], ◌∷◌, ◌∙◌, subst}
use Rattle.std.specs.Prelude.{Option}
use Rattle.serial_terms.specs.declared.call.Call.TheVariants.{Take}
use Rattle.serial_terms.specs.Renaming.{NamedDone, by_key}
use Rattle.serial_terms.specs.Serial.{outside, found}
use Rattle.run_bodies.proofs.TakingEnds.{ends_taken}
use Rattle.run_bodies.proofs.taking.TakingBodyRunPurpose.body.Goals as goal
use Rattle.run_bodies.specs.Records.{HandsOn}
use Rattle.run_bodies.specs.RunStores.{work_of_run}
use Rattle.tx_store.specs.Bodies.{NoMap, Does, of_nest}
use Rattle.tx_store.specs.BodyFacts.{same_then, same_nested, stops_after, stops_nested, nested_full, does_nested}

pub returns-in-Err-nested-clause-same : goal.returns-in-Err-nested-clause-same
returns-in-Err-nested-clause-same g c =
    same_then c.args.tx.now c.take.new.tx c.nested.new.tx c.in-Ok.ensures.acts.same (same_nested c.take.new.tx c.nested.new.tx c.nested.ensures.goes_on c.nested.ensures.grows)

pub returns-in-Err-nested-clause-stopped : goal.returns-in-Err-nested-clause-stopped
returns-in-Err-nested-clause-stopped g c =
    let e = c.in-Err-nested.ensures in
    let stops = stops_nested {full = NoMap} 8 _ c.take.new.tx c.nested.new.tx e.goes_on e.grows c.in-Err-nested.end e.sole e.err in
    rw c.from.ensures (stops_after {full = NoMap} c.args.tx.now c.take.new.tx c.nested.new.tx (of_nest c.in-Err-nested.end) c.in-Ok.ensures.acts.same stops).cause

pub returns-clause-same : goal.returns-clause-same
returns-clause-same g c =
    same_then c.args.tx.now c.take.new.tx c.nested.new.tx c.in-Ok.ensures.acts.same (same_nested c.take.new.tx c.nested.new.tx c.nested.ensures.goes_on c.nested.ensures.grows)

pub returns-clause-ok : goal.returns-clause-ok
returns-clause-ok g c =
    let p = c.args.self.now.run.now in
    let i = c.in-Some.task in
    let a = c.args.tx.now in
    let b = c.take.new.tx in
    let d = c.nested.new.tx in
    let first = subst (λ (x : Option ℕ). Does a b (outside (Take 0) (found x) ∷ [])) c.in-Some.is c.in-Ok.ensures.acts in
    let e = c.in-Ok-nested.ensures in
    let child = does_nested (λ (added : List NamedDone). HandsOn (work_of_run p) i (by_key added)) b d (first.state ∙ c.requires.fresh.running) e.goes_on e.grows e.ok in
    ends_taken p a c.requires.fresh c.requires.can_run b d i (by_key child.0) first child.2 child.1

pub returns-in-Err-nested-clause-full : goal.returns-in-Err-nested-clause-full
returns-in-Err-nested-clause-full g c = rw c.from.ensures (nested_full NoMap c.in-Err-nested.end)
