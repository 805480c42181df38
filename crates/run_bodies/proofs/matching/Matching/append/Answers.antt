use Rattle.std.proofs.Common.{◌∙◌, sym}
use Rattle.tx_store.specs.Bodies.{NoMap}
use Rattle.tx_store.specs.BodyFacts.{stops_nested}
use Rattle.run_bodies.specs.RunStores.{work_of_run}
use Rattle.run_bodies.proofs.Allowing.{appended_none, appended_nested}
use Rattle.run_bodies.proofs.Appending.{none_left}
use Rattle.run_bodies.proofs.matching.Matching.append.Goals as goal

pub returns-then-is_empty-clause-appended : goal.returns-then-is_empty-clause-appended
returns-then-is_empty-clause-appended g c = appended_none (work_of_run c.args.self.now.run.now) c.args.self.now.values.items c.args.tx.now c.requires.running (sym c.as_slice.ensures.value ∙ none_left c.as_slice.result.now (sym c.is_empty.ensures ∙ c.if-is_empty.true))

pub nested-requires-clause-running : goal.nested-requires-clause-running
nested-requires-clause-running g c = record { running = c.requires.running.running; before_commit = c.requires.running.before_commit }

pub returns-in-Ok-clause-appended : goal.returns-in-Ok-clause-appended
returns-in-Ok-clause-appended g c = appended_nested (work_of_run c.args.self.now.run.now) c.args.self.now.values.items c.args.tx.now c.requires.running c.nested.new.tx c.nested.ensures.goes_on c.nested.ensures.grows c.in-Ok.ensures.ok

pub returns-in-Err-clause-stopped : goal.returns-in-Err-clause-stopped
returns-in-Err-clause-stopped g c =
    rw c.into.ensures (stops_nested {full = NoMap} 8 _ c.args.tx.now c.nested.new.tx c.nested.ensures.goes_on c.nested.ensures.grows c.in-Err.end c.in-Err.ensures.sole c.in-Err.ensures.err)
