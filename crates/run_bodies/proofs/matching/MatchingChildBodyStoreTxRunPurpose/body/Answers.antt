use Rattle.std.proofs.Common.{ℕ, List, sym, subst, arith}
use Rattle.serial_terms.specs.declared.call.Done.{Done}
use Rattle.run_stages.specs.Allowed.{Appends}
use Rattle.run_bodies.specs.RunStores.{work_of_run}
use Rattle.run_bodies.proofs.Telling.{has_parts}
use Rattle.run_bodies.proofs.matching.MatchingChildBodyStoreTxRunPurpose.body.Goals as goal

pub append_all-requires-clause-log : goal.append_all-requires-clause-log
append_all-requires-clause-log g c = let logs = (has_parts c.args.self.now.run.now c.args.tx.now.store c.requires.can_run.0.0).logs in omega (arith, logs)

pub returns-in-Ok-clause-stays : goal.returns-in-Ok-clause-stays
returns-in-Ok-clause-stays g c = let goes = c.in-Ok.ensures.appended.does.goes in (goes.stays, goes.mark)

pub returns-in-Ok-clause-grows : goal.returns-in-Ok-clause-grows
returns-in-Ok-clause-grows g c = c.in-Ok.ensures.appended.does.goes.grows

pub returns-in-Ok-clause-ok : goal.returns-in-Ok-clause-ok
returns-in-Ok-clause-ok g c =
    let run = c.in-Ok.ensures.appended in let does = run.does in
    let w = work_of_run c.args.self.now.run.now in (
      does.state,
      (does.added, does.notes, subst (λ (ds : List Done). Appends w c.args.self.now.values.items ds) (sym does.keyed) (subst (λ (values : List ℕ). Appends w values run.calls) c.deref.ensures.value (run.appends w))),
    )

pub returns-in-Err-clause-stays : goal.returns-in-Err-clause-stays
returns-in-Err-clause-stays g c = let goes = c.in-Err.ensures.stopped.goes in (goes.stays, goes.mark)

pub returns-in-Err-clause-grows : goal.returns-in-Err-clause-grows
returns-in-Err-clause-grows g c = c.in-Err.ensures.stopped.goes.grows

pub returns-in-Err-clause-err : goal.returns-in-Err-clause-err
returns-in-Err-clause-err g c = c.in-Err.ensures.stopped.cause

pub returns-in-Err-clause-sole : goal.returns-in-Err-clause-sole
returns-in-Err-clause-sole g c = c.in-Err.ensures.stopped.sole
