use Rattle.run_stages.specs.Ends.{is_fill}
use Rattle.run_bodies.specs.RunStores.{work_of_run}
use Rattle.std.proofs.Common.{◌≡◌, refl}
use Rattle.inspect_workers.proofs.Giving.{never_full, filled}
use Rattle.inspect_workers.proofs.Starting.{can_run}
use Rattle.inspect_workers.proofs.Transacting.{adds_one, for_memory}
use Rattle.inspect_workers.proofs.transactions.fill_once.Goals as goal

pub atomically-requires-clause-can_run : goal.atomically-requires-clause-can_run
atomically-requires-clause-can_run c = (can_run c.args.run.now c.args.run.now c.args.store.now c.requires.store refl, c.requires.more)

pub returns-in-Ok-clause-filled : goal.returns-in-Ok-clause-filled
returns-in-Ok-clause-filled c =
    filled (work_of_run c.args.run.now) _ _ c.in-Ok.done.1 (adds_one c.args.run.now c.args.store.now c.requires.store _ _ 1 c.args.pass c.in-Ok.done.0 c.in-Ok.done.1 c.in-Ok.ensures.committed)

pub returns-in-Err-clause-refused : goal.returns-in-Err-clause-refused
returns-in-Err-clause-refused c = (
  c.in-Err.ensures.refused.0,
  for_memory c.args.run.now c.args.store.now c.requires.store 1 c.args.pass c.in-Err.refused.0 c.tell_full.ensures (λ calls out. is_fill calls ≡ 1)
      (λ notes out did. never_full (work_of_run c.args.run.now) notes did) c.in-Err.refused.1 c.in-Err.ensures.full (c.in-Err.ensures.sole c.requires.of.1) c.in-Err.ensures.refused.1,
)
