use Rattle.inspect_workers.proofs.Batching.{opened_may}
use Rattle.inspect_workers.proofs.inspection.inspect.Goals as goal

pub all_batches-requires-clause-pass : goal.all_batches-requires-clause-pass
all_batches-requires-clause-pass g c κs within = opened_may c.args.workers c.in-Ok-open_run.store c.in-Ok-open_run.pass c.in-Ok-open_run.ensures.pass
