use Rattle.std.proofs.Common.{◌*◌, ◌<◌, length}
use Rattle.inspect_workers.specs.Batches.{MayGoOn}
use Rattle.inspect_workers.specs.Seats.{AreFree}
use Rattle.inspect_workers.proofs.batches.all_batches.Given as goal

abbrev pub invariant-loop-fills : goal.invariant-loop-fills
invariant-loop-fills g l = record {
  goes_on : MayGoOn l.store l.fills l.pass;
  free : AreFree l.store.table.callers l.seats.items;
  left : 0 < l.fills → 4096 * l.fills < length l.run.plan.now.tasks.items;
}
