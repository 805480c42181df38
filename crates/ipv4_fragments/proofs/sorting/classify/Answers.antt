use Rattle.std.proofs.Common.{refl, arith}
use Rattle.ipv4_fragments.proofs.Sorted.{plan_from}
use Rattle.ipv4_fragments.proofs.sorting.classify.Goals as goal

pub returns : goal.returns
returns c = plan_from c.args.bytes.now c.args.capture.now c.args.window c.loop-number.sorting _ c.loop-number.number c.loop-number.invariant.holds c.loop-number.invariant.window (omega arith) refl refl c.into_groups.ensures
