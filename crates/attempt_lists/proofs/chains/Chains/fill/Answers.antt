use Rattle.std.proofs.Common.{arith, refl}
use Rattle.attempt_lists.proofs.chains.Chains.fill.Goals as goal

-- the next cell is added
pub loop-cell-preserved : goal.loop-cell-preserved
loop-cell-preserved c = record {
  chains = c.push.ensures.chains c.args.entries.now c.loop-cell.cell-index refl c.loop-cell.invariant.chains;
  capacity = omega (arith, c.push.ensures.capacity, c.loop-cell.invariant.capacity);
}
