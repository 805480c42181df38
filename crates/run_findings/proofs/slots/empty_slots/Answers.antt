use Rattle.std.proofs.Common.{arith}
use Rattle.run_findings.proofs.Ahead.{all_within}
use Rattle.run_findings.proofs.slots.empty_slots.Goals as goal

pub returns-clause-there : goal.returns-clause-there
returns-clause-there c = all_within c.loop-place.slots.items c.args.first c.args.count _ c.loop-place.invariant.empty (omega (arith, c.loop-place.invariant.count, c.loop-place-test.false, c.loop-place.auto.place-end)) c.requires.there
