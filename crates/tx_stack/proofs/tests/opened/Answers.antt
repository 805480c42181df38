use Rattle.std.proofs.Common.{[]}
use Rattle.tx_stack.proofs.tests.opened.Goals as goal

pub open-requires-clause-lawful : goal.open-requires-clause-lawful
open-requires-clause-lawful c = (λ cell. [], c.stacks_open_empty_law.ensures c.args.parts.items c.requires.apart _)
