use Rattle.std.proofs.Common.{arith}
use Rattle.history_audit.proofs.Backs.{counted}
use Rattle.history_audit.specs.Structures.{state_of}
use Rattle.history_audit.proofs.structures.Structures.give.Goals as goal

pub overflow_add-count : goal.overflow_add-count
overflow_add-count c = omega (arith, counted (state_of c.args.self.now) c.requires c.args.item)
