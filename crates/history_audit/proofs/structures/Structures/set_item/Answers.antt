use Rattle.std.proofs.Common.{refl}
use Rattle.history_audit.proofs.Stated.{item_put}
use Rattle.history_audit.proofs.structures.Structures.set_item.Goals as goal

pub returns : goal.returns
returns c = item_put c.args.self.now _ c.args.item c.args.count c.args.held refl c.in_ok-insert.ensures.updates.0
