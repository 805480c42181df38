use Rattle.std.proofs.Common.{◌∙◌}
use Rattle.history_audit.proofs.Backs.{taken, is_held, item_back}
use Rattle.history_audit.specs.Structures.{state_of}
use Rattle.history_audit.proofs.structures.Structures.take.Goals as goal

pub overflow_sub-held : goal.overflow_sub-held
overflow_sub-held c = (is_held (state_of c.args.self.now) c.args.reply c.in-Value.item _ _ c.requires.listed c.requires.allowed c.in-Value.is c.count-count.ensures c.held-held.ensures).1

pub returns-in_ok-set_item-in-Value-clause-after : goal.returns-in_ok-set_item-in-Value-clause-after
returns-in_ok-set_item-in-Value-clause-after c = c.in_ok-set_item-in-Value.ensures ∙ taken (state_of c.args.self.now) c.in-Value.item c.args.reply _ _ c.in-Value.is c.count-count.ensures c.held-held.ensures

pub returns-in_ok-set_item-in-Value-clause-back : goal.returns-in_ok-set_item-in-Value-clause-back
returns-in_ok-set_item-in-Value-clause-back c = item_back (state_of c.args.self.now) _ _ _ _ _ _ c.in_ok-set_item-in-Value.ensures c.count-count.ensures c.held-held.ensures
