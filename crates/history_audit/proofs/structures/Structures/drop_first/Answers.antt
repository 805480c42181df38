use Rattle.std.proofs.Common.{◌∙◌, refl, ap, sym}
use Rattle.history_audit.proofs.Stated.{queue_put, items_of_queue, drop_one}
use Rattle.serial_terms.specs.Serial.{rest}
use Rattle.history_audit.proofs.structures.Structures.drop_first.Goals as goal

pub returns : goal.returns
returns c = queue_put c.args.self.now _ _ refl (c.pop_front.ensures.rest ∙ (drop_one c.args.self.now.queue.items ∙ ap rest (sym (items_of_queue c.args.self.now))))
