use Rattle.tx_map.proofs.Steps.{get_step, put_step, remove_step, fill_step}
use Rattle.tx_map.proofs.part.MapPart.serial_law.Goals as goal

pub returns-clause-get : goal.returns-clause-get
returns-clause-get c map position there before after = get_step c.args.self.now map position before after there

pub returns-clause-put : goal.returns-clause-put
returns-clause-put c map position value before after = put_step c.args.self.now map position before after value

pub returns-clause-remove : goal.returns-clause-remove
returns-clause-remove c map position before after = remove_step c.args.self.now map position before after

pub returns-clause-put_if_absent : goal.returns-clause-put_if_absent
returns-clause-put_if_absent c map position value there before after = fill_step c.args.self.now map position before after value there
