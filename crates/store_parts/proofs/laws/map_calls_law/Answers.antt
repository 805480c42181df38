use Rattle.store_parts.proofs.Maps.{map_calls}
use Rattle.store_parts.proofs.laws.map_calls_law.Goals as goal

pub returns : goal.returns
returns c = λ s m is some. map_calls c.words_are_cells_law.ensures c.parts_are_apart_law.ensures s m c.args.part.now is some c.serial_law.ensures.get c.serial_law.ensures.put c.serial_law.ensures.remove c.serial_law.ensures.put_if_absent
