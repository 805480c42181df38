use Rattle.std.proofs.Common.{arith, ap, length}
use Rattle.std.specs.Mem.Slots.{slots_items}
use Rattle.cell_table.specs.Rule.{value_place}
use Rattle.cell_table.specs.Settled.{Words}
use Rattle.cell_table.proofs.Closing.{at_get, value_read}
use Rattle.cell_table.proofs.close.Contents.value.Goals as goal

pub word-requires : goal.word-requires
word-requires c = ((let a = c.self.invariant.2 in let b = ap (λ (z : Words). length z.values) c.self.view_is in let l = c.requires in omega arith), c.self.invariant.0)

pub returns : goal.returns
returns c = value_read (slots_items c.self.inside.closed.words) c.args.cell c.word.result c.args.self.now c.self.view_is (at_get (slots_items c.self.inside.closed.words) (value_place c.args.cell) c.word.result 0 c.word.ensures)
