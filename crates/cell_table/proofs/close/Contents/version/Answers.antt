use Rattle.std.proofs.Common.{arith, ap, length}
use Rattle.std.specs.Mem.Slots.{slots_items}
use Rattle.cell_table.specs.Rule.{lock_place}
use Rattle.cell_table.specs.Settled.{Words}
use Rattle.cell_table.proofs.Closing.{at_get, version_read}
use Rattle.cell_table.proofs.close.Contents.version.Goals as goal

pub word-requires : goal.word-requires
word-requires c = ((let a = c.self.invariant.2 in let b = ap (λ (z : Words). length z.values) c.self.view_is in let l = c.requires in omega arith), c.self.invariant.0)

pub returns : goal.returns
returns c = version_read (slots_items c.self.inside.closed.words) c.args.cell c.word.result c.args.self.now c.self.view_is c.self.invariant.3 (at_get (slots_items c.self.inside.closed.words) (lock_place c.args.cell) c.word.result 0 c.word.ensures)
