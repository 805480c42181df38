use Rattle.std.proofs.Common.{ap, ◌∙◌}
use Rattle.attempt_lists.specs.Cells.{in_order}
use Rattle.attempt_lists.proofs.Order.{in_order_set}
use Rattle.attempt_lists.proofs.cell_map.put_at.Goals as goal

-- another word at the cell's place is a put
pub returns-in-Some-clause-entries : goal.returns-in-Some-clause-entries
returns-in-Some-clause-entries c =
    let at = rw c.in-Some.is at c.requires.place in
    ap in_order c.set_word.ensures.entries ∙ in_order_set _ c.args.cell c.args.word c.in-Some.place c.requires.once at.0 at.1
