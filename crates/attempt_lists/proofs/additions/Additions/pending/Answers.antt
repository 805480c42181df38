use Rattle.std.proofs.Common.{sym, ap, length, ◌∙◌}
use Rattle.attempt_lists.proofs.PartLists.{first_from_position, none_from_position, read_first, at_none}
use Rattle.attempt_lists.proofs.additions.Additions.pending.Goals as goal

pub returns-in-Some : goal.returns-in-Some
returns-in-Some c =
    let first = first_from_position c.args.self.now c.args.part c.in-Some.place c.in-Some.ensures in
    let read = read_first c.args.self.now c.args.part c.in-Some.place c.index.result.now first (rw (← c.self.view_is) c.index.ensures) in
    c.waiting.ensures ∙ sym (ap length read.1)

pub returns-in-None : goal.returns-in-None
returns-in-None c = sym (ap length ((at_none _ _ (none_from_position c.args.self.now c.args.part c.in-None.ensures)).0))
