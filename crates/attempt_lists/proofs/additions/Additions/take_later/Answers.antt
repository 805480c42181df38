use Rattle.std.proofs.Common.{refl}
use Rattle.attempt_lists.proofs.PartLists.{first_from_position, none_from_position, read_first, at_none, consumes}
use Rattle.attempt_lists.proofs.additions.Additions.take_later.Goals as goal

pub returns-in-Some : goal.returns-in-Some
returns-in-Some c =
    let first = first_from_position c.args.self.now c.args.part c.in-Some.place c.in-Some.ensures in
    let read = read_first c.args.self.now c.args.part c.in-Some.place c.index_mut.result.now first (rw (← c.self.view_is) c.index_mut.ensures.value) in
    rw c.self.view_is (consumes c.args.self.now c.args.part c.in-Some.place c.index_mut.result.now c.consume.new.self c.consume.result first read.0 c.consume.ensures.cases)

pub returns-in-None : goal.returns-in-None
returns-in-None c = ((at_none _ _ (none_from_position c.args.self.now c.args.part c.in-None.ensures)).0, refl)
