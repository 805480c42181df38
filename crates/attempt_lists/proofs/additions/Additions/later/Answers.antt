use Rattle.attempt_lists.proofs.PartLists.{first_from_position, none_from_position, read_first, adds, adds_part}
use Rattle.attempt_lists.proofs.additions.Additions.later.Goals as goal

-- the part was there, and its first entry has one addition more
pub returns-in_ok-push-in-Some-clause-ok : goal.returns-in_ok-push-in-Some-clause-ok
returns-in_ok-push-in-Some-clause-ok c =
    let first = first_from_position c.args.self.now c.args.part c.in-Some.place c.in-Some.ensures in
    let read = read_first c.args.self.now c.args.part c.in-Some.place c.index_mut.result.now first (rw (← c.self.view_is) c.index_mut.ensures.value) in
    rw c.self.view_is (adds c.args.self.now c.args.part c.in-Some.place c.args.value c.index_mut.result.now c.push.new.self first read.0 c.in_ok-push-in-Some.ensures.ok)

-- the part is new
pub returns-in_ok-push-in-None-2-clause-ok : goal.returns-in_ok-push-in-None-2-clause-ok
returns-in_ok-push-in-None-2-clause-ok c =
    let none = none_from_position c.args.self.now c.args.part c.in-None.ensures in
    rw (c.in_ok-push-in-None-2.ensures.items, c.self.view_is) (adds_part c.args.self.now c.args.part c.args.value c.new-added.result c.push-in-None.new.self none (c.new-added.ensures.part, c.new-added.ensures.waiting, c.new-added.ensures.marked) c.in_ok-push-in-None.ensures.ok)
