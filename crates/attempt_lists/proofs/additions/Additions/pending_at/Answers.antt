use Rattle.std.proofs.Common.{◌≡◌, ap, length, arith, []}
use Rattle.attempt_lists.specs.Parts.{waiting_of}
use Rattle.attempt_lists.proofs.PartLists.{first_from_position, none_from_position, read_first, at_none}
use Rattle.attempt_lists.proofs.additions.Additions.pending_at.Goals as goal

pub unreachable-requires : goal.unreachable-requires
unreachable-requires c =
    let nothing : waiting_of c.args.self.now c.args.part ≡ [] = (at_none _ _ (none_from_position c.args.self.now c.args.part c.in_default.ensures)).0 in
    omega (arith, ap length nothing)

pub at-requires : goal.at-requires
at-requires c =
    let first = first_from_position c.args.self.now c.args.part c.in-Some.place c.in-Some.ensures in
    let read = read_first c.args.self.now c.args.part c.in-Some.place c.index.result.now first (rw (← c.self.view_is) c.index.ensures) in
    omega (arith, ap length read.1)

pub returns : goal.returns
returns c =
    let first = first_from_position c.args.self.now c.args.part c.in-Some.place c.in-Some.ensures in
    let read = read_first c.args.self.now c.args.part c.in-Some.place c.index.result.now first (rw (← c.self.view_is) c.index.ensures) in
    rw read.1 c.at.ensures
