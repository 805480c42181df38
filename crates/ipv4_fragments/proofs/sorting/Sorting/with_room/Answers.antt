use Rattle.std.proofs.Common.{subst, sym}
use Rattle.ipv4_fragments.specs.GroupNumbers.{AreNumbered}
use Rattle.ipv4_fragments.proofs.Sorted.{holds_none}
use Rattle.ipv4_fragments.proofs.sorting.Sorting.with_room.Goals as goal

pub returns-clause-holds : goal.returns-clause-holds
returns-clause-holds c = holds_none _ c.in_ok-classes.ensures.items c.in_ok-tasks.ensures.items c.new-2.ensures c.new.ensures.tells (subst (AreNumbered c.new.result) (sym c.new-2.ensures.known) c.new.ensures.numbered)
