use Rattle.std.proofs.Common.{sym, subst}
use Rattle.std.specs.List.{IsDistinct}
use Rattle.capture_terms.specs.Kept.{is_same_group}
use Rattle.ipv4_fragments.proofs.GroupNumbers.{distinct_none}
use Rattle.ipv4_fragments.proofs.group_list.GroupList.new.Goals as goal

pub invariant_of-result : goal.invariant_of-result
invariant_of-result c = subst (IsDistinct is_same_group) (sym c.new.ensures.items) distinct_none
