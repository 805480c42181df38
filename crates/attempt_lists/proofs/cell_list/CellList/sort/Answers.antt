use Rattle.std.proofs.Common.{ap, rules, ◌∙◌, arith}
use Rattle.std.specs.List.Sorted.{IsNonDecreasingBy}
use Rattle.std.proofs.lemmas.List.Sorted.{IsNonDecreasingBy-from_sort_by_key}
use Rattle.attempt_lists.specs.Cells.{Listed, in_order}
use Rattle.attempt_lists.proofs.Kept.{room_ordered}
use Rattle.attempt_lists.proofs.Order.{once_moved, pass_moved, ascending_moved, sorted_is}
use Rattle.attempt_lists.proofs.cell_list.CellList.sort.Goals as goal

-- what moved is the same, and now ascends
pub invariant_of-self : goal.invariant_of-self
invariant_of-self c =
    let rises : IsNonDecreasingBy (λ e. e.0) c.sort_unstable_by_key.new.self.items = IsNonDecreasingBy-from_sort_by_key (λ e. e.0) _ c.sort_unstable_by_key.ensures.sorted (λ a r q k. search rules) in
    let moved = c.sort_unstable_by_key.ensures.permutation in
    let once = c.self.invariant.0 in
    let room = room_ordered c.self.inside.index c.order.new.self _ _ _ _ c.order.ensures.chains c.order.ensures.active (omega (arith, c.sort_unstable_by_key.ensures.len)) c.self.invariant.4 in (
      once_moved _ _ moved once,
      pass_moved _ _ moved once _ c.self.invariant.1,
      record {
        few = λ inactive unordered. grind (arith, c.order.ensures.ordered, unordered);
        ascending = λ ordered. ascending_moved _ _ moved once rises;
        chained = λ active. absurd (grind (arith, c.order.ensures.active, active));
      },
      omega (arith, c.sort_unstable_by_key.ensures.len, c.sort_unstable_by_key.ensures.capacity, c.self.invariant.3),
      room,
      c.self.invariant.5,
    )

pub returns-clause-entries : goal.returns-clause-entries
returns-clause-entries c =
    let rises : IsNonDecreasingBy (λ e. e.0) c.sort_unstable_by_key.new.self.items = IsNonDecreasingBy-from_sort_by_key (λ e. e.0) _ c.sort_unstable_by_key.ensures.sorted (λ a r q k. search rules) in
    sorted_is _ _ c.sort_unstable_by_key.ensures.permutation c.self.invariant.0 rises ∙ ap (λ (l : Listed). in_order l.entries) c.self.view_is

pub returns-clause-ascending : goal.returns-clause-ascending
returns-clause-ascending c =
    let rises : IsNonDecreasingBy (λ e. e.0) c.sort_unstable_by_key.new.self.items = IsNonDecreasingBy-from_sort_by_key (λ e. e.0) _ c.sort_unstable_by_key.ensures.sorted (λ a r q k. search rules) in
    ascending_moved _ _ c.sort_unstable_by_key.ensures.permutation c.self.invariant.0 rises
