use Rattle.std.proofs.Common.{rules, sym, subst}
use Rattle.std.proofs.lemmas.List.Sorted.{IsNonDecreasingBy-from_sort_by_key}
use Rattle.store_contents.proofs.Pairs.{sorted_map}
use Rattle.store_contents.specs.Places.{AreOfMap}
use Rattle.store_contents.proofs.maps.read_map.Goals as goal

pub returns : goal.returns
returns c = subst (AreOfMap c.args.cells.now.values c.args.keys.now c.args.map c.args.room) (sym c.from_vec.ensures)
    (sorted_map c.args.keys.now c.args.map c.args.room c.args.cells.now.values _ _ c.requires.capacity c.gather-pairs.ensures c.sort_unstable_by_key.ensures.permutation
    (IsNonDecreasingBy-from_sort_by_key (λ e. e.0) _ c.sort_unstable_by_key.ensures.sorted (λ a r q k. search rules)))
