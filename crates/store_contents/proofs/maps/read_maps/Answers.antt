use Rattle.std.proofs.Common.{◌≡◌, rules, reverse, length, ap, ◌∙◌, arith}
use Rattle.std.proofs.lemmas.List.{length_push, length-reverse}
use Rattle.store_contents.proofs.Popping.{last_first, next_place, map_more, kept, room_left, capacity_next, all_made}
use Rattle.store_contents.specs.Places.{IsPoolAt}
use Rattle.store_layout.specs.declared.place.Place.{Place}
use Rattle.store_contents.proofs.maps.read_maps.Goals as goal

pub read_map-requires-clause-capacity : goal.read_map-requires-clause-capacity
read_map-requires-clause-capacity c = capacity_next c.args.rooms c.open-rooms.result.0.items _ _ c.in-Some.room c.loop-room.map _ c.open-rooms.ensures.rooms c.loop-room.invariant.left c.in-Some.ensures.items c.requires.capacities

pub loop-room-preserved : goal.loop-room-preserved
loop-room-preserved c =
    let next = λ (d : Place). next_place c.loop-room.map (reverse c.open-rooms.result.0.items) (reverse c.pop.new.self.items) c.in-Some.room d
    (c.loop-room.invariant.left ∙ last_first _ _ c.in-Some.room c.in-Some.ensures.items) in
    let size = ap length c.in-Some.ensures.items in let push = length_push c.pop.new.self.items c.in-Some.room in let counted = c.loop-room.invariant.counted in
    let made = ap length c.push_reserved.ensures.items in let longer = length_push c.loop-room.maps.items c.read_map.result in let before = c.loop-room.invariant.made in
    record {
      left = (next c.in-Some.room).1;
      counted = omega arith;
      made = omega arith;
      there = (kept (λ p. IsPoolAt c.args.cells.now.values p) _ _ c.in-Some.room c.in-Some.ensures.items c.loop-room.invariant.there).0;
      room = room_left _ _ c.in-Some.room _ _ _ _ c.in-Some.ensures.items c.push_reserved.ensures.len c.push_reserved.ensures.capacity c.loop-room.invariant.room;
      are = map_more c.args.cells.now.values c.args.keys.now c.loop-room.map (reverse c.open-rooms.result.0.items) c.loop-room.maps.items _ c.in-Some.room c.read_map.result before (λ d. (next d).0) c.read_map.ensures
          c.push_reserved.ensures.items c.loop-room.invariant.are;
    }

pub returns-clause-maps : goal.returns-clause-maps
returns-clause-maps c =
    let size : length c.open-rooms.result.0.items ≡ length c.args.rooms = ap length c.open-rooms.ensures.rooms ∙ length-reverse c.args.rooms in
    all_made c.args.cells.now.values c.args.keys.now c.args.rooms c.open-rooms.result.0.items c.loop-room.map c.loop-room.maps.items c.from_vec.result c.open-rooms.ensures.rooms (search rules) c.from_vec.ensures
    c.loop-room.invariant.are
