use Rattle.std.proofs.Common.{◌≡◌, ℕ, ◌+◌, ◌<◌, ◌≤◌, [], drop, reverse, length, get_or, vec_len, vec_capacity}
use Rattle.std.specs.List.{All}
use Rattle.store_contents.specs.Places.{AreOfMap, IsPoolAt}
use Rattle.store_layout.specs.declared.place.Place.{Place}
use Rattle.store_contents.proofs.maps.read_maps.Given as goal

abbrev pub invariant-loop-room : goal.invariant-loop-room
invariant-loop-room l = record {
  left : drop l.map (reverse l.initial.rooms.items) ≡ reverse l.rooms.items;
  counted : l.map + length l.rooms.items ≡ length l.initial.rooms.items;
  made : length l.maps.items ≡ l.map;
  there : All (λ p. IsPoolAt l.cells.values p) l.rooms.items;
  room : vec_len l.maps + length l.rooms.items ≤ vec_capacity l.maps;
  are : (m : ℕ) (d : Place) → m < l.map → AreOfMap l.cells.values l.keys m (get_or (reverse l.initial.rooms.items) m d) (get_or l.maps.items m []);
}

abbrev pub decreases-loop-room : goal.decreases-loop-room
decreases-loop-room l = vec_len l.rooms
