use Rattle.std.proofs.Common.{◌≡◌, take}
use Rattle.store_contents.proofs.room.Rooms.take.Given as goal

abbrev pub invariant-loop-place : goal.invariant-loop-place
invariant-loop-place g l = l.rooms.items ≡ take l.place-index l.places
