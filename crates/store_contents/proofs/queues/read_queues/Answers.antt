use Rattle.std.proofs.Common.{ℕ, List, [], ◌∷◌, ◌++◌, ap, ◌∙◌}
use Rattle.store_contents.proofs.Popping.{popped, kept, room_left}
use Rattle.store_contents.specs.Places.{queue_at, IsQueueAt}
use Rattle.store_contents.proofs.queues.read_queues.Goals as goal

pub read_queue-requires : goal.read_queue-requires
read_queue-requires c = (kept (λ p. IsQueueAt c.args.cells.now.values p) _ _ c.in-Some.room c.in-Some.ensures.items c.loop-room.invariant.1).1

pub loop-room-preserved : goal.loop-room-preserved
loop-room-preserved c = (
  popped (λ p. queue_at c.args.cells.now.values p) _ _ _ c.in-Some.room _ _ c.in-Some.ensures.items c.loop-room.invariant.0
      (c.push_reserved.ensures.items ∙ ap (λ (z : List ℕ). c.loop-room.queues.items ++ z ∷ []) c.read_queue.ensures),
  (kept (λ p. IsQueueAt c.args.cells.now.values p) _ _ c.in-Some.room c.in-Some.ensures.items c.loop-room.invariant.1).0,
  room_left _ _ c.in-Some.room _ _ _ _ c.in-Some.ensures.items c.push_reserved.ensures.len c.push_reserved.ensures.capacity c.loop-room.invariant.2,
)
