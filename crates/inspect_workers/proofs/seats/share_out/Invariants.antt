use Rattle.inspect_workers.specs.Seats.{callers_held}
use Rattle.inspect_workers.proofs.Sharing.{IsSharingOut}
use Rattle.inspect_workers.proofs.seats.share_out.Given as goal

abbrev pub invariant-loop-alloc : goal.invariant-loop-alloc
invariant-loop-alloc g l = IsSharingOut l.store l.fn.pass l.pass l.seats.items

abbrev pub decreases-loop-alloc : goal.decreases-loop-alloc
decreases-loop-alloc g l = callers_held l.pass
