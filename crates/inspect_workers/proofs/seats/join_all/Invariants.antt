use Rattle.inspect_workers.proofs.Joining.{IsJoining}
use Rattle.inspect_workers.proofs.seats.join_all.Given as goal

abbrev pub invariant-loop-place : goal.invariant-loop-place
invariant-loop-place g l = IsJoining l.store l.fn.seats.items l.place l.pass l.seats.items
