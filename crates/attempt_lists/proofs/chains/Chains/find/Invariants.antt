use Rattle.std.proofs.Common.{length}
use Rattle.attempt_lists.proofs.Buckets.{IsWalk}
use Rattle.attempt_lists.proofs.chains.Chains.find.Given as goal

abbrev pub decreases-loop-link : goal.decreases-loop-link
decreases-loop-link l = l.link

abbrev pub invariant-loop-link : goal.invariant-loop-link
invariant-loop-link l = IsWalk l.entries (length l.self.heads.items) l.cell l.link
