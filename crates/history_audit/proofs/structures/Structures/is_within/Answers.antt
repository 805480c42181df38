use Rattle.std.proofs.Common.{◌≤◌, arith}
use Rattle.std.proofs.lemmas.Bool.{leb-true, le-leb}
use Rattle.history_audit.proofs.Openings.{within_state}
use Rattle.history_audit.proofs.structures.Structures.is_within.Goals as goal

pub returns-then-queue : goal.returns-then-queue
returns-then-queue c = (
  (λ t. let l : c.log_len.result ≤ c.log_room.result = leb-true _ _ t in within_state c.args.self.now (omega arith) (omega arith)),
  (λ w. let l = w.logs 0 in le-leb _ _ (omega (arith, l))),
)
