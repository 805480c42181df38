use Rattle.std.proofs.Common.{◌≡◌, map, take}
use Rattle.history_audit.specs.Structures.{state_of, now_at}
use Rattle.history_audit.proofs.structures.Structures.noted.Given as goal

abbrev pub invariant-loop-change : goal.invariant-loop-change
invariant-loop-change l = l.noted.items ≡ map (now_at (state_of l.self)) (take l.change-index l.changes)
