use Rattle.std.proofs.Common.{◌≡◌, vec_len}
use Rattle.history_audit.specs.Structures.{state_of, undone}
use Rattle.history_audit.proofs.structures.Structures.undo.Given as goal

abbrev pub invariant-loop-change : goal.invariant-loop-change
invariant-loop-change l = undone l.changes.items (state_of l.self) ≡ undone l.initial.changes.items (state_of l.initial.self)

abbrev pub decreases-loop-change : goal.decreases-loop-change
decreases-loop-change l = vec_len l.changes
