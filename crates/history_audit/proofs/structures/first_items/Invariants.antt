use Rattle.std.proofs.Common.{◌≡◌, ℕ, cond, Some, None}
use Rattle.std.specs.Prelude.{nat_eq, nat_lt}
use Rattle.std.specs.HashMap.{get}
use Rattle.history_audit.proofs.structures.first_items.Given as goal

abbrev pub invariant-loop-item : goal.invariant-loop-item
invariant-loop-item l = (x : ℕ) → get nat_eq l.counts x ≡ cond (nat_lt x l.item) (Some 1) None
