use Rattle.std.proofs.Common.{◌≡◌, ℕ, ◌<◌, []}
use Rattle.attempt_lists.specs.Parts.{waiting_of}
use Rattle.attempt_lists.proofs.PartLists.{part_at}
use Rattle.attempt_lists.proofs.additions.Additions.is_empty.Given as goal

abbrev pub invariant-loop-p : goal.invariant-loop-p
invariant-loop-p l = (k : ℕ) → k < l.p-index → waiting_of l.self (part_at l.self k) ≡ []
