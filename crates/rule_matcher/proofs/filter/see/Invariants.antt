use Rattle.std.proofs.Common.{◌≡◌, ℕ, ◌*◌, ◌<◌, true, false, get_or}
use Rattle.rule_matcher.specs.Filter.{slot_of}
use Rattle.rule_matcher.proofs.filter.see.Given as goal

abbrev pub invariant-loop-window : goal.invariant-loop-window
invariant-loop-window l = (j : ℕ) → j < l.window → get_or l.seen (get_or l.table (slot_of l.payload (4 * j)) 0) false ≡ true
