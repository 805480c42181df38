use Rattle.std.proofs.Common.{◌≡◌, ℕ, ◌<◌, ◌≤◌, length, get_or}
use Rattle.rule_terms.specs.Rule.{Rule}
use Rattle.rule_matcher.specs.Filter.{IsTable, IsMarked}
use Rattle.rule_matcher.proofs.filter.mark_rules.Given as goal

abbrev pub invariant-loop-number : goal.invariant-loop-number
invariant-loop-number l = record {
  slots : IsTable l.table;
  count : length l.marks.items ≡ l.number;
  small : (k : ℕ) → get_or l.marks.items k 0 ≤ 1024;
  each : (k : ℕ) (rule : Rule) → k < l.number → get_or l.rules k rule ≡ rule → IsMarked l.table rule (get_or l.marks.items k 0);
}
