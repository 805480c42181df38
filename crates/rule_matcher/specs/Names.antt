-- The names of the rules so far, as a set that is ordered by their bytes.
use Rattle.std.specs.Prelude.{◌↔◌, ℕ, List, IsTrue}
use Rattle.std.specs.Borrow.{Bor}
use Rattle.std.specs.BTreeSet.{BTreeSet, contains}
use Rattle.std.specs.Cmp.Lexicographic.{slice_cmp}
use Rattle.std.specs.Ordering.{nat_cmp}
use Rattle.rule_terms.specs.Rule.{Rule}
use Rattle.rule_terms.specs.RuleText.{IsTaken}

-- the set has a name exactly where one of the rules has it
abbrev pub AreNamesOf : BTreeSet (Bor (List ℕ)) → List Rule → Type 0
AreNamesOf names rules = (name : Bor (List ℕ)) → IsTrue (contains (λ one other. slice_cmp nat_cmp one.now other.now) names name) ↔ IsTaken name.now rules
