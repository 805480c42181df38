-- What was seen in a payload of the marks of rules.
use Rattle.std.specs.Prelude.{◌≡◌, ◌≢◌, ℕ, ◌<◌, ◌≤◌, true, false, List, length, slice_index, slice_index_or, None}
use Rattle.rule_terms.specs.Rule.{Rule}
use Rattle.rule_terms.specs.Match.{place_of}
use Rattle.rule_matcher.specs.Filter.{RulesOut}
use Rattle.rule_matcher.specs.declared.findings.Sight.{Sight}

-- each rule has a mark, and a rule that has one that wasn't seen finds nothing in the payload
pub record IsSightOf (sight : Sight) (rules : List Rule) (payload : List ℕ) : Type 0 where
  pub count : length sight.marks.now ≡ length rules
  pub small : (k : ℕ) → slice_index sight.marks.now k ≤ 1024
  pub seen : length sight.seen.now ≡ 1025
  pub out : RulesOut sight.marks.now sight.seen.now rules payload

-- the rule of this number has a mark
pub record HasMarkAt (sight : Sight) (number : ℕ) : Type 0 where
  pub there : number < length sight.marks.now
  pub small : slice_index sight.marks.now number ≤ 1024
  pub seen : length sight.seen.now ≡ 1025

-- which isn't among those that were seen
pub record IsUnseen (sight : Sight) (number : ℕ) : Type 0 where
  pub some : slice_index sight.marks.now number ≢ 0
  pub off : slice_index_or sight.seen.now (slice_index sight.marks.now number) true ≡ false

-- the rule of this number has a mark, and where that wasn't seen its first pattern stands nowhere
pub record IsSightFor (sight : Sight) (number : ℕ) (rule : Rule) (payload : List ℕ) : Type 0 where
  pub mark : HasMarkAt sight number
  pub out : IsUnseen sight number → place_of rule.first payload ≡ None
