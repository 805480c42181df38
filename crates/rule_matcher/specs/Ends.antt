-- Why a text gives no rules.
use Rattle.std.specs.Prelude.{◌≡◌, ◌⊎◌, ℕ, ◌<◌, List, [], ◌∷◌, ◌++◌, length}
use Rattle.rule_terms.specs.Rule.{Rule}
use Rattle.rule_terms.specs.RuleText.{IsSkippedLine, IsLineOf, IsTaken, IsBadLine, IsFirstBadLine, HasTooMany}
use Rattle.rule_matcher.specs.declared.rule_list.RulesEnd.{RulesEnd}
use Rattle.rule_matcher.specs.declared.rule_list.RulesEnd.TheVariants.{Line, TooMany, Memory}

-- the text has this cause to be refused; want of memory needs none
abbrev pub IsCauseIn : List ℕ → RulesEnd → Type 0
IsCauseIn text (Line number) = IsFirstBadLine text number
IsCauseIn text TooMany = HasTooMany text
IsCauseIn text Memory = Unit {0}

-- the line is a rule of a name that none of these has
pub record IsNewRule (line : List ℕ) (rules : List Rule) : Type 0 where
  pub rule : Rule
  pub is : IsLineOf line rule
  pub new : ¬ IsTaken rule.name rules

-- the line, behind others that gave the old rules, gives these rules
abbrev pub IsReadBehind : List ℕ → List Rule → List Rule → Type 0
IsReadBehind line old new =
    IsSkippedLine line × (new ≡ old) ⊎ ((further : IsNewRule line old) × (length old < 1024) × (new ≡ old ++ further.rule ∷ []))

-- the line of this number, behind others that gave these rules, is the cause
abbrev pub IsCauseAt : List ℕ → ℕ → List Rule → RulesEnd → Type 0
IsCauseAt line number rules (Line n) = (n ≡ number) × IsBadLine line rules
IsCauseAt line number rules TooMany = (length rules ≡ 1024) × IsNewRule line rules
IsCauseAt line number rules Memory = Unit {0}
