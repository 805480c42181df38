-- What a text of rules is: a rule on each line that isn't skipped, of different names.
use Rattle.std.specs.Prelude.{◌≡◌, ◌≢◌, ◌⊎◌, ℕ, zero, suc, ◌+◌, ◌-◌, ◌≤◌, Bool, true, false, ◌==◌, List, [], ◌∷◌, ◌++◌, length, take, slice_index, Option, Some, if◌then◌else◌, Any, AllPairs}
use Rattle.rule_terms.specs.Rule.{Rule}
use Rattle.rule_terms.specs.Words.{is_blank}
use Rattle.rule_terms.specs.Grammar.{IsRuleLine}

-- a byte in front of the first line
abbrev pub onto_first : ℕ → List (List ℕ) → List (List ℕ)
onto_first b [] = (b ∷ []) ∷ []
onto_first b (line ∷ lines) = (b ∷ line) ∷ lines

-- the lines of a text, each without its line feed; nothing behind the last line feed is no line
unfoldable pub lines_of : List ℕ → List (List ℕ)
lines_of [] = []
lines_of (b ∷ text) = if b == 10 then [] ∷ lines_of text else onto_first b (lines_of text)

-- a line less one carriage return at its end
unfoldable pub without_return : List ℕ → List ℕ
without_return line = if slice_index line (length line - 1) == 13 then take (length line - 1) line else line

-- a line of blanks alone, or one whose first byte that isn't a blank is `#`
unfoldable pub is_skipped : List ℕ → Bool
is_skipped [] = true
is_skipped (b ∷ line) = if is_blank b then is_skipped line else b == 35

-- the line, with its carriage return, is skipped
abbrev pub IsSkippedLine : List ℕ → Type 0
IsSkippedLine line = is_skipped (without_return line) ≡ true

-- the line, with its carriage return, is one that isn't skipped, and is this rule
pub record IsLineOf (line : List ℕ) (rule : Rule) : Type 0 where
  pub looked_at : is_skipped (without_return line) ≡ false
  pub is : IsRuleLine (without_return line) rule

-- the lines that aren't skipped are these rules, in order
abbrev pub AreLinesOf : List (List ℕ) → List Rule → Type 0
AreLinesOf [] rules = rules ≡ []
AreLinesOf (line ∷ lines) rules =
    IsSkippedLine line × AreLinesOf lines rules ⊎ ((rule : Rule) × (later : List Rule) × IsLineOf line rule × (rules ≡ rule ∷ later) × AreLinesOf lines later)

-- two rules have different names
abbrev pub AreNamedApart : Rule → Rule → Type 0
AreNamedApart one other = one.name ≢ other.name

-- one of the rules has the name
abbrev pub IsTaken : List ℕ → List Rule → Type 0
IsTaken name rules = Any (λ (r : Rule). r.name ≡ name) rules

-- the lines are these rules, in order; no two have the same name, and there are at most 1024
pub record AreRules (lines : List (List ℕ)) (rules : List Rule) : Type 0 where
  pub each : AreLinesOf lines rules
  pub names : AllPairs AreNamedApart rules
  pub few : length rules ≤ 1024

-- the text is these rules
abbrev pub IsRuleText : List ℕ → List Rule → Type 0
IsRuleText text rules = AreRules (lines_of text) rules

-- the lines before this one are rules
pub record IsReadUpTo (text : List ℕ) (rules : List Rule) (line : List ℕ) : Type 0 where
  pub before : List (List ℕ)
  pub behind : List (List ℕ)
  pub split : lines_of text ≡ before ++ line ∷ behind
  pub are : AreRules before rules

-- the line is neither skipped nor a rule of a name that none of these has
pub record IsBadLine (line : List ℕ) (rules : List Rule) : Type 0 where
  pub looked_at : is_skipped (without_return line) ≡ false
  pub no_rule : (rule : Rule) → IsLineOf line rule → IsTaken rule.name rules

-- the first line at which the text is no text of rules is the one of this number, counted from 1: a bad one, with at
-- most 1024 rules before it
pub record IsFirstBadLine (text : List ℕ) (number : ℕ) : Type 0 where
  pub rules : List Rule
  pub line : List ℕ
  pub up_to : IsReadUpTo text rules line
  pub bad : IsBadLine line rules
  pub number_is : number ≡ length up_to.before + 1

-- a further rule of a new name stands behind 1024 rules, and no bad line before it
pub record HasTooMany (text : List ℕ) : Type 0 where
  pub rules : List Rule
  pub line : List ℕ
  pub up_to : IsReadUpTo text rules line
  pub full : length rules ≡ 1024
  pub rule : Rule
  pub is : IsLineOf line rule
  pub new : ¬ IsTaken rule.name rules

-- how the reading of a text ends: it is a list of rules, or has a first bad line, or has too many rules
pub data Reading : Type 0 where
  list : List Rule → Reading
  bad_line : ℕ → Reading
  too_many : Reading

-- the reading of the text ends so
abbrev pub IsReadingOf : List ℕ → Reading → Type 0
IsReadingOf text (list rules) = IsRuleText text rules
IsReadingOf text (bad_line number) = IsFirstBadLine text number
IsReadingOf text too_many = HasTooMany text

-- the name of the rule of a number, counted from 0
abbrev pub name_at : List Rule → ℕ → List ℕ
name_at [] n = []
name_at (rule ∷ rules) zero = rule.name
name_at (rule ∷ rules) (suc n) = name_at rules n
