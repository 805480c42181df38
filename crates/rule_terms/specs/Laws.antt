-- What holds of rule texts and of findings, whatever they are.
use Rattle.std.specs.Prelude.{◌≡◌, ◌↔◌, ℕ, ◌≤◌, ◌<◌, List, length, Some, All, AllPairs}
use Rattle.capture_terms.specs.declared.datagram.Header.{Header}
use Rattle.rule_terms.specs.Rule.{Pattern, Rule}
use Rattle.rule_terms.specs.Grammar.{IsRuleLine}
use Rattle.rule_terms.specs.Reader.{read_rule}
use Rattle.rule_terms.specs.RuleText.{IsRuleText, Reading, IsReadingOf}
use Rattle.rule_terms.specs.Match.{place_of, IsLeastPlace, findings_of}

-- a line reads as a rule exactly where its words are the rule
abbrev pub LinesReadAsWritten : Type 0
LinesReadAsWritten = (line : List ℕ) (rule : Rule) → (read_rule line ≡ Some rule) ↔ IsRuleLine line rule

-- the reading of a text ends in one way only
abbrev pub TextHasOneReading : Type 0
TextHasOneReading = (text : List ℕ) (one other : Reading) → IsReadingOf text one → IsReadingOf text other → one ≡ other

-- a text is one list of rules only
abbrev pub RuleTextIsOne : Type 0
RuleTextIsOne = (text : List ℕ) (rules others : List Rule) → IsRuleText text rules → IsRuleText text others → rules ≡ others

-- the place that is reported is the least at which the pattern stands, and none only where it stands nowhere
abbrev pub PlacesAreLeast : Type 0
PlacesAreLeast = (pattern : Pattern) (payload : List ℕ) → IsLeastPlace pattern payload (place_of pattern payload)

-- the findings in a datagram are in order of their rules, and each rule has one at most
abbrev pub FindingsAscend : Type 0
FindingsAscend = (rules : List Rule) (header : Header) (payload : List ℕ) → AllPairs (λ (f later : ℕ × ℕ). f.0 < later.0) (findings_of rules header payload)

-- each finding is of a rule that is there, and its place is no further than the payload's end
abbrev pub FindingsAreThere : Type 0
FindingsAreThere = (rules : List Rule) (header : Header) (payload : List ℕ) → All (λ (f : ℕ × ℕ). (f.0 < length rules) × (f.1 ≤ length payload)) (findings_of rules header payload)
