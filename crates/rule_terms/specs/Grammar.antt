-- The words of a rule: `rule NAME proto PROTOCOL [sport N] [dport N] HAS [HAS ..]`, where HAS is
-- `has "PATTERN" [nocase] [from A] [to B]`.
use Rattle.std.specs.Prelude.{◌≡◌, ◌⊎◌, ℕ, ◌≤◌, Bool, true, false, ◌&&◌, ◌||◌, ◌==◌, nat_le, List, [], ◌∷◌, ◌++◌, length, Option, Some, None, IfSome, codes}
use Rattle.std.specs.List.{list_all}
use Rattle.std.specs.Fmt.{decimal}
use Rattle.rule_terms.specs.Rule.{Pattern, Rule}
use Rattle.rule_terms.specs.Words.{AreWords}
use Rattle.rule_terms.specs.PatternText.{IsPatternText}

abbrev pub is_digit : ℕ → Bool
is_digit c = nat_le 48 c && nat_le c 57

-- a letter, a digit, `_`, `-` or `.`
abbrev pub is_name_byte : ℕ → Bool
is_name_byte c = nat_le 97 c && nat_le c 122 || nat_le 65 c && nat_le c 90 || is_digit c || c == 95 || c == 45 || c == 46

-- 1 to 32 such bytes
unfoldable pub is_name : List ℕ → Bool
is_name name = nat_le 1 (length name) && nat_le (length name) 32 && list_all is_name_byte name

-- the word names this protocol, as IANA numbers them, or none
abbrev pub NamesProtocol : List ℕ → Option ℕ → Type 0
NamesProtocol word None = word ≡ codes "any"
NamesProtocol word (Some protocol) =
    ((word ≡ codes "icmp") × (protocol ≡ 1)) ⊎ (((word ≡ codes "tcp") × (protocol ≡ 6)) ⊎ (((word ≡ codes "udp") × (protocol ≡ 17)) ⊎ ((word ≡ decimal protocol) × (protocol ≤ 255))))

-- the words `KEY N`, where a number is given: decimal digits with no sign and no zero in front of others
abbrev pub number_words : List ℕ → Option ℕ → List (List ℕ)
number_words key None = []
number_words key (Some n) = key ∷ decimal n ∷ []

-- where a number is given, it is one from 0 to 65535
abbrev pub IsShort : Option ℕ → Type 0
IsShort number = IfSome number (λ n. n ≤ 65535)

abbrev pub nocase_words : Bool → List (List ℕ)
nocase_words false = []
nocase_words true = codes "nocase" ∷ []

-- the text in quotation marks, as one word
abbrev pub quoted : List ℕ → List ℕ
quoted text = 34 ∷ (text ++ 34 ∷ [])

-- the words of a pattern whose bytes are written as this text, and the further words behind them
abbrev pub has_words : List ℕ → Pattern → List (List ℕ) → List (List ℕ)
has_words text pattern further =
    codes "has" ∷ quoted text ∷ (nocase_words pattern.nocase ++ (number_words (codes "from") pattern.from ++ (number_words (codes "to") pattern.to ++ further)))

-- the words are HAS of this pattern, and the further words
pub record AreHas (words : List (List ℕ)) (pattern : Pattern) (further : List (List ℕ)) : Type 0 where
  pub text : List ℕ
  pub gives : IsPatternText text pattern.bytes
  pub from : IsShort pattern.from
  pub to : IsShort pattern.to
  pub split : words ≡ has_words text pattern further

-- the words are [HAS ..] of these patterns
abbrev pub AreHasWords : List (List ℕ) → List Pattern → Type 0
AreHasWords words [] = words ≡ []
AreHasWords words (pattern ∷ patterns) = (further : List (List ℕ)) × AreHas words pattern further × AreHasWords further patterns

-- the words are the rule, which has 1 to 8 patterns
pub record AreRuleWords (words : List (List ℕ)) (rule : Rule) : Type 0 where
  pub protocol : List ℕ
  pub has : List (List ℕ)
  pub further : List (List ℕ)
  pub split : words ≡ codes "rule" ∷ rule.name ∷ codes "proto" ∷ protocol
      ∷ (number_words (codes "sport") rule.source_port ++ (number_words (codes "dport") rule.destination_port ++ has))
  pub named : is_name rule.name ≡ true
  pub names : NamesProtocol protocol rule.protocol
  pub source : IsShort rule.source_port
  pub destination : IsShort rule.destination_port
  pub first : AreHas has rule.first further
  pub others : AreHasWords further rule.others
  pub few : length rule.others ≤ 7

-- the line is the rule
pub record IsRuleLine (line : List ℕ) (rule : Rule) : Type 0 where
  pub words : List (List ℕ)
  pub split : AreWords line words
  pub are : AreRuleWords words rule
