-- A filter of rules by four bytes of their first patterns.
--
-- A table gives each slot a mark; a slot is what four bytes in a row are, as far as their lowest bits tell. The four bytes
-- from each of the places 0, 1, 2 and 3 of a pattern lie in slots of one mark, so wherever the pattern stands in a payload,
-- some slot of its places 0, 4, 8 and so on has that mark.
use Rattle.std.specs.List.{list_any}
use Rattle.std.specs.Prelude.{◌≡◌, ◌≢◌, ◌||◌, ℕ, ◌+◌, ◌*◌, ◌%◌, ◌<◌, ◌≤◌, Bool, true, false, List, length, slice_index, slice_index_or, None}
use Rattle.rule_terms.specs.Rule.{Pattern, Rule}
use Rattle.rule_terms.specs.Match.{place_of}

-- the slot of four bytes: letters that differ in their case alone have the same lowest five bits
unfoldable pub slot : ℕ → ℕ → ℕ → ℕ → ℕ
slot a b c d = a % 32 + 32 * (b % 32) + 1024 * (c % 32) + 32768 * (d % 32 % 8)

-- the slot of the four bytes from this place on
abbrev pub slot_of : List ℕ → ℕ → ℕ
slot_of bytes at = slot (slice_index bytes at) (slice_index bytes (at + 1)) (slice_index bytes (at + 2)) (slice_index bytes (at + 3))

-- each slot has a mark from 1 to 1024, or 0 for none
pub record IsTable (table : List ℕ) : Type 0 where
  pub size : length table ≡ 262144
  pub small : (k : ℕ) → slice_index table k ≤ 1024

-- the slots of the pattern's places 0 to 3 have this mark
pub record HasMark (table : List ℕ) (pattern : Pattern) (mark : ℕ) : Type 0 where
  pub long : 7 ≤ length pattern.bytes
  pub slots : (o : ℕ) → o < 4 → slice_index table (slot_of pattern.bytes o) ≡ mark

-- a rule of mark 0 is looked for in every payload
abbrev pub IsMarked : List ℕ → Rule → ℕ → Type 0
IsMarked table rule mark = (mark ≢ 0) → HasMark table rule.first mark

-- each rule has its mark
pub record AreMarked (table marks : List ℕ) (rules : List Rule) : Type 0 where
  pub count : length marks ≡ length rules
  pub small : (k : ℕ) → slice_index marks k ≤ 1024
  pub each : (k : ℕ) (rule : Rule) → k < length rules → slice_index_or rules k rule ≡ rule → IsMarked table rule (slice_index marks k)

-- no mark is lost from one table to the next
pub record KeepsMarks (old new : List ℕ) : Type 0 where
  pub size : length new ≡ length old
  pub marks : (k : ℕ) → slice_index old k ≢ 0 → slice_index new k ≡ slice_index old k

-- the marks of the payload's places 0, 4, 8 and so on were seen
abbrev pub AreSeen : List ℕ → List ℕ → List Bool → Type 0
AreSeen table payload seen = (j : ℕ) → 4 * j + 4 ≤ length payload → slice_index_or seen (slice_index table (slot_of payload (4 * j))) false ≡ true

-- a rule whose mark wasn't seen has no place for its first pattern
abbrev pub RulesOut : List ℕ → List Bool → List Rule → List ℕ → Type 0
RulesOut marks seen rules payload =
    (k : ℕ) (rule : Rule) → k < length rules → slice_index_or rules k rule ≡ rule → slice_index marks k ≢ 0 → slice_index_or seen (slice_index marks k) true ≡ false → place_of rule.first payload ≡ None

-- the pattern is looked for in the payload in lower case
abbrev pub lowers : Pattern → Bool
lowers pattern = pattern.nocase

-- one of the rule's patterns is
abbrev pub rule_lowers : Rule → Bool
rule_lowers rule = rule.first.nocase || list_any lowers rule.others

-- what is kept beside the rules
pub record IsIndexed (rules : List Rule) (table marks : List ℕ) (folds : Bool) : Type 0 where
  pub slots : IsTable table
  pub each : AreMarked table marks rules
  pub lower : folds ≡ list_any rule_lowers rules
