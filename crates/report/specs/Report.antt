-- The text of a report: eleven lines of counts, and a line for each finding. The text is this project's own.
use Rattle.std.specs.Prelude.{ℕ, ◌+◌, ◌-◌, ◌/◌, ◌%◌, ◌^◌, Bool, true, false, List, [], ◌∷◌, ◌++◌, length, map, codes, count_by}
use Rattle.std.specs.List.{flat_map}
use Rattle.std.specs.Fmt.{decimal}
use Rattle.capture_terms.specs.Capture.{Contents}
use Rattle.capture_terms.specs.declared.plan.Group.{Group}
use Rattle.capture_terms.specs.declared.datagram.Class.{Class}
use Rattle.capture_terms.specs.declared.datagram.Class.TheVariants.{Other, Bad, Cut, Whole, Kept, Aside}
use Rattle.rule_terms.specs.Rule.{Rule}
use Rattle.rule_terms.specs.RuleText.{name_at}

-- a line of a report: its words, joined by single spaces
abbrev pub Line : Type 0
Line = List ℕ

-- lines, each ended by a line feed
abbrev pub ended : Line → List ℕ
ended line = line ++ 10 ∷ []

abbrev pub text_of : List Line → List ℕ
text_of lines = flat_map ended lines

abbrev pub is_class : Class → Class → Bool
is_class Other Other = true
is_class Bad Bad = true
is_class Cut Cut = true
is_class Whole Whole = true
is_class Kept Kept = true
is_class Aside Aside = true
is_class wanted class = false

-- how many frames have this class, among those of these classes
abbrev pub frames_of : Class → List Class → ℕ
frames_of wanted classes = count_by (λ class. is_class wanted class) classes

-- what is counted of a capture, by its word, in the order of the lines; the datagrams are the whole
-- frames and the groups that are complete
unfoldable pub counts_of : Contents → List Class → List Group → ℕ → ℕ → List (List ℕ × ℕ)
counts_of contents classes groups incomplete findings =
    (codes "frames", length contents.frames)
    ∷ (codes "other", frames_of Other classes)
    ∷ (codes "bad", frames_of Bad classes)
    ∷ (codes "cut", frames_of Cut classes)
    ∷ (codes "whole", frames_of Whole classes)
    ∷ (codes "kept", frames_of Kept classes)
    ∷ (codes "aside", frames_of Aside classes)
    ∷ (codes "torn", contents.torn)
    ∷ (codes "datagrams", frames_of Whole classes + (length groups - incomplete))
    ∷ (codes "incomplete", incomplete)
    ∷ (codes "findings", findings)
    ∷ []

abbrev pub count_line : List ℕ × ℕ → Line
count_line count = count.0 ++ 32 ∷ decimal count.1

-- a finding as one number: frame * 2^32 + rule * 2^16 + place
abbrev pub frame_of : ℕ → ℕ
frame_of finding = finding / 2 ^ 32

abbrev pub rule_of : ℕ → ℕ
rule_of finding = finding / 2 ^ 16 % 2 ^ 16

abbrev pub place_of : ℕ → ℕ
place_of finding = finding % 2 ^ 16

-- the first frame of the datagram, the name of the rule, and the least place of its first pattern
abbrev pub finding_line : List Rule → ℕ → Line
finding_line rules finding = codes "finding " ++ decimal (frame_of finding) ++ 32 ∷ name_at rules (rule_of finding) ++ 32 ∷ decimal (place_of finding)

-- the lines of the report of a capture, whose frames have these classes and whose kept fragments these groups
abbrev pub report_lines : Contents → List Class → List Group → List Rule → ℕ → List ℕ → List Line
report_lines contents classes groups rules incomplete findings =
    map count_line (counts_of contents classes groups incomplete (length findings)) ++ map (finding_line rules) findings
