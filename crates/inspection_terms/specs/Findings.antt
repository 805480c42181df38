-- What the rules find in a capture.
use Rattle.std.specs.Prelude.{ℕ, ◌+◌, ◌*◌, ◌^◌, List, [], ◌∷◌, map}
use Rattle.std.specs.List.{flat_map}
use Rattle.capture_terms.specs.Capture.{Contents}
use Rattle.capture_terms.specs.Datagram.{datagrams, payload_of}
use Rattle.capture_terms.specs.Plan.{kinds_of, tasks_of}
use Rattle.capture_terms.specs.declared.plan.Task.{Task}
use Rattle.rule_terms.specs.Match.{findings_of}
use Rattle.rule_terms.specs.Rule.{Rule}

-- a finding as one number: the number of its datagram's first frame, that of its rule, and its place
abbrev pub finding_number : ℕ → ℕ × ℕ → ℕ
finding_number frame found = frame * 2 ^ 32 + found.0 * 2 ^ 16 + found.1

-- the findings in a datagram with these tasks, told by its first frame
abbrev pub findings_in : List Rule → List ℕ → List Task → List ℕ
findings_in rules bytes [] = []
findings_in rules bytes (first ∷ others) =
    map (finding_number first.frame) (findings_of rules first.header (payload_of bytes (first ∷ others)))

-- the findings in the datagrams of a plan's tasks, in order of their first frames
unfoldable pub all_findings : List Rule → List ℕ → List Task → List ℕ
all_findings rules bytes tasks = flat_map (findings_in rules bytes) (datagrams tasks)

-- the findings of rules in a capture, whose generations are parted by a window of so many seconds
abbrev pub findings_of_capture : List Rule → List ℕ → ℕ → Contents → List ℕ
findings_of_capture rules bytes window contents = all_findings rules bytes (tasks_of (kinds_of bytes window contents))
