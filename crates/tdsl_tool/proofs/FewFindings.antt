-- How many findings there are at most: in a datagram one for each rule, and a datagram for each frame.
use Rattle.std.proofs.Common.{ℕ, ◌+◌, ◌*◌, ◌≤◌, List, [], ◌∷◌, ◌++◌, length, Option, Some, None, arith, length-append}
use Rattle.std.specs.Prelude.{filter_map}
use Rattle.std.specs.List.{flat_map, cons_option}
use Rattle.std.proofs.lemmas.List.{length-map}
use Rattle.capture_terms.specs.Capture.{Contents}
use Rattle.capture_terms.specs.Datagram.{datagram_from, payload_of}
use Rattle.capture_terms.specs.Plan.{kinds_of, tasks_of}
use Rattle.capture_terms.specs.declared.datagram.Header.{Header}
use Rattle.capture_terms.specs.declared.plan.Task.{Task}
use Rattle.rule_terms.specs.Match.{numbered, finding_of, findings_from, findings_of}
use Rattle.rule_terms.specs.Rule.{Rule}
use Rattle.inspection_terms.specs.Findings.{finding_number, findings_in, all_findings, findings_of_capture}
use Rattle.tdsl_tool.proofs.Planned.{kinds_long, few_tasks_of}

one_a_rule : (n : ℕ) (place : Option ℕ) (found : List (ℕ × ℕ)) → length (numbered n place ++ found) ≤ length found + 1
one_a_rule n None found = omega arith
one_a_rule n (Some place) found = omega arith

rules_few : (n : ℕ) (rules : List Rule) (header : Header) (payload : List ℕ) → length (findings_from n rules header payload) ≤ length rules
unfolding findings_from
rules_few n [] header payload = omega arith
rules_few n (rule ∷ rules) header payload =
    let rest = rules_few (n + 1) rules header payload in
    let step = one_a_rule n (finding_of rule header payload) (findings_from (n + 1) rules header payload) in
    omega (arith, rest, step)

datagram_few : (rules : List Rule) (bytes : List ℕ) (datagram : List Task) → length (findings_in rules bytes datagram) ≤ length rules
datagram_few rules bytes [] = omega arith
datagram_few rules bytes (first ∷ others) =
    let found = findings_of rules first.header (payload_of bytes (first ∷ others)) in
    omega (arith, rules_few 0 rules first.header (payload_of bytes (first ∷ others)), length-map found (finding_number first.frame))

one_an_item : {X : Type 0} (o : Option X) (xs : List X) → length (cons_option o xs) ≤ length xs + 1
one_an_item None xs = omega arith
one_an_item (Some x) xs = omega arith

some_items : {X Y : Type 0} (h : X → Option Y) (xs : List X) → length (filter_map h xs) ≤ length xs
some_items h [] = omega arith
some_items h (x ∷ xs) =
    let rest = some_items h xs in
    let step = one_an_item (h x) (filter_map h xs) in
    omega (arith, rest, step)

-- lists of three at most, one behind the other
three_each : {X Y : Type 0} (f : X → List Y) → ((x : X) → length (f x) ≤ 3) → (xs : List X) → length (flat_map f xs) ≤ 3 * length xs
three_each f few [] = omega arith
three_each f few (x ∷ xs) =
    let rest = three_each f few xs in
    omega (arith, rest, few x, length-append (f x) (flat_map f xs))

-- three rules at most find three times as many as a capture has frames
pub three_a_frame : (rules : List Rule) (bytes : List ℕ) (window : ℕ) (contents : Contents) → length rules ≤ 3 → length (findings_of_capture rules bytes window contents) ≤ 3 * length contents.frames
unfolding all_findings
three_a_frame rules bytes window contents few =
    let kinds = kinds_of bytes window contents in
    let tasks = tasks_of kinds in
    let found = three_each (findings_in rules bytes) (λ datagram. omega (arith, datagram_few rules bytes datagram, few)) (filter_map (datagram_from tasks) tasks) in
    omega (arith, found, some_items (datagram_from tasks) tasks, few_tasks_of kinds, kinds_long bytes window contents)
