-- Each finding in the datagrams of a plan has the number of a rule that is there.
use Rattle.std.proofs.Common.{◌≡◌, ℕ, suc, ◌+◌, ◌*◌, ◌^◌, ◌<◌, ◌≤◌, Bool, true, false, List, [], ◌∷◌, Option, None, Some, refl, subst, arith, length}
use Rattle.std.specs.Prelude.{◌/◌, ◌%◌, All, slice_get, filter_map, ◌&&◌, ◌==◌, if◌then◌else◌}
use Rattle.std.specs.List.{flat_map, cons_option}
use Rattle.std.specs.Option.{option_map_or}
use Rattle.std.proofs.lemmas.List.Elements.{All-append, All-map, All-nil}
use Rattle.std.proofs.lemmas.List.FromFn.{length-map-range_with_len}
use Rattle.std.proofs.lemmas.List.Sums.{sum_by-cons}
use Rattle.capture_terms.specs.Datagram.{end_of_task, size_of, members, is_complete, group_from, datagram_from, byte_at, payload_of}
use Rattle.capture_terms.specs.Groups.{AreGrouped}
use Rattle.capture_terms.specs.declared.plan.Group.{Group}
use Rattle.capture_terms.specs.declared.plan.Task.{Task}
use Rattle.inspection_terms.specs.Findings.{finding_number, findings_in, all_findings}
use Rattle.rule_terms.specs.Laws.{FindingsAreThere}
use Rattle.rule_terms.specs.Match.{findings_of}
use Rattle.rule_terms.specs.Rule.{Rule}

rule_in : (frame rule place : ℕ) → rule < 65536 → place ≤ 65535 → (frame * 2 ^ 32 + rule * 2 ^ 16 + place) / 2 ^ 16 % 2 ^ 16 ≡ rule
rule_in frame rule place low short = omega arith

module _ (rules : List Rule) (bytes : List ℕ) (few : length rules ≤ 1024) (there : FindingsAreThere) where
  abbrev HasRule : ℕ → Type 0
  HasRule f = f / 2 ^ 16 % 2 ^ 16 < length rules

  numbered : (frame rule place : ℕ) → rule < length rules → place ≤ 65535 → HasRule (frame * 2 ^ 32 + rule * 2 ^ 16 + place)
  numbered frame rule place low short = let is = rule_in frame rule place (omega arith) short in omega arith

  of_datagram : (first : Task) (others : List Task) → size_of (first ∷ others) ≤ 65535 → All HasRule (findings_in rules bytes (first ∷ others))
  of_datagram first others short =
      let payload : List ℕ = payload_of bytes (first ∷ others) in
      let long : length payload ≡ size_of (first ∷ others) = length-map-range_with_len (byte_at bytes (first ∷ others)) 0 (size_of (first ∷ others)) in
      All-map HasRule (finding_number first.frame) (findings_of rules first.header payload)
      (λ k d lt. let at = there rules first.header payload k d lt in let low = at.1 in numbered first.frame _ _ at.0 (omega arith))

  module _ (tasks : List Task) (groups : List Group) (grouped : AreGrouped tasks groups) where
    of_members : (h : ℕ) (ms : List Task) → members tasks h ≡ ms → All HasRule (findings_in rules bytes ms)
    of_members h [] is = All-nil HasRule
    of_members h (first ∷ others) is = of_datagram first others (subst (λ (l : List Task). size_of l ≤ 65535) is (grouped.bounded h))

    of_group : (h : ℕ) (b : Bool) → All HasRule (option_map_or (findings_in rules bytes) (if b then Some (members tasks h) else None) [])
    of_group h true = of_members h (members tasks h) refl
    of_group h false = All-nil HasRule

    of_task : (t : Task) → end_of_task t ≤ 65535 → (g : Option ℕ) → All HasRule (option_map_or (findings_in rules bytes) (option_map_or (group_from tasks t) g (Some (t ∷ []))) [])
    of_task t short None = of_datagram t [] (let size = sum_by-cons (λ (s : Task). s.length) t [] in omega arith)
    of_task t short (Some h) = of_group h (option_map_or (λ (first : Task). first.frame == t.frame) (slice_get (members tasks h) 0) false && is_complete (members tasks h))

    with_option : (o : Option (List Task)) (ds : List (List Task)) → All HasRule (option_map_or (findings_in rules bytes) o []) → All HasRule (flat_map (findings_in rules bytes) ds)
        → All HasRule (flat_map (findings_in rules bytes) (cons_option o ds))
    with_option None ds here behind = behind
    with_option (Some d) ds here behind = All-append HasRule (findings_in rules bytes d) (flat_map (findings_in rules bytes) ds) here behind

    of_tasks : (ts : List Task) → All (λ (t : Task). end_of_task t ≤ 65535) ts → All HasRule (flat_map (findings_in rules bytes) (filter_map (datagram_from tasks) ts))
    of_tasks [] short = All-nil HasRule
    of_tasks (t ∷ ts) short =
        with_option (datagram_from tasks t) (filter_map (datagram_from tasks) ts) (of_task t (short 0 t (omega arith)) t.group) (of_tasks ts (λ k d lt. short (suc k) d (omega arith)))

    pub rules_there : All HasRule (all_findings rules bytes tasks)
    unfolding all_findings
    rules_there = of_tasks tasks grouped.short
