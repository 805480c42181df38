-- The findings in the datagrams of a plan ascend: those in one datagram do, and lie between those in the
-- datagrams before it and behind it.
use Rattle.std.proofs.Common.{◌≡◌, ℕ, suc, ◌+◌, ◌*◌, ◌^◌, ◌<◌, ◌≤◌, Bool, true, false, List, [], ◌∷◌, ◌++◌, Option, None, Some, refl, sym, ◌∙◌, ap, subst, arith, length, get_or}
use Rattle.std.specs.Prelude.{All, AllPairs, map, slice_get, filter_map, ◌&&◌, ◌==◌, if◌then◌else◌}
use Rattle.std.specs.List.{flat_map, cons_option}
use Rattle.std.specs.Option.{option_map_or}
use Rattle.std.proofs.lemmas.Bool.Decides.{nat_tests}
use Rattle.std.proofs.lemmas.List.Elements.{All-append, All-map}
use Rattle.std.proofs.lemmas.List.FromFn.{length-map-range_with_len}
use Rattle.std.proofs.lemmas.List.Kept.{AllPairs-cons}
use Rattle.std.proofs.lemmas.List.Sums.{sum_by-cons}
use Rattle.capture_terms.specs.Datagram.{end_of_task, size_of, members, is_complete, group_from, datagram_from, byte_at, payload_of}
use Rattle.capture_terms.specs.Groups.{AreGrouped}
use Rattle.capture_terms.specs.declared.plan.Group.{Group}
use Rattle.capture_terms.specs.declared.plan.Task.{Task}
use Rattle.rule_terms.specs.Laws as rule
use Rattle.rule_terms.specs.Match.{findings_of}
use Rattle.rule_terms.specs.Rule.{Rule}
use Rattle.inspection_terms.specs.Findings.{finding_number, findings_in, all_findings}

-- ---- lists in which each pair is related

pairs_map : {X Y : Type 0} (R : Y → Y → Type 0) (f : X → Y) (xs : List X) → AllPairs (λ a b. R (f a) (f b)) xs → AllPairs R (map f xs)
pairs_map R f [] pairs = λ i j d less lt. absurd (omega arith)
pairs_map R f (x ∷ xs) pairs = AllPairs-cons R (f x) (map f xs) (All-map (R (f x)) f xs (λ k d lt. pairs 0 (suc k) d (omega arith) (omega arith))) (pairs_map R f xs (λ i j d less lt. pairs (suc i) (suc j) d (omega arith) (omega arith)))

pairs_append : {X : Type 0} (R : X → X → Type 0) (xs ys : List X) → AllPairs R xs → AllPairs R ys → All (λ x. All (R x) ys) xs → AllPairs R (xs ++ ys)
pairs_append R [] ys here there across = there
pairs_append R (x ∷ xs) ys here there across =
    AllPairs-cons R x (xs ++ ys) (All-append (R x) xs ys (λ k d lt. here 0 (suc k) d (omega arith) (omega arith)) (across 0 x (omega arith)))
    (pairs_append R xs ys (λ i j d less lt. here (suc i) (suc j) d (omega arith) (omega arith)) there (λ k d lt. across (suc k) d (omega arith)))

-- ---- the findings of one datagram

abbrev IsLess : ℕ → ℕ → Type 0
IsLess f later = f < later

-- numbers of findings in a datagram that begins with this frame
record AreOf (frame : ℕ) (found : List ℕ) : Type 0 where
  ascend : AllPairs IsLess found
  low : All (λ f. frame * 2 ^ 32 ≤ f) found
  high : All (λ f. f < (frame + 1) * 2 ^ 32) found

none_of : (frame : ℕ) → AreOf frame []
none_of frame = record { ascend = λ i j d less lt. absurd (omega arith); low = λ k d lt. absurd (omega arith); high = λ k d lt. absurd (omega arith) }

less_number : (frame a b c d : ℕ) → a < c → b ≤ 65535 → frame * 2 ^ 32 + a * 2 ^ 16 + b < frame * 2 ^ 32 + c * 2 ^ 16 + d
less_number frame a b c d less short = omega arith

high_number : (frame a b : ℕ) → a < 65536 → b ≤ 65535 → frame * 2 ^ 32 + a * 2 ^ 16 + b < (frame + 1) * 2 ^ 32
high_number frame a b few short = omega arith

numbers_of : (frame : ℕ) (found : List (ℕ × ℕ)) → AllPairs (λ f later. f.0 < later.0) found → All (λ f. (f.0 < 65536) × (f.1 ≤ 65535)) found → AreOf frame (map (finding_number frame) found)
numbers_of frame found ascend each = record {
  ascend = pairs_map IsLess (finding_number frame) found (λ i j d less lt. less_number frame (get_or found i d).0 (get_or found i d).1 (get_or found j d).0 (get_or found j d).1 (ascend i j d less lt) (each i d (omega arith)).1);
  low = All-map (λ f. frame * 2 ^ 32 ≤ f) (finding_number frame) found (λ k d lt. omega arith);
  high = All-map (λ f. f < (frame + 1) * 2 ^ 32) (finding_number frame) found (λ k d lt. high_number frame (get_or found k d).0 (get_or found k d).1 (each k d lt).0 (each k d lt).1);
}

module _ (rules : List Rule) (bytes : List ℕ) (few : length rules ≤ 65536) (rises : rule.FindingsAscend) (there : rule.FindingsAreThere) where
  datagram_of : (first : Task) (others : List Task) → size_of (first ∷ others) ≤ 65535 → AreOf first.frame (findings_in rules bytes (first ∷ others))
  datagram_of first others short =
      let payload : List ℕ = payload_of bytes (first ∷ others) in
      let long : length payload ≡ size_of (first ∷ others) = length-map-range_with_len (byte_at bytes (first ∷ others)) 0 (size_of (first ∷ others)) in
      numbers_of first.frame (findings_of rules first.header payload) (rises rules first.header payload)
      (λ k d lt. let at = there rules first.header payload k d lt in (omega (arith, at.0), omega (arith, at.1)))

  module _ (tasks : List Task) (groups : List Group) (grouped : AreGrouped tasks groups) where
    abbrev values : Task → List ℕ
    values t = option_map_or (findings_in rules bytes) (datagram_from tasks t) []

    values_of_task : (t : Task) → end_of_task t ≤ 65535 → AreOf t.frame (values t)
    values_of_task t short = by_case t.group
      where
        same : (a b : ℕ) → (a == b) ≡ true → a ≡ b
        same a b e = grind (arith, nat_tests)

        first_of_both : (a b : Bool) → (a && b) ≡ true → a ≡ true
        first_of_both true b e = refl
        first_of_both false b e = e

        begun : (h : ℕ) (ms : List Task) → members tasks h ≡ ms → option_map_or (λ (first : Task). first.frame == t.frame) (slice_get ms 0) false ≡ true → AreOf t.frame (findings_in rules bytes ms)
        begun h [] is e = absurd (cc)
        begun h (first ∷ others) is e =
            let bounded : size_of (first ∷ others) ≤ 65535 = subst (λ (l : List Task). size_of l ≤ 65535) is (grouped.bounded h) in
            subst (λ (n : ℕ). AreOf n (findings_in rules bytes (first ∷ others))) (same first.frame t.frame e) (datagram_of first others bounded)

        of_group : (h : ℕ) (b : Bool) → (option_map_or (λ (first : Task). first.frame == t.frame) (slice_get (members tasks h) 0) false && is_complete (members tasks h)) ≡ b
            → AreOf t.frame (option_map_or (findings_in rules bytes) (if b then Some (members tasks h) else None) [])
        of_group h true e = begun h (members tasks h) refl (first_of_both (option_map_or (λ (first : Task). first.frame == t.frame) (slice_get (members tasks h) 0) false) (is_complete (members tasks h)) e)
        of_group h false e = none_of t.frame

        by_case : (g : Option ℕ) → AreOf t.frame (option_map_or (findings_in rules bytes) (option_map_or (group_from tasks t) g (Some (t ∷ []))) [])
        by_case None = datagram_of t [] (let size = sum_by-cons (λ (s : Task). s.length) t [] in omega arith)
        by_case (Some h) = of_group h (option_map_or (λ (first : Task). first.frame == t.frame) (slice_get (members tasks h) 0) false && is_complete (members tasks h)) refl

    -- ---- one datagram behind the other

    abbrev AreShort : List Task → Type 0
    AreShort ts = All (λ (t : Task). end_of_task t ≤ 65535) ts

    all_low : (m : ℕ) (ts : List Task) → AreShort ts → All (λ (t : Task). m ≤ t.frame) ts → All (λ f. m * 2 ^ 32 ≤ f) (flat_map values ts)
    all_low m [] short later = λ k d lt. absurd (omega arith)
    all_low m (t ∷ ts) short later =
        let after : m ≤ t.frame = later 0 t (omega arith) in
        let here = values_of_task t (short 0 t (omega arith)) in
        All-append (λ f. m * 2 ^ 32 ≤ f) (values t) (flat_map values ts)
        (λ k d lt. let l = here.low k d lt in omega arith)
        (all_low m ts (λ k d lt. short (suc k) d (omega arith)) (λ k d lt. later (suc k) d (omega arith)))

    all_ascend : (ts : List Task) → AreShort ts → AllPairs (λ (s t : Task). s.frame < t.frame) ts → AllPairs IsLess (flat_map values ts)
    all_ascend [] short pairs = λ i j d less lt. absurd (omega arith)
    all_ascend (t ∷ ts) short pairs =
        let here = values_of_task t (short 0 t (omega arith)) in
        let behind : All (λ f. (t.frame + 1) * 2 ^ 32 ≤ f) (flat_map values ts) = all_low (t.frame + 1) ts (λ k d lt. short (suc k) d (omega arith)) (λ k d lt. let l : t.frame < (get_or ts k d).frame = pairs 0 (suc k) d (omega arith) (omega arith) in omega arith) in
        pairs_append IsLess (values t) (flat_map values ts) here.ascend (all_ascend ts (λ k d lt. short (suc k) d (omega arith)) (λ i j d less lt. pairs (suc i) (suc j) d (omega arith) (omega arith)))
        (λ k d lt i e in_rest. let h = here.high k d lt in let b = behind i e in_rest in omega arith)

    with_option : (o : Option (List Task)) (ds : List (List Task)) → flat_map (findings_in rules bytes) (cons_option o ds) ≡ option_map_or (findings_in rules bytes) o [] ++ flat_map (findings_in rules bytes) ds
    with_option None ds = refl
    with_option (Some d) ds = refl

    by_tasks : (ts : List Task) → flat_map (findings_in rules bytes) (filter_map (datagram_from tasks) ts) ≡ flat_map values ts
    by_tasks [] = refl
    by_tasks (t ∷ ts) = with_option (datagram_from tasks t) (filter_map (datagram_from tasks) ts) ∙ ap (λ (l : List ℕ). values t ++ l) (by_tasks ts)

    pub findings_rise : AllPairs (λ (s t : Task). s.frame < t.frame) tasks → AllPairs (λ f later. f < later) (all_findings rules bytes tasks)
    unfolding all_findings
    findings_rise pairs = subst (AllPairs IsLess) (sym (by_tasks tasks)) (all_ascend tasks grouped.short pairs)
