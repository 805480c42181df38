-- The groups of a plan are those of its tasks.
use Rattle.std.proofs.Common.{◌≡◌, ℕ, zero, suc, ◌+◌, ◌<◌, ◌≤◌, Bool, true, false, List, [], ◌∷◌, ◌++◌, Option, None, Some, refl, sym, ◌∙◌, ap, subst, inl, inr, arith, length, get_or, eq-eqb, append_assoc}
use Rattle.std.specs.Prelude.{All, AllPairs, Contains, option_to_list, fold, nat_lt, ◌==◌, ◌||◌, if◌then◌else◌}
use Rattle.std.specs.List.{list_any, position_or_len}
use Rattle.std.specs.Option.{option_map_or}
use Rattle.std.proofs.lemmas.Bool.Decides.{nat_tests}
use Rattle.std.proofs.lemmas.List.{append-nil}
use Rattle.std.proofs.lemmas.List.Elements.{All-push, Contains-append_left, Contains-append_right, Contains-push}
use Rattle.std.proofs.lemmas.List.Quantifiers.{all_pairs_push, position-Some}
use Rattle.std.proofs.lemmas.List.Sums.{position_or_len_is}
use Rattle.std.proofs.lemmas.Option.{slice_get-get_or}
use Rattle.capture_terms.specs.Capture.{contents_of}
use Rattle.capture_terms.specs.declared.capture.Capture.{Capture}
use Rattle.capture_terms.specs.declared.datagram.Class.{Class}
use Rattle.capture_terms.specs.declared.datagram.Class.TheVariants as class
use Rattle.capture_terms.specs.declared.datagram.Kind.{Kind}
use Rattle.capture_terms.specs.declared.datagram.Kind.TheVariants.{Whole, Fragment}
use Rattle.capture_terms.specs.declared.datagram.Piece.{Piece}
use Rattle.capture_terms.specs.declared.plan.Group.{Group}
use Rattle.capture_terms.specs.declared.plan.Plan.{Plan}
use Rattle.capture_terms.specs.declared.plan.Task.{Task}
use Rattle.capture_terms.specs.Kept.{group_of, is_same_group, classes_of, kept_of, kept_among, kept_piece}
use Rattle.capture_terms.specs.Plan.{group_number, with_group_of, groups_among, groups_of, task_of, task_at, tasks_from, tasks_of, kinds_of, IsClassifiable, IsPlan}
use Rattle.capture_terms.specs.Datagram.{end_of_task, size_of, is_member, members}
use Rattle.capture_terms.specs.Groups.{AreNotBothLast, AreGrouped}
use Rattle.capture_terms.proofs.Filters.{contains_filter}
use Rattle.capture_terms.proofs.Places.{packed_most}
use Rattle.capture_terms.proofs.PlanLaw.{packed_before, packed_short, plan_kinds, tasks_fine, tasks_together}
use Rattle.capture_terms.proofs.PlanSound.{TaskSound}
use Rattle.capture_terms.proofs.PlanTasks.{Together, Fits, with_option, All-cons}

-- Each group is that of a kept fragment, and none stands twice.

abbrev IsOf : List Piece → Group → Type 0
IsOf pieces group = (p : Piece) × Contains pieces p × (group_of p ≡ group)

-- a later group is not the same as an earlier one
abbrev Differ : Group → Group → Type 0
Differ g h = is_same_group h g ≡ false

record AreOf (pieces : List Piece) (groups : List Group) : Type 0 where
  differ : AllPairs Differ groups
  each : All (IsOf pieces) groups

itself : (g : Group) → is_same_group g g ≡ true
itself g = grind (arith, nat_tests)

none_of : {X : Type 0} (p : X → Bool) (xs : List X) → list_any p xs ≡ false → (k : ℕ) (d : X) → k < length xs → p (get_or xs k d) ≡ false
none_of p [] none k d lt = absurd (omega arith)
none_of p (x ∷ xs) none zero d lt = first_fails (p x) (list_any p xs) none
  where
    first_fails : (a b : Bool) → (a || b) ≡ false → a ≡ false
    first_fails true b none = none
    first_fails false b none = refl
none_of p (x ∷ xs) none (suc k) d lt = none_of p xs (rest_fails (p x) (list_any p xs) none) k d (omega arith)
  where
    rest_fails : (a b : Bool) → (a || b) ≡ false → b ≡ false
    rest_fails true b none = absurd (cc)
    rest_fails false b none = none

one_more : (pieces : List Piece) (groups : List Group) (f : Piece) → AreOf pieces groups → AreOf (pieces ++ f ∷ []) (with_group_of groups f)
one_more pieces groups f are = by_case (list_any (is_same_group (group_of f)) groups) refl
  where
    kept : All (IsOf (pieces ++ f ∷ [])) groups
    kept k d lt = let it = are.each k d lt in (it.0, Contains-append_left pieces (f ∷ []) it.0 it.1, it.2)

    by_case : (b : Bool) → list_any (is_same_group (group_of f)) groups ≡ b → AreOf (pieces ++ f ∷ []) (if b then groups else groups ++ group_of f ∷ [])
    by_case true there = record { differ = are.differ; each = kept }
    by_case false new = record {
      differ = all_pairs_push Differ groups (group_of f) are.differ (none_of (is_same_group (group_of f)) groups new);
      each = All-push (IsOf (pieces ++ f ∷ [])) groups (group_of f) kept (f, Contains-push pieces f, refl);
    }

all_more : (pieces more : List Piece) (groups : List Group) → AreOf pieces groups → (all : List Piece) → pieces ++ more ≡ all → AreOf all (fold with_group_of groups more)
all_more pieces [] groups are all is = subst (λ (l : List Piece). AreOf l groups) (sym (append-nil pieces) ∙ is) are
all_more pieces (f ∷ more) groups are all is = all_more (pieces ++ f ∷ []) more (with_group_of groups f) (one_more pieces groups f are) all (append_assoc pieces (f ∷ []) more ∙ is)

groups_are : (pieces : List Piece) → AreOf pieces (groups_among pieces)
groups_are pieces = all_more [] pieces [] (record { differ = λ i j d less lt. absurd (omega arith); each = λ k d lt. absurd (omega arith) }) pieces refl

-- so the number of a group is that of its fragments
number_of_group : (groups : List Group) (p : Piece) (number : ℕ) (d : Group) → AllPairs Differ groups → number < length groups → group_of p ≡ get_or groups number d → group_number groups p ≡ Some number
number_of_group groups p number d differ lt is =
    let test : Group → Bool = is_same_group (group_of p) in
    let at : position_or_len test groups ≡ number = position_or_len_is test groups number d (omega arith)
    (λ k less. ap (λ (g : Group). is_same_group g (get_or groups k d)) is ∙ differ k number d less lt)
    (λ _. ap (λ (g : Group). is_same_group (group_of p) g) (sym is) ∙ itself (group_of p)) in
    let inside : nat_lt (position_or_len test groups) (length groups) ≡ true = grind (arith, nat_tests) in
    rw inside (ap Some at)

-- Each kept fragment has a task.

module _ (groups : List Group) where
  head_task : (n : ℕ) (c : Class) (k : Kind) (p : Piece) → kept_piece c k ≡ Some p → task_at groups n c k ≡ Some (task_of n (group_number groups p) p)
  head_task n class.Kept (Fragment f) p is = let same : f ≡ p = cc in ap (λ (q : Piece). Some (task_of n (group_number groups q) q)) same
  head_task n _ _ p is = absurd (cc)

  abbrev HasTask : List Task → Piece → Type 0
  HasTask tasks p = (t : Task) × Contains tasks t × (t.group ≡ group_number groups p)

  kept_has_task : (n : ℕ) (classes : List Class) (kinds : List Kind) (p : Piece) → Contains (kept_among classes kinds) p → HasTask (tasks_from groups n classes kinds) p
  kept_has_task n [] kinds p among = absurd (omega (arith, among.1))
  kept_has_task n (c ∷ classes) [] p among = absurd (omega (arith, among.1))
  kept_has_task n (c ∷ classes) (k ∷ kinds) p among = by_case (kept_piece c k) refl among (kept_has_task (n + 1) classes kinds p)
    where
      later : HasTask (tasks_from groups (n + 1) classes kinds) p → HasTask (tasks_from groups n (c ∷ classes) (k ∷ kinds)) p
      later it = (it.0, Contains-append_right (option_to_list (task_at groups n c k)) (tasks_from groups (n + 1) classes kinds) it.0 it.1, it.2)

      here : (f : Piece) → kept_piece c k ≡ Some f → f ≡ p → HasTask (tasks_from groups n (c ∷ classes) (k ∷ kinds)) p
      here f is same = (task_of n (group_number groups f) f, (rw (head_task n c k f is) (0, omega arith, refl)), ap (group_number groups) same)

      by_case : (o : Option Piece) → kept_piece c k ≡ o → Contains (option_to_list o ++ kept_among classes kinds) p → (Contains (kept_among classes kinds) p → HasTask (tasks_from groups (n + 1) classes kinds) p) → HasTask (tasks_from groups n (c ∷ classes) (k ∷ kinds)) p
      by_case None is inside rest = later (rest inside)
      by_case (Some f) is (zero, lt, same) rest = here f is same
      by_case (Some f) is (suc i, lt, same) rest = later (rest (i, omega arith, same))

  -- and no task has a number past the groups
  head_numbered : (n : ℕ) (c : Class) (k : Kind) → All (λ (t : Task). (number : ℕ) → t.group ≡ Some number → number < length groups) (option_to_list (task_at groups n c k))
  head_numbered n class.Whole (Whole p) = All-cons (λ (t : Task). (number : ℕ) → t.group ≡ Some number → number < length groups) (task_of n None p) [] (λ number is. absurd (cc)) (λ i d lt. absurd (omega arith))
  head_numbered n class.Kept (Fragment p) = All-cons (λ (t : Task). (number : ℕ) → t.group ≡ Some number → number < length groups) (task_of n (group_number groups p) p) [] (λ number is. (position-Some (is_same_group (group_of p)) groups number (group_of p) is).0) (λ i d lt. absurd (omega arith))
  head_numbered n _ _ = λ i d lt. absurd (omega arith)

  all_numbered : (n : ℕ) (classes : List Class) (kinds : List Kind) → All (λ (t : Task). (number : ℕ) → t.group ≡ Some number → number < length groups) (tasks_from groups n classes kinds)
  all_numbered n [] kinds = λ i d lt. absurd (omega arith)
  all_numbered n (c ∷ classes) [] = λ i d lt. absurd (omega arith)
  all_numbered n (c ∷ classes) (k ∷ kinds) = with_option (λ (t : Task). (number : ℕ) → t.group ≡ Some number → number < length groups) (task_at groups n c k) (tasks_from groups (n + 1) classes kinds) (head_numbered n c k) (all_numbered (n + 1) classes kinds)

plan_numbered : (kinds : List Kind) → All (λ (t : Task). (number : ℕ) → t.group ≡ Some number → number < length (groups_of kinds)) (tasks_of kinds)
unfolding tasks_of
plan_numbered kinds = all_numbered (groups_of kinds) 0 (classes_of kinds) kinds

plan_inhabited : (kinds : List Kind) (number : ℕ) → number < length (groups_of kinds) → (task : Task) × Contains (tasks_of kinds) task × (task.group ≡ Some number)
unfolding tasks_of groups_of kept_of
plan_inhabited kinds number lt =
    let groups : List Group = groups_among (kept_of kinds) in
    let are : AreOf (kept_of kinds) groups = groups_are (kept_of kinds) in
    let it = are.each number no_group lt in
    let task = kept_has_task groups 0 (classes_of kinds) kinds it.0 it.1 in
    (task.0, task.1, task.2 ∙ number_of_group groups it.0 number no_group are.differ lt it.2)
  where
    no_group : Group
    no_group = record { header = record { source = 0; destination = 0; protocol = 0 }; id = 0; generation = 0 }

-- What the tasks of one group have.

pub member_of : (tasks : List Task) (number k : ℕ) (d : Task) → k < length tasks → (get_or tasks k d).group ≡ Some number → Contains (members tasks number) (get_or tasks k d)
member_of tasks number k d lt at = contains_filter (is_member number) tasks k (get_or tasks k d) (slice_get-get_or tasks k d lt) (ap (λ (o : Option ℕ). option_map_or (λ group. group == number) o false) at ∙ eq-eqb number number refl)

module _ (bytes : List ℕ) (groups : List Group) (tasks : List Task) (sound : All (TaskSound (length bytes)) tasks) (together : AllPairs (Together groups) tasks) where
  not_both_last : (s t : Task) → 0 < s.length → 0 < t.length → s.last ≡ true → t.last ≡ true → Fits s t → ⊥
  not_both_last s t some_s some_t last_s last_t fits =
      let behind : end_of_task t ≤ end_of_task s = fits.first last_s in
      let before : end_of_task s ≤ end_of_task t = fits.second last_t in
      elim fits.apart [ inl left ↦ omega arith | inr right ↦ omega arith ]

  one_is_last : AllPairs AreNotBothLast tasks
  one_is_last i j d less lt number at_s at_t last_s last_t =
      let some_s = (sound i d (omega arith)).some number at_s in
      let some_t = (sound j d lt).some number at_t in
      not_both_last (get_or tasks i d) (get_or tasks j d) some_s some_t last_s last_t (together i j d less lt some_s some_t number at_s at_t)

  last_packs : All (λ task. (number : ℕ) → task.group ≡ Some number → task.last ≡ true → size_of (members tasks number) ≤ end_of_task task) tasks
  last_packs k d lt number at last = packed_most (end_of_task (get_or tasks k d)) (members tasks number) (packed_before bytes groups tasks sound together number (get_or tasks k d) (member_of tasks number k d lt at) last)

  all_bounded : (number : ℕ) → size_of (members tasks number) ≤ 65535
  all_bounded number = packed_most 65535 (members tasks number) (packed_short bytes groups tasks sound together number)

kinds_grouped : (bytes : List ℕ) (kinds : List Kind) → All (TaskSound (length bytes)) (tasks_of kinds) → AreGrouped (tasks_of kinds) (groups_of kinds)
kinds_grouped bytes kinds sound = record {
  numbered = plan_numbered kinds;
  inhabited = plan_inhabited kinds;
  filled = λ k d lt. (sound k d lt).some;
  short = λ k d lt. (sound k d lt).short;
  one_last = one_is_last bytes (groups_of kinds) (tasks_of kinds) sound (tasks_together kinds);
  packed = last_packs bytes (groups_of kinds) (tasks_of kinds) sound (tasks_together kinds);
  bounded = all_bounded bytes (groups_of kinds) (tasks_of kinds) sound (tasks_together kinds);
}

pub plan_grouped : (bytes : List ℕ) (capture : Capture) (window : ℕ) (plan : Plan) → IsClassifiable bytes capture → IsPlan bytes capture window plan → AreGrouped plan.tasks.items plan.groups.items
plan_grouped bytes capture window plan fine is =
    let kinds : List Kind = kinds_of bytes window (contents_of capture) in
    subst (λ (tasks : List Task). AreGrouped tasks plan.groups.items) (sym is.tasks)
    (subst (λ (groups : List Group). AreGrouped (tasks_of kinds) groups) (sym is.groups) (kinds_grouped bytes kinds (tasks_fine (length bytes) kinds (plan_kinds bytes capture window fine))))
