-- The tasks of a plan's datagram lie in the file and fill its data.
use Rattle.std.proofs.Common.{◌≡◌, ℕ, zero, suc, ◌+◌, ◌<◌, ◌≤◌, Bool, true, false, List, [], ◌∷◌, ◌++◌, Option, None, Some, refl, sym, ◌∙◌, ap, subst, inl, inr, arith, length, get_or, take, drop, length-drop, ◌-◌}
use Rattle.std.specs.Prelude.{◌*◌, All, AllPairs, Contains, option_to_list, fold, nat_lt, ◌==◌, ◌&&◌, ◌||◌, if◌then◌else◌, map}
use Rattle.std.specs.List.{list_any, position_or_len}
use Rattle.std.specs.Option.{option_map_or}
use Rattle.std.proofs.lemmas.Bool.{cases_eq, cases_lt}
use Rattle.std.proofs.lemmas.Bool.Decides.{nat_tests}
use Rattle.std.proofs.lemmas.List.{get_or_default, get_or-take, get_or-drop, length-take-le}
use Rattle.std.proofs.lemmas.List.Elements.{All-contains, All-map}
use Rattle.std.proofs.lemmas.List.Folds.{list_any_none, list_any-append}
use Rattle.std.proofs.lemmas.List.Kept.{AllPairs-filter}
use Rattle.std.proofs.lemmas.List.Sums.{fails_before_first}
use Rattle.std.proofs.lemmas.List.FromFn.{length-map-range_with_len, get_or-map-range_with_len}
use Rattle.std.proofs.lemmas.Grind.{same_number_lists}
use Rattle.capture_terms.specs.Capture.{contents_of, link_numbered}
use Rattle.capture_terms.specs.declared.capture.Capture.{Capture}
use Rattle.capture_terms.specs.declared.datagram.Class.{Class}
use Rattle.capture_terms.specs.declared.datagram.Class.TheVariants as class
use Rattle.capture_terms.specs.declared.datagram.Kind.{Kind}
use Rattle.capture_terms.specs.declared.datagram.Kind.TheVariants.{Other, Bad, Cut, Whole, Fragment}
use Rattle.capture_terms.specs.declared.datagram.Piece.{Piece}
use Rattle.capture_terms.specs.declared.plan.Group.{Group}
use Rattle.capture_terms.specs.declared.plan.Plan.{Plan}
use Rattle.capture_terms.specs.declared.plan.Task.{Task}
use Rattle.capture_terms.specs.Generations.{Timed, kind_behind, kinds_behind, in_generations}
use Rattle.capture_terms.specs.Kept.{group_of, is_same_group, classes_of, kept_of, kept_among, kept_piece}
use Rattle.capture_terms.specs.Plan.{group_number, with_group_of, groups_of, task_of, task_at, tasks_from, tasks_of, timed, kinds_of, IsClassifiable, IsPlan}
use Rattle.capture_terms.specs.Datagram.{ArePacked, end_of_task, size_of, is_member, members, is_complete, IsWholeAt, IsDatagramAt, IsSound, holds, byte_at, payload_of}
use Rattle.capture_terms.proofs.Filters.{contains_get, all_filter, all_pass, any_found}
use Rattle.capture_terms.proofs.PlanSound.{KindSound, kind_sound, TaskSound}
use Rattle.capture_terms.proofs.PlanTasks.{Together, together_all, Fits, with_option, All-cons, pairs_with_option}

-- Each kept fragment has a group.

with_keeps : (p : Group → Bool) (groups : List Group) (f : Piece) → list_any p groups ≡ true → list_any p (with_group_of groups f) ≡ true
with_keeps p groups f there = by_case (list_any (is_same_group (group_of f)) groups)
  where
    by_case : (b : Bool) → list_any p (if b then groups else groups ++ group_of f ∷ []) ≡ true
    by_case true = there
    by_case false = list_any-append p groups (group_of f ∷ []) ∙ (rw there)

with_has : (groups : List Group) (f : Piece) → list_any (is_same_group (group_of f)) (with_group_of groups f) ≡ true
with_has groups f = by_case (list_any (is_same_group (group_of f)) groups) refl
  where
    itself : (g : Group) → is_same_group g g ≡ true
    itself g = grind (arith, nat_tests)

    last : (a b : Bool) → b ≡ true → (a || (b || false)) ≡ true
    last true b is = refl
    last false b is = rw is

    by_case : (b : Bool) → list_any (is_same_group (group_of f)) groups ≡ b → list_any (is_same_group (group_of f)) (if b then groups else groups ++ group_of f ∷ []) ≡ true
    by_case true there = there
    by_case false new = list_any-append (is_same_group (group_of f)) groups (group_of f ∷ []) ∙ last (list_any (is_same_group (group_of f)) groups) (is_same_group (group_of f) (group_of f)) (itself (group_of f))

fold_keeps : (p : Group → Bool) (groups : List Group) (pieces : List Piece) → list_any p groups ≡ true → list_any p (fold with_group_of groups pieces) ≡ true
fold_keeps p groups [] there = there
fold_keeps p groups (f ∷ pieces) there = fold_keeps p (with_group_of groups f) pieces (with_keeps p groups f there)

fold_has : (groups : List Group) (pieces : List Piece) (f : Piece) → Contains pieces f → list_any (is_same_group (group_of f)) (fold with_group_of groups pieces) ≡ true
fold_has groups [] f among = absurd (omega (arith, among.1))
fold_has groups (g ∷ pieces) f (zero, lt, is) = subst (λ (h : Piece). list_any (is_same_group (group_of h)) (fold with_group_of (with_group_of groups g) pieces) ≡ true) is (fold_keeps (is_same_group (group_of g)) (with_group_of groups g) pieces (with_has groups g))
fold_has groups (g ∷ pieces) f (suc k, lt, is) = fold_has (with_group_of groups g) pieces f (k, omega arith, is)

number_some : (groups : List Group) (f : Piece) → list_any (is_same_group (group_of f)) groups ≡ true → (g : ℕ) × (group_number groups f ≡ Some g)
number_some groups f there =
    let p : Group → Bool = is_same_group (group_of f) in
    elim (cases_lt (position_or_len p groups) (length groups)) [
      | inl less ↦ let inside : nat_lt (position_or_len p groups) (length groups) ≡ true = grind (arith, nat_tests) in (position_or_len p groups, rw inside)
      | inr most ↦ let none : list_any p groups ≡ false = list_any_none p groups (λ k d lt. fails_before_first p groups k d (omega arith)) in absurd (cc)
    ]

-- Each task is sound.

contains_right : {X : Type 0} (o : Option X) (xs : List X) (x : X) → Contains xs x → Contains (option_to_list o ++ xs) x
contains_right None xs x among = among
contains_right (Some y) xs x among = (suc among.0, omega (arith, among.1), among.2)

contains_option : {X : Type 0} (o : Option X) (xs : List X) (x : X) → o ≡ Some x → Contains (option_to_list o ++ xs) x
contains_option None xs x is = absurd (cc)
contains_option (Some y) xs x is = let same : y ≡ x = cc in (0, omega arith, same)

module _ (end : ℕ) (groups : List Group) where
  HasGroup : Piece → Type 0
  HasGroup p = (g : ℕ) × (group_number groups p ≡ Some g)

  head_sound : (n : ℕ) (c : Class) (k : Kind) → KindSound end k → ((p : Piece) → kept_piece c k ≡ Some p → (g : ℕ) × (group_number groups p ≡ Some g)) → All (TaskSound end) (option_to_list (task_at groups n c k))
  head_sound n class.Whole (Whole p) sound grouped = All-cons (TaskSound end) (task_of n None p) [] (record { there = sound.0.there; short = sound.0.short; whole = λ _. sound.1; some = λ g at. absurd (cc) }) (λ i d lt. absurd (omega arith))
  head_sound n class.Kept (Fragment p) sound grouped =
      let found = grouped p refl in
      All-cons (TaskSound end) (task_of n (group_number groups p) p) [] (record { there = sound.0.there; short = sound.0.short; whole = λ none. let clashing : Some found.0 ≡ None = sym found.1 ∙ none in absurd (cc); some = λ g at. sound.1 }) (λ i d lt. absurd (omega arith))
  head_sound n _ _ sound grouped = λ i d lt. absurd (omega arith)

  pub tasks_sound : (n : ℕ) (classes : List Class) (kinds : List Kind) → ((p : Piece) → Contains (kept_among classes kinds) p → (g : ℕ) × (group_number groups p ≡ Some g)) → All (KindSound end) kinds → All (TaskSound end) (tasks_from groups n classes kinds)
  tasks_sound n [] kinds grouped sound = λ i d lt. absurd (omega arith)
  tasks_sound n (c ∷ classes) [] grouped sound = λ i d lt. absurd (omega arith)
  tasks_sound n (c ∷ classes) (k ∷ kinds) grouped sound =
      with_option (TaskSound end) (task_at groups n c k) (tasks_from groups (n + 1) classes kinds)
      (head_sound n c k (sound 0 k (omega arith)) (λ p is. grouped p (contains_option (kept_piece c k) (kept_among classes kinds) p is)))
      (tasks_sound (n + 1) classes kinds (λ p among. grouped p (contains_right (kept_piece c k) (kept_among classes kinds) p among)) (λ i d lt. sound (suc i) d (omega arith)))

-- Datagrams.

pub member_group : (number : ℕ) (t : Task) → is_member number t ≡ true → t.group ≡ Some number
member_group number t is = by_case t.group is
  where
    by_case : (o : Option ℕ) → option_map_or (λ group. group == number) o false ≡ true → o ≡ Some number
    by_case None is = absurd (cc)
    by_case (Some g) is = let same : g ≡ number = grind (arith, nat_tests) in ap Some same

module _ (bytes : List ℕ) (groups : List Group) (tasks : List Task) (sound : All (TaskSound (length bytes)) tasks) (together : AllPairs (Together groups) tasks) where
  whole_sound : (numbers : List ℕ) (datagram : List Task) → IsWholeAt tasks numbers datagram → IsSound bytes datagram
  whole_sound numbers datagram w =
      let fine : TaskSound (length bytes) w.task = All-contains (TaskSound (length bytes)) tasks w.task sound (contains_get tasks w.number w.task w.there) in
      let start : w.task.start ≡ 0 = fine.whole w.whole in
      subst (IsSound bytes) (sym w.is) (record {
        there = All-cons (λ (t : Task). t.from + t.length ≤ length bytes) w.task [] fine.there (λ k d lt. absurd (omega arith));
        packed = record {
          within = All-cons (λ (t : Task). end_of_task t ≤ size_of (w.task ∷ [])) w.task [] (omega (arith, start)) (λ k d lt. absurd (omega arith));
          apart = λ i j d less lt. absurd (omega arith);
        };
        short = omega (arith, fine.short);
      })

  module _ (number : ℕ) where
    fine : All (TaskSound (length bytes)) (members tasks number)
    fine = all_filter (TaskSound (length bytes)) (is_member number) tasks sound

    fit : (i j : ℕ) (d : Task) → i < j → j < length (members tasks number) → Fits (get_or (members tasks number) i d) (get_or (members tasks number) j d)
    fit i j d less lt =
        let group_at : (k : ℕ) → k < length (members tasks number) → (get_or (members tasks number) k d).group ≡ Some number = λ k within. member_group number (get_or (members tasks number) k d) (all_pass (is_member number) tasks k d within) in
        let before : i < length (members tasks number) = omega arith in
        AllPairs-filter (Together groups) (is_member number) tasks together i j d less lt
        ((fine i d before).some number (group_at i before)) ((fine j d lt).some number (group_at j lt)) number (group_at i before) (group_at j lt)

    ends_before : (t : Task) → Contains (members tasks number) t → t.last ≡ true → (k : ℕ) → k < length (members tasks number) → end_of_task (get_or (members tasks number) k t) ≤ end_of_task t
    ends_before t (i, within, is) last k lt = elim (cases_eq k i) [
      | inl same ↦ omega (arith, ap end_of_task (ap (λ (n : ℕ). get_or (members tasks number) n t) same ∙ is))
      | inr other ↦ elim (cases_lt k i) [
        | inl less ↦ subst (λ (u : Task). end_of_task (get_or (members tasks number) k t) ≤ end_of_task u) is ((fit k i t less within).second (ap (λ (u : Task). u.last) is ∙ last))
        | inr most ↦ subst (λ (u : Task). end_of_task (get_or (members tasks number) k t) ≤ end_of_task u) is ((fit i k t (omega (arith, other)) lt).first (ap (λ (u : Task). u.last) is ∙ last))
      ]
    ]

    -- the tasks of a group end before the end of its last one
    pub packed_before : (t : Task) → Contains (members tasks number) t → t.last ≡ true → ArePacked (end_of_task t) (members tasks number)
    packed_before t among last = record {
      within = λ k d lt. omega (arith, ends_before t among last k lt, ap end_of_task (get_or_default (members tasks number) k d t lt));
      apart = λ i j d less lt. (fit i j d less lt).apart;
    }

    pub packed_short : ArePacked 65535 (members tasks number)
    packed_short = record { within = λ k d lt. (fine k d lt).short; apart = λ i j d less lt. (fit i j d less lt).apart }

    module _ (complete : is_complete (members tasks number) ≡ true) where
      last_one : (t : Task) × Contains (members tasks number) t × (t.last ≡ true) × (size_of (members tasks number) ≡ end_of_task t)
      last_one =
          let found = any_found (λ (t : Task). t.last && (size_of (members tasks number) == end_of_task t)) (members tasks number) complete in
          (found.0, found.1, is_last found.0.last (size_of (members tasks number)) (end_of_task found.0) found.2, is_end found.0.last (size_of (members tasks number)) (end_of_task found.0) found.2)
        where
          is_last : (l : Bool) (a b : ℕ) → (l && (a == b)) ≡ true → l ≡ true
          is_last true a b is = refl
          is_last false a b is = is

          is_end : (l : Bool) (a b : ℕ) → (l && (a == b)) ≡ true → a ≡ b
          is_end true a b is = grind (arith, nat_tests)
          is_end false a b is = absurd (cc)

      group_sound : IsSound bytes (members tasks number)
      group_sound =
          let l = last_one in
          let end : size_of (members tasks number) ≡ end_of_task l.0 = l.3 in
          let most : TaskSound (length bytes) l.0 = All-contains (TaskSound (length bytes)) (members tasks number) l.0 fine l.1 in
          record {
            there = λ k d lt. (fine k d lt).there;
            packed = subst (λ (n : ℕ). ArePacked n (members tasks number)) (sym end) (packed_before l.0 l.1 l.2);
            short = omega (arith, end, most.short);
          }

  tasks_datagram : (numbers : List ℕ) (datagram : List Task) → IsDatagramAt tasks numbers datagram → IsSound bytes datagram
  tasks_datagram numbers datagram at = elim at [
    | inl one ↦ whole_sound numbers datagram one
    | inr group ↦ subst (IsSound bytes) (sym group.is) (group_sound group.group group.complete)
  ]

-- a fragment keeps its places in its generation
behind_sound : (end window : ℕ) (before : List Timed) (time : ℕ) (kind : Kind) → KindSound end kind → KindSound end (kind_behind window before time kind)
behind_sound end window before time Other sound = sound
behind_sound end window before time Bad sound = sound
behind_sound end window before time Cut sound = sound
behind_sound end window before time (Whole piece) sound = sound
behind_sound end window before time (Fragment piece) sound = (record { there = sound.0.there; short = sound.0.short }, sound.1)

all_behind_sound : (end window : ℕ) (before frames : List Timed) → All (λ (f : Timed). KindSound end f.kind) frames → All (KindSound end) (kinds_behind window before frames)
all_behind_sound end window before [] sound = λ k d lt. absurd (omega arith)
all_behind_sound end window before (f ∷ frames) sound =
    All-cons (KindSound end) (kind_behind window before f.time f.kind) (kinds_behind window (before ++ f ∷ []) frames)
    (behind_sound end window before f.time f.kind (sound 0 f (omega arith)))
    (all_behind_sound end window (before ++ f ∷ []) frames (λ k d lt. sound (suc k) d (omega arith)))

pub plan_kinds : (bytes : List ℕ) (capture : Capture) (window : ℕ) → IsClassifiable bytes capture → All (KindSound (length bytes)) (kinds_of bytes window (contents_of capture))
unfolding in_generations
plan_kinds bytes capture window fine = all_behind_sound (length bytes) (window * 1000000000) [] (map (timed bytes (contents_of capture)) capture.frames.items)
    (All-map (λ (f : Timed). KindSound (length bytes) f.kind) (timed bytes (contents_of capture)) capture.frames.items (λ k d lt. kind_sound (link_numbered capture.link) bytes (get_or capture.frames.items k d) (fine.within k d lt)))

pub tasks_fine : (end : ℕ) (kinds : List Kind) → All (KindSound end) kinds → All (TaskSound end) (tasks_of kinds)
unfolding tasks_of groups_of kept_of
tasks_fine end kinds sound = tasks_sound end (groups_of kinds) 0 (classes_of kinds) kinds (λ p among. number_some (groups_of kinds) p (fold_has [] (kept_of kinds) p among)) sound

pub tasks_together : (kinds : List Kind) → AllPairs (Together (groups_of kinds)) (tasks_of kinds)
unfolding tasks_of classes_of
tasks_together kinds = together_all (groups_of kinds) 0 [] kinds

pub datagram_is_sound : (bytes : List ℕ) (capture : Capture) (window : ℕ) (plan : Plan) (numbers : List ℕ) (datagram : List Task) → IsClassifiable bytes capture → IsPlan bytes capture window plan → IsDatagramAt plan.tasks.items numbers datagram → IsSound bytes datagram
datagram_is_sound bytes capture window plan numbers datagram fine is at =
    let kinds : List Kind = kinds_of bytes window (contents_of capture) in
    tasks_datagram bytes (groups_of kinds) plan.tasks.items
    (subst (All (TaskSound (length bytes))) (sym is.tasks) (tasks_fine (length bytes) kinds (plan_kinds bytes capture window fine)))
    (subst (AllPairs (Together (groups_of kinds))) (sym is.tasks) (tasks_together kinds))
    numbers datagram at

-- Single tasks.

pub tasks_inside : (bytes : List ℕ) (capture : Capture) (window : ℕ) (plan : Plan) → IsClassifiable bytes capture → IsPlan bytes capture window plan → All (TaskSound (length bytes)) plan.tasks.items
tasks_inside bytes capture window plan fine is = subst (All (TaskSound (length bytes))) (sym is.tasks) (tasks_fine (length bytes) (kinds_of bytes window (contents_of capture)) (plan_kinds bytes capture window fine))

pub whole_payload : (bytes : List ℕ) (t : Task) → TaskSound (length bytes) t → t.group ≡ None → payload_of bytes (t ∷ []) ≡ take t.length (drop t.from bytes)
whole_payload bytes t fine none =
    let start : t.start ≡ 0 = fine.whole none in
    let long : length (payload_of bytes (t ∷ [])) ≡ 0 + t.length = length-map-range_with_len (byte_at bytes (t ∷ [])) 0 (0 + t.length) in
    let left : length (drop t.from bytes) ≡ length bytes - t.from = length-drop t.from bytes in
    let size : length (take t.length (drop t.from bytes)) ≡ t.length = length-take-le t.length (drop t.from bytes) (omega (arith, fine.there)) in
    same_number_lists (payload_of bytes (t ∷ [])) (take t.length (drop t.from bytes)) (omega arith)
    (λ place lt. get_or-map-range_with_len (byte_at bytes (t ∷ [])) 0 (0 + t.length) place place 0 (omega (arith, lt)) (omega arith)
    ∙ at place start (omega (arith, lt)) ∙ sym (get_or-take t.length (drop t.from bytes) place 0 (omega (arith, lt)) ∙ get_or-drop t.from bytes place 0))
  where
    at : (place : ℕ) → t.start ≡ 0 → place < t.length → byte_at bytes (t ∷ []) place ≡ get_or bytes (t.from + place) 0
    at place start before =
        let held : holds place t ≡ true = grind (arith, nat_tests) in
        let there : t.from + (place - t.start) ≡ t.from + place = omega arith in
        (rw held (ap (λ (n : ℕ). get_or bytes n 0) there))

module _ (groups : List Group) where
  head_frame : (n : ℕ) (c : Class) (k : Kind) → All (λ (t : Task). t.frame ≡ n) (option_to_list (task_at groups n c k))
  head_frame n class.Whole (Whole p) = All-cons (λ (t : Task). t.frame ≡ n) (task_of n None p) [] refl (λ i d lt. absurd (omega arith))
  head_frame n class.Kept (Fragment p) = All-cons (λ (t : Task). t.frame ≡ n) (task_of n (group_number groups p) p) [] refl (λ i d lt. absurd (omega arith))
  head_frame n _ _ = λ i d lt. absurd (omega arith)

  frames_from : (n : ℕ) (classes : List Class) (kinds : List Kind) → All (λ (t : Task). n ≤ t.frame) (tasks_from groups n classes kinds)
  frames_from n [] kinds = λ i d lt. absurd (omega arith)
  frames_from n (c ∷ classes) [] = λ i d lt. absurd (omega arith)
  frames_from n (c ∷ classes) (k ∷ kinds) =
      with_option (λ (t : Task). n ≤ t.frame) (task_at groups n c k) (tasks_from groups (n + 1) classes kinds)
      (λ i d lt. let same : (get_or (option_to_list (task_at groups n c k)) i d).frame ≡ n = head_frame n c k i d lt in omega arith)
      (λ i d lt. omega (arith, frames_from (n + 1) classes kinds i d lt))

  frames_ascend : (n : ℕ) (classes : List Class) (kinds : List Kind) → AllPairs (λ (s t : Task). s.frame < t.frame) (tasks_from groups n classes kinds)
  frames_ascend n [] kinds = λ i j d less lt. absurd (omega arith)
  frames_ascend n (c ∷ classes) [] = λ i j d less lt. absurd (omega arith)
  frames_ascend n (c ∷ classes) (k ∷ kinds) =
      pairs_with_option (λ (s t : Task). s.frame < t.frame) (task_at groups n c k) (tasks_from groups (n + 1) classes kinds)
      (λ t is i d lt. let same : t.frame ≡ n = one_frame t is in omega (arith, frames_from (n + 1) classes kinds i d lt))
      (frames_ascend (n + 1) classes kinds)
    where
      one_frame : (t : Task) → task_at groups n c k ≡ Some t → t.frame ≡ n
      one_frame t is = All-contains (λ (u : Task). u.frame ≡ n) (option_to_list (task_at groups n c k)) t (head_frame n c k) (rw is (0, omega arith, refl))

pub plan_ascends : (bytes : List ℕ) (capture : Capture) (window : ℕ) (plan : Plan) → IsPlan bytes capture window plan → AllPairs (λ (s t : Task). s.frame < t.frame) plan.tasks.items
unfolding tasks_of
plan_ascends bytes capture window plan is = subst (AllPairs (λ (s t : Task). s.frame < t.frame)) (sym is.tasks) (ascend (kinds_of bytes window (contents_of capture)))
  where
    ascend : (kinds : List Kind) → AllPairs (λ (s t : Task). s.frame < t.frame) (tasks_from (groups_of kinds) 0 (classes_of kinds) kinds)
    ascend kinds = frames_ascend (groups_of kinds) 0 (classes_of kinds) kinds
