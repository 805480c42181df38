-- The work of tasks: what a run has of each task, of each group, and which groups are complete.
use Rattle.std.proofs.Common.{◌≡◌, ℕ, zero, suc, ◌+◌, ◌<◌, Bool, true, false, cond, List, [], ◌∷◌, Option, None, Some, ⊎_elim, refl, sym, ◌∙◌, ap, arith, length, get_or, eq-eqb}
use Rattle.std.specs.Prelude.{slice_get, Contains, filter, not, ◌&&◌, ◌==◌, sum_by, count_by, if◌then◌else◌, ◌↔◌}
use Rattle.std.specs.List.{range_with_len}
use Rattle.std.specs.Option.{option_map_or}
use Rattle.std.proofs.lemmas.Bool.{cases_lt, true≢false}
use Rattle.std.proofs.lemmas.List.{get_or_default}
use lib.ListN.{get_or-map, length-map}
use Rattle.std.proofs.lemmas.List.Folds.{list_any_at}
use Rattle.std.proofs.lemmas.List.Sums.{sum_by-cons}
use mathlib.Core.Logic.{dite}
use native.Mathlib.Decide.{ℕ_discrete}
use Rattle.capture_terms.specs.Datagram.{end_of_task, size_of, is_member, members, is_complete, incomplete}
use Rattle.capture_terms.specs.Groups.{AreGrouped}
use Rattle.capture_terms.specs.declared.plan.Group.{Group}
use Rattle.capture_terms.specs.declared.plan.Task.{Task}
use Rattle.std.proofs.lemmas.Option.{slice_get_within, slice_get-get_or, get_or_from_slice_get}
use Rattle.rule_terms.specs.Rule.{Rule}
use Rattle.serial_terms.specs.Counts.{times}
use Rattle.run_stages.specs.Work.{Work, TaskFacts, IsSoundWork, IsMember, IsComplete, task, end_of, group_bytes, is_some_of, total_below}
use Rattle.run_stages.specs.Ends.{IsIncomplete}
use Rattle.run_stages.specs.FromCapture.{facts_of, work_of}
use Rattle.run_stages.proofs.Counting.{total_same, total_times, zero_or}
use Rattle.std.proofs.lemmas.Bool.{cases_Bool, true≢false}

-- ---- sums over a list, and over the numbers of its places

total_shift : (f : ℕ → ℕ) (n : ℕ) → total_below f (suc n) ≡ f 0 + total_below (λ i. f (suc i)) n
total_shift f zero = omega arith
total_shift f (suc n) = omega (arith, total_shift f n)

total_list : {X : Type 0} (g : X → ℕ) (d : X) (xs : List X) → total_below (λ i. g (get_or xs i d)) (length xs) ≡ sum_by g xs
total_list g d [] = refl
total_list g d (x ∷ xs) =
    let a : total_below (λ i. g (get_or (x ∷ xs) i d)) (suc (length xs)) ≡ g x + total_below (λ i. g (get_or xs i d)) (length xs) = total_shift (λ i. g (get_or (x ∷ xs) i d)) (length xs) in
    let b : total_below (λ i. g (get_or xs i d)) (length xs) ≡ sum_by g xs = total_list g d xs in
    a ∙ (ap (λ n. g x + n) b ∙ sym (sum_by-cons g x xs))

sum_filter : {X : Type 0} (g : X → ℕ) (p : X → Bool) (xs : List X) → sum_by g (filter p xs) ≡ sum_by (λ x. cond (p x) (g x) 0) xs
sum_filter g p [] = refl
sum_filter g p (x ∷ xs) = by_case (sum_filter g p xs) (p x) ∙ sym (sum_by-cons (λ y. cond (p y) (g y) 0) x xs)
  where
    by_case : sum_by g (filter p xs) ≡ sum_by (λ y. cond (p y) (g y) 0) xs → (b : Bool) → sum_by g (cond b (x ∷ filter p xs) (filter p xs)) ≡ cond b (g x) 0 + sum_by (λ y. cond (p y) (g y) 0) xs
    by_case rest true = sum_by-cons g x (filter p xs) ∙ ap (λ n. g x + n) rest
    by_case rest false = let all : sum_by g (filter p xs) ≡ 0 + sum_by (λ y. cond (p y) (g y) 0) xs = omega arith in all

abbrev pub one_if : Bool → ℕ
one_if b = if b then 1 else 0

pub count_range : (p : ℕ → Bool) (a n : ℕ) → count_by p (range_with_len a n) ≡ total_below (λ i. one_if (p (a + i))) n
count_range p a zero = refl
count_range p a (suc n) =
    let c : count_by p (range_with_len a (suc n)) ≡ one_if (p a) + count_by p (range_with_len (a + 1) n) = sum_by-cons (λ i. one_if (p i)) a (range_with_len (a + 1) n) in
    let s : total_below (λ i. one_if (p (a + i))) (suc n) ≡ one_if (p (a + 0)) + total_below (λ i. one_if (p (a + suc i))) n = total_shift (λ i. one_if (p (a + i))) n in
    let i : count_by p (range_with_len (a + 1) n) ≡ total_below (λ i. one_if (p (a + 1 + i))) n = count_range p (a + 1) n in
    let m : total_below (λ i. one_if (p (a + 1 + i))) n ≡ total_below (λ i. one_if (p (a + suc i))) n = total_same (λ i. one_if (p (a + 1 + i))) (λ i. one_if (p (a + suc i))) n (λ i l. let e : a + 1 + i ≡ a + suc i = omega arith in ap (λ z. one_if (p z)) e) in
    let h : one_if (p a) ≡ one_if (p (a + 0)) = (let e : a ≡ a + 0 = omega arith in ap (λ z. one_if (p z)) e) in
    c ∙ (ap (λ z. z + count_by p (range_with_len (a + 1) n)) h ∙ (ap (λ z. one_if (p (a + 0)) + z) (i ∙ m) ∙ sym s))

both : (a b : Bool) → a ≡ true → b ≡ true → (a && b) ≡ true
both a b e f = ap (λ z. z && b) e ∙ f

-- what is known of the members of groups
pub record MembersAre : Type 0 where
  pub named : (number : ℕ) (task : Task) → is_member number task ≡ true → task.group ≡ Some number
  pub each : (tasks : List Task) (number i : ℕ) (task : Task) → slice_get tasks i ≡ Some task → task.group ≡ Some number → Contains (members tasks number) task
  pub only : (tasks : List Task) (number : ℕ) (task : Task) → Contains (members tasks number) task → (i : ℕ) × (slice_get tasks i ≡ Some task) × (task.group ≡ Some number)
  pub complete : (tasks : List Task) → is_complete tasks ≡ true → (task : Task) × Contains tasks task × (task.last ≡ true) × (size_of tasks ≡ end_of_task task)

module _ (rules : List Rule) (bytes : List ℕ) (tasks : List Task) (groups : List Group) where
  abbrev w : Work
  w = work_of rules bytes tasks groups

  -- ---- what the work has of a task

  abbrev no_task : Task
  no_task = record { frame = 0; group = None; header = record { source = 0; destination = 0; protocol = 0 }; start = 0; from = 0; length = 0; last = false }

  abbrev pub nth : ℕ → Task
  nth i = get_or tasks i no_task

  pub long : length w.tasks ≡ length tasks
  unfolding work_of
  long = length-map tasks facts_of

  pub groups_are : w.groups ≡ length groups
  unfolding work_of
  groups_are = refl

  pub facts_are : (i : ℕ) → task w i ≡ facts_of (nth i)
  unfolding work_of
  facts_are i = get_or-map facts_of tasks i no_task

  pub facts_at : (i : ℕ) (t : Task) → slice_get tasks i ≡ Some t → task w i ≡ facts_of t
  facts_at i t at = facts_are i ∙ ap facts_of (get_or_from_slice_get tasks i t no_task at)

  pub nth_is : (i : ℕ) (d : Task) → i < length tasks → nth i ≡ get_or tasks i d
  nth_is i d l = get_or_default tasks i no_task d l

  pub below : (i : ℕ) → i < length w.tasks → i < length tasks
  below i l = let a = long in omega arith

  pub group_at : (i : ℕ) → (task w i).group ≡ (nth i).group
  group_at i = ap (λ (p : TaskFacts). p.group) (facts_are i)

  size_at : (i : ℕ) → (task w i).size ≡ (nth i).length
  size_at i = ap (λ (p : TaskFacts). p.size) (facts_are i)

  end_at : (i : ℕ) → end_of w i ≡ end_of_task (nth i)
  end_at i = ap (λ (p : TaskFacts). p.start + p.size) (facts_are i)

  last_at : (i : ℕ) → (task w i).last ≡ (nth i).last
  last_at i = ap (λ (p : TaskFacts). p.last) (facts_are i)

  is_of : (h i : ℕ) → IsMember w h i → (nth i).group ≡ Some h
  is_of h i m = sym (group_at i) ∙ m.belongs

  is_member_of : (h i : ℕ) → i < length tasks → (nth i).group ≡ Some h → IsMember w h i
  is_member_of h i l e = record { below = (let a = long in omega arith); belongs = group_at i ∙ e }

  -- ---- the bytes of a group

  abbrev share : ℕ → Task → ℕ
  share h t = cond (is_member h t) t.length 0

  pub bytes_are : (h : ℕ) → group_bytes w h ≡ size_of (members tasks h)
  bytes_are h =
      total_same (λ i. if is_some_of (task w i).group h then (task w i).size else 0) (λ i. share h (nth i)) (length w.tasks) (λ i l. same i)
      ∙ (ap (total_below (λ i. share h (nth i))) long ∙ (total_list (share h) no_task tasks ∙ sym (sum_filter (λ (t : Task). t.length) (is_member h) tasks)))
    where
      same_some : (o : Option ℕ) → is_some_of o h ≡ option_map_or (λ group. group == h) o false
      same_some None = refl
      same_some (Some k) = refl

      same : (i : ℕ) → (if is_some_of (task w i).group h then (task w i).size else 0) ≡ share h (nth i)
      same i = ap (λ (p : TaskFacts). cond (is_some_of p.group h) p.size 0) (facts_are i) ∙ ap (λ (b : Bool). cond b (nth i).length 0) (same_some (nth i).group)

  -- ---- the work is a plan of a run

  pub is_sound : AreGrouped tasks groups → IsSoundWork w
  is_sound g = record {
    numbered = λ h i m. let n = g.numbered i no_task (below i m.below) h (is_of h i m) in let a = groups_are in omega arith;
    inhabited = λ h l.
        let it = g.inhabited h (let a = groups_are in omega arith) in
        let at : nth it.1.0 ≡ it.0 = nth_is it.1.0 it.0 it.1.1 ∙ it.1.2 in
        (it.1.0, is_member_of h it.1.0 it.1.1 (ap (λ (t : Task). t.group) at ∙ it.2));
    filled = λ h i m. let f = g.filled i no_task (below i m.below) h (is_of h i m) in let s = size_at i in omega arith;
    short = λ h i m. let f = g.short i no_task (below i m.below) in let e = end_at i in omega arith;
    one_last = λ h i j a b x y. dite (ℕ_discrete i j) (λ e. e) (λ n. ⊎_elim
        (λ l. absurd (g.one_last i j no_task l (below j b.below) h (is_of h i a) (is_of h j b) (sym (last_at i) ∙ x) (sym (last_at j) ∙ y)))
        (λ l. absurd (g.one_last j i no_task (omega arith) (below i a.below) h (is_of h j b) (is_of h i a) (sym (last_at j) ∙ y) (sym (last_at i) ∙ x)))
        (cases_lt i j));
    packed = λ h i m x. let p = g.packed i no_task (below i m.below) h (is_of h i m) (sym (last_at i) ∙ x) in let b = bytes_are h in let e = end_at i in omega arith;
    bounded = λ h. let p = g.bounded h in let b = bytes_are h in omega arith;
  }

  -- ---- the complete groups

  module _ (m : MembersAre) where
    pub complete_passes : (h : ℕ) → IsComplete w h → is_complete (members tasks h) ≡ true
    complete_passes h c =
        let t : Task = nth c.ender in
        let at = slice_get-get_or tasks c.ender no_task (below c.ender c.member.below) in
        let among : Contains (members tasks h) t = m.each tasks h c.ender t at (is_of h c.ender c.member) in
        let full : size_of (members tasks h) ≡ end_of_task t = sym (bytes_are h) ∙ (c.full ∙ end_at c.ender) in
        list_any_at (λ (s : Task). s.last && (size_of (members tasks h) == end_of_task s)) (members tasks h) among.0 t among.1
        (ap (λ (s : Task). s.last && (size_of (members tasks h) == end_of_task s)) among.2 ∙ both t.last (size_of (members tasks h) == end_of_task t) (sym (last_at c.ender) ∙ c.last) (eq-eqb (size_of (members tasks h)) (end_of_task t) full))

    pub passes_complete : (h : ℕ) → is_complete (members tasks h) ≡ true → IsComplete w h
    passes_complete h e =
        let found = m.complete (members tasks h) e in
        let place = m.only tasks h found.0 found.1 in
        let there = get_or_from_slice_get tasks place.0 found.0 no_task place.1 in
        record {
          ender = place.0;
          member = is_member_of h place.0 (slice_get_within tasks place.0 found.0 place.1) (ap (λ (s : Task). s.group) there ∙ place.2);
          last = last_at place.0 ∙ (ap (λ (s : Task). s.last) there ∙ found.2);
          full = bytes_are h ∙ (found.3 ∙ sym (end_at place.0 ∙ ap end_of_task there));
        }

    -- ---- the incomplete groups

    pub incomplete_iff : (h : ℕ) → IsIncomplete w h ↔ ((h < length groups) × (is_complete (members tasks h) ≡ false))
    incomplete_iff h = (
      (λ n. (
        let l = n.below in let a = groups_are in omega arith,
        ⊎_elim (λ e. absurd (n.lacking (passes_complete h e))) (λ e. e) (cases_Bool (is_complete (members tasks h))),
      )),
      (λ n. record { below = (let l = n.0 in let a = groups_are in omega arith); lacking = λ c. true≢false (sym (complete_passes h c) ∙ n.1) }),
    )

    pub incomplete_counted : (hs : List ℕ) → ((h : ℕ) → IsIncomplete w h → times h hs ≡ 1) → ((h : ℕ) → 0 < times h hs → IsIncomplete w h) → length hs ≡ incomplete tasks groups
    incomplete_counted hs each only =
        sym (total_times hs (length groups) (λ h l. ((incomplete_iff h).0 (only h l)).0))
        ∙ (total_same (λ h. times h hs) (λ h. one_if (not (is_complete (members tasks (0 + h))))) (length groups) (λ h l. same h l (is_complete (members tasks h)) refl)
        ∙ sym (count_range (λ number. not (is_complete (members tasks number))) 0 (length groups)))
      where
        here : (h : ℕ) (b : Bool) → is_complete (members tasks h) ≡ b → one_if (not (is_complete (members tasks (0 + h)))) ≡ one_if (not b)
        here h b e = let z : 0 + h ≡ h = omega arith in ap (λ n. one_if (not (is_complete (members tasks n)))) z ∙ ap (λ (c : Bool). one_if (not c)) e

        same : (h : ℕ) → h < length groups → (b : Bool) → is_complete (members tasks h) ≡ b → times h hs ≡ one_if (not (is_complete (members tasks (0 + h))))
        same h l true e = zero_or (times h hs) (λ m. (only h m).lacking (passes_complete h e)) ∙ sym (here h true e)
        same h l false e = each h ((incomplete_iff h).1 (l, e)) ∙ sym (here h false e)
