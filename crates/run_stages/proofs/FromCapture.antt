-- The values of the work's datagrams are the findings in the datagrams of the tasks.
use Rattle.std.proofs.Common.{◌≡◌, ◌≢◌, ℕ, zero, suc, ◌+◌, ◌<◌, Bool, true, false, cond, List, [], ◌∷◌, ◌++◌, Option, None, Some, inl, inr, ⊎_elim, refl, sym, ◌∙◌, ap, subst, arith, length, get_or, eq-eqb, ne_eqb}
use Rattle.std.specs.Prelude.{not, is_some, IsSome, Contains, IsSomeAnd, AllPairs, IsPermutation, slice_get, filter, filter_map, ◌&&◌, ◌==◌, count_by, if◌then◌else◌}
use Rattle.std.specs.List.{flat_map, cons_option, range_with_len}
use Rattle.std.specs.Option.{option_map_or}
use Rattle.std.proofs.lemmas.List.Sums.{sum_by-cons}
use mathlib.Core.Logic.{dite}
use native.Mathlib.Decide.{ℕ_discrete}
use Rattle.capture_terms.specs.Datagram.{is_member, members, is_complete, incomplete, group_from, datagram_from, IsDatagramAt}
use Rattle.capture_terms.specs.declared.plan.Group.{Group}
use Rattle.capture_terms.specs.declared.plan.Task.{Task}
use Rattle.std.proofs.lemmas.Option.{slice_get-get_or, slice_get_within, get_or_from_slice_get}
use Rattle.rule_terms.specs.Rule.{Rule}
use Rattle.inspection_terms.specs.Findings.{findings_in, all_findings}
use Rattle.serial_terms.specs.Counts.{times}
use Rattle.serial_terms.specs.Serial.{State}
use Rattle.run_stages.specs.Work.{Work, IsSoundWork, IsWhole, IsMember, IsComplete, task, task_item, group_item, item_values, values_of}
use Rattle.run_stages.specs.Stages.{IsLawful}
use Rattle.run_stages.specs.Ends.{IsFinished, AreAllDatagrams}
use Rattle.run_stages.specs.FromCapture.{whole_values, work_of}
use Rattle.run_stages.proofs.Counting.{total_same, times_cons_same, times_cons_more, times_cons_other, task_items, group_items, task_no_group}
use Rattle.run_stages.proofs.Matching.{task_item_values, group_item_values, values_append}
use Rattle.run_stages.proofs.Finishing.{item_cases, same_values, finds_all, incomplete_alone}
use Rattle.run_stages.proofs.FromTasks.{MembersAre, one_if, count_range, incomplete_iff, nth, nth_is, long, below, group_at, complete_passes, passes_complete}
use Rattle.std.proofs.lemmas.Bool.{cases_Bool}
use Rattle.std.proofs.lemmas.List.{append-nil}
use Rattle.serial_terms.specs.Facts.{times_append}

-- ---- lists with all datagrams have the same items

module _ (work : Work) (xs ys : List ℕ) (a : AreAllDatagrams work xs) (b : AreAllDatagrams work ys) where
  same_once : (p q : ℕ) → (0 < p → (p ≡ 1) × (q ≡ 1)) → (0 < q → (p ≡ 1) × (q ≡ 1)) → p ≡ q
  same_once p q f g = dite (ℕ_discrete p 0) (λ z. dite (ℕ_discrete q 0) (λ y. omega arith) (λ y. let o = g (omega arith) in omega (arith, o.0, o.1))) (λ z. let o = f (omega arith) in omega (arith, o.0, o.1))

  same_times : (x : ℕ) → times x xs ≡ times x ys
  same_times x = ⊎_elim
      (λ t. subst (λ (z : ℕ). times z xs ≡ times z ys) (sym t.1) (same_once (times (task_item t.0) xs) (times (task_item t.0) ys)
      (λ m. let i = a.only_whole t.0 m in (a.whole t.0 i, b.whole t.0 i))
      (λ m. let i = b.only_whole t.0 m in (a.whole t.0 i, b.whole t.0 i))))
      (λ t. subst (λ (z : ℕ). times z xs ≡ times z ys) (sym t.1) (same_once (times (group_item t.0) xs) (times (group_item t.0) ys)
      (λ m. let i = a.only_group t.0 m in (a.group t.0 i, b.group t.0 i))
      (λ m. let i = b.only_group t.0 m in (a.group t.0 i, b.group t.0 i))))
      (item_cases x)

-- ---- lists of tasks whose frames ascend

abbrev IsBefore : Task → Task → Type 0
IsBefore s t = s.frame < t.frame

rest_ascends : (t : Task) (ts : List Task) → AllPairs IsBefore (t ∷ ts) → AllPairs IsBefore ts
rest_ascends t ts pairs = λ i j d before within. pairs (suc i) (suc j) d (omega arith) (omega arith)

count_cons : (p : Task → Bool) (t : Task) (ts : List Task) → count_by p (t ∷ ts) ≡ one_if (p t) + count_by p ts
count_cons p t ts = sum_by-cons (λ (s : Task). one_if (p s)) t ts

count_none : (p : Task → Bool) (ts : List Task) → ((k : ℕ) (d : Task) → k < length ts → p (get_or ts k d) ≡ false) → count_by p ts ≡ 0
count_none p [] none = refl
count_none p (t ∷ ts) none =
    let c = count_cons p t ts in
    let h : one_if (p t) ≡ 0 = ap one_if (none 0 t (omega arith)) in
    let r = count_none p ts (λ k d l. none (suc k) d (omega arith)) in
    omega arith

-- of the tasks that pass q, only the first has the frame of the first
module _ (q : Task → Bool) (s : Task) (p : Task → Bool) (same : (t : Task) → p t ≡ (q t && (s.frame == t.frame))) where
  one_first : (ts rest : List Task) → AllPairs IsBefore ts → filter q ts ≡ s ∷ rest → count_by p ts ≡ 1
  one_first [] rest pairs is = absurd (cc)
  one_first (t ∷ ts) rest pairs is = by_case (one_first ts rest (rest_ascends t ts pairs)) (q t) refl is
    where
      by_case : (filter q ts ≡ s ∷ rest → count_by p ts ≡ 1) → (b : Bool) → q t ≡ b → cond b (t ∷ filter q ts) (filter q ts) ≡ s ∷ rest → count_by p (t ∷ ts) ≡ 1
      by_case more true e first =
          let first_is : t ≡ s = cc in
          let c = count_cons p t ts in
          let at : p t ≡ true = same t ∙ (ap (λ (b : Bool). b && (s.frame == t.frame)) e ∙ eq-eqb s.frame t.frame (ap (λ (u : Task). u.frame) (sym first_is))) in
          let h : one_if (p t) ≡ 1 = ap one_if at in
          let r : count_by p ts ≡ 0 = count_none p ts (λ k d l. later (get_or ts k d) (subst (λ (u : Task). u.frame < (get_or ts k d).frame) first_is (pairs 0 (suc k) d (omega arith) (omega arith)))) in
          omega arith
        where
          false_right : (b : Bool) → (b && false) ≡ false
          false_right true = refl
          false_right false = refl

          later : (u : Task) → s.frame < u.frame → p u ≡ false
          later u l = same u ∙ (ap (λ (b : Bool). q u && b) (ne_eqb s.frame u.frame (λ z. omega arith)) ∙ false_right (q u))
      by_case more false e first =
          let c = count_cons p t ts in
          let at : p t ≡ false = same t ∙ ap (λ (b : Bool). b && (s.frame == t.frame)) e in
          let h : one_if (p t) ≡ 0 = ap one_if at in
          let r = more first in
          omega arith

-- ---- the items of the datagrams, in the order of their first frames

abbrev item_for : ℕ → Option ℕ → Option (List Task) → List ℕ
item_for n group None = []
item_for n None (Some datagram) = task_item n ∷ []
item_for n (Some h) (Some datagram) = group_item h ∷ []

abbrev pub items_from : List Task → ℕ → List Task → List ℕ
items_from all n [] = []
items_from all n (t ∷ ts) = item_for n t.group (datagram_from all t) ++ items_from all (n + 1) ts

-- the datagram of a task in this group, if one begins with it
abbrev begun : List Task → Task → Option ℕ → Option (List Task)
begun all t group = option_map_or (group_from all t) group (Some (t ∷ []))

-- a complete group begins with the task
abbrev is_begun : List Task → ℕ → Task → Bool
is_begun all h t = option_map_or (λ (first : Task). first.frame == t.frame) (slice_get (members all h) 0) false && is_complete (members all h)

abbrev begins : List Task → ℕ → Task → Bool
begins all h t = is_member h t && is_begun all h t

module _ (all : List Task) where
  -- how often a group's item stands there
  group_head : (h n : ℕ) (t : Task) (g : Option ℕ) → times (group_item h) (item_for n g (begun all t g)) ≡ one_if (option_map_or (λ group. group == h) g false && is_begun all h t)
  group_head h n t None = times_cons_other (group_item h) (task_item n) [] (λ e. task_no_group n h (sym e))
  group_head h n t (Some k) = dite (ℕ_discrete k h) same other
    where
      here : (b : Bool) → times (group_item h) (item_for n (Some h) (if b then Some (members all h) else None)) ≡ one_if b
      here true = times_cons_same (group_item h) (group_item h) [] refl
      here false = refl

      none : (b : Bool) → k ≢ h → times (group_item h) (item_for n (Some k) (if b then Some (members all k) else None)) ≡ 0
      none true ne = times_cons_other (group_item h) (group_item k) [] (λ e. ne (group_items k h (sym e)))
      none false ne = refl

      same : k ≡ h → times (group_item h) (item_for n (Some k) (begun all t (Some k))) ≡ one_if ((k == h) && is_begun all h t)
      same e = subst (λ (z : ℕ). times (group_item h) (item_for n (Some z) (begun all t (Some z))) ≡ one_if ((z == h) && is_begun all h t)) (sym e)
          (here (is_begun all h t) ∙ ap (λ (b : Bool). one_if (b && is_begun all h t)) (sym (eq-eqb h h refl)))

      other : k ≢ h → times (group_item h) (item_for n (Some k) (begun all t (Some k))) ≡ one_if ((k == h) && is_begun all h t)
      other ne = none (is_begun all k t) ne ∙ ap (λ (b : Bool). one_if (b && is_begun all h t)) (sym (ne_eqb k h ne))

  group_times : (h n : ℕ) (ts : List Task) → times (group_item h) (items_from all n ts) ≡ count_by (begins all h) ts
  group_times h n [] = refl
  group_times h n (t ∷ ts) =
      let a = times_append (group_item h) (item_for n t.group (datagram_from all t)) (items_from all (n + 1) ts) in
      let b = group_head h n t t.group in
      let c = group_times h (n + 1) ts in
      let d = count_cons (begins all h) t ts in
      a ∙ (ap (λ (z : ℕ). z + times (group_item h) (items_from all (n + 1) ts)) b ∙ (ap (λ (z : ℕ). one_if (begins all h t) + z) c ∙ sym d))

  -- how often a task's item stands there
  task_head : (i n : ℕ) (t : Task) → i ≢ n → times (task_item i) (item_for n t.group (datagram_from all t)) ≡ 0
  task_head i n t ne = by_case t.group
    where
      of_group : (k : ℕ) (b : Bool) → times (task_item i) (item_for n (Some k) (if b then Some (members all k) else None)) ≡ 0
      of_group k true = times_cons_other (task_item i) (group_item k) [] (task_no_group i k)
      of_group k false = refl

      by_case : (g : Option ℕ) → times (task_item i) (item_for n g (begun all t g)) ≡ 0
      by_case None = times_cons_other (task_item i) (task_item n) [] (λ e. ne (task_items i n e))
      by_case (Some k) = of_group k (is_begun all k t)

  task_here : (n : ℕ) (t : Task) → t.group ≡ None → times (task_item n) (item_for n t.group (datagram_from all t)) ≡ 1
  task_here n t e = ap (λ (g : Option ℕ). times (task_item n) (item_for n g (begun all t g))) e ∙ times_cons_same (task_item n) (task_item n) [] refl

  task_alone : (n : ℕ) (t : Task) → 0 < times (task_item n) (item_for n t.group (datagram_from all t)) → t.group ≡ None
  task_alone n t l = by_case t.group l
    where
      of_group : (k : ℕ) (b : Bool) → times (task_item n) (item_for n (Some k) (if b then Some (members all k) else None)) ≡ 0
      of_group k true = times_cons_other (task_item n) (group_item k) [] (task_no_group n k)
      of_group k false = refl

      by_case : (g : Option ℕ) → 0 < times (task_item n) (item_for n g (begun all t g)) → g ≡ None
      by_case None l = refl
      by_case (Some k) l = let z = of_group k (is_begun all k t) in absurd (omega arith)

  times_both : (x n : ℕ) (t : Task) (ts : List Task) → times x (items_from all n (t ∷ ts)) ≡ times x (item_for n t.group (datagram_from all t)) + times x (items_from all (n + 1) ts)
  times_both x n t ts = times_append x (item_for n t.group (datagram_from all t)) (items_from all (n + 1) ts)

  task_before : (i n : ℕ) (ts : List Task) → i < n → times (task_item i) (items_from all n ts) ≡ 0
  task_before i n [] l = refl
  task_before i n (t ∷ ts) l = let a = times_both (task_item i) n t ts in let h = task_head i n t (λ e. omega arith) in let r = task_before i (n + 1) ts (omega arith) in omega arith

  task_at : (k i n : ℕ) (d : Task) (ts : List Task) → k < length ts → i ≡ n + k → (get_or ts k d).group ≡ None → times (task_item i) (items_from all n ts) ≡ 1
  task_at k i n d [] l e g = absurd (omega arith)
  task_at zero i n d (t ∷ ts) l e g =
      let same : i ≡ n = omega arith in
      let a = times_both (task_item n) n t ts in
      let h = task_here n t g in
      let r = task_before n (n + 1) ts (omega arith) in
      ap (λ (z : ℕ). times (task_item z) (items_from all n (t ∷ ts))) same ∙ omega arith
  task_at (suc k) i n d (t ∷ ts) l e g = let a = times_both (task_item i) n t ts in let h = task_head i n t (λ z. omega arith) in let r = task_at k i (n + 1) d ts (omega arith) (omega arith) g in omega arith

  abbrev IsAlone : ℕ → ℕ → List Task → Type 0
  IsAlone i n ts = (k : ℕ) × (k < length ts) × (i ≡ n + k) × ((d : Task) → (get_or ts k d).group ≡ None)

  task_only : (i n : ℕ) (ts : List Task) → 0 < times (task_item i) (items_from all n ts) → IsAlone i n ts
  task_only i n [] l = absurd (omega arith)
  task_only i n (t ∷ ts) l = dite (ℕ_discrete i n)
      (λ e. let r = task_before i (n + 1) ts (omega arith) in
      let here : 0 < times (task_item i) (item_for n t.group (datagram_from all t)) = (let a = times_both (task_item i) n t ts in omega arith) in
      (0, omega arith, omega arith, λ d. task_alone n t (subst (λ (z : ℕ). 0 < times (task_item z) (item_for n t.group (datagram_from all t))) e here)))
      (λ e. let h = task_head i n t e in
      let more = task_only i (n + 1) ts (let a = times_both (task_item i) n t ts in omega arith) in
      (suc more.0, omega (arith, more.1), omega (arith, more.2), more.3))

module _ (rules : List Rule) (bytes : List ℕ) (tasks : List Task) (groups : List Group) where
  abbrev work : Work
  work = work_of rules bytes tasks groups

  abbrev pub items : List ℕ
  items = items_from tasks 0 tasks

  -- ---- the items are those of all datagrams

  once_begun : AllPairs IsBefore tasks → (h : ℕ) → is_complete (members tasks h) ≡ true → count_by (begins tasks h) tasks ≡ 1
  once_begun pairs h e = by_case (members tasks h) refl
    where
      true_right : (a : Bool) → (a && true) ≡ a
      true_right true = refl
      true_right false = refl

      by_case : (ms : List Task) → members tasks h ≡ ms → count_by (begins tasks h) tasks ≡ 1
      by_case [] is = let none : false ≡ true = ap is_complete (sym is) ∙ e in absurd (cc)
      by_case (s ∷ rest) is = one_first (is_member h) s (begins tasks h) (λ t.
          ap (λ (ms : List Task). is_member h t && (option_map_or (λ (first : Task). first.frame == t.frame) (slice_get ms 0) false && is_complete (members tasks h))) is
          ∙ (ap (λ (b : Bool). is_member h t && ((s.frame == t.frame) && b)) e ∙ ap (λ (b : Bool). is_member h t && b) (true_right (s.frame == t.frame)))) tasks rest pairs is

  never_begun : (h : ℕ) → is_complete (members tasks h) ≡ false → count_by (begins tasks h) tasks ≡ 0
  never_begun h e = count_none (begins tasks h) tasks (λ k d l. none (get_or tasks k d))
    where
      false_right : (a b : Bool) → (a && (b && false)) ≡ false
      false_right true true = refl
      false_right true false = refl
      false_right false b = refl

      none : (t : Task) → begins tasks h t ≡ false
      none t = ap (λ (b : Bool). is_member h t && (option_map_or (λ (first : Task). first.frame == t.frame) (slice_get (members tasks h) 0) false && b)) e
          ∙ false_right (is_member h t) (option_map_or (λ (first : Task). first.frame == t.frame) (slice_get (members tasks h) 0) false)

  abbrev some : Task
  some = nth rules bytes tasks groups 0

  group_is : (i : ℕ) → i < length tasks → (task work i).group ≡ (get_or tasks i some).group
  group_is i l = group_at rules bytes tasks groups i ∙ ap (λ (t : Task). t.group) (nth_is rules bytes tasks groups i some l)

  pub all_items : MembersAre → AllPairs IsBefore tasks → AreAllDatagrams work items
  all_items m pairs = record {
    whole = λ i a. task_at tasks i i 0 some tasks (below rules bytes tasks groups i a.below) (omega arith) (sym (group_is i (below rules bytes tasks groups i a.below)) ∙ a.alone);
    only_whole = λ i l.
        let o = task_only tasks i 0 tasks l in
        let same : o.0 ≡ i = omega (arith, o.2) in
        let inside : i < length tasks = omega (arith, o.1) in
        record { below = (let n = long rules bytes tasks groups in omega arith); alone = group_is i inside ∙ (ap (λ (z : ℕ). (get_or tasks z some).group) (sym same) ∙ o.3 some) };
    group = λ h c. group_times tasks h 0 tasks ∙ once_begun pairs h (complete_passes rules bytes tasks groups m h c);
    only_group = λ h l. ⊎_elim (λ e. passes_complete rules bytes tasks groups m h e) (λ e. let z = never_begun h e in let a = group_times tasks h 0 tasks in absurd (omega arith)) (cases_Bool (is_complete (members tasks h)));
  }

  -- ---- their values are the findings

  task_value : (i : ℕ) → work.task_values i ≡ whole_values rules bytes tasks i
  unfolding work_of
  task_value i = refl

  group_value : (h : ℕ) → work.group_values h ≡ findings_in rules bytes (members tasks h)
  unfolding work_of
  group_value h = refl

  head_values : (n : ℕ) (t : Task) → slice_get tasks n ≡ Some t → values_of work (item_for n t.group (datagram_from tasks t)) ≡ option_map_or (findings_in rules bytes) (datagram_from tasks t) []
  head_values n t at = by_case t.group
    where
      of_group : (h : ℕ) (b : Bool) → values_of work (item_for n (Some h) (if b then Some (members tasks h) else None)) ≡ option_map_or (findings_in rules bytes) (if b then Some (members tasks h) else None) []
      of_group h true = append-nil (item_values work (group_item h)) ∙ (group_item_values work h ∙ group_value h)
      of_group h false = refl

      by_case : (g : Option ℕ) → values_of work (item_for n g (begun tasks t g)) ≡ option_map_or (findings_in rules bytes) (begun tasks t g) []
      by_case None = append-nil (item_values work (task_item n)) ∙ (task_item_values work n ∙ (task_value n ∙ ap (λ (o : Option Task). option_map_or (λ (u : Task). findings_in rules bytes (u ∷ [])) o []) at))
      by_case (Some h) = of_group h (is_begun tasks h t)

  with_option : (o : Option (List Task)) (ds : List (List Task)) → flat_map (findings_in rules bytes) (cons_option o ds) ≡ option_map_or (findings_in rules bytes) o [] ++ flat_map (findings_in rules bytes) ds
  with_option None ds = refl
  with_option (Some d) ds = refl

  values_from : (n : ℕ) (ts : List Task) → ((k : ℕ) → k < length ts → slice_get tasks (n + k) ≡ slice_get ts k) → values_of work (items_from tasks n ts) ≡ flat_map (findings_in rules bytes) (filter_map (datagram_from tasks) ts)
  values_from n [] at = refl
  values_from n (t ∷ ts) at =
      let first : n + 0 ≡ n = omega arith in
      let here : slice_get tasks n ≡ Some t = ap (slice_get tasks) (sym first) ∙ at 0 (omega arith) in
      let rest = values_from (n + 1) ts (λ k l. let next : n + 1 + k ≡ n + suc k = omega arith in ap (slice_get tasks) next ∙ at (suc k) (omega arith)) in
      values_append work (item_for n t.group (datagram_from tasks t)) (items_from tasks (n + 1) ts)
      ∙ (ap (λ (z : List ℕ). z ++ values_of work (items_from tasks (n + 1) ts)) (head_values n t here)
      ∙ (ap (λ (z : List ℕ). option_map_or (findings_in rules bytes) (datagram_from tasks t) [] ++ z) rest
      ∙ sym (with_option (datagram_from tasks t) (filter_map (datagram_from tasks) ts))))

  pub items_values : values_of work items ≡ all_findings rules bytes tasks
  unfolding all_findings
  items_values = values_from 0 tasks (λ k l. let z : 0 + k ≡ k = omega arith in ap (slice_get tasks) z)

  -- ---- so are those of any list of them, and what a finished run has in its log

  pub values_found : MembersAre → AllPairs IsBefore tasks → (xs : List ℕ) → AreAllDatagrams work xs → IsPermutation (values_of work xs) (all_findings rules bytes tasks)
  values_found m pairs xs a = subst (λ (z : List ℕ). IsPermutation (values_of work xs) z) items_values (same_values work xs items (same_times work xs items a (all_items m pairs)))

  pub log_found : MembersAre → AllPairs IsBefore tasks → (s : State) → IsLawful work s → IsFinished work s → IsPermutation (all_findings rules bytes tasks) (s.logs 0).items
  log_found m pairs s l f = subst (λ (z : List ℕ). IsPermutation z (s.logs 0).items) items_values (finds_all work s l f items (all_items m pairs))

-- ---- the datagrams that items stand for

in_list : (x : ℕ) (xs : List ℕ) → 0 < times x xs → Contains xs x
in_list x [] l = absurd (omega arith)
in_list x (y ∷ xs) l = dite (ℕ_discrete x y)
    (λ e. (0, omega arith, sym e))
    (λ n. let o = times_cons_other x y xs n in let r = in_list x xs (omega arith) in (suc r.0, omega (arith, r.1), r.2))

list_in : (xs : List ℕ) (k d : ℕ) → k < length xs → 0 < times (get_or xs k d) xs
list_in [] k d l = absurd (omega arith)
list_in (x ∷ xs) zero d l = let a = times_cons_same x x xs refl in omega arith
list_in (x ∷ xs) (suc k) d l = let r = list_in xs k d (omega arith) in let m = times_cons_more (get_or xs k d) x xs in omega arith

module _ (rules : List Rule) (bytes : List ℕ) (tasks : List Task) (groups : List Group) where
  there : (i : ℕ) → i < length tasks → slice_get tasks i ≡ Some (nth rules bytes tasks groups i)
  there i l = slice_get-get_or tasks i (nth rules bytes tasks groups i) l ∙ ap (λ (t : Task). Some t) (sym (nth_is rules bytes tasks groups i (nth rules bytes tasks groups i) l))

  pub whole_datagram : (i : ℕ) → IsWhole (work_of rules bytes tasks groups) i
      → (datagram : List Task) × IsDatagramAt tasks (i ∷ []) datagram × ((work_of rules bytes tasks groups).task_values i ≡ findings_in rules bytes datagram)
  whole_datagram i a =
      let t : Task = nth rules bytes tasks groups i in
      let at = there i (below rules bytes tasks groups i a.below) in (
        t ∷ [],
        inl (record { number = i; task = t; alone = refl; there = at; whole = sym (group_at rules bytes tasks groups i) ∙ a.alone; is = refl }),
        task_value rules bytes tasks groups i ∙ ap (λ (o : Option Task). option_map_or (λ (u : Task). findings_in rules bytes (u ∷ [])) o []) at,
      )

  pub group_datagram : MembersAre → (h : ℕ) (numbers : List ℕ) → IsComplete (work_of rules bytes tasks groups) h
      → ((i : ℕ) → IsMember (work_of rules bytes tasks groups) h i → 0 < times i numbers) → ((i : ℕ) → 0 < times i numbers → IsMember (work_of rules bytes tasks groups) h i)
      → (datagram : List Task) × IsDatagramAt tasks numbers datagram × ((work_of rules bytes tasks groups).group_values h ≡ findings_in rules bytes datagram)
  group_datagram m h numbers c every only = (
    members tasks h,
    inr (record {
      group = h;
      each = λ k d l.
          let one = only (get_or numbers k d) (list_in numbers k d l) in
          subst (λ (o : Option Task). IsSomeAnd o (λ task. is_member h task ≡ true)) (sym (there (get_or numbers k d) (below rules bytes tasks groups (get_or numbers k d) one.below)))
          (group_member h (nth rules bytes tasks groups (get_or numbers k d)) (sym (group_at rules bytes tasks groups (get_or numbers k d)) ∙ one.belongs));
      all = λ number t at is.
          let inside : number < length tasks = slice_get_within tasks number t at in
          let nth_at : nth rules bytes tasks groups number ≡ t = nth_is rules bytes tasks groups number t inside ∙ get_or_from_slice_get tasks number t t at in
          in_list number numbers (every number (record {
            below = (let n = long rules bytes tasks groups in let i = inside in omega arith);
            belongs = group_at rules bytes tasks groups number ∙ (ap (λ (u : Task). u.group) nth_at ∙ m.named h t is);
          }));
      complete = complete_passes rules bytes tasks groups m h c;
      is = refl;
    }),
    group_value rules bytes tasks groups h,
  )
    where
      group_member : (number : ℕ) (t : Task) → t.group ≡ Some number → is_member number t ≡ true
      group_member number t e = ap (λ (o : Option ℕ). option_map_or (λ group. group == number) o false) e ∙ eq-eqb number number refl

-- ---- the groups that have a word at the end

module _ (rules : List Rule) (bytes : List ℕ) (tasks : List Task) (groups : List Group) (p : IsSoundWork (work_of rules bytes tasks groups)) (s : State) (l : IsLawful (work_of rules bytes tasks groups) s) (f : IsFinished (work_of rules bytes tasks groups) s) (m : MembersAre) where
  word_incomplete : (h x : ℕ) → s.maps 0 h ≡ Some x → (h < length groups) × (is_complete (members tasks h) ≡ false)
  word_incomplete h x e = (incomplete_iff rules bytes tasks groups m h).0 ((incomplete_alone (work_of rules bytes tasks groups) s l f p).0 h x e)

  incomplete_word : (h : ℕ) → h < length groups → is_complete (members tasks h) ≡ false → IsSome (s.maps 0 h)
  incomplete_word h less e = (incomplete_alone (work_of rules bytes tasks groups) s l f p).1 h ((incomplete_iff rules bytes tasks groups m h).1 (less, e))

  pub word_there : (h : ℕ) → IsSome (s.maps 0 h) → h < length groups
  word_there h e = by_case (s.maps 0 h) refl e
    where
      by_case : (o : Option ℕ) → s.maps 0 h ≡ o → is_some o ≡ true → h < length groups
      by_case None is e = absurd (cc)
      by_case (Some x) is e = (word_incomplete h x is).0

  has_word : (h : ℕ) → h < length groups → is_some (s.maps 0 h) ≡ not (is_complete (members tasks h))
  has_word h less = by_case (s.maps 0 h) refl
    where
      lacking : s.maps 0 h ≡ None → (b : Bool) → is_complete (members tasks h) ≡ b → false ≡ not b
      lacking is true e = refl
      lacking is false e = sym (ap is_some is) ∙ incomplete_word h less e

      by_case : (o : Option ℕ) → s.maps 0 h ≡ o → is_some (s.maps 0 h) ≡ not (is_complete (members tasks h))
      by_case None is = ap is_some is ∙ lacking is (is_complete (members tasks h)) refl
      by_case (Some x) is = ap is_some is ∙ sym (ap not (word_incomplete h x is).1)

  pub words_counted : count_by (λ h. is_some (s.maps 0 h)) (range_with_len 0 (length groups)) ≡ incomplete tasks groups
  words_counted =
      count_range (λ h. is_some (s.maps 0 h)) 0 (length groups)
      ∙ (total_same (λ h. one_if (is_some (s.maps 0 (0 + h)))) (λ h. one_if (not (is_complete (members tasks (0 + h))))) (length groups) (λ h m. ap one_if (has_word (0 + h) (omega arith)))
      ∙ sym (count_range (λ h. not (is_complete (members tasks h))) 0 (length groups)))
