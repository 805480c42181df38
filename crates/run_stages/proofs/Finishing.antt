-- Where nothing is left to do.
use Rattle.std.proofs.Common.{◌≡◌, ℕ, ◌/◌, ◌%◌, ◌<◌, List, [], ◌∷◌, ◌++◌, ◌⊎◌, length, inl, inr, ⊎_elim, sym, refl, ap, ◌∙◌, subst, arith, append_assoc}
use Rattle.std.specs.Prelude.{Some, IsSome, IsPermutation}
use Rattle.std.proofs.lemmas.List.Sorted.{IsPermutation-refl, IsPermutation-trans, IsPermutation-append_left, IsPermutation-append_right, IsPermutation-append_comm}
use mathlib.Core.Logic.{dite}
use native.Mathlib.Decide.{ℕ_discrete}
use Rattle.serial_terms.specs.Counts.{times}
use Rattle.serial_terms.specs.Serial.{State}
use Rattle.run_stages.specs.Work.{Work, IsSoundWork, IsMember, given_count, task_item, group_item, item_values, values_of}
use Rattle.run_stages.specs.Stages.{IsAdded, IsLawful, chain_word}
use Rattle.run_stages.specs.Ends.{IsFinished, AreAllDatagrams, IsIncomplete}
use Rattle.run_stages.specs.Laws.{FinishedFindsAll, FinishedKeepsIncomplete}
use Rattle.run_stages.proofs.Counting.{zero_or, total_zero, times_cons_same, times_cons_other}
use Rattle.run_stages.proofs.Matching.{values_append}
use Rattle.serial_terms.specs.Facts.{times_append}

-- ---- lists with the same numbers

-- the list around one place where x stands
pub around : (x : ℕ) (ys : List ℕ) → 0 < times x ys → (before : List ℕ) × (behind : List ℕ) × (ys ≡ before ++ x ∷ behind)
around x [] l = absurd (omega arith)
around x (y ∷ ys) l = dite (ℕ_discrete x y)
    (λ e. ([], ys, ap (λ (z : ℕ). z ∷ ys) (sym e)))
    (λ n. let a = times_cons_other x y ys n in let r = around x ys (omega arith) in (y ∷ r.0, r.1, ap (λ (z : List ℕ). y ∷ z) r.2))

-- values of the same items are the same values, in another order
pub same_values : (w : Work) (xs ys : List ℕ) → ((x : ℕ) → times x xs ≡ times x ys) → IsPermutation (values_of w xs) (values_of w ys)
same_values w [] [] e = IsPermutation-refl []
same_values w [] (y ∷ ys) e = let a = e y in let b = times_cons_same y y ys refl in absurd (omega arith)
same_values w (x ∷ xs) ys e =
    let r = around x ys (let a = e x in let b = times_cons_same x x xs refl in omega arith) in
    let i = same_values w xs (r.0 ++ r.1) (λ z. let a = e z in let b = ap (times z) r.2 in let c = times_append z r.0 (x ∷ r.1) in let d = times_append z r.0 r.1 in omega arith) in
    let v : List ℕ = item_values w x in let b : List ℕ = values_of w r.0 in let c : List ℕ = values_of w r.1 in
    let first : IsPermutation (v ++ values_of w xs) (v ++ (b ++ c)) = IsPermutation-append_right v (values_of w xs) (b ++ c) (subst (λ (z : List ℕ). IsPermutation (values_of w xs) z) (values_append w r.0 r.1) i) in
    let moved : IsPermutation ((v ++ b) ++ c) ((b ++ v) ++ c) = IsPermutation-append_left c (v ++ b) (b ++ v) (IsPermutation-append_comm v b) in
    let second : IsPermutation (v ++ (b ++ c)) (b ++ (v ++ c)) = subst (λ (z : List ℕ). IsPermutation (v ++ (b ++ c)) z) (append_assoc b v c) (subst (λ (z : List ℕ). IsPermutation z ((b ++ v) ++ c)) (append_assoc v b c) moved) in
    let whole : values_of w ys ≡ b ++ (v ++ c) = ap (values_of w) r.2 ∙ values_append w r.0 (x ∷ r.1) in
    subst (λ (z : List ℕ). IsPermutation (v ++ values_of w xs) z) (sym whole) (IsPermutation-trans (v ++ values_of w xs) (v ++ (b ++ c)) (b ++ (v ++ c)) first second)

-- each number is a task's item or a group's
pub item_cases : (x : ℕ) → ((i : ℕ) × (x ≡ task_item i)) ⊎ ((h : ℕ) × (x ≡ group_item h))
item_cases x = dite (ℕ_discrete (x % 2) 0) (λ e. inl (x / 2, omega arith)) (λ e. inr (x / 2, omega arith))

module _ (w : Work) (s : State) (l : IsLawful w s) (e : IsFinished w s) where
  not_pooled : (i : ℕ) → (s.pools 0).count i ≡ 0
  not_pooled i = zero_or ((s.pools 0).count i) (λ m. let p = l.stages.pooled i m in let z = total_zero (s.pools 0).count (length w.tasks) (sym l.stages.held ∙ e.pool) i (omega arith) in omega arith)

  not_queued : (x : ℕ) → times x (s.queues 0).items ≡ 0
  not_queued x = ap (times x) e.queue

  all_given : (i : ℕ) → i < length w.tasks → i < given_count w (s.cells 0)
  all_given i m = let a = e.given in omega arith

  added : (h i : ℕ) → IsMember w h i → IsAdded w (s.cells 0) (s.pools 0) h i
  added h i m = record { member = m; given = all_given i m.below; taken = not_pooled i }

  -- what was matched are all datagrams
  pub all_matched : AreAllDatagrams w l.matched
  all_matched = record {
    whole = λ i a. let x = l.stages.whole i a (all_given i a.below) in let p = not_pooled i in let q = not_queued (task_item i) in omega arith;
    only_whole = λ i m. (l.stages.only_whole i (omega arith)).0;
    group = λ h c. let x = l.stages.group h c (λ i m. added h i m) in let q = not_queued (group_item h) in omega arith;
    only_group = λ h m. (l.stages.only_group h (omega arith)).0;
  }

  same_items : (items : List ℕ) → AreAllDatagrams w items → (x : ℕ) → times x items ≡ times x l.matched
  same_items items a x = ⊎_elim
      (λ t. subst (λ (z : ℕ). times z items ≡ times z l.matched) (sym t.1) (same (times (task_item t.0) items) (times (task_item t.0) l.matched)
      (λ m. let y = a.only_whole t.0 m in let b = a.whole t.0 y in let c = all_matched.whole t.0 y in omega arith)
      (λ m. let y = all_matched.only_whole t.0 m in let b = a.whole t.0 y in let c = all_matched.whole t.0 y in omega arith)))
      (λ t. subst (λ (z : ℕ). times z items ≡ times z l.matched) (sym t.1) (same (times (group_item t.0) items) (times (group_item t.0) l.matched)
      (λ m. let y = a.only_group t.0 m in let b = a.group t.0 y in let c = all_matched.group t.0 y in omega arith)
      (λ m. let y = all_matched.only_group t.0 m in let b = a.group t.0 y in let c = all_matched.group t.0 y in omega arith)))
      (item_cases x)
    where
      same : (p q : ℕ) → (0 < p → p ≡ q) → (0 < q → p ≡ q) → p ≡ q
      same p q f k = dite (ℕ_discrete p 0) (λ z. dite (ℕ_discrete q 0) (λ y. omega arith) (λ y. k (omega arith))) (λ z. f (omega arith))

  pub finds_all : (items : List ℕ) → AreAllDatagrams w items → IsPermutation (values_of w items) (s.logs 0).items
  finds_all items a = subst (λ (z : List ℕ). IsPermutation (values_of w items) z) (sym l.stages.found) (same_values w items l.matched (same_items items a))

  -- ---- the maps

  -- a group with a task in its chain isn't complete
  chained_incomplete : IsSoundWork w → (h i : ℕ) → 0 < times i (l.chain h) → IsIncomplete w h
  chained_incomplete p h i m = let o = l.stages.only_chained h i m in record { below = p.numbered h i o.0.member; lacking = λ c. let a = all_matched.group h c in let z = o.1 in absurd (omega arith) }

  word_chained : (h x : ℕ) → s.maps 0 h ≡ Some x → (i : ℕ) × (0 < times i (l.chain h))
  word_chained h x y = first (l.chain h) (sym (l.stages.word h) ∙ y)
    where
      first : (c : List ℕ) → chain_word w c ≡ Some x → (i : ℕ) × (0 < times i c)
      first [] q = absurd (cc)
      first (i ∷ c) q = (i, let a = times_cons_same i i c refl in omega arith)

  incomplete_word : IsSoundWork w → (h : ℕ) → IsIncomplete w h → IsSome (s.maps 0 h)
  incomplete_word p h n = let i = p.inhabited h n.below in
      let none : times (group_item h) l.matched ≡ 0 = zero_or (times (group_item h) l.matched) (λ m. n.lacking (all_matched.only_group h m)) in
      let there = l.stages.chained h i.0 (added h i.0 i.1) none in
      subst IsSome (sym (l.stages.word h)) (has (l.chain h) i.0 there)
    where
      has : (c : List ℕ) (i : ℕ) → times i c ≡ 1 → IsSome (chain_word w c)
      has [] i q = absurd (omega arith)
      has (j ∷ c) i q = refl

  pub incomplete_alone : IsSoundWork w → ((h x : ℕ) → s.maps 0 h ≡ Some x → IsIncomplete w h) × ((h : ℕ) → IsIncomplete w h → IsSome (s.maps 0 h)) × ((i j : ℕ) → s.maps 1 i ≡ Some j → (h : ℕ) × IsMember w h i × IsIncomplete w h)
  incomplete_alone p = (
    (λ h x y. let c = word_chained h x y in chained_incomplete p h c.0 c.1),
    incomplete_word p,
    (λ i j y. let o = l.stages.only_linked i j y in (o.0, (l.stages.only_chained o.0 i o.1).0.member, chained_incomplete p o.0 i o.1)),
  )

pub all_found : FinishedFindsAll
all_found w s l e items a = finds_all w s l e items a

pub incomplete_kept : FinishedKeepsIncomplete
incomplete_kept w p s l e = incomplete_alone w s l e p
