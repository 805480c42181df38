-- What replies in a lawful state tell.
use Rattle.std.proofs.Common.{◌≡◌, ◌≢◌, ℕ, zero, suc, ◌+◌, ◌<◌, ◌≤◌, ◌⊎◌, eqb, List, [], ◌∷◌, ◌++◌, length, length-append, inl, inr, ⊎_elim, sym, refl, ap, ◌∙◌, subst, arith, eq-eqb, ne_eqb}
use Rattle.std.specs.Prelude.{Some, None}
use mathlib.Core.Logic.{dite}
use native.Mathlib.Decide.{ℕ_discrete}
use Rattle.serial_terms.specs.declared.call.Reply.TheVariants.{Value}
use Rattle.serial_terms.specs.Counts.{times, with_at}
use Rattle.serial_terms.specs.Entries.{by_caller}
use Rattle.serial_terms.specs.Histories.{Runs}
use Rattle.serial_terms.specs.Serial.{State, found, first, rest, put_map, put_queue}
use Rattle.run_stages.specs.Work.{Work, IsSoundWork, IsWhole, IsMember, IsComplete, total_below, task_item, group_item, group_word, item_values, values_of, head_of}
use Rattle.run_stages.specs.Allowed.{walk}
use Rattle.run_stages.specs.Ends.{AreAllDatagrams, all_tasks_taken, all_items_taken}
use Rattle.run_stages.specs.Stages.{AllAdded, IsLawful, LeadThrough, chain_bytes, chain_total, chain_word}
use Rattle.run_stages.specs.Told.{walked, TakenIsTask, QueuedIsDatagram, AddedWordFits, WalkStaysInGroup, WalkFindsGroup, LogIsPartOfAll, OneCallerTakesLess}
use Rattle.run_stages.proofs.Counting.{times_cons_more, total_le, total_times, times_cons_same, times_cons_other}
use Rattle.run_stages.proofs.Taking.{some_held}
use Rattle.run_stages.proofs.Chains.{bytes_le, total_short}
use Rattle.run_stages.proofs.Adding.{heads, chain_members, chain_once, bytes_now, total_now, more_members, more_once}
use Rattle.run_stages.proofs.Finishing.{around, item_cases}
use Rattle.run_stages.proofs.Matching.{values_append, lead_same}
use Rattle.run_stages.proofs.Runs.{found_same, found_value, first_value}
use Rattle.std.proofs.lemmas.Bool.{cond-true, cond-false}
use Rattle.serial_terms.specs.Facts.{with_at_other, times_append}

pub taken_task : TakenIsTask
taken_task w s l i there = let h = some_held l.stages i there in
    let f = l.stages.fits in let c = l.stages.capacity in (l.stages.pooled i there, omega arith)

-- the first item of the queue is in it
in_queue : (x : ℕ) (xs : List ℕ) → Value x ≡ first xs → 0 < times x xs
in_queue x xs e = let q = first_value x xs e in let a = ap (times x) q.1 in let b = times_cons_same x x q.0 refl in omega arith

module _ (w : Work) (s : State) (l : IsLawful w s) where
  -- a complete group in the queue has its tasks in its chain
  queued_chain : (h : ℕ) → 0 < times (group_item h) (s.queues 0).items → IsComplete w h × AllAdded w (s.cells 0) (s.pools 0) h × ((i : ℕ) → IsMember w h i → times i (l.chain h) ≡ 1)
  queued_chain h m = let o = l.stages.only_group h (omega arith) in let g = l.stages.group h o.0 o.1 in
      (o.0, o.1, λ i n. l.stages.chained h i (o.1 i n) (omega arith))

  has_word : (h : ℕ) → 0 < times (group_item h) (s.queues 0).items → (y : ℕ) × (s.maps 0 h ≡ Some y)
  has_word h m = let q = queued_chain h m in let t = q.2 q.0.ender q.0.member in let c = nonempty (l.chain h) q.0.ender t in (c.0, l.stages.word h ∙ c.1)
    where
      nonempty : (c : List ℕ) (i : ℕ) → times i c ≡ 1 → (y : ℕ) × (chain_word w c ≡ Some y)
      nonempty [] i e = absurd (omega arith)
      nonempty (j ∷ js) i e = (group_word j (chain_bytes w (j ∷ js)) (chain_total w (j ∷ js)), refl)

  pub queued : (x : ℕ) → Value x ≡ first (s.queues 0).items → ((i : ℕ) × (x ≡ task_item i) × IsWhole w i) ⊎ ((h : ℕ) × (x ≡ group_item h) × IsComplete w h × ((y : ℕ) × (s.maps 0 h ≡ Some y)))
  queued x e = let m = in_queue x (s.queues 0).items e in ⊎_elim
      (λ t. let n = ap (λ (z : ℕ). times z (s.queues 0).items) t.1 in inl (t.0, t.1, (l.stages.only_whole t.0 (omega arith)).0))
      (λ t. let n = ap (λ (z : ℕ). times z (s.queues 0).items) t.1 in let p : 0 < times (group_item t.0) (s.queues 0).items = omega arith in inr (t.0, t.1, (queued_chain t.0 p).0, has_word t.0 p))
      (item_cases x)

pub queued_datagram : QueuedIsDatagram
queued_datagram w s l x e = queued w s l x e

pub word_fits : AddedWordFits
word_fits w p s l h i m there =
    let b = bytes_now l.stages p h i m there in
    let t = total_now l.stages p h i m there in
    let members = more_members l.stages p h i m there in
    let once = more_once l.stages p h i m there in
    let c = bytes_le w h (i ∷ l.chain h) members once in let k = p.bounded h in let u = total_short w p h (i ∷ l.chain h) members in (
      omega arith,
      omega arith,
      λ x e. let q = heads l.stages p h x e in let a = ap (times (head_of x)) q.1 in let d = times_cons_same (head_of x) (head_of x) q.0 refl in
          chain_members l.stages h (head_of x) (omega arith),
    )

-- ---- walks

-- a walk follows the chain
walk_follows : (w : Work) (is : List ℕ) (i : ℕ) (before : List ℕ) (s t : State) → LeadThrough w (s.maps 1) (i ∷ is) → ((j : ℕ) → times j (i ∷ is) ≤ 1) → Runs s (walked i before) t → (later : List ℕ) × (is ≡ before ++ later)
walk_follows w is i [] s t l o r = (is, refl)
walk_follows w [] i (k ∷ ks) s t l o r = let e : Some k ≡ None = found_same (Some k) None (r.0 ∙ ap found l) in absurd (cc)
walk_follows w (j ∷ js) i (k ∷ ks) s t l o r =
    let e : Some k ≡ Some j = found_same (Some k) (Some j) (r.0 ∙ ap found l.0) in let same : k ≡ j = cc in
    let far : (x : ℕ) → 0 < times x (j ∷ js) → x ≢ i = λ x m y. (let a = o i in let b = times_cons_same i i (j ∷ js) refl in let c = ap (λ (z : ℕ). times z (j ∷ js)) y in omega arith) in
    let rec = walk_follows w js j ks (put_map s 1 i None) t
    (lead_same w (s.maps 1) (with_at (s.maps 1) i None) (j ∷ js) (λ x m. with_at_other (s.maps 1) i None x (far x m)) l.1)
    (λ x. let a = o x in let b = times_cons_more x i (j ∷ js) in omega arith)
    (subst (λ (z : ℕ). Runs (put_map s 1 i None) (walked z ks) t) same r.1.1) in
    (rec.0, (λ x. sym same x ∷ rec.1 x))

-- and ends where the chain ends
walk_ends : (w : Work) (is : List ℕ) (i : ℕ) (before : List ℕ) (s t : State) → LeadThrough w (s.maps 1) (i ∷ is) → ((j : ℕ) → times j (i ∷ is) ≤ 1) → Runs s (walk w i before) t → is ≡ before
walk_ends w [] i [] s t l o r = refl
walk_ends w (j ∷ js) i [] s t l o r = let e : None ≡ Some j = found_same None (Some j) (r.0 ∙ ap found l.0) in absurd (cc)
walk_ends w [] i (k ∷ ks) s t l o r = let e : Some k ≡ None = found_same (Some k) None (r.0 ∙ ap found l) in absurd (cc)
walk_ends w (j ∷ js) i (k ∷ ks) s t l o r =
    let e : Some k ≡ Some j = found_same (Some k) (Some j) (r.0 ∙ ap found l.0) in let same : k ≡ j = cc in
    let far : (x : ℕ) → 0 < times x (j ∷ js) → x ≢ i = λ x m y. (let a = o i in let b = times_cons_same i i (j ∷ js) refl in let c = ap (λ (z : ℕ). times z (j ∷ js)) y in omega arith) in
    let rec = walk_ends w js j ks (put_map s 1 i None) t
    (lead_same w (s.maps 1) (with_at (s.maps 1) i None) (j ∷ js) (λ x m. with_at_other (s.maps 1) i None x (far x m)) l.1)
    (λ x. let a = o x in let b = times_cons_more x i (j ∷ js) in omega arith)
    (subst (λ (z : ℕ). Runs (put_map s 1 i None) (walk w z ks) t) same r.1.1) in
    λ x. sym same x ∷ rec x

module _ (w : Work) (p : IsSoundWork w) (s : State) (l : IsLawful w s) (h x : ℕ) (e : s.maps 0 h ≡ Some x) where
  on_chain_once : (j : ℕ) → times j (head_of x ∷ (heads l.stages p h x e).0) ≤ 1
  on_chain_once j = let o = chain_once l.stages h j in let b = ap (times j) (heads l.stages p h x e).1 in omega arith

  on_chain_member : (j : ℕ) → 0 < times j (head_of x ∷ (heads l.stages p h x e).0) → IsMember w h j
  on_chain_member j y = chain_members l.stages h j (let b = ap (times j) (heads l.stages p h x e).1 in omega arith)

  leads : LeadThrough w (s.maps 1) (head_of x ∷ (heads l.stages p h x e).0)
  leads = subst (LeadThrough w (s.maps 1)) (heads l.stages p h x e).1 (l.stages.lead h)

-- a list whose numbers are below n, each once, has at most n
at_most : (n : ℕ) (xs : List ℕ) → ((i : ℕ) → times i xs ≤ 1) → ((i : ℕ) → 0 < times i xs → i < n) → length xs ≤ n
at_most n xs once below = let a = total_times xs n below in let b = total_le (λ i. times i xs) (λ i. 1) n (λ i l. once i) in let c = ones n in omega arith
  where
    ones : (n : ℕ) → total_below (λ i. 1) n ≡ n
    ones zero = refl
    ones (suc n) = let a = ones n in omega arith

begin : (i j : ℕ) (before later : List ℕ) → times i (j ∷ before) ≤ times i (j ∷ (before ++ later))
begin i j before later = omega (arith, times_append i before later)

pub walk_inside : WalkStaysInGroup
walk_inside w p s t l h x before r =
    let e = found_value x (s.maps 0 h) r.1.0 in let c = heads l.stages p h x e in
    let f = walk_follows w c.0 (head_of x) before (put_map (put_queue s 0 (rest (s.queues 0).items)) 0 h None) t (leads w p s l h x e) (on_chain_once w p s l h x e) r.1.1.1 in
    let le : (i : ℕ) → times i (head_of x ∷ before) ≤ times i (head_of x ∷ c.0) = λ i. (let a = begin i (head_of x) before f.0 in let b = ap (λ (z : List ℕ). times i (head_of x ∷ z)) f.1 in omega arith) in
    let once : (i : ℕ) → times i (head_of x ∷ before) ≤ 1 = λ i. (let a = le i in let b = on_chain_once w p s l h x e i in omega arith) in
    let member : (i : ℕ) → 0 < times i (head_of x ∷ before) → IsMember w h i = λ i m. on_chain_member w p s l h x e i (let a = le i in omega arith) in
    (once, member, at_most (length w.tasks) (head_of x ∷ before) once (λ i m. (member i m).below))

pub walk_whole : WalkFindsGroup
walk_whole w p s t l h x before r =
    let e = found_value x (s.maps 0 h) r.1.0 in let c = heads l.stages p h x e in
    let f = walk_ends w c.0 (head_of x) before (put_map (put_queue s 0 (rest (s.queues 0).items)) 0 h None) t (leads w p s l h x e) (on_chain_once w p s l h x e) r.1.1.1 in
    let q = queued_chain w s l h (in_queue (group_item h) (s.queues 0).items r.0) in
    let same : (i : ℕ) → times i (head_of x ∷ before) ≡ times i (l.chain h) = λ i. (let a = ap (λ (z : List ℕ). times i (head_of x ∷ z)) f in let b = ap (times i) c.1 in omega arith) in
    (q.0, (λ i m. same i ∙ q.2 i m), λ i m. chain_members l.stages h i (let a = same i in omega arith))

-- ---- the log

-- with no more of each item, there are no more values
fewer_values : (w : Work) (xs ys : List ℕ) → ((x : ℕ) → times x xs ≤ times x ys) → length (values_of w xs) ≤ length (values_of w ys)
fewer_values w [] ys e = omega arith
fewer_values w (x ∷ xs) ys e =
    let r = around x ys (let a = e x in let b = times_cons_same x x xs refl in omega arith) in
    let i = fewer_values w xs (r.0 ++ r.1) (λ z. let a = e z in let b = ap (times z) r.2 in let c = times_append z r.0 (x ∷ r.1) in let d = times_append z r.0 r.1 in omega arith) in
    let b = ap (λ (z : List ℕ). length (values_of w z)) r.2 in
    let c = ap length (values_append w r.0 (x ∷ r.1)) in let d = ap length (values_append w r.0 r.1) in
    omega (arith, length-append (item_values w x) (values_of w xs), length-append (values_of w r.0) (item_values w x ++ values_of w r.1), length-append (item_values w x) (values_of w r.1), length-append (values_of w r.0) (values_of w r.1))

module _ (w : Work) (s : State) (l : IsLawful w s) (items : List ℕ) (a : AreAllDatagrams w items) where
  -- what is in the queue or matched is in the list of all datagrams
  once_in : (x : ℕ) → times x (s.queues 0).items + times x l.matched ≤ times x items
  once_in x = ⊎_elim
      (λ t. subst (λ (z : ℕ). times z (s.queues 0).items + times z l.matched ≤ times z items) (sym t.1) (dite (ℕ_discrete (times (task_item t.0) (s.queues 0).items + times (task_item t.0) l.matched) 0) (λ e. omega arith)
      (λ n. let o = l.stages.only_whole t.0 (omega arith) in let v = l.stages.whole t.0 o.0 o.1 in let c = a.whole t.0 o.0 in omega arith)))
      (λ t. subst (λ (z : ℕ). times z (s.queues 0).items + times z l.matched ≤ times z items) (sym t.1) (dite (ℕ_discrete (times (group_item t.0) (s.queues 0).items + times (group_item t.0) l.matched) 0) (λ e. omega arith)
      (λ n. let o = l.stages.only_group t.0 (omega arith) in let v = l.stages.group t.0 o.0 o.1 in let c = a.group t.0 o.0 in omega arith)))
      (item_cases x)

  log_part : length (s.logs 0).items ≤ length (values_of w items)
  log_part = let e = ap length l.stages.found in let f = fewer_values w l.matched items (λ x. let o = once_in x in omega arith) in omega arith

  next_part : (x : ℕ) → Value x ≡ first (s.queues 0).items → length (s.logs 0).items + length (item_values w x) ≤ length (values_of w items)
  next_part x q = let e = ap length l.stages.found in let m = in_queue x (s.queues 0).items q in
      let f = fewer_values w (x ∷ l.matched) items (λ y. let o = once_in y in dite (ℕ_discrete y x) (λ z. let c = times_cons_same y x l.matched z in let d = ap (λ (k : ℕ). times k (s.queues 0).items) z in omega arith) (λ z. let c = times_cons_other y x l.matched z in omega arith)) in
      omega (arith, length-append (item_values w x) (values_of w l.matched))

pub log_within : LogIsPartOfAll
log_within w s l items a = (log_part w s l items a, next_part w s l items a)

-- ---- one caller

pub takes_less : OneCallerTakesLess
takes_less k [] = (omega arith, omega arith)
takes_less k (e ∷ es) = let i = takes_less k es in let x = i.0 in let y = i.1 in dite (ℕ_discrete e.caller k)
    (λ q. let z = cond-true (eqb e.caller k) (e ∷ by_caller k es) (by_caller k es) (eq-eqb e.caller k q) in let a = ap all_tasks_taken z in let b = ap all_items_taken z in (omega arith, omega arith))
    (λ q. let z = cond-false (eqb e.caller k) (e ∷ by_caller k es) (by_caller k es) (ne_eqb e.caller k q) in let a = ap all_tasks_taken z in let b = ap all_items_taken z in (omega arith, omega arith))
