-- A fragment is added to its group.
use Rattle.std.proofs.Common.{◌≡◌, ◌≢◌, ℕ, ◌+◌, ◌<◌, ◌≤◌, cond, List, [], ◌∷◌, ◌++◌, ◌⊎◌, length, ⊎_elim, sym, refl, ap, ◌∙◌, subst, arith}
use Rattle.std.specs.Prelude.{Option, Some}
use mathlib.Core.Logic.{dite}
use native.Mathlib.Decide.{ℕ_discrete}
use Rattle.serial_terms.specs.Counts.{times, with_at}
use Rattle.serial_terms.specs.Serial.{Pool, Sequence, less}
use Rattle.run_stages.specs.Work.{Work, IsWhole, IsMember, IsComplete, IsSoundWork, group_word, head_of, task_item, group_item, task, end_of}
use Rattle.run_stages.specs.Allowed.{new_bytes, new_total}
use Rattle.run_stages.specs.Stages.{IsAdded, AllAdded, Stages, LeadThrough, chain_bytes, chain_total, chain_word}
use Rattle.run_stages.proofs.Counting.{zero_or, times_cons_same, times_cons_other, times_push_same, times_push_other, push_length, group_items, task_no_group}
use Rattle.run_stages.proofs.Taking.{whole_no_member, one_group, taken_here, taken_other, taken_le, taken_held, still_added, was_added, some_held}
use Rattle.run_stages.proofs.Matching.{lead_same}
use Rattle.run_stages.proofs.Chains.{word_head, bytes_le, total_short, word_bytes, word_total, ready_complete, complete_ready}
use Rattle.serial_terms.specs.Facts.{with_at_same, with_at_other}

module _ {w : Work} {f : ℕ} {pool : Pool} {queue : Sequence} {words links : ℕ → Option ℕ} {log matched : List ℕ} {chain : ℕ → List ℕ} (g : Stages w f pool queue words links log matched chain) where
  -- ---- chains

  pub chain_members : (h j : ℕ) → 0 < times j (chain h) → IsMember w h j
  chain_members h j l = (g.only_chained h j l).0.member

  pub chain_once : (h j : ℕ) → times j (chain h) ≤ 1
  chain_once h j = dite (ℕ_discrete (times j (chain h)) 0) (λ e. omega arith) (λ n. let o = g.only_chained h j (omega arith) in let c = g.chained h j o.0 o.1 in omega arith)

  -- a group's word shows the head of its chain
  pub heads : IsSoundWork w → (h x : ℕ) → words h ≡ Some x → (js : List ℕ) × (chain h ≡ head_of x ∷ js)
  heads p h x e = shown (chain h) (chain_members h) (chain_once h) (sym (g.word h) ∙ e)
    where
      shown : (c : List ℕ) → ((j : ℕ) → 0 < times j c → IsMember w h j) → ((j : ℕ) → times j c ≤ 1) → chain_word w c ≡ Some x → (js : List ℕ) × (c ≡ head_of x ∷ js)
      shown [] a b q = absurd (cc)
      shown (j ∷ js) a b q =
          let is : group_word j (chain_bytes w (j ∷ js)) (chain_total w (j ∷ js)) ≡ x = cc in
          let head = word_head j (chain_bytes w (j ∷ js)) (chain_total w (j ∷ js)) (let l = bytes_le w h (j ∷ js) a b in let k = p.bounded h in omega arith) (total_short w p h (j ∷ js) a) in
          (js, ap (λ (z : ℕ). z ∷ js) (sym head ∙ ap head_of is))

  module _ (p : IsSoundWork w) (h i : ℕ) (m : IsMember w h i) (there : 0 < pool.count i) where
    pub not_chained : (k : ℕ) → times i (chain k) ≡ 0
    not_chained k = zero_or (times i (chain k)) (λ l. let t = (g.only_chained k i l).0.taken in omega arith)

    not_all : AllAdded w f pool h → ⊥
    not_all a = let t = (a i m).taken in omega arith

    no_item : times (group_item h) queue.items + times (group_item h) matched ≡ 0
    no_item = zero_or (times (group_item h) queue.items + times (group_item h) matched) (λ l. not_all (g.only_group h l).1)

    pub not_linked : (j : ℕ) → links i ≡ Some j → ⊥
    not_linked j e = let o = g.only_linked i j e in let c = not_chained o.0 in let d = o.1 in omega arith

    pub more_members : (j : ℕ) → 0 < times j (i ∷ chain h) → IsMember w h j
    more_members j l = dite (ℕ_discrete j i) (λ e. subst (λ (z : ℕ). IsMember w h z) (sym e) m) (λ e. let a = times_cons_other j i (chain h) e in chain_members h j (omega arith))

    pub more_once : (j : ℕ) → times j (i ∷ chain h) ≤ 1
    more_once j = dite (ℕ_discrete j i) (λ e. let a = times_cons_same j i (chain h) e in let b = ap (λ (z : ℕ). times z (chain h)) e in let c = not_chained h in omega arith) (λ e. let a = times_cons_other j i (chain h) e in let b = chain_once h j in omega arith)

    -- the new chain has the tasks that are added now
    in_more : (j : ℕ) → IsAdded w f (less pool i) h j → times j (i ∷ chain h) ≡ 1
    in_more j a = dite (ℕ_discrete j i)
        (λ e. let s = times_cons_same j i (chain h) e in let b = ap (λ (z : ℕ). times z (chain h)) e in let c = not_chained h in omega arith)
        (λ e. let s = times_cons_other j i (chain h) e in let z = no_item in let c = g.chained h j (was_added g i there h j e a) (omega arith) in omega arith)

    more_in : (j : ℕ) → 0 < times j (i ∷ chain h) → IsAdded w f (less pool i) h j
    more_in j l = dite (ℕ_discrete j i)
        (λ e. subst (λ (z : ℕ). IsAdded w f (less pool i) h z) (sym e) (record { member = m; given = g.pooled i there; taken = taken_here g i there }))
        (λ e. let s = times_cons_other j i (chain h) e in still_added g i there h j (g.only_chained h j (omega arith)).0)

    -- the new word is the word of the new chain
    new_bytes_are : (c : List ℕ) → ((j : ℕ) → 0 < times j c → IsMember w h j) → ((j : ℕ) → times j c ≤ 1) → new_bytes w i (chain_word w c) ≡ chain_bytes w (i ∷ c)
    new_bytes_are [] a b = omega arith
    new_bytes_are (j ∷ c) a b = let l = bytes_le w h (j ∷ c) a b in let k = p.bounded h in let t = total_short w p h (j ∷ c) a in
        ap (λ (z : ℕ). (task w i).size + z) (word_bytes j (chain_bytes w (j ∷ c)) (chain_total w (j ∷ c)) (omega arith) t)

    new_total_is : (c : List ℕ) → ((j : ℕ) → 0 < times j c → IsMember w h j) → ((j : ℕ) → times j c ≤ 1) → new_total w i (chain_word w c) ≡ chain_total w (i ∷ c)
    new_total_is [] a b = refl
    new_total_is (j ∷ c) a b = let l = bytes_le w h (j ∷ c) a b in let k = p.bounded h in let t = total_short w p h (j ∷ c) a in
        ap (λ (z : ℕ). cond (task w i).last (end_of w i) z) (word_total j (chain_bytes w (j ∷ c)) (chain_total w (j ∷ c)) (omega arith) t)

    pub bytes_now : new_bytes w i (words h) ≡ chain_bytes w (i ∷ chain h)
    bytes_now = ap (new_bytes w i) (g.word h) ∙ new_bytes_are (chain h) (chain_members h) (chain_once h)

    pub total_now : new_total w i (words h) ≡ chain_total w (i ∷ chain h)
    total_now = ap (new_total w i) (g.word h) ∙ new_total_is (chain h) (chain_members h) (chain_once h)

    abbrev pub IsReady : Type 0
    IsReady = IsComplete w h × AllAdded w f (less pool i) h

    -- the group is ready exactly where the new word says so
    pub ready_if : chain_bytes w (i ∷ chain h) ≡ chain_total w (i ∷ chain h) → chain_total w (i ∷ chain h) ≢ 0 → IsReady
    ready_if e n = let r = ready_complete w p h (i ∷ chain h) more_members more_once e n in (r.0, λ j k. more_in j (r.1 j k))

    pub ready_then : IsReady → (chain_bytes w (i ∷ chain h) ≡ chain_total w (i ∷ chain h)) × (chain_total w (i ∷ chain h) ≢ 0)
    ready_then r = complete_ready w p h (i ∷ chain h) more_members more_once r.0 (λ j k. let o = in_more j (r.1 j k) in omega arith)

    module _ (word : ℕ) (is : Some word ≡ chain_word w (i ∷ chain h)) (more : ℕ → Option ℕ) (lead_on : LeadThrough w more (i ∷ chain h)) (kept : (j : ℕ) → j ≢ i → more j ≡ links j) (items : List ℕ)
        (queued : (IsReady × (items ≡ queue.items ++ group_item h ∷ [])) ⊎ ((IsReady → ⊥) × (items ≡ queue.items))) where
      task_times : (j : ℕ) → times (task_item j) items ≡ times (task_item j) queue.items
      task_times j = ⊎_elim (λ q. ap (times (task_item j)) q.1 ∙ times_push_other (task_item j) (group_item h) queue.items (task_no_group j h)) (λ q. ap (times (task_item j)) q.1) queued

      group_times : (k : ℕ) → k ≢ h → times (group_item k) items ≡ times (group_item k) queue.items
      group_times k n = ⊎_elim (λ q. ap (times (group_item k)) q.1 ∙ times_push_other (group_item k) (group_item h) queue.items (λ z. n (group_items k h z))) (λ q. ap (times (group_item k)) q.1) queued

      longer : length items ≤ length queue.items + 1
      longer = ⊎_elim (λ q. let a = ap length q.1 in let b = push_length queue.items (group_item h) in omega arith) (λ q. let a = ap length q.1 in omega arith) queued

      -- of another group the same tasks are added
      other_added : (k j : ℕ) → k ≢ h → IsAdded w f (less pool i) k j → IsAdded w f pool k j
      other_added k j n a = was_added g i there k j (λ e. n (one_group w k h i (subst (λ (z : ℕ). IsMember w k z) e a.member) m)) a

      chain_here : (k : ℕ) → k ≡ h → with_at chain h (i ∷ chain h) k ≡ i ∷ chain h
      chain_here k e = with_at_same chain h (i ∷ chain h) k e

      chain_other : (k : ℕ) → k ≢ h → with_at chain h (i ∷ chain h) k ≡ chain k
      chain_other k e = with_at_other chain h (i ∷ chain h) k e

      pub fragment_added : Stages w f (less pool i) (record { items = items; capacity = queue.capacity }) (with_at words h (Some word)) more log matched (with_at chain h (i ∷ chain h))
      fragment_added = record {
        slots = g.slots;
        capacity = g.capacity;
        fits = let a = g.fits in let b = longer in let t = some_held g i there in omega arith;
        pooled = λ j l. let n = taken_le g i there j in g.pooled j (omega arith);
        once = λ j. let n = taken_le g i there j in let o = g.once j in omega arith;
        held = taken_held g i there;
        whole = λ j a b. let x = g.whole j a b in let t = task_times j in let o = taken_other g i there j (λ e. whole_no_member w h i (subst (λ (z : ℕ). IsWhole w z) e a) m) in omega arith;
        only_whole = λ j l. let t = task_times j in g.only_whole j (omega arith);
        group = λ k c a. dite (ℕ_discrete k h)
            (λ e. ⊎_elim
            (λ q. let t = ap (times (group_item k)) q.1 in let u = times_push_same (group_item k) (group_item h) queue.items (ap group_item e) in let z = no_item in let y = ap (λ (x : ℕ). times (group_item x) queue.items) e in let v = ap (λ (x : ℕ). times (group_item x) matched) e in omega arith)
            (λ q. absurd (q.0 (subst (λ (z : ℕ). IsComplete w z × AllAdded w f (less pool i) z) e (c, a))))
            queued)
            (λ n. let x = g.group k c (λ j y. other_added k j n (a j y)) in let t = group_times k n in omega arith);
        only_group = λ k l. dite (ℕ_discrete k h)
            (λ e. ⊎_elim
            (λ q. subst (λ (z : ℕ). IsComplete w z × AllAdded w f (less pool i) z) (sym e) q.0)
            (λ q. let t = ap (times (group_item k)) q.1 in let z = no_item in let y = ap (λ (x : ℕ). times (group_item x) queue.items) e in let v = ap (λ (x : ℕ). times (group_item x) matched) e in absurd (omega arith))
            queued)
            (λ n. let t = group_times k n in let o = g.only_group k (omega arith) in (o.0, λ j y. still_added g i there k j (o.1 j y)));
        found = g.found;
        chained = λ k j a y. dite (ℕ_discrete k h)
            (λ e. ap (times j) (chain_here k e) ∙ in_more j (subst (λ (z : ℕ). IsAdded w f (less pool i) z j) e a))
            (λ n. ap (times j) (chain_other k n) ∙ g.chained k j (other_added k j n a) y);
        only_chained = λ k j l. dite (ℕ_discrete k h)
            (λ e. let c = ap (times j) (chain_here k e) in let z = no_item in let v = ap (λ (x : ℕ). times (group_item x) matched) e in (subst (λ (z : ℕ). IsAdded w f (less pool i) z j) (sym e) (more_in j (omega arith)), omega arith))
            (λ n. let c = ap (times j) (chain_other k n) in let o = g.only_chained k j (omega arith) in (still_added g i there k j o.0, o.1));
        word = λ k. dite (ℕ_discrete k h)
            (λ e. with_at_same words h (Some word) k e ∙ (is ∙ ap (chain_word w) (sym (chain_here k e))))
            (λ n. with_at_other words h (Some word) k n ∙ (g.word k ∙ ap (chain_word w) (sym (chain_other k n))));
        lead = λ k. dite (ℕ_discrete k h)
            (λ e. subst (LeadThrough w more) (sym (chain_here k e)) lead_on)
            (λ n. subst (LeadThrough w more) (sym (chain_other k n)) (lead_same w links more (chain k) (λ j l. kept j (λ e. let z = ap (λ (x : ℕ). times x (chain k)) e in let c = not_chained k in omega arith)) (g.lead k)));
        only_linked = λ j x e. dite (ℕ_discrete j i)
            (λ y. (h, let c = ap (times j) (chain_here h refl) in let s = times_cons_same j i (chain h) y in omega arith))
            (λ n. let o = g.only_linked j x (sym (kept j n) ∙ e) in (
              o.0,
              dite (ℕ_discrete o.0 h)
                  (λ y. let c = ap (times j) (chain_here o.0 y) in let s = times_cons_other j i (chain h) n in let b = ap (λ (z : ℕ). times j (chain z)) y in let l = o.1 in omega arith)
                  (λ y. let c = ap (times j) (chain_other o.0 y) in let l = o.1 in omega arith),
            ));
      }
