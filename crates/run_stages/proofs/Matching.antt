-- A datagram leaves the queue and is matched.
use Rattle.std.proofs.Common.{◌≡◌, ◌≢◌, ℕ, ◌+◌, ◌*◌, ◌/◌, ◌%◌, ◌<◌, eqb, List, [], ◌∷◌, ◌++◌, length, sym, refl, ap, ◌∙◌, subst, arith, append_assoc, eq-eqb, ne_eqb}
use Rattle.std.specs.Prelude.{Option, Some, None}
use mathlib.Core.Logic.{dite}
use native.Mathlib.Decide.{ℕ_discrete}
use Rattle.serial_terms.specs.Counts.{times, with_at}
use Rattle.serial_terms.specs.Serial.{Pool, Sequence}
use Rattle.run_stages.specs.Work.{Work, IsWhole, IsComplete, given_count, task_item, group_item, item_values, values_of}
use Rattle.run_stages.specs.Stages.{AllAdded, Stages, LeadThrough, chain_word}
use Rattle.run_stages.proofs.Counting.{zero_or, times_cons_same, times_cons_other, times_push_same, times_push_other, task_items, group_items, task_no_group}
use Rattle.run_stages.proofs.Taking.{one_group}
use Rattle.std.proofs.lemmas.Bool.{cond-true, cond-false}
use Rattle.std.proofs.lemmas.List.{append-nil}
use Rattle.serial_terms.specs.Facts.{with_at_same, with_at_other}

pub task_item_values : (w : Work) (i : ℕ) → item_values w (task_item i) ≡ w.task_values i
task_item_values w i = let even : 2 * i % 2 ≡ 0 = omega arith in let half : 2 * i / 2 ≡ i = omega arith in
    cond-true (eqb (2 * i % 2) 0) (w.task_values (2 * i / 2)) (w.group_values (2 * i / 2)) (eq-eqb (2 * i % 2) 0 even) ∙ ap w.task_values half

pub group_item_values : (w : Work) (h : ℕ) → item_values w (group_item h) ≡ w.group_values h
group_item_values w h = let odd : (2 * h + 1) % 2 ≢ 0 = omega arith in let half : (2 * h + 1) / 2 ≡ h = omega arith in
    cond-false (eqb ((2 * h + 1) % 2) 0) (w.task_values ((2 * h + 1) / 2)) (w.group_values ((2 * h + 1) / 2)) (ne_eqb ((2 * h + 1) % 2) 0 odd) ∙ ap w.group_values half

pub values_append : (w : Work) (xs ys : List ℕ) → values_of w (xs ++ ys) ≡ values_of w xs ++ values_of w ys
values_append w [] ys = refl
values_append w (x ∷ xs) ys = ap (λ (z : List ℕ). item_values w x ++ z) (values_append w xs ys) ∙ sym (append_assoc (item_values w x) (values_of w xs) (values_of w ys))

pub values_push : (w : Work) (xs : List ℕ) (x : ℕ) → values_of w (xs ++ x ∷ []) ≡ values_of w xs ++ item_values w x
values_push w xs x = values_append w xs (x ∷ []) ∙ ap (λ (z : List ℕ). values_of w xs ++ z) (append-nil (item_values w x))

-- links that agree along a chain lead through it alike
pub lead_same : (w : Work) (links more : ℕ → Option ℕ) (is : List ℕ) → ((j : ℕ) → 0 < times j is → more j ≡ links j) → LeadThrough w links is → LeadThrough w more is
lead_same w links more [] e l = tt
lead_same w links more (i ∷ []) e l = e i (let a = times_cons_same i i [] refl in omega arith) ∙ l
lead_same w links more (i ∷ j ∷ is) e l = (
  e i (let a = times_cons_same i i (j ∷ is) refl in omega arith) ∙ l.0,
  lead_same w links more (j ∷ is) (λ k m. e k (dite (ℕ_discrete k i) (λ y. let a = times_cons_same k i (j ∷ is) y in omega arith) (λ y. let a = times_cons_other k i (j ∷ is) y in omega arith))) l.1,
)

module _ {w : Work} {f : ℕ} {pool : Pool} {queue : Sequence} {words links : ℕ → Option ℕ} {log matched : List ℕ} {chain : ℕ → List ℕ} (g : Stages w f pool queue words links log matched chain) (rest : List ℕ) where
  -- a whole task's item is matched
  module _ (i : ℕ) (e : queue.items ≡ task_item i ∷ rest) where
    here : (x : ℕ) → x ≡ task_item i → times x queue.items ≡ 1 + times x rest
    here x q = ap (times x) e ∙ times_cons_same x (task_item i) rest q

    other : (x : ℕ) → x ≢ task_item i → times x queue.items ≡ times x rest
    other x q = ap (times x) e ∙ times_cons_other x (task_item i) rest q

    found_whole : IsWhole w i × (i < given_count w f)
    found_whole = g.only_whole i (let a = here (task_item i) refl in omega arith)

    pub whole_matched : Stages w f pool (record { items = rest; capacity = queue.capacity }) words links (log ++ w.task_values i) (matched ++ task_item i ∷ []) chain
    whole_matched = record {
      slots = g.slots;
      capacity = g.capacity;
      fits = let a = g.fits in let l = ap length e in omega arith;
      pooled = g.pooled;
      once = g.once;
      held = g.held;
      whole = λ j a b. let x = g.whole j a b in dite (ℕ_discrete j i)
          (λ y. let q : task_item j ≡ task_item i = ap task_item y in let t = here (task_item j) q in let u = times_push_same (task_item j) (task_item i) matched q in omega arith)
          (λ y. let q : task_item j ≢ task_item i = λ z. y (task_items j i z) in let t = other (task_item j) q in let u = times_push_other (task_item j) (task_item i) matched q in omega arith);
      only_whole = λ j l. dite (ℕ_discrete j i)
          (λ y. subst (λ (z : ℕ). IsWhole w z × (z < given_count w f)) (sym y) found_whole)
          (λ y. let q : task_item j ≢ task_item i = λ z. y (task_items j i z) in let t = other (task_item j) q in let u = times_push_other (task_item j) (task_item i) matched q in g.only_whole j (omega arith));
      group = λ h c a. let x = g.group h c a in let q : group_item h ≢ task_item i = λ z. task_no_group i h (sym z) in let t = other (group_item h) q in let u = times_push_other (group_item h) (task_item i) matched q in omega arith;
      only_group = λ h l. let q : group_item h ≢ task_item i = λ z. task_no_group i h (sym z) in let t = other (group_item h) q in let u = times_push_other (group_item h) (task_item i) matched q in g.only_group h (omega arith);
      found = ap (λ (z : List ℕ). z ++ w.task_values i) g.found ∙ (ap (λ (z : List ℕ). values_of w matched ++ z) (sym (task_item_values w i)) ∙ sym (values_push w matched (task_item i)));
      chained = λ h j a m. g.chained h j a (let q : group_item h ≢ task_item i = λ z. task_no_group i h (sym z) in let u = times_push_other (group_item h) (task_item i) matched q in omega arith);
      only_chained = λ h j l. let o = g.only_chained h j l in let q : group_item h ≢ task_item i = λ z. task_no_group i h (sym z) in let u = times_push_other (group_item h) (task_item i) matched q in let r = o.1 in (o.0, omega arith);
      word = g.word;
      lead = g.lead;
      only_linked = g.only_linked;
    }

  -- a group's item is matched, its word and its links are removed
  module _ (h : ℕ) (e : queue.items ≡ group_item h ∷ rest) (fewer : ℕ → Option ℕ) (cleared : (i : ℕ) → 0 < times i (chain h) → fewer i ≡ None) (kept : (i : ℕ) → times i (chain h) ≡ 0 → fewer i ≡ links i) where
    ghere : (x : ℕ) → x ≡ group_item h → times x queue.items ≡ 1 + times x rest
    ghere x q = ap (times x) e ∙ times_cons_same x (group_item h) rest q

    gother : (x : ℕ) → x ≢ group_item h → times x queue.items ≡ times x rest
    gother x q = ap (times x) e ∙ times_cons_other x (group_item h) rest q

    found_group : IsComplete w h × AllAdded w f pool h
    found_group = g.only_group h (let a = ghere (group_item h) refl in omega arith)

    unmatched : times (group_item h) matched ≡ 0
    unmatched = let x = g.group h found_group.0 found_group.1 in let a = ghere (group_item h) refl in omega arith

    chain_kept : (k : ℕ) → k ≢ h → with_at chain h [] k ≡ chain k
    chain_kept k n = with_at_other chain h [] k n

    in_kept : (k j : ℕ) → k ≢ h → 0 < times j (chain k) → times j (chain h) ≡ 0
    in_kept k j n l = zero_or (times j (chain h)) (λ m. n (one_group w k h j (g.only_chained k j l).0.member (g.only_chained h j m).0.member))

    pub group_matched : Stages w f pool (record { items = rest; capacity = queue.capacity }) (with_at words h None) fewer (log ++ w.group_values h) (matched ++ group_item h ∷ []) (with_at chain h [])
    group_matched = record {
      slots = g.slots;
      capacity = g.capacity;
      fits = let a = g.fits in let l = ap length e in omega arith;
      pooled = g.pooled;
      once = g.once;
      held = g.held;
      whole = λ j a b. let x = g.whole j a b in let q : task_item j ≢ group_item h = task_no_group j h in let t = gother (task_item j) q in let u = times_push_other (task_item j) (group_item h) matched q in omega arith;
      only_whole = λ j l. let q : task_item j ≢ group_item h = task_no_group j h in let t = gother (task_item j) q in let u = times_push_other (task_item j) (group_item h) matched q in g.only_whole j (omega arith);
      group = λ k c a. let x = g.group k c a in dite (ℕ_discrete k h)
          (λ y. let q : group_item k ≡ group_item h = ap group_item y in let t = ghere (group_item k) q in let u = times_push_same (group_item k) (group_item h) matched q in omega arith)
          (λ y. let q : group_item k ≢ group_item h = λ z. y (group_items k h z) in let t = gother (group_item k) q in let u = times_push_other (group_item k) (group_item h) matched q in omega arith);
      only_group = λ k l. dite (ℕ_discrete k h)
          (λ y. subst (λ (z : ℕ). IsComplete w z × AllAdded w f pool z) (sym y) found_group)
          (λ y. let q : group_item k ≢ group_item h = λ z. y (group_items k h z) in let t = gother (group_item k) q in let u = times_push_other (group_item k) (group_item h) matched q in g.only_group k (omega arith));
      found = ap (λ (z : List ℕ). z ++ w.group_values h) g.found ∙ (ap (λ (z : List ℕ). values_of w matched ++ z) (sym (group_item_values w h)) ∙ sym (values_push w matched (group_item h)));
      chained = λ k j a m. dite (ℕ_discrete k h)
          (λ y. let u = times_push_same (group_item k) (group_item h) matched (ap group_item y) in absurd (omega arith))
          (λ y. ap (times j) (chain_kept k y) ∙ g.chained k j a (let u = times_push_other (group_item k) (group_item h) matched (λ z. y (group_items k h z)) in omega arith));
      only_chained = λ k j l. dite (ℕ_discrete k h)
          (λ y. let c = ap (times j) (with_at_same chain h [] k y) in absurd (omega arith))
          (λ y. let c = ap (times j) (chain_kept k y) in let o = g.only_chained k j (omega arith) in let r = o.1 in let u = times_push_other (group_item k) (group_item h) matched (λ z. y (group_items k h z)) in (o.0, omega arith));
      word = λ k. dite (ℕ_discrete k h)
          (λ y. with_at_same words h None k y ∙ ap (chain_word w) (sym (with_at_same chain h [] k y)))
          (λ y. with_at_other words h None k y ∙ (g.word k ∙ ap (chain_word w) (sym (chain_kept k y))));
      lead = λ k. dite (ℕ_discrete k h)
          (λ y. subst (LeadThrough w fewer) (sym (with_at_same chain h [] k y)) tt)
          (λ y. subst (LeadThrough w fewer) (sym (chain_kept k y)) (lead_same w links fewer (chain k) (λ j l. kept j (in_kept k j y l)) (g.lead k)));
      only_linked = λ i j l. let o = g.only_linked i j (sym (kept i (no_chain i j l)) ∙ l) in
          let far : o.0 ≢ h = λ y. let c = no_chain i j l in let d = o.1 in let b = ap (λ (z : ℕ). times i (chain z)) y in omega arith in
          let c = ap (times i) (chain_kept o.0 far) in let d = o.1 in (o.0, omega arith);
    }
      where
        no_chain : (i j : ℕ) → fewer i ≡ Some j → times i (chain h) ≡ 0
        no_chain i j l = let no : 0 < times i (chain h) → ⊥ = λ m. let z : None ≡ Some j = sym (cleared i m) ∙ l in absurd (cc) in grind (arith, no)
