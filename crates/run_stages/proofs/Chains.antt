-- The tasks added to a group: their bytes, their total, and when they are all of a complete group.
use Rattle.std.proofs.Common.{◌≡◌, ◌≢◌, ℕ, zero, suc, ◌+◌, ◌*◌, ◌^◌, ◌<◌, ◌≤◌, true, false, cond, eqb, List, [], ◌∷◌, length, ⊎_elim, sym, refl, ap, ◌∙◌, subst, arith, eq-eqb, ne_eqb}
use Rattle.std.specs.Prelude.{Option, Some, None}
use mathlib.Core.Logic.{dite}
use native.Mathlib.Decide.{ℕ_discrete}
use Rattle.serial_terms.specs.Counts.{times, with_at}
use Rattle.run_stages.specs.Work.{Work, IsMember, IsComplete, IsSoundWork, task, end_of, total_below, group_bytes, is_some_of, group_word, head_of, bytes_of, total_of}
use Rattle.run_stages.specs.Stages.{chain_bytes, chain_total}
use Rattle.run_stages.proofs.Counting.{times_cons_more, total_same, total_le, parts_same, total_at, times_cons_same, times_cons_other}
use Rattle.std.proofs.lemmas.Bool.{cond-true, cond-false, cases_Bool, true≢false}
use Rattle.serial_terms.specs.Facts.{with_at_same, with_at_other}

-- ---- group words

pub word_head : (h b t : ℕ) → b < 2 ^ 16 → t < 2 ^ 16 → head_of (group_word h b t) ≡ h
word_head h b t l m = omega arith

pub word_bytes : (h b t : ℕ) → b < 2 ^ 16 → t < 2 ^ 16 → bytes_of (group_word h b t) ≡ b
word_bytes h b t l m = omega arith

pub word_total : (h b t : ℕ) → b < 2 ^ 16 → t < 2 ^ 16 → total_of (group_word h b t) ≡ t
word_total h b t l m = omega arith

module _ (w : Work) where
  -- ---- the bytes of a chain, as a sum over all tasks

  abbrev weight : List ℕ → ℕ → ℕ
  weight c i = times i c * (task w i).size

  weight_cons : (x : ℕ) (c : List ℕ) (i : ℕ) → weight (x ∷ c) i ≡ with_at (weight c) x (weight c x + (task w x).size) i
  weight_cons x c i = dite (ℕ_discrete i x)
      (λ e. subst (λ (z : ℕ). weight (x ∷ c) z ≡ with_at (weight c) x (weight c x + (task w x).size) z) (sym e)
      (let a = times_cons_same x x c refl in let b = with_at_same (weight c) x (weight c x + (task w x).size) x refl in ap (λ (z : ℕ). z * (task w x).size) a ∙ (one_more (times x c) (task w x).size ∙ sym b)))
      (λ e. ap (λ (z : ℕ). z * (task w i).size) (times_cons_other i x c e) ∙ sym (with_at_other (weight c) x (weight c x + (task w x).size) i e))
    where
      one_more : (a b : ℕ) → (1 + a) * b ≡ a * b + b
      one_more a b = omega arith

  zeros : (n : ℕ) → total_below (weight []) n ≡ 0
  zeros zero = refl
  zeros (suc n) = let a = zeros n in omega arith

  chain_weight : (c : List ℕ) → ((i : ℕ) → 0 < times i c → i < length w.tasks) → chain_bytes w c ≡ total_below (weight c) (length w.tasks)
  chain_weight [] b = sym (zeros (length w.tasks))
  chain_weight (x ∷ c) b = let l : x < length w.tasks = b x (let a = times_cons_same x x c refl in omega arith) in
      let i = chain_weight c (λ i m. b i (dite (ℕ_discrete i x) (λ e. let a = times_cons_same i x c e in omega arith) (λ e. let a = times_cons_other i x c e in omega arith))) in
      let t = total_at (weight c) x (weight c x + (task w x).size) (length w.tasks) l in
      let s = total_same (weight (x ∷ c)) (with_at (weight c) x (weight c x + (task w x).size)) (length w.tasks) (λ i m. weight_cons x c i) in omega arith

  -- ---- against the bytes of the group

  abbrev share : ℕ → ℕ → ℕ
  share h i = cond (is_some_of (task w i).group h) (task w i).size 0

  member_share : (h i : ℕ) → IsMember w h i → share h i ≡ (task w i).size
  member_share h i m = cond-true (is_some_of (task w i).group h) (task w i).size 0 (ap (λ (z : Option ℕ). is_some_of z h) m.belongs ∙ eq-eqb h h refl)

  module _ (h : ℕ) (c : List ℕ) (members : (i : ℕ) → 0 < times i c → IsMember w h i) (once : (i : ℕ) → times i c ≤ 1) where
    weight_le : (i : ℕ) → weight c i ≤ share h i
    weight_le i = dite (ℕ_discrete (times i c) 0)
        (λ e. let z : weight c i ≡ 0 * (task w i).size = ap (λ (x : ℕ). x * (task w i).size) e in omega arith)
        (λ e. let o = once i in let one : times i c ≡ 1 = omega arith in let z : weight c i ≡ 1 * (task w i).size = ap (λ (x : ℕ). x * (task w i).size) one in let s = member_share h i (members i (omega arith)) in omega arith)

    weighed : chain_bytes w c ≡ total_below (weight c) (length w.tasks)
    weighed = chain_weight c (λ i l. (members i l).below)

    pub bytes_le : chain_bytes w c ≤ group_bytes w h
    bytes_le = let a = weighed in let b = total_le (weight c) (share h) (length w.tasks) (λ i l. weight_le i) in omega arith

    -- with all bytes of the group, the chain has all its tasks
    pub all_there : IsSoundWork w → group_bytes w h ≤ chain_bytes w c → (i : ℕ) → IsMember w h i → 0 < times i c
    all_there p l i m = let a = weighed in let e = parts_same (weight c) (share h) (length w.tasks) (λ j k. weight_le j) (omega arith) i m.below in let s = member_share h i m in let f = p.filled h i m in
        dite (ℕ_discrete (times i c) 0) (λ z. let x : weight c i ≡ 0 * (task w i).size = ap (λ (y : ℕ). y * (task w i).size) z in absurd (omega arith)) (λ z. omega arith)

    -- with all tasks of the group, the chain has all its bytes
    pub all_bytes : ((i : ℕ) → IsMember w h i → 0 < times i c) → chain_bytes w c ≡ group_bytes w h
    all_bytes all = weighed ∙ total_same (weight c) (share h) (length w.tasks) same
      where
        no_share : (i : ℕ) (o : Option ℕ) → (task w i).group ≡ o → (o ≡ Some h → ⊥) → share h i ≡ 0
        no_share i None e n = ap (λ (z : Option ℕ). cond (is_some_of z h) (task w i).size 0) e
        no_share i (Some k) e n = ap (λ (z : Option ℕ). cond (is_some_of z h) (task w i).size 0) e ∙ cond-false (eqb k h) (task w i).size 0 (ne_eqb k h (λ q. n (ap (λ (z : ℕ). Some z) q)))

        same : (i : ℕ) → i < length w.tasks → weight c i ≡ share h i
        same i l = dite (ℕ_discrete (times i c) 0)
            (λ z. let x : weight c i ≡ 0 * (task w i).size = ap (λ (y : ℕ). y * (task w i).size) z in let q : weight c i ≡ 0 = omega arith in q ∙ sym (no_share i (task w i).group refl (λ e. let p = all i (record { below = l; belongs = e }) in omega arith)))
            (λ z. let o = once i in let one : times i c ≡ 1 = omega arith in let x : weight c i ≡ 1 * (task w i).size = ap (λ (y : ℕ). y * (task w i).size) one in let s = member_share h i (members i (omega arith)) in omega arith)

  -- ---- the total of a chain

  total_last : (i : ℕ) (c : List ℕ) → (task w i).last ≡ true → chain_total w (i ∷ c) ≡ end_of w i
  total_last i c e = cond-true (task w i).last (end_of w i) (chain_total w c) e

  total_more : (i : ℕ) (c : List ℕ) → (task w i).last ≡ false → chain_total w (i ∷ c) ≡ chain_total w c
  total_more i c e = cond-false (task w i).last (end_of w i) (chain_total w c) e

  in_more : (x i : ℕ) (c : List ℕ) → 0 < times x c → 0 < times x (i ∷ c)
  in_more x i c l = let a = times_cons_more x i c in omega arith

  -- a total that isn't 0 is the end of a last task in the chain
  pub total_ender : (c : List ℕ) → chain_total w c ≢ 0 → (e : ℕ) × (0 < times e c) × ((task w e).last ≡ true) × (chain_total w c ≡ end_of w e)
  total_ender [] n = absurd (n refl)
  total_ender (i ∷ c) n = ⊎_elim
      (λ y. (i, (let a = times_cons_same i i c refl in omega arith), y, total_last i c y))
      (λ y. let r = total_ender c (λ z. n (total_more i c y ∙ z)) in (r.0, in_more r.0 i c r.1, r.2, total_more i c y ∙ r.3))
      (cases_Bool (task w i).last)

  -- the end of the chain's only last task is its total
  pub ender_total : (c : List ℕ) (e : ℕ) → 0 < times e c → (task w e).last ≡ true → ((j : ℕ) → 0 < times j c → (task w j).last ≡ true → j ≡ e) → chain_total w c ≡ end_of w e
  ender_total [] e l y only = absurd (omega arith)
  ender_total (i ∷ c) e l y only = ⊎_elim
      (λ z. total_last i c z ∙ ap (end_of w) (only i (let a = times_cons_same i i c refl in omega arith) z))
      (λ z. let far : e ≢ i = λ q. true≢false (sym (ap (λ (x : ℕ). (task w x).last) (sym q) ∙ y) ∙ z) in let a = times_cons_other e i c far in
      total_more i c z ∙ ender_total c e (omega arith) y (λ j m v. only j (in_more j i c m) v))
      (cases_Bool (task w i).last)

  pub total_short : IsSoundWork w → (h : ℕ) (c : List ℕ) → ((i : ℕ) → 0 < times i c → IsMember w h i) → chain_total w c < 2 ^ 16
  total_short p h c members = dite (ℕ_discrete (chain_total w c) 0) (λ e. omega arith) (λ n. let r = total_ender c n in let s = p.short h r.0 (members r.0 r.1) in let e = r.3 in omega arith)

  -- the bytes are the total, which isn't 0, exactly where the chain has all tasks of a complete group
  module _ (p : IsSoundWork w) (h : ℕ) (c : List ℕ) (members : (i : ℕ) → 0 < times i c → IsMember w h i) (once : (i : ℕ) → times i c ≤ 1) where
    pub ready_complete : chain_bytes w c ≡ chain_total w c → chain_total w c ≢ 0 → IsComplete w h × ((i : ℕ) → IsMember w h i → 0 < times i c)
    ready_complete e n = let r = total_ender c n in let m = members r.0 r.1 in let k = p.packed h r.0 m r.2 in let b = bytes_le h c members once in let t = r.3 in
        (record { ender = r.0; member = m; last = r.2; full = omega arith }, all_there h c members once p (omega arith))

    pub complete_ready : IsComplete w h → ((i : ℕ) → IsMember w h i → 0 < times i c) → (chain_bytes w c ≡ chain_total w c) × (chain_total w c ≢ 0)
    complete_ready k all = let t = ender_total c k.ender (all k.ender k.member) k.last (λ j l y. p.one_last h j k.ender (members j l) k.member y k.last) in
        let b = all_bytes h c members once all in let f = p.filled h k.ender k.member in let e = k.full in (omega arith, λ z. omega arith)
