-- What the calls of the forms run to.
use Rattle.std.proofs.Common.{◌≡◌, ◌≢◌, ℕ, ◌+◌, ◌<◌, ◌≤◌, true, eqb, ltb, List, [], ◌∷◌, ◌++◌, ◌⊎◌, length, inl, inr, sym, refl, ap, ◌∙◌, subst, arith, append_assoc, eq-eqb, ne_eqb}
use Rattle.std.specs.Prelude.{Option, Some, None}
use Rattle.std.proofs.lemmas.Bool.Decides.{nat_tests}
use mathlib.Core.Logic.{dite}
use mathlib.Core.Path.{fun_ext}
use native.Mathlib.Decide.{ℕ_discrete}
use Rattle.serial_terms.specs.declared.call.Call.{Call}
use Rattle.serial_terms.specs.declared.call.Reply.TheVariants.{Value, Flag}
use Rattle.serial_terms.specs.declared.call.Done.{Done}
use Rattle.serial_terms.specs.Counts.{times, with_at}
use Rattle.serial_terms.specs.Histories.{Runs}
use Rattle.serial_terms.specs.Serial.{State, Pool, after, found, first, more, put_log, put_pool, put_queue}
use Rattle.run_stages.specs.Work.{Work, group_item}
use Rattle.run_stages.specs.Allowed.{Appends, gives, ready, walk}
use Rattle.run_stages.specs.Stages.{LeadThrough}
use Rattle.run_stages.proofs.Counting.{times_cons_more, times_cons_same, times_cons_other}
use Rattle.run_stages.proofs.Filling.{pool_with}
use Rattle.run_stages.proofs.Matching.{lead_same}
use Rattle.std.proofs.lemmas.Bool.{cond-true, cond-false}
use Rattle.std.proofs.lemmas.List.{append-nil}
use Rattle.serial_terms.specs.Facts.{with_at_own, with_at_twice, with_at_same, with_at_other}

-- ---- replies

pub found_same : (a b : Option ℕ) → found a ≡ found b → a ≡ b
found_same (Some x) (Some y) e = let z : x ≡ y = cc in ap (λ (n : ℕ). Some n) z
found_same (Some x) None e = absurd (cc)
found_same None (Some y) e = absurd (cc)
found_same None None e = refl

pub found_value : (x : ℕ) (b : Option ℕ) → Value x ≡ found b → b ≡ Some x
found_value x b e = sym (found_same (Some x) b e)

pub first_value : (x : ℕ) (xs : List ℕ) → Value x ≡ first xs → (rest : List ℕ) × (xs ≡ x ∷ rest)
first_value x [] e = absurd (cc)
first_value x (y ∷ ys) e = let z : y ≡ x = cc in (ys, ap (λ (n : ℕ). n ∷ ys) z)

-- ---- values appended to log 0

pub appends_run : (w : Work) (vs : List ℕ) (ds : List Done) (s t : State) → Appends w vs ds → Runs s ds t → put_log s 0 ((s.logs 0).items ++ vs) ≡ t
appends_run w [] [] s t a r = let e : with_at s.logs 0 (record { items = (s.logs 0).items ++ []; capacity = (s.logs 0).capacity }) ≡ s.logs = ap (with_at s.logs 0) (λ i. record { items = append-nil (s.logs 0).items i; capacity = (s.logs 0).capacity }) ∙ with_at_own s.logs 0 in (λ i. record s { logs = e i }) ∙ r
appends_run w [] (d ∷ ds) s t a r = absurd a
appends_run w (v ∷ vs) [] s t a r = absurd a
appends_run w (v ∷ vs) (d ∷ ds) s t a r =
    let here : after s d.call d.reply ≡ put_log s 0 ((s.logs 0).items ++ v ∷ []) = ap (λ (c : Call). after s c d.reply) a.0 in
    let i = appends_run w vs ds (put_log s 0 ((s.logs 0).items ++ v ∷ [])) t a.2 (subst (λ (z : State). Runs z ds t) here r.1) in
    let twice : with_at s.logs 0 (record { items = (s.logs 0).items ++ v ∷ vs; capacity = (s.logs 0).capacity }) ≡ with_at (with_at s.logs 0 (record { items = (s.logs 0).items ++ v ∷ []; capacity = (s.logs 0).capacity })) 0 (record { items = ((s.logs 0).items ++ v ∷ []) ++ vs; capacity = (s.logs 0).capacity }) =
    ap (with_at s.logs 0) (λ i. record { items = sym (append_assoc (s.logs 0).items (v ∷ []) vs) i; capacity = (s.logs 0).capacity }) ∙ sym (with_at_twice s.logs 0 _ _) in
    (λ i. record s { logs = twice i }) ∙ i

-- ---- tasks given to pool 0

nothing_more : (p : Pool) → pool_with p [] ≡ p
nothing_more p = let c : (λ i. p.count i + 0) ≡ p.count = fun_ext (λ i. omega arith) in let h : p.held + 0 ≡ p.held = omega arith in λ i. record { count = c i; held = h i; slots = p.slots }

one_more : (p : Pool) (x : ℕ) (xs : List ℕ) → pool_with (more p x) xs ≡ pool_with p (x ∷ xs)
one_more p x xs = let c = fun_ext count_one in let h : p.held + 1 + length xs ≡ p.held + length (x ∷ xs) = omega arith in λ i. record { count = c i; held = h i; slots = p.slots }
  where
    count_one : (i : ℕ) → with_at p.count x (p.count x + 1) i + times i xs ≡ p.count i + times i (x ∷ xs)
    count_one i = dite (ℕ_discrete i x)
        (λ e. let a = with_at_same p.count x (p.count x + 1) i e in let b = times_cons_same i x xs e in let c = ap p.count e in omega arith)
        (λ e. let a = with_at_other p.count x (p.count x + 1) i e in let b = times_cons_other i x xs e in omega arith)

-- the state with these items more in pool 0
abbrev pub given_to : State → List ℕ → State
given_to s xs = put_pool s 0 (pool_with (s.pools 0) xs)

none_given : (s : State) → given_to s [] ≡ s
none_given s = let e : with_at s.pools 0 (pool_with (s.pools 0) []) ≡ s.pools = ap (with_at s.pools 0) (nothing_more (s.pools 0)) ∙ with_at_own s.pools 0 in λ i. record s { pools = e i }

more_given : (s : State) (x : ℕ) (xs : List ℕ) → given_to (put_pool s 0 (more (s.pools 0) x)) xs ≡ given_to s (x ∷ xs)
more_given s x xs =
    let twice : with_at (with_at s.pools 0 (more (s.pools 0) x)) 0 (pool_with (more (s.pools 0) x) xs) ≡ with_at s.pools 0 (pool_with (s.pools 0) (x ∷ xs)) = with_at_twice s.pools 0 _ _ ∙ ap (with_at s.pools 0) (one_more (s.pools 0) x xs) in
    λ i. record s { pools = twice i }

pub gives_run : (w : Work) (xs : List ℕ) (s t : State) → (s.pools 0).held ≤ (s.pools 0).slots → Runs s (gives w xs) t → (given_to s xs ≡ t) × ((s.pools 0).held + length xs ≤ (s.pools 0).slots)
gives_run w [] s t l r = (none_given s ∙ r, omega arith)
gives_run w (x ∷ xs) s t l r =
    let there : (s.pools 0).held < (s.pools 0).slots = below (s.pools 0).held (s.pools 0).slots r.0 in
    let i = gives_run w xs (put_pool s 0 (more (s.pools 0) x)) t (omega arith) r.1 in
    let m = i.1 in (sym (more_given s x xs) ∙ i.0, omega arith)
  where
    below : (a b : ℕ) → Flag true ≡ Flag (ltb a b) → a < b
    below a b e = let z : true ≡ ltb a b = cc in grind (arith, nat_tests)

-- where there is room, they can all be given
pub gives_fit : (w : Work) (xs : List ℕ) (s : State) → (s.pools 0).held + length xs ≤ (s.pools 0).slots → Runs s (gives w xs) (given_to s xs)
gives_fit w [] s l = sym (none_given s)
gives_fit w (x ∷ xs) s l = let i = gives_fit w xs (put_pool s 0 (more (s.pools 0) x)) (omega arith) in
    (ap (λ (z : _). Flag z) (sym (below (s.pools 0).held (s.pools 0).slots (omega arith))), subst (Runs (put_pool s 0 (more (s.pools 0) x)) (gives w xs)) (more_given s x xs) i)
  where
    below : (a b : ℕ) → a < b → ltb a b ≡ true
    below a b m = grind (arith, nat_tests)

-- ---- a group's item is put into queue 0, or not

pub ready_run : (w : Work) (h bytes total : ℕ) (s t : State) → Runs s (ready w h bytes total) t
    → ((bytes ≡ total) × (total ≢ 0) × (put_queue s 0 ((s.queues 0).items ++ group_item h ∷ []) ≡ t)) ⊎ ((bytes ≡ total → total ≢ 0 → ⊥) × (s ≡ t))
ready_run w h bytes total s t r = dite (ℕ_discrete bytes total)
    (λ e. dite (ℕ_discrete total 0)
    (λ z. inr ((λ _ n. n z), subst (λ (x : List Done). Runs s x t) (cond-true (eqb bytes total) _ _ (eq-eqb bytes total e) ∙ cond-true (eqb total 0) _ _ (eq-eqb total 0 z)) r))
    (λ n. inl (e, n, (subst (λ (x : List Done). Runs s x t) (cond-true (eqb bytes total) _ _ (eq-eqb bytes total e) ∙ cond-false (eqb total 0) _ _ (ne_eqb total 0 n)) r).1)))
    (λ n. inr ((λ e _. n e), subst (λ (x : List Done). Runs s x t) (cond-false (eqb bytes total) _ _ (ne_eqb bytes total n)) r))

-- ---- the walk along a group's links

-- map 1 with these links
abbrev pub with_links : State → (ℕ → Option ℕ) → State
with_links s links = record s { maps = with_at s.maps 1 links }

pub record Walked (s : State) (is : List ℕ) (t : State) : Type 0 where
  pub fewer : ℕ → Option ℕ
  pub cleared : (j : ℕ) → 0 < times j is → fewer j ≡ None
  pub kept : (j : ℕ) → times j is ≡ 0 → fewer j ≡ s.maps 1 j
  pub state : with_links s fewer ≡ t

walk_end : (w : Work) (i : ℕ) (s t : State) → s.maps 1 i ≡ None → s ≡ t → Walked s (i ∷ []) t
walk_end w i s t l e = record {
  fewer = s.maps 1;
  cleared = λ j m. dite (ℕ_discrete j i) (λ y. ap (s.maps 1) y ∙ l) (λ y. let a = times_cons_other j i [] y in absurd (omega arith));
  kept = λ j m. refl;
  state = (λ x. record s { maps = with_at_own s.maps 1 x }) ∙ e;
}

module _ (w : Work) where
  pub walk_run : (is : List ℕ) (i : ℕ) (before : List ℕ) (s t : State) → LeadThrough w (s.maps 1) (i ∷ is) → ((j : ℕ) → times j (i ∷ is) ≤ 1) → Runs s (walk w i before) t → Walked s (i ∷ is) t
  walk_run [] i [] s t l o r = walk_end w i s t l r.1
  walk_run [] i (k ∷ ks) s t l o r = let e : Some k ≡ None = found_same (Some k) None (r.0 ∙ ap found l) in absurd (cc)
  walk_run (j ∷ js) i [] s t l o r = let e : None ≡ Some j = found_same None (Some j) (r.0 ∙ ap found l.0) in absurd (cc)
  walk_run (j ∷ js) i (k ∷ ks) s t l o r =
      let e : Some k ≡ Some j = found_same (Some k) (Some j) (r.0 ∙ ap found l.0) in let same : k ≡ j = cc in
      let none : times i (j ∷ js) ≡ 0 = (let a = o i in let b = times_cons_same i i (j ∷ js) refl in omega arith) in
      let far : (x : ℕ) → 0 < times x (j ∷ js) → x ≢ i = λ x m y. (let a = ap (λ (z : ℕ). times z (j ∷ js)) y in omega arith) in
      let rec = walk_run js j ks (with_links s (with_at (s.maps 1) i None)) t
      (lead_same w (s.maps 1) (with_at (s.maps 1) i None) (j ∷ js) (λ x m. with_at_other (s.maps 1) i None x (far x m)) l.1)
      (λ x. let a = o x in let b = times_cons_more x i (j ∷ js) in omega arith)
      (subst (λ (z : ℕ). Runs (with_links s (with_at (s.maps 1) i None)) (walk w z ks) t) same r.1.1) in
      record {
        fewer = rec.fewer;
        cleared = λ x m. dite (ℕ_discrete x i)
            (λ y. rec.kept x (ap (λ (z : ℕ). times z (j ∷ js)) y ∙ none) ∙ with_at_same (s.maps 1) i None x y)
            (λ y. rec.cleared x (let a = times_cons_other x i (j ∷ js) y in omega arith));
        kept = λ x m. let y : x ≢ i = (λ z. let a = times_cons_same x i (j ∷ js) z in omega arith) in rec.kept x (let a = times_cons_other x i (j ∷ js) y in omega arith) ∙ with_at_other (s.maps 1) i None x y;
        state = (λ x. record s { maps = sym (with_at_twice s.maps 1 (with_at (s.maps 1) i None) rec.fewer) x }) ∙ rec.state;
      }
