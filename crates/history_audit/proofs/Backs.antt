-- Each change taken back.
use Rattle.std.proofs.Common.{◌≡◌, ℕ, suc, ◌+◌, ◌-◌, ◌<◌, ◌≤◌, Bool, true, false, eqb, cond, List, [], ◌∷◌, ◌++◌, length, take, refl, sym, ap, ◌∙◌, subst, Option, arith, length-append}
use Rattle.std.specs.Prelude.{nat_lt}
use Rattle.std.proofs.lemmas.Bool.{false_from_ne_true, ltb-true, lt-ltb}
use Rattle.serial_terms.specs.Counts.{times}
use Rattle.serial_terms.specs.Counts.{with_at}
use Rattle.serial_terms.specs.Facts.{with_at_same, with_at_own, with_at_twice}
use Rattle.serial_terms.specs.declared.call.Reply.{Reply}
use Rattle.serial_terms.specs.declared.call.Reply.TheVariants.{Value, Flag}
use Rattle.serial_terms.specs.Serial.{State, Sequence, Pool, first, rest, put_map, put_queue, put_log, put_cell, IsTakenFrom, after_take, after_give}
use Rattle.history_audit.specs.Structures.{but_last, put_item, IsListed}

pub but_last_pushed : (xs : List ℕ) (v : ℕ) → but_last (xs ++ v ∷ []) ≡ xs
but_last_pushed [] v = refl
but_last_pushed (x ∷ xs) v = ap (λ (n : ℕ). take n (x ∷ (xs ++ v ∷ []))) (let e : length (x ∷ (xs ++ v ∷ [])) - 1 ≡ suc (length xs) = simp length-append (omega arith) in e) ∙ ap (λ (ys : List ℕ). x ∷ ys) (all_taken xs v)
  where
    all_taken : (xs : List ℕ) (v : ℕ) → take (length xs) (xs ++ v ∷ []) ≡ xs
    all_taken [] v = refl
    all_taken (x ∷ xs) v = ap (λ (ys : List ℕ). x ∷ ys) (all_taken xs v)

pub put_map_back : (s : State) (m k : ℕ) (w : Option ℕ) → put_map (put_map s m k w) m k (s.maps m k) ≡ s
put_map_back s m k w = ap (λ (f : ℕ → ℕ → Option ℕ). record s { maps = f }) (maps_back s.maps)
  where
    maps_back : (f : ℕ → ℕ → Option ℕ) → with_at (with_at f m (with_at (f m) k w)) m (with_at (with_at f m (with_at (f m) k w) m) k (f m k)) ≡ f
    maps_back f = ap (λ (g : ℕ → Option ℕ). with_at (with_at f m (with_at (f m) k w)) m (with_at g k (f m k))) (with_at_same f m (with_at (f m) k w) m refl)
        ∙ (ap (λ (g : ℕ → Option ℕ). with_at (with_at f m (with_at (f m) k w)) m g) (with_at_twice (f m) k w (f m k) ∙ with_at_own (f m) k)
        ∙ (with_at_twice f m (with_at (f m) k w) (f m) ∙ with_at_own f m))

-- a queue or a log whose items are put and put again
sequences : (f : ℕ → Sequence) (xs : List ℕ) → with_at (with_at f 0 (record { items = xs; capacity = (f 0).capacity })) 0 (record { items = (f 0).items; capacity = (f 0).capacity }) ≡ f
sequences f xs = with_at_twice f 0 (record { items = xs; capacity = (f 0).capacity }) (f 0) ∙ with_at_own f 0

pub put_queue_back : (s : State) (xs : List ℕ) → put_queue (put_queue s 0 xs) 0 (s.queues 0).items ≡ s
put_queue_back s xs = ap (λ (f : ℕ → Sequence). record s { queues = f }) (sequences s.queues xs)

pub put_log_back : (s : State) (xs : List ℕ) → put_log (put_log s 0 xs) 0 (s.logs 0).items ≡ s
put_log_back s xs = ap (λ (f : ℕ → Sequence). record s { logs = f }) (sequences s.logs xs)

pub put_cell_back : (s : State) (v : ℕ) → put_cell (put_cell s 0 v) 0 (s.cells 0) ≡ s
put_cell_back s v = ap (λ (f : ℕ → ℕ). record s { cells = f }) (with_at_twice s.cells 0 v (s.cells 0) ∙ with_at_own s.cells 0)

pub put_item_back : (s : State) (x c h : ℕ) → put_item (put_item s x c h) x ((s.pools 0).count x) (s.pools 0).held ≡ s
put_item_back s x c h = ap (λ (f : ℕ → Pool). record s { pools = f }) (pools_back s.pools)
  where
    item_back : (p : Pool) → record { count = with_at (with_at p.count x c) x (p.count x); held = p.held; slots = p.slots } ≡ p
    item_back p = ap (λ (g : ℕ → ℕ). record { count = g; held = p.held; slots = p.slots }) (with_at_twice p.count x c (p.count x) ∙ with_at_own p.count x)

    pools_back : (f : ℕ → Pool) → with_at (with_at f 0 (record { count = with_at (f 0).count x c; held = h; slots = (f 0).slots })) 0 (record { count = with_at (with_at (f 0).count x c) x ((f 0).count x); held = (f 0).held; slots = (f 0).slots }) ≡ f
    pools_back f = ap (λ (p : Pool). with_at (with_at f 0 (record { count = with_at (f 0).count x c; held = h; slots = (f 0).slots })) 0 p) (item_back (f 0))
        ∙ (with_at_twice f 0 (record { count = with_at (f 0).count x c; held = h; slots = (f 0).slots }) (f 0) ∙ with_at_own f 0)

-- the queue's first value put back, its last one taken away again
pub first_back : (x : ℕ) (xs : List ℕ) → Value x ≡ first xs → x ∷ rest xs ≡ xs
first_back x [] e = absurd (cc e)
first_back x (y ∷ xs) e = let same : x ≡ y = cc e in ap (λ (z : ℕ). z ∷ xs) same

-- ---- pools that have the items of a list

times_most : (x : ℕ) (xs : List ℕ) → times x xs ≤ length xs
times_most x [] = omega arith
times_most x (y ∷ ys) = by_case (eqb x y) (times_most x ys)
  where
    by_case : (t : Bool) → times x ys ≤ length ys → cond t 1 0 + times x ys ≤ length (y ∷ ys)
    by_case true h = omega (arith, h)
    by_case false h = omega (arith, h)

pub counted : (s : State) → IsListed s → (x : ℕ) → (s.pools 0).count x ≤ (s.pools 0).held
counted s l x = subst (λ (p : Pool). p.count x ≤ p.held) (sym l.are) (times_most x l.items)

-- ---- a take, and a give

pub taken : (s : State) (x : ℕ) (r : Reply) (n h : ℕ) → r ≡ Value x → n ≡ (s.pools 0).count x → h ≡ (s.pools 0).held → put_item s x (n - 1) (h - 1) ≡ after_take s 0 r
taken s x r n h e a b = rw (e, a, b) refl

pub is_held : (s : State) (r : Reply) (x n h : ℕ) → IsListed s → IsTakenFrom (s.pools 0) r → r ≡ Value x → n ≡ (s.pools 0).count x → h ≡ (s.pools 0).held → (1 ≤ n) × (1 ≤ h)
is_held s r x n h l t e a b = let there : 0 < (s.pools 0).count x = subst (IsTakenFrom (s.pools 0)) e t in (omega arith, omega (arith, counted s l x))

pub given : (s : State) (x n h k : ℕ) → n ≡ (s.pools 0).count x → h ≡ (s.pools 0).held → k ≡ (s.pools 0).slots → h < k
    → put_item s x (n + 1) (h + 1) ≡ after_give s 0 x (Flag (nat_lt (s.pools 0).held (s.pools 0).slots))
given s x n h k a b c lt = let yes : nat_lt (s.pools 0).held (s.pools 0).slots ≡ true = lt-ltb (s.pools 0).held (s.pools 0).slots (omega arith) in rw (yes, a, b) refl

pub not_given : (s : State) (x h k : ℕ) → h ≡ (s.pools 0).held → k ≡ (s.pools 0).slots → k ≤ h
    → s ≡ after_give s 0 x (Flag (nat_lt (s.pools 0).held (s.pools 0).slots))
not_given s x h k b c le = let no : nat_lt (s.pools 0).held (s.pools 0).slots ≡ false = false_from_ne_true _ (λ t. let lt : (s.pools 0).held < (s.pools 0).slots = ltb-true _ _ t in omega arith) in rw no refl

pub item_back : (s t : State) (x c h n k : ℕ) → t ≡ put_item s x c h → n ≡ (s.pools 0).count x → k ≡ (s.pools 0).held → put_item t x n k ≡ s
item_back s t x c h n k e a b = rw (e, a, b) (put_item_back s x c h)
