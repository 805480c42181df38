-- Where the structures of a state stand, and what changes of them do to the state.
use Rattle.std.proofs.Common.{◌≡◌, ℕ, true, false, cond, List, [], ◌∷◌, drop, refl, sym, ap, ◌∙◌, Option, Some, eq-eqb, ne_eqb}
use Rattle.std.specs.Prelude.{nat_eq}
use Rattle.std.specs.Map.{count_at}
use Rattle.std.specs.HashMap.{get}
use Rattle.std.proofs.lemmas.Bool.{cond-true, cond-false}
use mathlib.Core.Logic.{dite}
use mathlib.Core.Path.{fun_ext}
use native.Mathlib.Decide.{ℕ_discrete}
use Rattle.serial_terms.specs.Counts.{with_at}
use Rattle.serial_terms.specs.Facts.{with_at_same, with_at_other, with_at_twice}
use Rattle.serial_terms.specs.Serial.{Sequence, Pool, rest, put_map, put_queue, put_log, put_cell}
use Rattle.history_audit.specs.declared.structures.Structures.{Structures}
use Rattle.history_audit.specs.Structures.{state_of, is_same_key, alone, no_sequence, no_pool, put_item}

pub queue_at : (s : Structures) (q : ℕ) → q ≡ 0 → (state_of s).queues q ≡ record { items = s.queue.items; capacity = s.room }
unfolding state_of
queue_at s q e = with_at_same (λ n. no_sequence) 0 (record { items = s.queue.items; capacity = s.room }) q e

pub pool_at : (s : Structures) (p : ℕ) → p ≡ 0 → (state_of s).pools p ≡ record { count = λ x. count_at (get nat_eq s.counts) x; held = s.held; slots = s.room }
unfolding state_of
pool_at s p e = with_at_same (λ n. no_pool) 0 (record { count = λ x. count_at (get nat_eq s.counts) x; held = s.held; slots = s.room }) p e

pub log_at : (s : Structures) (l : ℕ) → l ≡ 0 → (state_of s).logs l ≡ record { items = s.log.items; capacity = s.findings }
unfolding state_of
log_at s l e = with_at_same (λ n. no_sequence) 0 (record { items = s.log.items; capacity = s.findings }) l e

pub cell_at : (s : Structures) (c : ℕ) → c ≡ 0 → (state_of s).cells c ≡ s.cell
unfolding state_of
cell_at s c e = with_at_same (λ n. 0) 0 s.cell c e

-- ---- changes

-- the map at the key
key_in : (f : ℕ × ℕ → Option ℕ) (m k : ℕ) (v : Option ℕ) (a b : ℕ)
    → cond (is_same_key (m, k) (a, b)) v (f (a, b)) ≡ with_at (λ x y. f (x, y)) m (with_at (λ y. f (m, y)) k v) a b
key_in f m k v a b = dite (ℕ_discrete a m)
    (λ e. dite (ℕ_discrete b k)
    (λ h. let here : is_same_key (m, k) (a, b) ≡ true = rw (eq-eqb m a (sym e), eq-eqb k b (sym h)) refl in
    cond-true (is_same_key (m, k) (a, b)) v (f (a, b)) here
    ∙ (sym (with_at_same (λ y. f (m, y)) k v b h) ∙ ap (λ (g : ℕ → Option ℕ). g b) (sym (with_at_same (λ x y. f (x, y)) m (with_at (λ y. f (m, y)) k v) a e))))
    (λ h. let there : is_same_key (m, k) (a, b) ≡ false = rw (eq-eqb m a (sym e), ne_eqb k b (λ w. h (sym w))) refl in
    cond-false (is_same_key (m, k) (a, b)) v (f (a, b)) there
    ∙ (ap (λ (z : ℕ). f (z, b)) e ∙ (sym (with_at_other (λ y. f (m, y)) k v b h) ∙ ap (λ (g : ℕ → Option ℕ). g b) (sym (with_at_same (λ x y. f (x, y)) m (with_at (λ y. f (m, y)) k v) a e))))))
    (λ e. let there : is_same_key (m, k) (a, b) ≡ false = rw (ne_eqb m a (λ w. e (sym w))) refl in
    cond-false (is_same_key (m, k) (a, b)) v (f (a, b)) there
    ∙ ap (λ (g : ℕ → Option ℕ). g b) (sym (with_at_other (λ x y. f (x, y)) m (with_at (λ y. f (m, y)) k v) a e)))

-- the maps where a key was given a value, or none
pub maps_with : (s t : Structures) (m k : ℕ) (v : Option ℕ)
    → ((q : ℕ × ℕ) → get is_same_key t.values q ≡ cond (is_same_key (m, k) q) v (get is_same_key s.values q))
    → (λ (a b : ℕ). get is_same_key t.values (a, b)) ≡ (put_map (state_of s) m k v).maps
unfolding state_of
maps_with s t m k v h = fun_ext (λ a. fun_ext (λ b. h (a, b) ∙ key_in (λ q. get is_same_key s.values q) m k v a b))

-- the pool where an item has another count
pub counts_with : (s t : Structures) (x n : ℕ)
    → ((q : ℕ) → get nat_eq t.counts q ≡ cond (nat_eq x q) (Some n) (get nat_eq s.counts q))
    → (λ (q : ℕ). count_at (get nat_eq t.counts) q) ≡ with_at (λ q. count_at (get nat_eq s.counts) q) x n
counts_with s t x n h = fun_ext (λ q. dite (ℕ_discrete q x)
    (λ e. ap (λ (o : Option ℕ). count_at (λ (z : ℕ). o) q) (h q ∙ cond-true (nat_eq x q) (Some n) (get nat_eq s.counts q) (eq-eqb x q (sym e)))
    ∙ sym (with_at_same (λ q. count_at (get nat_eq s.counts) q) x n q e))
    (λ e. ap (λ (o : Option ℕ). count_at (λ (z : ℕ). o) q) (h q ∙ cond-false (nat_eq x q) (Some n) (get nat_eq s.counts q) (ne_eqb x q (λ w. e (sym w))))
    ∙ sym (with_at_other (λ q. count_at (get nat_eq s.counts) q) x n q e)))

-- the first changed twice
pub alone_twice : {A : Type 0} (other a b : A) → alone other b ≡ with_at (alone other a) 0 b
alone_twice other a b = sym (with_at_twice (λ n. other) 0 a b)

pub drop_one : (xs : List ℕ) → drop 1 xs ≡ rest xs
drop_one [] = refl
drop_one (x ∷ xs) = refl

-- ---- the state of structures of which one was changed

pub value_put : (s t : Structures) (m k : ℕ) (v : Option ℕ) → t ≡ record s { values = t.values }
    → ((q : ℕ × ℕ) → get is_same_key t.values q ≡ cond (is_same_key (m, k) q) v (get is_same_key s.values q))
    → state_of t ≡ put_map (state_of s) m k v
unfolding state_of
value_put s t m k v e h = ap state_of e ∙ ap (λ (f : ℕ → ℕ → Option ℕ). record (state_of s) { maps = f }) (maps_with s t m k v h)

pub item_put : (s t : Structures) (x n h : ℕ) → t ≡ record s { counts = t.counts; held = h }
    → ((q : ℕ) → get nat_eq t.counts q ≡ cond (nat_eq x q) (Some n) (get nat_eq s.counts q))
    → state_of t ≡ put_item (state_of s) x n h
unfolding state_of
item_put s t x n h e u = ap state_of e
    ∙ (ap (λ (f : ℕ → ℕ). record (state_of s) { pools = alone no_pool (record { count = f; held = h; slots = s.room }) }) (counts_with s t x n u)
    ∙ ap (λ (f : ℕ → Pool). record (state_of s) { pools = f })
    (alone_twice no_pool ((state_of s).pools 0) (record { count = with_at (λ q. count_at (get nat_eq s.counts) q) x n; held = h; slots = s.room })))

pub queue_put : (s t : Structures) (xs : List ℕ) → t ≡ record s { queue = t.queue } → t.queue.items ≡ xs → state_of t ≡ put_queue (state_of s) 0 xs
unfolding state_of
queue_put s t xs e h = ap state_of e
    ∙ (ap (λ (ys : List ℕ). record (state_of s) { queues = alone no_sequence (record { items = ys; capacity = s.room }) }) h
    ∙ ap (λ (f : ℕ → Sequence). record (state_of s) { queues = f }) (alone_twice no_sequence ((state_of s).queues 0) (record { items = xs; capacity = s.room })))

pub log_put : (s t : Structures) (xs : List ℕ) → t ≡ record s { log = t.log } → t.log.items ≡ xs → state_of t ≡ put_log (state_of s) 0 xs
unfolding state_of
log_put s t xs e h = ap state_of e
    ∙ (ap (λ (ys : List ℕ). record (state_of s) { logs = alone no_sequence (record { items = ys; capacity = s.findings }) }) h
    ∙ ap (λ (f : ℕ → Sequence). record (state_of s) { logs = f }) (alone_twice no_sequence ((state_of s).logs 0) (record { items = xs; capacity = s.findings })))

pub cell_put : (s : Structures) (v : ℕ) → state_of (record s { cell = v }) ≡ put_cell (state_of s) 0 v
unfolding state_of
cell_put s v = ap (λ (f : ℕ → ℕ). record (state_of s) { cells = f }) (alone_twice 0 s.cell v)

pub items_of_queue : (s : Structures) → ((state_of s).queues 0).items ≡ s.queue.items
items_of_queue s = ap (λ (q : Sequence). q.items) (queue_at s 0 refl)

pub items_of_log : (s : Structures) → ((state_of s).logs 0).items ≡ s.log.items
items_of_log s = ap (λ (q : Sequence). q.items) (log_at s 0 refl)
