-- Calls about different parts: each call reads its own part alone, and puts a new content in its place.
use Rattle.std.proofs.Common.{◌≡◌, ◌≢◌, ℕ, true, false, List, [], ◌∷◌, ◌++◌, length, sym, refl, ap, ◌∙◌, subst}
use Rattle.std.specs.Prelude.{Option, Some, None, nat_lt, slice_get}
use mathlib.Core.Logic.{dite}
use native.Mathlib.Decide.{ℕ_discrete}
use Rattle.serial_terms.specs.declared.call.Call.{Call}
use Rattle.serial_terms.specs.declared.call.Call.TheVariants.{MapGet, MapPut, MapRemove, MapPutIfAbsent, Enqueue, Dequeue, QueueLen, Take, Give, Append, AppendPlaced, LogRead, LogLen, CellGet, CellPut}
use Rattle.serial_terms.specs.declared.call.Reply.{Reply}
use Rattle.serial_terms.specs.declared.call.Reply.TheVariants.{Nothing, Absent, Value, Flag}
use Rattle.serial_terms.specs.Counts.{with_at}
use Rattle.serial_terms.specs.Laws.{PartsCommute}
use Rattle.serial_terms.specs.Parts.{Part, a_key, a_queue, a_pool, a_log, a_cell, part}
use Rattle.serial_terms.specs.Serial.{State, Sequence, Pool, Allows, after, found, first, rest, less, more, IsTakenFrom, put_map, put_queue, put_pool, put_cell, after_take, after_give, by_value}
use Rattle.serial_terms.specs.Facts.{with_at_same, with_at_other, with_at_own, with_at_twice}
use Rattle.serial_terms.proofs.Basics.{with_at_swap}

abbrev Content : Part → Type 0
Content (a_key m k) = Option ℕ
Content (a_queue q) = Sequence
Content (a_pool p) = Pool
Content (a_log l) = Sequence
Content (a_cell c) = ℕ

abbrev content : State → (p : Part) → Content p
content s (a_key m k) = s.maps m k
content s (a_queue q) = s.queues q
content s (a_pool p) = s.pools p
content s (a_log l) = s.logs l
content s (a_cell c) = s.cells c

abbrev put : State → (p : Part) → Content p → State
put s (a_key m k) x = put_map s m k x
put s (a_queue q) x = record s { queues = with_at s.queues q x }
put s (a_pool p) x = put_pool s p x
put s (a_log l) x = record s { logs = with_at s.logs l x }
put s (a_cell c) x = put_cell s c x

-- what the reply and the content before leave of a part
abbrev either : {A : Type 0} → Reply → A → A → A
either (Value v) x y = x
either Absent x y = y
either Nothing x y = y
either (Flag b) x y = y

abbrev taken : Reply → Pool → Pool
taken (Value v) x = less x v
taken Absent x = x
taken Nothing x = x
taken (Flag b) x = x

abbrev given : ℕ → Reply → Pool → Pool
given v (Flag true) x = more x v
given v (Flag false) x = x
given v Nothing x = x
given v Absent x = x
given v (Value y) x = x

abbrev with_items : Sequence → List ℕ → Sequence
with_items x xs = record { items = xs; capacity = x.capacity }

abbrev left : (c : Call) → Reply → Content (part c) → Content (part c)
left (MapGet m k) r x = x
left (MapPut m k v) r x = Some v
left (MapRemove m k) r x = None
left (MapPutIfAbsent m k v) r x = either r x (Some v)
left (Enqueue q v) r x = with_items x (x.items ++ v ∷ [])
left (Dequeue q) r x = either r (with_items x (rest x.items)) x
left (QueueLen q) r x = x
left (Take p) r x = taken r x
left (Give p v) r x = given v r x
left (Append l v) r x = with_items x (x.items ++ v ∷ [])
left (AppendPlaced l v) r x = with_items x (x.items ++ v ∷ [])
left (LogRead l i) r x = x
left (LogLen l) r x = x
left (CellGet c) r x = x
left (CellPut c v) r x = v

abbrev AllowsAt : (c : Call) → Reply → Content (part c) → Type 0
AllowsAt (MapGet m k) r x = r ≡ found x
AllowsAt (MapPut m k v) r x = r ≡ Nothing
AllowsAt (MapRemove m k) r x = r ≡ Nothing
AllowsAt (MapPutIfAbsent m k v) r x = r ≡ found x
AllowsAt (Enqueue q v) r x = r ≡ Nothing
AllowsAt (Dequeue q) r x = r ≡ first x.items
AllowsAt (QueueLen q) r x = r ≡ Value (length x.items)
AllowsAt (Take p) r x = IsTakenFrom x r
AllowsAt (Give p v) r x = r ≡ Flag (nat_lt x.held x.slots)
AllowsAt (Append l v) r x = r ≡ Nothing
AllowsAt (AppendPlaced l v) r x = r ≡ Value (length x.items)
AllowsAt (LogRead l i) r x = r ≡ found (slice_get x.items i)
AllowsAt (LogLen l) r x = r ≡ Value (length x.items)
AllowsAt (CellGet c) r x = r ≡ Value x
AllowsAt (CellPut c v) r x = r ≡ Nothing

to_content : (c : Call) (r : Reply) (s : State) → Allows s c r → AllowsAt c r (content s (part c))
to_content (MapGet m k) r s a = a
to_content (MapPut m k v) r s a = a
to_content (MapRemove m k) r s a = a
to_content (MapPutIfAbsent m k v) r s a = a
to_content (Enqueue q v) r s a = a
to_content (Dequeue q) r s a = a
to_content (QueueLen q) r s a = a
to_content (Take p) r s a = a
to_content (Give p v) r s a = a
to_content (Append l v) r s a = a
to_content (AppendPlaced l v) r s a = a
to_content (LogRead l i) r s a = a
to_content (LogLen l) r s a = a
to_content (CellGet c) r s a = a
to_content (CellPut c v) r s a = a

from_content : (c : Call) (r : Reply) (s : State) → AllowsAt c r (content s (part c)) → Allows s c r
from_content (MapGet m k) r s a = a
from_content (MapPut m k v) r s a = a
from_content (MapRemove m k) r s a = a
from_content (MapPutIfAbsent m k v) r s a = a
from_content (Enqueue q v) r s a = a
from_content (Dequeue q) r s a = a
from_content (QueueLen q) r s a = a
from_content (Take p) r s a = a
from_content (Give p v) r s a = a
from_content (Append l v) r s a = a
from_content (AppendPlaced l v) r s a = a
from_content (LogRead l i) r s a = a
from_content (LogLen l) r s a = a
from_content (CellGet c) r s a = a
from_content (CellPut c v) r s a = a

-- a part's own content put back
put_own : (p : Part) (s : State) → put s p (content s p) ≡ s
put_own (a_key m k) s = let e : with_at s.maps m (with_at (s.maps m) k (s.maps m k)) ≡ s.maps = ap (with_at s.maps m) (with_at_own (s.maps m) k) ∙ with_at_own s.maps m in λ i. record s { maps = e i }
put_own (a_queue q) s = let e = with_at_own s.queues q in λ i. record s { queues = e i }
put_own (a_pool p) s = let e = with_at_own s.pools p in λ i. record s { pools = e i }
put_own (a_log l) s = let e = with_at_own s.logs l in λ i. record s { logs = e i }
put_own (a_cell c) s = let e = with_at_own s.cells c in λ i. record s { cells = e i }

absent_puts : (s : State) (m k v : ℕ) (r : Reply) → by_value r s (put_map s m k (Some v)) ≡ put s (a_key m k) (either r (s.maps m k) (Some v))
absent_puts s m k v (Value x) = sym (put_own (a_key m k) s)
absent_puts s m k v Absent = refl
absent_puts s m k v Nothing = refl
absent_puts s m k v (Flag b) = refl

dequeue_puts : (s : State) (q : ℕ) (r : Reply) → by_value r (put_queue s q (rest (s.queues q).items)) s ≡ put s (a_queue q) (either r (with_items (s.queues q) (rest (s.queues q).items)) (s.queues q))
dequeue_puts s q (Value x) = refl
dequeue_puts s q Absent = sym (put_own (a_queue q) s)
dequeue_puts s q Nothing = sym (put_own (a_queue q) s)
dequeue_puts s q (Flag b) = sym (put_own (a_queue q) s)

take_puts : (s : State) (p : ℕ) (r : Reply) → after_take s p r ≡ put s (a_pool p) (taken r (s.pools p))
take_puts s p (Value x) = refl
take_puts s p Absent = sym (put_own (a_pool p) s)
take_puts s p Nothing = sym (put_own (a_pool p) s)
take_puts s p (Flag b) = sym (put_own (a_pool p) s)

give_puts : (s : State) (p v : ℕ) (r : Reply) → after_give s p v r ≡ put s (a_pool p) (given v r (s.pools p))
give_puts s p v (Flag true) = refl
give_puts s p v (Flag false) = sym (put_own (a_pool p) s)
give_puts s p v Nothing = sym (put_own (a_pool p) s)
give_puts s p v Absent = sym (put_own (a_pool p) s)
give_puts s p v (Value x) = sym (put_own (a_pool p) s)

-- each call puts a new content of its part
puts : (c : Call) (r : Reply) (s : State) → after s c r ≡ put s (part c) (left c r (content s (part c)))
puts (MapGet m k) r s = sym (put_own (a_key m k) s)
puts (MapPut m k v) r s = refl
puts (MapRemove m k) r s = refl
puts (MapPutIfAbsent m k v) r s = absent_puts s m k v r
puts (Enqueue q v) r s = refl
puts (Dequeue q) r s = dequeue_puts s q r
puts (QueueLen q) r s = sym (put_own (a_queue q) s)
puts (Take p) r s = take_puts s p r
puts (Give p v) r s = give_puts s p v r
puts (Append l v) r s = refl
puts (AppendPlaced l v) r s = refl
puts (LogRead l i) r s = sym (put_own (a_log l) s)
puts (LogLen l) r s = sym (put_own (a_log l) s)
puts (CellGet c) r s = sym (put_own (a_cell c) s)
puts (CellPut c v) r s = refl

-- ---- another part keeps its content

key_kept : (s : State) (m k n j : ℕ) (x : Option ℕ) → a_key m k ≢ a_key n j → with_at s.maps m (with_at (s.maps m) k x) n j ≡ s.maps n j
key_kept s m k n j x h = dite (ℕ_discrete n m)
    (λ e. let far : j ≢ k = λ f. h (λ i. a_key (sym e i) (sym f i)) in
    ap (λ (f : ℕ → Option ℕ). f j) (with_at_same s.maps m _ n e) ∙ (with_at_other (s.maps m) k x j far ∙ ap (λ (z : ℕ). s.maps z j) (sym e)))
    (λ e. ap (λ (f : ℕ → Option ℕ). f j) (with_at_other s.maps m _ n e))

pub content_kept : (p q : Part) (s : State) (x : Content p) → p ≢ q → content (put s p x) q ≡ content s q
content_kept (a_key m k) (a_key n j) s x h = key_kept s m k n j x h
content_kept (a_queue q) (a_queue r) s x h = with_at_other s.queues q x r (λ e. h (ap (λ (z : ℕ). a_queue z) (sym e)))
content_kept (a_pool p) (a_pool r) s x h = with_at_other s.pools p x r (λ e. h (ap (λ (z : ℕ). a_pool z) (sym e)))
content_kept (a_log l) (a_log r) s x h = with_at_other s.logs l x r (λ e. h (ap (λ (z : ℕ). a_log z) (sym e)))
content_kept (a_cell c) (a_cell r) s x h = with_at_other s.cells c x r (λ e. h (ap (λ (z : ℕ). a_cell z) (sym e)))
content_kept (a_key m k) (a_queue r) s x h = refl
content_kept (a_key m k) (a_pool r) s x h = refl
content_kept (a_key m k) (a_log r) s x h = refl
content_kept (a_key m k) (a_cell r) s x h = refl
content_kept (a_queue q) (a_key n j) s x h = refl
content_kept (a_queue q) (a_pool r) s x h = refl
content_kept (a_queue q) (a_log r) s x h = refl
content_kept (a_queue q) (a_cell r) s x h = refl
content_kept (a_pool p) (a_key n j) s x h = refl
content_kept (a_pool p) (a_queue r) s x h = refl
content_kept (a_pool p) (a_log r) s x h = refl
content_kept (a_pool p) (a_cell r) s x h = refl
content_kept (a_log l) (a_key n j) s x h = refl
content_kept (a_log l) (a_queue r) s x h = refl
content_kept (a_log l) (a_pool r) s x h = refl
content_kept (a_log l) (a_cell r) s x h = refl
content_kept (a_cell c) (a_key n j) s x h = refl
content_kept (a_cell c) (a_queue r) s x h = refl
content_kept (a_cell c) (a_pool r) s x h = refl
content_kept (a_cell c) (a_log r) s x h = refl

-- ---- two parts changed in either order

keys_swap : (s : State) (m k n j : ℕ) (x y : Option ℕ) → a_key m k ≢ a_key n j → put_map (put_map s m k x) n j y ≡ put_map (put_map s n j y) m k x
keys_swap s m k n j x y h = dite (ℕ_discrete n m)
    (λ e. let far : k ≢ j = λ f. h (λ i. a_key (sym e i) (f i)) in subst (λ (z : ℕ). put_map (put_map s m k x) z j y ≡ put_map (put_map s z j y) m k x) (sym e) (one_map far))
    (λ e. let maps : with_at (with_at s.maps m (with_at (s.maps m) k x)) n (with_at (with_at s.maps m (with_at (s.maps m) k x) n) j y) ≡ with_at (with_at s.maps n (with_at (s.maps n) j y)) m (with_at (with_at s.maps n (with_at (s.maps n) j y) m) k x) =
    ap (λ (f : ℕ → Option ℕ). with_at (with_at s.maps m (with_at (s.maps m) k x)) n (with_at f j y)) (with_at_other s.maps m _ n e)
    ∙ (with_at_swap s.maps m n _ _ (λ f. e (sym f))
    ∙ ap (λ (f : ℕ → Option ℕ). with_at (with_at s.maps n (with_at (s.maps n) j y)) m (with_at f k x)) (sym (with_at_other s.maps n _ m (λ f. e (sym f))))) in
    λ i. record s { maps = maps i })
  where
    one_side : (a b : ℕ) (u v : Option ℕ) → with_at (with_at s.maps m (with_at (s.maps m) a u)) m (with_at (with_at s.maps m (with_at (s.maps m) a u) m) b v) ≡ with_at s.maps m (with_at (with_at (s.maps m) a u) b v)
    one_side a b u v = ap (λ (f : ℕ → Option ℕ). with_at (with_at s.maps m (with_at (s.maps m) a u)) m (with_at f b v)) (with_at_same s.maps m (with_at (s.maps m) a u) m refl) ∙ with_at_twice s.maps m _ _

    one_map : k ≢ j → put_map (put_map s m k x) m j y ≡ put_map (put_map s m j y) m k x
    one_map far = let maps = one_side k j x y ∙ (ap (with_at s.maps m) (with_at_swap (s.maps m) k j x y far) ∙ sym (one_side j k y x)) in λ i. record s { maps = maps i }

pub puts_swap : (p q : Part) (s : State) (x : Content p) (y : Content q) → p ≢ q → put (put s p x) q y ≡ put (put s q y) p x
puts_swap (a_key m k) (a_key n j) s x y h = keys_swap s m k n j x y h
puts_swap (a_queue q) (a_queue r) s x y h = let e = with_at_swap s.queues q r x y (λ e. h (ap (λ (z : ℕ). a_queue z) e)) in λ i. record s { queues = e i }
puts_swap (a_pool p) (a_pool r) s x y h = let e = with_at_swap s.pools p r x y (λ e. h (ap (λ (z : ℕ). a_pool z) e)) in λ i. record s { pools = e i }
puts_swap (a_log l) (a_log r) s x y h = let e = with_at_swap s.logs l r x y (λ e. h (ap (λ (z : ℕ). a_log z) e)) in λ i. record s { logs = e i }
puts_swap (a_cell c) (a_cell r) s x y h = let e = with_at_swap s.cells c r x y (λ e. h (ap (λ (z : ℕ). a_cell z) e)) in λ i. record s { cells = e i }
puts_swap (a_key m k) (a_queue r) s x y h = refl
puts_swap (a_key m k) (a_pool r) s x y h = refl
puts_swap (a_key m k) (a_log r) s x y h = refl
puts_swap (a_key m k) (a_cell r) s x y h = refl
puts_swap (a_queue q) (a_key n j) s x y h = refl
puts_swap (a_queue q) (a_pool r) s x y h = refl
puts_swap (a_queue q) (a_log r) s x y h = refl
puts_swap (a_queue q) (a_cell r) s x y h = refl
puts_swap (a_pool p) (a_key n j) s x y h = refl
puts_swap (a_pool p) (a_queue r) s x y h = refl
puts_swap (a_pool p) (a_log r) s x y h = refl
puts_swap (a_pool p) (a_cell r) s x y h = refl
puts_swap (a_log l) (a_key n j) s x y h = refl
puts_swap (a_log l) (a_queue r) s x y h = refl
puts_swap (a_log l) (a_pool r) s x y h = refl
puts_swap (a_log l) (a_cell r) s x y h = refl
puts_swap (a_cell c) (a_key n j) s x y h = refl
puts_swap (a_cell c) (a_queue r) s x y h = refl
puts_swap (a_cell c) (a_pool r) s x y h = refl
puts_swap (a_cell c) (a_log r) s x y h = refl

-- another part keeps its content after a call
kept_after : (c : Call) (r : Reply) (q : Part) (s : State) → part c ≢ q → content (after s c r) q ≡ content s q
kept_after c r q s h = ap (λ (z : State). content z q) (puts c r s) ∙ content_kept (part c) q s _ h

both : (c d : Call) (q r : Reply) (s : State) → part c ≢ part d → after (after s c q) d r ≡ put (put s (part c) (left c q (content s (part c)))) (part d) (left d r (content s (part d)))
both c d q r s h = puts d r (after s c q) ∙ (λ i. put (puts c q s i) (part d) (left d r (kept_after c q (part d) s h i)))

pub commute : PartsCommute
commute s c d q r h = let far : part d ≢ part c = λ e. h (sym e) in let e = kept_after c q (part d) s h in (
  (λ a. from_content d r s (subst (AllowsAt d r) e (to_content d r (after s c q) a)), λ a. from_content d r (after s c q) (subst (AllowsAt d r) (sym e) (to_content d r s a))),
  both c d q r s h ∙ (puts_swap (part c) (part d) s _ _ h ∙ sym (both d c r q s far)),
)
