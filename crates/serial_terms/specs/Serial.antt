-- The serial structures: what each call may be replied in a state, and the state that it leaves.
use Rattle.std.specs.Prelude.{◌≡◌, ℕ, ◌+◌, ◌-◌, ◌<◌, ◌≤◌, true, false, nat_lt, List, [], ◌∷◌, ◌++◌, length, slice_get, Option, Some, None}
use Rattle.serial_terms.specs.declared.call.Call.{Call}
use Rattle.serial_terms.specs.declared.call.Call.TheVariants.{MapGet, MapPut, MapRemove, MapPutIfAbsent, Enqueue, Dequeue, QueueLen, Take, Give, Append, AppendPlaced, LogRead, LogLen, CellGet, CellPut}
use Rattle.serial_terms.specs.declared.call.Reply.{Reply}
use Rattle.serial_terms.specs.declared.call.Reply.TheVariants.{Nothing, Absent, Value, Flag}
use Rattle.serial_terms.specs.declared.call.Done.{Done}
use Rattle.serial_terms.specs.Counts.{times, with_at}

-- a queue or a log: its values, the first one first, and how many it may have after a record
pub record Sequence : Type 0 where
  pub items : List ℕ
  pub capacity : ℕ

-- a pool: how often each item is in it, how many items it has, and how many it may have.
-- Which slot an item stands in makes no difference
pub record Pool : Type 0 where
  pub count : ℕ → ℕ
  pub held : ℕ
  pub slots : ℕ

-- the structures by their numbers; one that isn't there is empty. A map gives a key's value where the key is there
pub record State : Type 0 where
  pub maps : ℕ → ℕ → Option ℕ
  pub queues : ℕ → Sequence
  pub pools : ℕ → Pool
  pub logs : ℕ → Sequence
  pub cells : ℕ → ℕ

-- the pool with these items in its slots, in any order
abbrev pub pool_of : ℕ → List ℕ → Pool
pool_of n items = record { count = λ x. times x items; held = length items; slots = n }

-- ---- one structure changed

abbrev pub put_map : State → ℕ → ℕ → Option ℕ → State
put_map s m k v = record s { maps = with_at s.maps m (with_at (s.maps m) k v) }

abbrev pub put_queue : State → ℕ → List ℕ → State
put_queue s q xs = record s { queues = with_at s.queues q (record { items = xs; capacity = (s.queues q).capacity }) }

abbrev pub put_pool : State → ℕ → Pool → State
put_pool s p x = record s { pools = with_at s.pools p x }

abbrev pub put_log : State → ℕ → List ℕ → State
put_log s l xs = record s { logs = with_at s.logs l (record { items = xs; capacity = (s.logs l).capacity }) }

abbrev pub put_cell : State → ℕ → ℕ → State
put_cell s c v = record s { cells = with_at s.cells c v }

-- one item less, one more
abbrev pub less : Pool → ℕ → Pool
less p x = record { count = with_at p.count x (p.count x - 1); held = p.held - 1; slots = p.slots }

abbrev pub more : Pool → ℕ → Pool
more p x = record { count = with_at p.count x (p.count x + 1); held = p.held + 1; slots = p.slots }

-- ---- what a call is replied

-- the value, where there is one
abbrev pub found : Option ℕ → Reply
found (Some v) = Value v
found None = Absent

abbrev pub first : List ℕ → Reply
first [] = Absent
first (x ∷ xs) = Value x

-- any item that is there, and Absent exactly where there is none
abbrev pub IsTakenFrom : Pool → Reply → Type 0
IsTakenFrom p (Value x) = 0 < p.count x
IsTakenFrom p Absent = p.held ≡ 0
IsTakenFrom p Nothing = ⊥
IsTakenFrom p (Flag b) = ⊥

-- the structures may reply this to the call
abbrev pub Allows : State → Call → Reply → Type 0
Allows s (MapGet m k) r = r ≡ found (s.maps m k)
Allows s (MapPut m k v) r = r ≡ Nothing
Allows s (MapRemove m k) r = r ≡ Nothing
Allows s (MapPutIfAbsent m k v) r = r ≡ found (s.maps m k)
Allows s (Enqueue q v) r = r ≡ Nothing
Allows s (Dequeue q) r = r ≡ first (s.queues q).items
Allows s (QueueLen q) r = r ≡ Value (length (s.queues q).items)
Allows s (Take p) r = IsTakenFrom (s.pools p) r
Allows s (Give p v) r = r ≡ Flag (nat_lt (s.pools p).held (s.pools p).slots)
Allows s (Append l v) r = r ≡ Nothing
Allows s (AppendPlaced l v) r = r ≡ Value (length (s.logs l).items)
Allows s (LogRead l i) r = r ≡ found (slice_get (s.logs l).items i)
Allows s (LogLen l) r = r ≡ Value (length (s.logs l).items)
Allows s (CellGet c) r = r ≡ Value (s.cells c)
Allows s (CellPut c v) r = r ≡ Nothing

-- ---- the state that a call leaves

abbrev pub rest : List ℕ → List ℕ
rest [] = []
rest (x ∷ xs) = xs

-- the one state where the reply is a value, the other where it is Absent
abbrev pub by_value : Reply → State → State → State
by_value (Value x) s t = s
by_value Absent s t = t
by_value Nothing s t = t
by_value (Flag b) s t = t

abbrev pub after_take : State → ℕ → Reply → State
after_take s p (Value x) = put_pool s p (less (s.pools p) x)
after_take s p Absent = s
after_take s p Nothing = s
after_take s p (Flag b) = s

abbrev pub after_give : State → ℕ → ℕ → Reply → State
after_give s p v (Flag true) = put_pool s p (more (s.pools p) v)
after_give s p v (Flag false) = s
after_give s p v Nothing = s
after_give s p v Absent = s
after_give s p v (Value x) = s

abbrev pub after : State → Call → Reply → State
after s (MapGet m k) r = s
after s (MapPut m k v) r = put_map s m k (Some v)
after s (MapRemove m k) r = put_map s m k None
after s (MapPutIfAbsent m k v) r = by_value r s (put_map s m k (Some v))
after s (Enqueue q v) r = put_queue s q ((s.queues q).items ++ v ∷ [])
after s (Dequeue q) r = by_value r (put_queue s q (rest (s.queues q).items)) s
after s (QueueLen q) r = s
after s (Take p) r = after_take s p r
after s (Give p v) r = after_give s p v r
after s (Append l v) r = put_log s l ((s.logs l).items ++ v ∷ [])
after s (AppendPlaced l v) r = put_log s l ((s.logs l).items ++ v ∷ [])
after s (LogRead l i) r = s
after s (LogLen l) r = s
after s (CellGet c) r = s
after s (CellPut c v) r = put_cell s c v

-- ---- lists of calls

-- a call made outside of any child, and one made in a child
abbrev pub outside : Call → Reply → Done
outside c r = record { call = c; reply = r; child = false }

abbrev pub in_child : Call → Reply → Done
in_child c r = record { call = c; reply = r; child = true }

-- the reply of this call is one that the structures may give, and the state after it
abbrev pub IsReplied : State → Done → Type 0
IsReplied s d = Allows s d.call d.reply

abbrev pub step : State → Done → State
step s d = after s d.call d.reply

-- no queue and no log has more values than its capacity
pub record IsWithinCapacity (s : State) : Type 0 where
  pub queues : (q : ℕ) → length (s.queues q).items ≤ (s.queues q).capacity
  pub logs : (l : ℕ) → length (s.logs l).items ≤ (s.logs l).capacity
