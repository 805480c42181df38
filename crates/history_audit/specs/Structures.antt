-- What the audit's structures stand for.
use Rattle.std.specs.Prelude.{◌≡◌, ℕ, ◌-◌, ◌<◌, ◌&&◌, Bool, true, false, nat_eq, List, [], ◌∷◌, length, take}
use Rattle.std.specs.Map.{count_at}
use Rattle.std.specs.HashMap.{get}
use Rattle.serial_terms.specs.declared.call.Call.{Call}
use Rattle.serial_terms.specs.declared.call.Call.TheVariants.{MapGet, MapPut, MapRemove, MapPutIfAbsent, Enqueue, Dequeue, QueueLen, Take, Give, Append, AppendPlaced, LogRead, LogLen, CellGet, CellPut}
use Rattle.serial_terms.specs.declared.call.Done.{Done}
use Rattle.serial_terms.specs.declared.sight.SightEnd.{SightEnd}
use Rattle.serial_terms.specs.declared.sight.SightEnd.TheVariants.{Aborted, Refused, Full, Child}
use Rattle.serial_terms.specs.Counts.{with_at}
use Rattle.serial_terms.specs.Entries.{Entry, Each}
use Rattle.serial_terms.specs.Histories.{Runs, IsLegalRun}
use Rattle.serial_terms.specs.Sights.{Seen, EndsAs}
use Rattle.serial_terms.specs.Serial.{State, Sequence, Pool, pool_of, put_map, put_queue, put_pool, put_log, put_cell}
use Rattle.history_audit.specs.declared.structures.Structures.{Structures}
use Rattle.history_audit.specs.declared.structures.Change.{Change}
use Rattle.history_audit.specs.declared.structures.Change.TheVariants.{Same, Key, Enqueued, Dequeued, Item, Appended, Cell}

-- a map's number and a key
abbrev pub is_same_key : ℕ × ℕ → ℕ × ℕ → Bool
is_same_key a b = nat_eq a.0 b.0 && nat_eq a.1 b.1

-- the first of its kind, where no other has anything
module _ {A : Type 0} where
  abbrev pub alone : A → A → ℕ → A
  alone other first = with_at (λ n. other) 0 first

abbrev pub no_sequence : Sequence
no_sequence = record { items = []; capacity = 0 }

abbrev pub no_pool : Pool
no_pool = record { count = λ x. 0; held = 0; slots = 0 }

-- the state of the structures: a map's value stands at its number and key, and each other kind has one structure, with the number 0
unfoldable pub state_of : Structures → State
state_of s = record {
  maps = λ m k. get is_same_key s.values (m, k);
  queues = alone no_sequence (record { items = s.queue.items; capacity = s.room });
  pools = alone no_pool (record { count = λ x. count_at (get nat_eq s.counts) x; held = s.held; slots = s.room });
  logs = alone no_sequence (record { items = s.log.items; capacity = s.findings });
  cells = alone 0 s.cell;
}

-- the call is about a map, or about the one structure of its kind
abbrev pub IsFirst : Call → Type 0
IsFirst (MapGet m k) = Unit {0}
IsFirst (MapPut m k v) = Unit {0}
IsFirst (MapRemove m k) = Unit {0}
IsFirst (MapPutIfAbsent m k v) = Unit {0}
IsFirst (Enqueue q v) = q ≡ 0
IsFirst (Dequeue q) = q ≡ 0
IsFirst (QueueLen q) = q ≡ 0
IsFirst (Take p) = p ≡ 0
IsFirst (Give p v) = p ≡ 0
IsFirst (Append l v) = l ≡ 0
IsFirst (AppendPlaced l v) = l ≡ 0
IsFirst (LogRead l i) = l ≡ 0
IsFirst (LogLen l) = l ≡ 0
IsFirst (CellGet c) = c ≡ 0
IsFirst (CellPut c v) = c ≡ 0

abbrev pub but_last : List ℕ → List ℕ
but_last xs = take (length xs - 1) xs

-- the item is so often in the pool, which has so many items
abbrev pub put_item : State → ℕ → ℕ → ℕ → State
put_item s x c h = put_pool s 0 (record { count = with_at (s.pools 0).count x c; held = h; slots = (s.pools 0).slots })

-- the state before a change
abbrev pub back : Change → State → State
back Same s = s
back (Key m k v) s = put_map s m k v
back Enqueued s = put_queue s 0 (but_last (s.queues 0).items)
back (Dequeued x) s = put_queue s 0 (x ∷ (s.queues 0).items)
back (Item x c h) s = put_item s x c h
back Appended s = put_log s 0 (but_last (s.logs 0).items)
back (Cell v) s = put_cell s 0 v

-- the pool has the items of some list
pub record IsListed (s : State) : Type 0 where
  pub items : List ℕ
  pub are : s.pools 0 ≡ pool_of (s.pools 0).slots items

-- the state before all changes, the last of which was the last one made
abbrev pub undone : List Change → State → State
undone [] s = s
undone (c ∷ cs) s = back c (undone cs s)

-- whether the calls run from s, and to t
abbrev pub HasRun : Bool → State → List Done → State → Type 0
HasRun true s ds t = Runs s ds t
HasRun false s ds t = (u : State) → Runs s ds u → ⊥

-- a refusal for want of capacity names the queue or the log
abbrev pub IsOfTwoParts : SightEnd → Type 0
IsOfTwoParts Aborted = Unit {0}
IsOfTwoParts Refused = Unit {0}
IsOfTwoParts (Full part values adding) = part < 2
IsOfTwoParts Child = Unit {0}

-- what the change's place has in the state; the queue, the log and the cell are looked at by themselves
abbrev pub now_at : State → Change → Change
now_at s Same = Same
now_at s (Key m k v) = Key m k (s.maps m k)
now_at s Enqueued = Same
now_at s (Dequeued x) = Same
now_at s (Item x c h) = Item x ((s.pools 0).count x) (s.pools 0).held
now_at s Appended = Same
now_at s (Cell v) = Same

-- the place has what it is said to have
abbrev pub Has : State → Change → Type 0
Has s Same = Unit {0}
Has s (Key m k v) = s.maps m k ≡ v
Has s Enqueued = Unit {0}
Has s (Dequeued x) = Unit {0}
Has s (Item x c h) = (s.pools 0).count x ≡ c
Has s Appended = Unit {0}
Has s (Cell v) = Unit {0}

-- these places, the queue, the log's length, the pool's number of items and the cell are these
abbrev pub IsAs : State → List Change → List ℕ → ℕ → ℕ → ℕ → Type 0
IsAs s noted queue log held cell = Each (Has s) noted × ((s.queues 0).items ≡ queue) × (length (s.logs 0).items ≡ log) × ((s.pools 0).held ≡ held) × (s.cells 0 ≡ cell)

-- whether the state s before some calls is the state u after them; where it is, it is the state t
abbrev pub IsSameAgain : Bool → State → State → State → Type 0
IsSameAgain true s u t = (s ≡ u) × (t ≡ u)
IsSameAgain false s u t = s ≡ u → ⊥

-- whether the record runs from s, and to t
abbrev pub HasCommitted : Bool → State → Entry Done → State → Type 0
HasCommitted true s e t = IsLegalRun s (e ∷ []) t
HasCommitted false s e t = (u : State) → IsLegalRun s (e ∷ []) u → ⊥

-- whether the calls of the sight run from s to where it ended; where they do, t is s
abbrev pub HasSeen : Bool → State → Seen Done → State → Type 0
HasSeen true s v t = ((u : State) × Runs s v.dones u × EndsAs 1 u v.end) × (t ≡ s)
HasSeen false s v t = (u : State) → Runs s v.dones u → EndsAs 1 u v.end → ⊥
