-- Map keys under other names: `name m k` is the name of the key k of map m, where it has one.
use Rattle.std.specs.Prelude.{◌≡◌, ℕ, ◌<◌, List, [], ◌∷◌, Option, Some, None}
use Rattle.serial_terms.specs.declared.call.Call.{Call}
use Rattle.serial_terms.specs.declared.call.Call.TheVariants.{MapGet, MapPut, MapRemove, MapPutIfAbsent, Enqueue, Dequeue, QueueLen, Take, Give, Append, AppendPlaced, LogRead, LogLen, CellGet, CellPut}
use Rattle.serial_terms.specs.declared.call.Done.{Done}
use Rattle.serial_terms.specs.Entries.{Entry, Each}
use Rattle.serial_terms.specs.Sights.{Seen}
use Rattle.serial_terms.specs.Serial.{State}

-- the call with this name in place of its key
abbrev pub with_key : ℕ → Call → Call
with_key n (MapGet m k) = MapGet m n
with_key n (MapPut m k v) = MapPut m n v
with_key n (MapRemove m k) = MapRemove m n
with_key n (MapPutIfAbsent m k v) = MapPutIfAbsent m n v
with_key n (Enqueue q v) = Enqueue q v
with_key n (Dequeue q) = Dequeue q
with_key n (QueueLen q) = QueueLen q
with_key n (Take q) = Take q
with_key n (Give q v) = Give q v
with_key n (Append l v) = Append l v
with_key n (AppendPlaced l v) = AppendPlaced l v
with_key n (LogRead l i) = LogRead l i
with_key n (LogLen l) = LogLen l
with_key n (CellGet c) = CellGet c
with_key n (CellPut c v) = CellPut c v

-- P holds of the call's map and key, if it has a key
abbrev pub OfKey : (ℕ → ℕ → Type 0) → Call → Type 0
OfKey P (MapGet m k) = P m k
OfKey P (MapPut m k v) = P m k
OfKey P (MapRemove m k) = P m k
OfKey P (MapPutIfAbsent m k v) = P m k
OfKey P (Enqueue q v) = Unit {0}
OfKey P (Dequeue q) = Unit {0}
OfKey P (QueueLen q) = Unit {0}
OfKey P (Take q) = Unit {0}
OfKey P (Give q v) = Unit {0}
OfKey P (Append l v) = Unit {0}
OfKey P (AppendPlaced l v) = Unit {0}
OfKey P (LogRead l i) = Unit {0}
OfKey P (LogLen l) = Unit {0}
OfKey P (CellGet c) = Unit {0}
OfKey P (CellPut c v) = Unit {0}

-- n is the name of the call's key, if it has a key
abbrev pub IsNameOfKey : (ℕ → ℕ → Option ℕ) → ℕ → Call → Type 0
IsNameOfKey name n = OfKey (λ m k. name m k ≡ Some n)

-- two keys of one map never have one name
abbrev pub IsOneToOne : (ℕ → ℕ → Option ℕ) → Type 0
IsOneToOne name = (m j k n : ℕ) → name m j ≡ Some n → name m k ≡ Some n → j ≡ k

abbrev pub value_at : (ℕ → Option ℕ) → Option ℕ → Option ℕ
value_at f (Some n) = f n
value_at f None = None

-- the state by keys, from the state by names: a key has its name's value, and one without a name is absent
abbrev pub by_keys : (ℕ → ℕ → Option ℕ) → State → State
by_keys name s = record s { maps = λ m k. value_at (s.maps m) (name m k) }

-- a call by key, with the name of its key
pub record NamedDone : Type 0 where
  pub done : Done
  pub name : ℕ

abbrev pub named : NamedDone → Done
named d = record { call = with_key d.name d.done.call; reply = d.done.reply; child = d.done.child }

abbrev pub AreNamesOfKeys : (ℕ → ℕ → Option ℕ) → List NamedDone → Type 0
AreNamesOfKeys name [] = Unit {0}
AreNamesOfKeys name (d ∷ ds) = IsNameOfKey name d.name d.done.call × AreNamesOfKeys name ds

-- the calls by key, and by name
abbrev pub by_key : List NamedDone → List Done
by_key [] = []
by_key (d ∷ ds) = d.done ∷ by_key ds

abbrev pub by_name : List NamedDone → List Done
by_name [] = []
by_name (d ∷ ds) = named d ∷ by_name ds

-- ---- records and sights with other calls

module _ {A B : Type 0} (f : List A → List B) where
  abbrev pub entry_with : Entry A → Entry B
  entry_with e = record { caller = e.caller; index = e.index; place = e.place; writer = e.writer; dones = f e.dones }

  abbrev pub entries_with : List (Entry A) → List (Entry B)
  entries_with [] = []
  entries_with (e ∷ es) = entry_with e ∷ entries_with es

  abbrev pub seen_with : Seen A → Seen B
  seen_with v = record { caller = v.caller; after = v.after; place = v.place; end = v.end; dones = f v.dones }

abbrev pub AreNamesIn : (ℕ → ℕ → Option ℕ) → List (Entry NamedDone) → Type 0
AreNamesIn name = Each (λ e. AreNamesOfKeys name e.dones)

-- ---- the same calls with other keys

-- n may be the name of the key k: where a map may hold only the keys below its capacity, as `passes` says, it is the key itself
abbrev pub MayName : (ℕ → ℕ → Type 0) → ℕ → ℕ → Type 0
MayName passes n k = ((c j : ℕ) → passes c j → j < c) → n ≡ k

-- the same calls with the same replies, each with a name that its key may have in the key's place
abbrev pub SameButKeys : (ℕ → ℕ → Type 0) → List Done → List Done → Type 0
SameButKeys passes [] [] = Unit {0}
SameButKeys passes [] (e ∷ es) = ⊥
SameButKeys passes (d ∷ ds) [] = ⊥
SameButKeys passes (d ∷ ds) (e ∷ es) = ((n : ℕ) × OfKey (λ m k. MayName passes n k) d.call
    × (e ≡ record { call = with_key n d.call; reply = d.reply; child = d.child })) × SameButKeys passes ds es
