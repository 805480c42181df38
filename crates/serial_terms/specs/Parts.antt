-- Which part of the structures a call is about, and which calls change nothing.
use Rattle.std.specs.Prelude.{ℕ, true, false}
use Rattle.serial_terms.specs.declared.call.Call.{Call}
use Rattle.serial_terms.specs.declared.call.Call.TheVariants.{MapGet, MapPut, MapRemove, MapPutIfAbsent, Enqueue, Dequeue, QueueLen, Take, Give, Append, AppendPlaced, LogRead, LogLen, CellGet, CellPut}
use Rattle.serial_terms.specs.declared.call.Reply.{Reply}
use Rattle.serial_terms.specs.declared.call.Reply.TheVariants.{Nothing, Absent, Value, Flag}
use Rattle.serial_terms.specs.declared.call.Done.{Done}

-- a key of a map, or a whole queue, pool, log or plain cell
pub data Part : Type 0 where
  a_key : ℕ → ℕ → Part
  a_queue : ℕ → Part
  a_pool : ℕ → Part
  a_log : ℕ → Part
  a_cell : ℕ → Part

abbrev pub part : Call → Part
part (MapGet m k) = a_key m k
part (MapPut m k v) = a_key m k
part (MapRemove m k) = a_key m k
part (MapPutIfAbsent m k v) = a_key m k
part (Enqueue q v) = a_queue q
part (Dequeue q) = a_queue q
part (QueueLen q) = a_queue q
part (Take p) = a_pool p
part (Give p v) = a_pool p
part (Append l v) = a_log l
part (AppendPlaced l v) = a_log l
part (LogRead l i) = a_log l
part (LogLen l) = a_log l
part (CellGet c) = a_cell c
part (CellPut c v) = a_cell c

abbrev pub FoundOne : Reply → Type 0
FoundOne (Value v) = Unit {0}
FoundOne Nothing = ⊥
FoundOne Absent = ⊥
FoundOne (Flag b) = ⊥

abbrev pub FoundNone : Reply → Type 0
FoundNone Absent = Unit {0}
FoundNone Nothing = ⊥
FoundNone (Value v) = ⊥
FoundNone (Flag b) = ⊥

abbrev pub WasRefused : Reply → Type 0
WasRefused (Flag false) = Unit {0}
WasRefused (Flag true) = ⊥
WasRefused Nothing = ⊥
WasRefused Absent = ⊥
WasRefused (Value v) = ⊥

-- with this reply the call changes nothing
abbrev pub OnlyReads : Call → Reply → Type 0
OnlyReads (MapGet m k) r = Unit {0}
OnlyReads (MapPut m k v) r = ⊥
OnlyReads (MapRemove m k) r = ⊥
OnlyReads (MapPutIfAbsent m k v) r = FoundOne r
OnlyReads (Enqueue q v) r = ⊥
OnlyReads (Dequeue q) r = FoundNone r
OnlyReads (QueueLen q) r = Unit {0}
OnlyReads (Take p) r = FoundNone r
OnlyReads (Give p v) r = WasRefused r
OnlyReads (Append l v) r = ⊥
OnlyReads (AppendPlaced l v) r = ⊥
OnlyReads (LogRead l i) r = Unit {0}
OnlyReads (LogLen l) r = Unit {0}
OnlyReads (CellGet c) r = Unit {0}
OnlyReads (CellPut c v) r = ⊥

abbrev pub IsReading : Done → Type 0
IsReading d = OnlyReads d.call d.reply
