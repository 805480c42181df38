-- Which kind of reply a call has, whatever the state.
use Rattle.serial_terms.specs.declared.call.Call.{Call}
use Rattle.serial_terms.specs.declared.call.Call.TheVariants.{MapGet, MapPut, MapRemove, MapPutIfAbsent, Enqueue, Dequeue, QueueLen, Take, Give, Append, AppendPlaced, LogRead, LogLen, CellGet, CellPut}
use Rattle.serial_terms.specs.declared.call.Reply.{Reply}
use Rattle.serial_terms.specs.declared.call.Reply.TheVariants.{Nothing, Absent, Value, Flag}
use Rattle.serial_terms.specs.declared.call.Done.{Done}

abbrev pub IsNothing : Reply → Type 0
IsNothing Nothing = Unit {0}
IsNothing Absent = ⊥
IsNothing (Value v) = ⊥
IsNothing (Flag b) = ⊥

abbrev pub IsValue : Reply → Type 0
IsValue (Value v) = Unit {0}
IsValue Nothing = ⊥
IsValue Absent = ⊥
IsValue (Flag b) = ⊥

abbrev pub IsValueOrAbsent : Reply → Type 0
IsValueOrAbsent (Value v) = Unit {0}
IsValueOrAbsent Absent = Unit {0}
IsValueOrAbsent Nothing = ⊥
IsValueOrAbsent (Flag b) = ⊥

abbrev pub IsFlag : Reply → Type 0
IsFlag (Flag b) = Unit {0}
IsFlag Nothing = ⊥
IsFlag Absent = ⊥
IsFlag (Value v) = ⊥

-- the reply is of the call's kind
abbrev pub IsOfKind : Call → Reply → Type 0
IsOfKind (MapGet m k) r = IsValueOrAbsent r
IsOfKind (MapPut m k v) r = IsNothing r
IsOfKind (MapRemove m k) r = IsNothing r
IsOfKind (MapPutIfAbsent m k v) r = IsValueOrAbsent r
IsOfKind (Enqueue q v) r = IsNothing r
IsOfKind (Dequeue q) r = IsValueOrAbsent r
IsOfKind (QueueLen q) r = IsValue r
IsOfKind (Take p) r = IsValueOrAbsent r
IsOfKind (Give p v) r = IsFlag r
IsOfKind (Append l v) r = IsNothing r
IsOfKind (AppendPlaced l v) r = IsValue r
IsOfKind (LogRead l i) r = IsValueOrAbsent r
IsOfKind (LogLen l) r = IsValue r
IsOfKind (CellGet c) r = IsValue r
IsOfKind (CellPut c v) r = IsNothing r

abbrev pub HasKind : Done → Type 0
HasKind d = IsOfKind d.call d.reply
