-- The calls of a run of some sizes.
use Rattle.std.proofs.Common.{◌≡◌, ℕ, zero, suc, List, [], ◌∷◌, get_or, refl, arith}
use Rattle.serial_terms.specs.declared.call.Call.{Call}
use Rattle.serial_terms.specs.declared.call.Call.TheVariants.{MapGet, MapPut, MapRemove, MapPutIfAbsent, Enqueue, Dequeue, QueueLen, Take, Give, Append, AppendPlaced, LogRead, LogLen, CellGet, CellPut}
use Rattle.serial_terms.specs.declared.call.Done.{Done}
use Rattle.serial_terms.specs.Entries.{Each}
use Rattle.serial_terms.specs.Ranges.{AreCallsOf, BelowCapacity, IsCallOf}
use Rattle.serial_terms.specs.RunLayout.{layout_by}
use Rattle.history_audit.specs.Structures.{IsFirst}

pub no_third : (a b m : ℕ) → (m ≡ 0 → ⊥) → (m ≡ 1 → ⊥) → 0 ≡ get_or (a ∷ b ∷ []) m 0
no_third a b zero z o = absurd (z refl)
no_third a b (suc zero) z o = absurd (o refl)
no_third a b (suc (suc k)) z o = refl

first_call : (n g f : ℕ) (c : Call) → IsCallOf BelowCapacity (layout_by n g f) c → IsFirst c
unfolding layout_by
first_call n g f (MapGet m k) h = tt
first_call n g f (MapPut m k v) h = tt
first_call n g f (MapRemove m k) h = tt
first_call n g f (MapPutIfAbsent m k v) h = tt
first_call n g f (Enqueue q v) h = let l = h.0 in omega arith
first_call n g f (Dequeue q) h = omega arith
first_call n g f (QueueLen q) h = omega arith
first_call n g f (Take p) h = omega arith
first_call n g f (Give p v) h = let l = h.0 in omega arith
first_call n g f (Append x v) h = let l = h.0 in omega arith
first_call n g f (AppendPlaced x v) h = let l = h.0 in omega arith
first_call n g f (LogRead x i) h = let l = h.0 in omega arith
first_call n g f (LogLen x) h = omega arith
first_call n g f (CellGet x) h = omega arith
first_call n g f (CellPut x v) h = let l = h.0 in omega arith

pub first_calls : (n g f : ℕ) (ds : List Done) → AreCallsOf BelowCapacity (layout_by n g f) ds → Each (λ d. IsFirst d.call) ds
first_calls n g f [] h = tt
first_calls n g f (d ∷ ds) h = (first_call n g f d.call h.0, first_calls n g f ds h.1)
