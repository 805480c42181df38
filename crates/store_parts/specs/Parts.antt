-- The structures of a store in its cells, and what a call on one of them leaves.
use Rattle.std.specs.Prelude.{◌≡◌, ◌≢◌, ℕ, ◌^◌, ◌<◌, ◌++◌, ◌⊎◌, Bool, List, get_or, slice_index}
use Rattle.cell_table.specs.Cells.{AllHold, after}
use Rattle.serial_terms.specs.declared.call.Call.{Call}
use Rattle.serial_terms.specs.declared.call.Reply.{Reply}
use Rattle.serial_terms.specs.Renaming.{NamedDone}
use Rattle.store_layout.specs.Shapes.{Shape, Object, the_map, the_queue, the_pool, the_log, first_of, IsCellOf}
use Rattle.store_meaning.specs.Follows.{Progress, part_of_log}
use Rattle.tx_core.specs.Calls.{waiting}
use Rattle.tx_core.specs.Tx.{Attempt}
use Rattle.tx_map.specs.declared.part.MapPart.{MapPart}
use Rattle.tx_pool.specs.declared.part.PoolPart.{PoolPart}
use Rattle.tx_log.specs.declared.part.LogPart.{LogPart}
use Rattle.tx_queue.specs.declared.part.QueuePart.{QueuePart}

module _ (s : Shape) where
  -- the region of a map's keys in the directory has the map's number
  abbrev pub map_part : ℕ → MapPart
  map_part m = record { base = first_of s (the_map m); region = m; capacity = get_or s.maps m 0 }

  -- values wait for a queue under its own number
  abbrev pub queue_part : ℕ → QueuePart
  queue_part q = record { part = q; end = first_of s (the_queue q); capacity = get_or s.queues q 0 }

  abbrev pub pool_part : ℕ → PoolPart
  pool_part p = record { base = first_of s (the_pool p); slots = get_or s.pools p 0 }

  abbrev pub log_part : ℕ → LogPart
  log_part l = record { part = part_of_log s l; end = first_of s (the_log l); capacity = get_or s.logs l 0 }

-- what an attempt has observed, will write and will add
abbrev pub progress : {M D : Type 0} → Attempt M D → Progress
progress a = record { observations = a.observations; writes = a.writes; waiting = λ p. waiting p a }

-- What a call on a structure leaves: what was observed is, and in any cells the writes leave the cells of other structures as
-- the earlier writes left them
pub record Touches (s : Shape) (o : Object) (old new : Progress) : Type 0 where
  pub earlier : (cells : List ℕ) → AllHold cells new.observations → AllHold cells old.observations
  pub others : (cells : List ℕ) (c : ℕ) → (IsCellOf s o c → ⊥) → slice_index (after cells new.writes) c ≡ slice_index (after cells old.writes) c

-- what waits is the same
abbrev pub WaitsAlike : Progress → Progress → Type 0
WaitsAlike old new = (p : ℕ) → new.waiting p ≡ old.waiting p

-- what waits elsewhere than under the number q is the same
abbrev pub WaitsAlikeBut : ℕ → Progress → Progress → Type 0
WaitsAlikeBut q old new = (p : ℕ) → (p ≡ q → ⊥) → new.waiting p ≡ old.waiting p

-- Take any cells in which all holds that was observed by the later moment. Where they are well formed with the earlier writes
-- laid over them, P holds of that list and of the cells with the later writes
abbrev pub Explains : (List ℕ → Type 0) → Progress → Progress → (List ℕ → List ℕ → Type 0) → Type 0
Explains IsFormed old new P = (cells : List ℕ) → AllHold cells new.observations → IsFormed (after cells old.writes) → P (after cells old.writes) (after cells new.writes)

-- The same of a sequence in cells, whose additions wait under the number q: P holds of it before and after, with what waits behind the values
abbrev pub MakesIn : (List ℕ → Type 0) → (List ℕ → List ℕ) → ℕ → Progress → Progress → (List ℕ → List ℕ → Type 0) → Type 0
MakesIn IsFormed values q old new P = Explains IsFormed old new (λ before after. IsFormed after × P (values before ++ old.waiting q) (values after ++ new.waiting q))

-- in any cells each one but this has the word that it had with the earlier writes, or one below 2^64
abbrev pub KeepsWordsBut : ℕ → Progress → Progress → Type 0
KeepsWordsBut end old new = (cells : List ℕ) (c : ℕ) → c ≢ end → (slice_index (after cells new.writes) c ≡ slice_index (after cells old.writes) c) ⊎ (slice_index (after cells new.writes) c < 2 ^ 64)

-- a call with its reply, which names its key by a position
abbrev pub noted : Call → Reply → Bool → ℕ → NamedDone
noted call reply child position = record { done = record { call = call; reply = reply; child = child }; name = position }
