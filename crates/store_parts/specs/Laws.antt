-- Each call of a structure of a store is a call of the serial structures on the state that the attempt has.
use Rattle.std.specs.Prelude.{◌≡◌, ℕ, ◌^◌, ◌<◌, Bool, List, [], length, slice_index, slice_set, Option, Some, None, All}
use Rattle.cell_table.specs.Cells.{AllHold, after}
use Rattle.serial_terms.specs.declared.call.Call.TheVariants.{MapGet, MapPut, MapRemove, MapPutIfAbsent, Enqueue, Dequeue, QueueLen, Take, Give, Append, AppendPlaced, LogRead, LogLen, CellGet, CellPut}
use Rattle.serial_terms.specs.declared.call.Reply.TheVariants.{Nothing, Value, Flag}
use Rattle.serial_terms.specs.Ranges.{IsKept}
use Rattle.serial_terms.specs.Serial.{found}
use Rattle.store_layout.specs.Shapes.{Shape, the_map, the_queue, the_pool, the_log, the_cell, first_of}
use Rattle.store_layout.specs.States.{IsFormed}
use Rattle.store_meaning.specs.Follows.{Progress, state_with, IsCallOn, IsPlacedOn}
use Rattle.store_parts.specs.Parts.{Touches, WaitsAlike, WaitsAlikeBut, Explains, MakesIn, KeepsWordsBut, noted}
use Rattle.tx_map.specs.declared.part.MapPart.{MapPart}
use Rattle.tx_map.specs.Map as map
use Rattle.tx_pool.specs.declared.part.PoolPart.{PoolPart}
use Rattle.tx_pool.specs.Pool as pool
use Rattle.tx_log.specs.declared.part.LogPart.{LogPart}
use Rattle.tx_core.specs.Sequences.{Appends, HasLength, Settles, Exceeds}
use Rattle.tx_log.specs.Log as log
use Rattle.tx_queue.specs.declared.part.QueuePart.{QueuePart}
use Rattle.tx_queue.specs.Queue as queue

pub record MapCalls (s : Shape) (m : ℕ) (part : MapPart) : Type 0 where
  pub formed : (cells : List ℕ) → IsFormed s cells → map.IsFormed part cells
  pub get : (old new : Progress) (key position : ℕ) (there : Option ℕ) (child : Bool) → Touches s (the_map m) old new → WaitsAlike old new
      → Explains (map.IsFormed part) old new (map.Finds part position there)
      → IsCallOn s (the_map m) old new (noted (MapGet m key) (found there) child position)
  pub put : (old new : Progress) (key position value : ℕ) (child : Bool) → Touches s (the_map m) old new → WaitsAlike old new → IsKept value
      → Explains (map.IsFormed part) old new (map.Puts part position (Some value))
      → IsCallOn s (the_map m) old new (noted (MapPut m key value) Nothing child position)
  pub remove : (old new : Progress) (key position : ℕ) (child : Bool) → Touches s (the_map m) old new → WaitsAlike old new
      → Explains (map.IsFormed part) old new (map.Puts part position None)
      → IsCallOn s (the_map m) old new (noted (MapRemove m key) Nothing child position)
  pub put_if_absent : (old new : Progress) (key position value : ℕ) (there : Option ℕ) (child : Bool) → Touches s (the_map m) old new → WaitsAlike old new → IsKept value
      → Explains (map.IsFormed part) old new (map.Fills part position value there)
      → IsCallOn s (the_map m) old new (noted (MapPutIfAbsent m key value) (found there) child position)

pub record PoolCalls (s : Shape) (p : ℕ) (part : PoolPart) : Type 0 where
  pub formed : (cells : List ℕ) → IsFormed s cells → pool.IsFormed part cells
  pub take : (old new : Progress) (item : Option ℕ) (child : Bool) → Touches s (the_pool p) old new → WaitsAlike old new
      → Explains (pool.IsFormed part) old new (λ before after. pool.IsFormed part after × pool.TakesFrom (pool.pool_in part before) (pool.pool_in part after) item)
      → IsCallOn s (the_pool p) old new (noted (Take p) (found item) child 0)
  pub put : (old new : Progress) (value : ℕ) (done child : Bool) → Touches s (the_pool p) old new → WaitsAlike old new
      → Explains (pool.IsFormed part) old new (λ before after. pool.IsFormed part after × pool.PutsInto value (pool.pool_in part before) (pool.pool_in part after) done)
      → IsCallOn s (the_pool p) old new (noted (Give p value) (Flag done) child 0)

-- what a call makes of the log, as the attempt has it: the values in the cells, and behind them what waits
abbrev pub MakesOf : LogPart → Progress → Progress → (List ℕ → List ℕ → Type 0) → Type 0
MakesOf part old new P = MakesIn (log.IsLog part) (log.values_in part) part.part old new P

pub record LogCalls (s : Shape) (l : ℕ) (part : LogPart) : Type 0 where
  pub formed : (cells : List ℕ) → IsFormed s cells → log.IsLog part cells
  pub append : (old new : Progress) (value : ℕ) (child : Bool) → Touches s (the_log l) old new → new.writes ≡ old.writes → WaitsAlikeBut part.part old new
      → MakesOf part old new (Appends value)
      → IsCallOn s (the_log l) old new (noted (Append l value) Nothing child 0)
  pub append_placed : (old new : Progress) (value place : ℕ) (child : Bool) → Touches s (the_log l) old new → new.writes ≡ old.writes → WaitsAlikeBut part.part old new
      → MakesOf part old new (log.AppendsAt value place)
      → IsCallOn s (the_log l) old new (noted (AppendPlaced l value) (Value place) child 0)
  pub read : (old new : Progress) (i : ℕ) (x : Option ℕ) (child : Bool) → Touches s (the_log l) old new → new.writes ≡ old.writes → WaitsAlike old new
      → MakesOf part old new (log.HasAt i x)
      → IsCallOn s (the_log l) old new (noted (LogRead l i) (found x) child 0)
  pub len : (old new : Progress) (n : ℕ) (child : Bool) → Touches s (the_log l) old new → new.writes ≡ old.writes → WaitsAlike old new
      → MakesOf part old new (HasLength n)
      → IsCallOn s (the_log l) old new (noted (LogLen l) (Value n) child 0)
  -- the placing of what waits at the commit
  pub resolve : (old new : Progress) → Touches s (the_log l) old new → WaitsAlikeBut part.part old new → new.waiting part.part ≡ []
      → All IsKept (old.waiting part.part) → MakesOf part old new (Settles part.capacity)
      → IsPlacedOn s (the_log l) old new
  -- with what waits there are n values
  pub exceeds : (old new : Progress) (n : ℕ) → MakesOf part old new (Exceeds n) → (cells : List ℕ) → AllHold cells new.observations → IsFormed s (after cells old.writes)
      → length ((state_with s (after cells old.writes) old.waiting).logs l).items ≡ n

-- what a call makes of the queue, likewise
abbrev pub MakesOfQueue : QueuePart → Progress → Progress → (List ℕ → List ℕ → Type 0) → Type 0
MakesOfQueue part old new P = MakesIn (queue.IsQueue part) (queue.values_in part) part.part old new P

pub record QueueCalls (s : Shape) (q : ℕ) (part : QueuePart) : Type 0 where
  pub formed : (cells : List ℕ) → IsFormed s cells → queue.IsQueue part cells
  pub enqueue : (old new : Progress) (value : ℕ) (child : Bool) → Touches s (the_queue q) old new → new.writes ≡ old.writes → WaitsAlikeBut part.part old new
      → MakesOfQueue part old new (Appends value)
      → IsCallOn s (the_queue q) old new (noted (Enqueue q value) Nothing child 0)
  pub dequeue : (old new : Progress) (x : Option ℕ) (child : Bool) → Touches s (the_queue q) old new → KeepsWordsBut part.end old new → WaitsAlikeBut part.part old new
      → MakesOfQueue part old new (queue.Dequeues x)
      → IsCallOn s (the_queue q) old new (noted (Dequeue q) (found x) child 0)
  pub len : (old new : Progress) (n : ℕ) (child : Bool) → Touches s (the_queue q) old new → new.writes ≡ old.writes → WaitsAlike old new
      → MakesOfQueue part old new (HasLength n)
      → IsCallOn s (the_queue q) old new (noted (QueueLen q) (Value n) child 0)
  -- the placing of what waits at the commit
  pub resolve : (old new : Progress) → Touches s (the_queue q) old new → KeepsWordsBut part.end old new → WaitsAlikeBut part.part old new → new.waiting part.part ≡ []
      → MakesOfQueue part old new (Settles part.capacity)
      → IsPlacedOn s (the_queue q) old new
  -- with what waits there are n values
  pub exceeds : (old new : Progress) (n : ℕ) → MakesOfQueue part old new (Exceeds n) → (cells : List ℕ) → AllHold cells new.observations → IsFormed s (after cells old.writes)
      → length ((state_with s (after cells old.writes) old.waiting).queues q).items ≡ n

pub record CellCalls (s : Shape) (c : ℕ) : Type 0 where
  pub get : (old new : Progress) (x : ℕ) (child : Bool) → Touches s (the_cell c) old new → WaitsAlike old new
      → Explains (λ cells. first_of s (the_cell c) < length cells) old new (λ before after. (slice_index before (first_of s (the_cell c)) ≡ x) × (after ≡ before))
      → IsCallOn s (the_cell c) old new (noted (CellGet c) (Value x) child 0)
  pub put : (old new : Progress) (x : ℕ) (child : Bool) → Touches s (the_cell c) old new → WaitsAlike old new → x < 2 ^ 64
      → Explains (λ cells. first_of s (the_cell c) < length cells) old new (λ before after. after ≡ slice_set before (first_of s (the_cell c)) x)
      → IsCallOn s (the_cell c) old new (noted (CellPut c x) Nothing child 0)
