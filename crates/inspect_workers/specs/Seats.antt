-- The seats of the workers, and the pass that is shared out among them.
use Rattle.std.specs.Prelude.{◌≡◌, ℕ, ◌+◌, ◌^◌, ◌≤◌, List, length, slice_index_or, sum_by, All, IfSome, Option, Some, None}
use Rattle.cell_table.specs.Pass.{IsSole}
use Rattle.cell_table.specs.Steps.{IsIdle}
use Rattle.inspect_workers.specs.declared.seats.Shared.{Shared}
use Rattle.inspect_workers.specs.declared.seats.Seat.{Seat}
use Rattle.inspect_workers.specs.Noted.{fills_in}
use Rattle.inspect_workers.specs.Opened.{IsOpened}
use Rattle.key_directory.specs.declared.key_test.BelowCapacity.{BelowCapacity}
use Rattle.run_bodies.specs.Records.{AreAhead}
use Rattle.run_purpose.specs.declared.purpose.RunPurpose.{RunPurpose}
use Rattle.store_meaning.specs.declared.meaning.StoreMeaning.{StoreMeaning}
use Rattle.tx_store.specs.Stores.{StoreView, PassView, IsPassOfStore}

-- a seat for each caller, none with a pass
pub record AreFree {G : Type 0} (callers : ℕ) (seats : List (Seat G)) : Type 0 where
  pub count : length seats ≡ callers
  pub free : All (λ s. s.pass ≡ None) seats

-- a pass of a run's store
abbrev pub RunPass : Type 0
RunPass = PassView (StoreMeaning RunPurpose BelowCapacity)

abbrev pub RunStore : Type 0
RunStore = StoreView (StoreMeaning RunPurpose BelowCapacity)

module _ (store : RunStore) where
  -- the pass has every caller number of the store, none of which is at work, and room for them all
  pub record IsWholeAtRest (p : RunPass) : Type 0 where
    pub of : IsPassOfStore store p
    pub sole : IsSole p.pass
    pub idle : IsIdle p.pass.view
    pub room : store.table.callers ≤ p.pass.room

  -- a pass of the store that isn't at work
  pub record IsAtRest (p : RunPass) : Type 0 where
    pub of : IsPassOfStore store p
    pub idle : IsIdle p.pass.view

  -- and that may draw as many versions as a worker's run
  pub record IsReady (p : RunPass) : Type 0 where
    pub rest : IsAtRest p
    pub draws : 2 ^ 32 ≤ p.pass.view.draws

-- ---- what a pass has

abbrev pub callers_held : RunPass → ℕ
callers_held p = length p.pass.books

abbrev pub draws_left : RunPass → ℕ
draws_left p = p.pass.view.draws

abbrev pub fills_made : RunPass → ℕ
fills_made p = fills_in p.pass.books

-- and a seat, where there may be none
abbrev pub at_pass : (RunPass → ℕ) → Option RunPass → ℕ
at_pass f None = 0
at_pass f (Some p) = f p

-- and all seats
abbrev pub over_seats : {G : Type 0} → (RunPass → ℕ) → List (Seat G) → ℕ
over_seats f seats = sum_by (λ s. at_pass f s.pass) seats

-- a pass is there, with room for so many callers
abbrev pub HasRoom : ℕ → Option RunPass → Type 0
HasRoom n None = ⊥
HasRoom n (Some p) = n ≤ p.pass.room

-- The seats have all that a pass had, and the first one has room for it. Each pass may work
pub record AreSharedOut {G : Type 0} (store : RunStore) (whole : RunPass) (seats : List (Seat G)) : Type 0 where
  pub each : All (λ s. IfSome s.pass (IsReady store)) seats
  pub room : (d : Seat G) → HasRoom (callers_held whole) (slice_index_or seats 0 d).pass
  pub callers : over_seats callers_held seats ≡ callers_held whole
  pub draws : over_seats draws_left seats ≡ draws_left whole
  pub fills : over_seats fills_made seats ≡ fills_made whole

-- a worker ran at this seat, if it had a pass
pub record HasRunAt (store : RunStore) (old new : Option RunPass) : Type 0 where
  pub rest : IfSome new (IsAtRest store)
  pub room : (n : ℕ) → HasRoom n old → HasRoom n new
  pub callers : at_pass callers_held new ≡ at_pass callers_held old
  pub draws : at_pass draws_left old ≤ at_pass draws_left new + 2 ^ 31
  pub fills : at_pass fills_made new ≡ at_pass fills_made old

-- the worker of this seat may run, if it has a pass
pub record MayBegin {G : Type 0} (shared : Shared) (seat : Seat G) : Type 0 where
  pub store : IsOpened shared.run.now shared.store.now
  pub ahead : AreAhead shared.run.now shared.ahead.now
  pub ready : IfSome seat.pass (IsReady shared.store.now)
