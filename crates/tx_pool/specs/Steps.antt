-- What one try at a slot, and a walk, leave of the attempt.
use Rattle.std.specs.Prelude.{◌≡◌, ℕ, ◌*◌, ◌<◌, ◌⊎◌, List, [], ◌∷◌, ◌++◌, Some}
use Rattle.std.specs.Option.{option_or}
use Rattle.cell_table.specs.Pass.{IsHeld, trail_of}
use Rattle.attempt_lists.specs.Cells.{Entries, word_at}
use Rattle.cell_table.specs.declared.view.Event.{Event}
use Rattle.tx_core.specs.declared.stop.Stop.{Stop}
use Rattle.tx_core.specs.Causes.{IsFound, GrewBy}
use Rattle.tx_core.specs.Seen.{HoldsOnly}
use Rattle.tx_core.specs.Calls.{TouchesOnly, stopped_from, known}
use Rattle.tx_core.specs.Tx.{Attempt}
use Rattle.tx_pool.specs.declared.part.PoolPart.{PoolPart}
use Rattle.tx_pool.specs.declared.wanted.Wanted.{Wanted}
use Rattle.tx_pool.specs.declared.walk.Tried.{Tried}
use Rattle.tx_pool.specs.declared.walk.Tried.TheVariants as tried
use Rattle.tx_pool.specs.declared.walk.Walked.{Walked}
use Rattle.tx_pool.specs.declared.walk.Walked.TheVariants as walked
use Rattle.tx_pool.specs.Pool.{slot_at}
use Rattle.tx_pool.specs.Walk.{IsFit, IsUnfit, FoundUnfit, FoundStopped, PassedOver, FirstStop}

-- where the word wasn't a wanted one, the trail grew by at most so many steps
abbrev pub UnfitBy : ℕ → List Event → List Event → Tried → Type 0
UnfitBy n old new tried.Unfit = GrewBy n old new
UnfitBy n old new (tried.Holds w) = Unit {0}
UnfitBy n old new (tried.Stopped stop) = Unit {0}
UnfitBy n old new tried.Memory = Unit {0}

abbrev pub IsNoUnfit : Tried → Type 0
IsNoUnfit tried.Unfit = ⊥
IsNoUnfit (tried.Holds w) = Unit {0}
IsNoUnfit (tried.Stopped stop) = Unit {0}
IsNoUnfit tried.Memory = Unit {0}

-- the attempt knows a word of the cell: its own write, or what it observed
abbrev pub IsKnown : {M D : Type 0} → Attempt M D → ℕ → Type 0
IsKnown b c = (w : ℕ) × (known b c ≡ Some w)

module _ {M D : Type 0} where
  -- no cell came to be held
  pub record NoneHeld (a b : Attempt M D) : Type 0 where
    pub pass : HoldsOnly a.pass b.pass
    pub held : b.pass.view.held ≡ a.pass.view.held

  -- the pass knows more, and nothing else came of the steps
  pub record LooksOn (a b : Attempt M D) : Type 0 where
    pub is : b ≡ record a { pass = b.pass }
    pub none : NoneHeld a b

  -- the cell is held, and its word is w
  pub record HoldsCell (a b : Attempt M D) (c w : ℕ) : Type 0 where
    pub known : option_or (word_at a.writes c) (word_at b.observations c) ≡ Some w
    pub seen : Entries
    pub alone : (seen ≡ []) ⊎ (seen ≡ (c, w) ∷ [])
    pub is : b ≡ record a { pass = b.pass; observations = a.observations ++ seen; versions = b.versions }
    pub pass : HoldsOnly a.pass b.pass
    pub held : IsHeld b.pass c
    pub touches : TouchesOnly (λ d. d ≡ c) a b

  -- what a try at one cell tells
  abbrev pub Tells : Wanted → Attempt M D → Attempt M D → ℕ → Tried → Type 0
  Tells wanted a b c (tried.Holds w) = HoldsCell a b c w × IsFit wanted w
  Tells wanted a b c tried.Unfit = LooksOn a b × FoundUnfit wanted a b.pass c
  Tells wanted a b c (tried.Stopped stop) = LooksOn a b × FoundStopped a b.pass c stop
  Tells wanted a b c tried.Memory = (b ≡ record a { pass = b.pass; state = stopped_from a.state }) × NoneHeld a b

  -- what a walk tells
  abbrev pub WalkTells : PoolPart → ℕ → Wanted → Attempt M D → Attempt M D → Walked → Type 0
  WalkTells part from wanted a b (walked.Holds c w) = (at : ℕ) × (at < part.slots) × (c ≡ slot_at part from at) × ((j : ℕ) → j < at → PassedOver wanted a b.pass (slot_at part from j)) × HoldsCell a b c w × IsFit wanted w
  WalkTells part from wanted a b walked.NoneFit = LooksOn a b × ((j : ℕ) → j < part.slots → PassedOver wanted a b.pass (slot_at part from j) × FoundUnfit wanted a b.pass (slot_at part from j)) × GrewBy (3 * part.slots) (trail_of a.pass) (trail_of b.pass)
  WalkTells part from wanted a b (walked.Stopped stop) = LooksOn a b × FirstStop part from wanted a b.pass stop
  WalkTells part from wanted a b walked.Memory = (b ≡ record a { pass = b.pass; state = stopped_from a.state }) × NoneHeld a b

  -- the attempt knows a word of the cell, which isn't one that the walk looks for
  abbrev pub KnownUnfit : Wanted → Attempt M D → ℕ → Type 0
  KnownUnfit wanted b c = (w : ℕ) × (known b c ≡ Some w) × IsUnfit wanted w

  -- the stop that an observation of the slots ended in, where it isn't want of memory
  abbrev pub SeesStop : PoolPart → ℕ → Attempt M D → Attempt M D → Stop → Type 0
  SeesStop part from a b stop = IsFound stop → (at : ℕ) × (at < part.slots) × FoundStopped a b.pass (slot_at part from at) stop
