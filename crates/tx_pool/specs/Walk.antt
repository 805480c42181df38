-- What a walk once round the slots of a pool finds, and what it leaves of the attempt.
use Rattle.std.specs.Prelude.{◌≡◌, ℕ, ◌+◌, ◌<◌, ◌≤◌, ◌⊎◌, Bool, true, false, List, [], ◌∷◌, ◌++◌, length, slice_index, slice_set, Some, None, MatchOption}
use Rattle.std.specs.Option.{option_or}
use Rattle.cell_table.specs.Rule.{callers_of}
use Rattle.cell_table.specs.Steps.{Observes}
use Rattle.cell_table.specs.Pass.{PassState, IsSole, IsHeld, trail_of}
use Rattle.attempt_lists.specs.Cells.{Entries, word_at, put}
use Rattle.tx_core.specs.declared.stop.Stop.{Stop}
use Rattle.tx_core.specs.Causes.{FoundSince, IsCausedAt}
use Rattle.tx_core.specs.Seen.{HoldsOnly}
use Rattle.tx_core.specs.Calls.{TouchesOnly}
use Rattle.tx_core.specs.Tx.{Attempt}
use Rattle.tx_pool.specs.declared.part.PoolPart.{PoolPart}
use Rattle.tx_pool.specs.declared.wanted.Wanted.{Wanted}
use Rattle.tx_pool.specs.declared.wanted.Wanted.TheVariants.{Item, Room}
use Rattle.tx_pool.specs.Pool.{IsSlot, slot_at}

-- a slot with this word is what the walk looks for, and is not
abbrev pub IsFit : Wanted → ℕ → Type 0
IsFit Item w = 0 < w
IsFit Room w = w ≡ 0

abbrev pub IsUnfit : Wanted → ℕ → Type 0
IsUnfit Item w = w ≡ 0
IsUnfit Room w = 0 < w

-- the answer tells whether the word is what the walk looks for
abbrev pub Fits : Wanted → ℕ → Bool → Type 0
Fits wanted w true = IsFit wanted w
Fits wanted w false = IsUnfit wanted w

-- the cells are slots of the walk, each at a later place than the one before it: from the place n on, and before the end
abbrev pub AreWalked : PoolPart → ℕ → ℕ → ℕ → Entries → Type 0
AreWalked part from n end [] = n ≤ end
AreWalked part from n end (o ∷ os) = (at : ℕ) × (n ≤ at) × (at < end) × (o.0 ≡ slot_at part from at) × AreWalked part from (at + 1) end os

module _ {M D : Type 0} where
  -- the cell has the word w for the attempt: its own write, else the value at its version
  abbrev pub HasWord : Attempt M D → PassState M D → ℕ → ℕ → Type 0
  HasWord a p c w = MatchOption (word_at a.writes c) (Observes p.view c w a.version) (λ own. own ≡ w)

  -- The call that began with the attempt a found, by the steps up to the pass p, that the cell can't be had:
  -- its word isn't one that the walk looks for
  abbrev pub FoundUnfit : Wanted → Attempt M D → PassState M D → ℕ → Type 0
  FoundUnfit wanted a p c = (w : ℕ) × HasWord a p c w × IsUnfit wanted w

  -- or it was found held or newer, which never is on a sole pass
  abbrev pub FoundStopped : Attempt M D → PassState M D → ℕ → Stop → Type 0
  FoundStopped a p c stop = (IsSole a.pass → ⊥) × IsCausedAt c (callers_of a.pass.view.books) a.version (length (trail_of a.pass)) (trail_of p) stop

  -- A cell that was passed over, and a lock word of it that this call loaded where the attempt had neither written nor observed it
  pub record PassedOver (wanted : Wanted) (a : Attempt M D) (p : PassState M D) (c : ℕ) : Type 0 where
    pub found : FoundUnfit wanted a p c ⊎ ((stop : Stop) × FoundStopped a p c stop)
    pub looked : word_at a.writes c ≡ None → word_at a.observations c ≡ None → (w : ℕ) × FoundSince (length (trail_of a.pass)) (trail_of p) c w

  -- The stop is that of the first slot of the walk that was found held or newer, and no slot could be had
  pub record FirstStop (part : PoolPart) (from : ℕ) (wanted : Wanted) (a : Attempt M D) (p : PassState M D) (stop : Stop) : Type 0 where
    pub at : ℕ
    pub on_walk : at < part.slots
    pub stopped : FoundStopped a p (slot_at part from at) stop
    pub before : (j : ℕ) → j < at → FoundUnfit wanted a p (slot_at part from j)
    pub all : (j : ℕ) → j < part.slots → PassedOver wanted a p (slot_at part from j)

  -- one slot of the walk came to be held, and has a new word; those before it were passed over
  pub record FillsSlot (part : PoolPart) (from : ℕ) (wanted : Wanted) (a b : Attempt M D) (old new : ℕ) : Type 0 where
    pub at : ℕ
    pub on_walk : at < part.slots
    pub before : (j : ℕ) → j < at → PassedOver wanted a b.pass (slot_at part from j)
    -- on a sole pass it is the first one that the walk looks for
    pub first : IsSole a.pass → (j : ℕ) → j < at → FoundUnfit wanted a b.pass (slot_at part from j)
    pub known : option_or (word_at a.writes (slot_at part from at)) (word_at b.observations (slot_at part from at)) ≡ Some old
    pub seen : Entries
    pub alone : (seen ≡ []) ⊎ (seen ≡ (slot_at part from at, old) ∷ [])
    pub is : b ≡ record a { pass = b.pass; observations = a.observations ++ seen; versions = b.versions; writes = put a.writes (slot_at part from at) new }
    pub pass : HoldsOnly a.pass b.pass
    pub held : IsHeld b.pass (slot_at part from at)
    pub touches : TouchesOnly (λ c. c ≡ slot_at part from at) a b

  -- slots alone were observed, in the order of the walk, or came to be held, and nothing was written
  pub record SeesSlots (part : PoolPart) (from : ℕ) (a b : Attempt M D) : Type 0 where
    pub seen : Entries
    pub walked : AreWalked part from 0 part.slots seen
    pub is : b ≡ record a { pass = b.pass; state = b.state; observations = a.observations ++ seen; versions = b.versions }
    pub pass : HoldsOnly a.pass b.pass

  -- slots alone were observed, in the order of the walk, and nothing was written or came to be held
  pub record SeesOn (part : PoolPart) (from : ℕ) (a b : Attempt M D) : Type 0 where
    pub sees : SeesSlots part from a b
    pub held : b.pass.view.held ≡ a.pass.view.held

  -- each slot has an own write or was observed
  abbrev pub AllKnown : PoolPart → Attempt M D → Type 0
  AllKnown part b = (c : ℕ) → IsSlot part c → (w : ℕ) × (option_or (word_at b.writes c) (word_at b.observations c) ≡ Some w)

-- the word w of a slot was replaced by a new one
abbrev pub Replaces : ℕ → ℕ → ℕ → List ℕ → List ℕ → Type 0
Replaces c w new cells then = (slice_index cells c ≡ w) × (then ≡ slice_set cells c new)

-- no slot has a word that the walk looks for, and nothing was written
abbrev pub HasNone : PoolPart → Wanted → List ℕ → List ℕ → Type 0
HasNone part wanted cells then = ((i : ℕ) → i < part.slots → IsUnfit wanted (slice_index cells (part.base + i))) × (then ≡ cells)
