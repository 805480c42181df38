-- How the children of one call end, by the steps in the trail.
use Rattle.std.specs.Prelude.{◌≡◌, ℕ, ◌≤◌, List, ◌++◌, length, slice_get, Some}
use Rattle.std.proofs.Common.{zero, suc}
use Rattle.cell_table.specs.declared.view.Event.{Event}
use Rattle.cell_table.specs.declared.view.Event.TheVariants.{ClockLoaded}
use Rattle.tx_core.specs.Causes.{CausedSince, IsFound}
use Rattle.tx_core.specs.declared.stop.Stop.{Stop}

-- the second trail begins with the first
abbrev pub Grew : List Event → List Event → Type 0
Grew t u = (more : List Event) × (u ≡ t ++ more)

-- the clock was loaded with this word after the first n steps
abbrev pub ClockedSince : ℕ → List Event → ℕ → Type 0
ClockedSince n u word = (k : ℕ) × (n ≤ k) × (slice_get u k ≡ Some (ClockLoaded word))

-- A child that began at the version and the trail t was ended by Held or Newer, with its cause, and then aborted by a load of the clock, which gave the next version
pub record ChildEnded (callers : List ℕ) (version : ℕ) (t : List Event) (stop : Stop) (next : ℕ) (u : List Event) : Type 0 where
  pub found : IsFound stop
  pub ended : List Event
  pub ran : Grew t ended
  pub caused : CausedSince callers version (length t) ended stop
  pub aborted : Grew ended u
  pub raised : ClockedSince (length ended) u next
  pub higher : version ≤ next

-- n children ended so, one after another. The first began at the version and the trail t; after the last, which ended by the stop, they are next and u
abbrev pub ChildrenEnded : List ℕ → ℕ → ℕ → List Event → Stop → ℕ → List Event → Type 0
ChildrenEnded callers zero version t stop next u = (next ≡ version) × (u ≡ t)
ChildrenEnded callers (suc n) version t stop next u = (v : List Event) × (w : ℕ) × (s : Stop) × ChildrenEnded callers n version t s w v × ChildEnded callers w v stop next u

-- the stop has its cause, at a version that the attempt had meanwhile
abbrev pub LastCaused : List ℕ → ℕ → List Event → Stop → ℕ → List Event → Type 0
LastCaused callers version t stop next u = (w : ℕ) × (version ≤ w) × (w ≤ next) × CausedSince callers w (length t) u stop

-- n children ended by Held or Newer, one after another, and the last stop has its cause
abbrev pub IsSpent : List ℕ → ℕ → ℕ → List Event → Stop → ℕ → List Event → Type 0
IsSpent callers n version t last next u = ChildrenEnded callers n version t last next u × LastCaused callers version t last next u

-- After the first n steps the clock was loaded, and the stop was found, with its cause
abbrev pub IsRefusedRaise : List ℕ → ℕ → ℕ → List Event → Stop → Type 0
IsRefusedRaise callers version n u stop = IsFound stop × ((word : ℕ) × ClockedSince n u word) × CausedSince callers version n u stop
