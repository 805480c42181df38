-- What a directory and its passes keep of their fields.
use Rattle.std.specs.Prelude.{◌≡◌, ℕ, ◌+◌, ◌^◌, ◌<◌, ◌≤◌, List, [], sum}
use Rattle.atomic_table.specs.Seated.{TableId}
use Rattle.key_directory.specs.declared.layout.Layout.{Layout}
use Rattle.key_directory.specs.declared.layout.Region.{Region}
use Rattle.key_directory.specs.declared.view.View.{View}
use Rattle.key_directory.specs.Words.{laid_out, capacities_of}
use Rattle.key_directory.specs.Moves.{SeatMe, Knows}
use Rattle.key_directory.specs.Directory.{PassView}

-- The table has the words of the layout and no slot, and was told this layout when it was made
pub record IsLaidOut (count slots : ℕ) (key layout : Layout) : Type 0 where
  pub told : (capacities_of key.regions.items ≡ capacities_of layout.regions.items) × (key.callers ≡ layout.callers)
  pub regions : layout.regions.items ≡ laid_out 1 (capacities_of layout.regions.items)
  pub words : count ≡ 1 + sum (capacities_of layout.regions.items)
  pub none : slots ≡ 0
  pub small : sum (capacities_of layout.regions.items) ≤ 2 ^ 24

-- what a pass shows of its seat
abbrev pub pass_view : TableId → View → ℕ → PassView
pass_view table v room = record { directory = record { table = table; capacities = v.capacities; callers = v.total }; callers = v.callers; room = room; claims = v.claims; trail = v.trail }

pub record IsPass (passes : ℕ → ℕ → Type 0) (me : SeatMe) (callers : ℕ) : Type 0 where
  pub counted : callers ≡ me.0.callers
  pub acting : 0 < callers
  pub slots : me.1 ≡ []
  pub knows : Knows passes me.0

-- a closed table has the words of its regions, each with its last value, and no slot
pub record IsListed (count slots : ℕ) (Full : Type 0) (regions : List Region) : Type 0 where
  pub full : Full
  pub none : slots ≡ 0
  pub words : count ≡ 1 + sum (capacities_of regions)
  pub laid : regions ≡ laid_out 1 (capacities_of regions)
  pub small : sum (capacities_of regions) ≤ 2 ^ 24
