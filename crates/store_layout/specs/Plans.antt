-- The places of structures as a plan of cells keeps them.
use Rattle.std.specs.Prelude.{◌≡◌, ℕ, ◌+◌, ◌^◌, ◌<◌, ◌≤◌, List, length, take, map, sum_by, slice_index, Result, Ok, Err}
use Rattle.store_layout.specs.declared.place.Place.{Place}
use Rattle.store_layout.specs.declared.place.LayoutEnd.{LayoutEnd}
use Rattle.store_layout.specs.declared.place.LayoutEnd.TheVariants.{TooLarge, Memory}
use Rattle.store_layout.specs.Shapes.{Shape, with_end, queues_from, pools_from, logs_from, plain_from, cells_of, most_cells}

abbrev pub firsts_in : List Place → List ℕ
firsts_in places = map (λ p. p.first) places

abbrev pub capacities_in : List Place → List ℕ
capacities_in places = map (λ p. p.capacity) places

-- structures with these capacities, where each begins behind the f cells of the one before it, and the first one at a cell
pub record StandFrom (f : ℕ → ℕ) (from : ℕ) (sizes : List ℕ) (places : List Place) : Type 0 where
  pub sized : capacities_in places ≡ sizes
  pub firsts : (i : ℕ) → i < length sizes → slice_index (firsts_in places) i ≡ from + sum_by f (take i sizes)

abbrev pub shape_by : List Place → List Place → List Place → List Place → Place → Shape
shape_by maps queues pools logs plain = record {
  maps = capacities_in maps;
  queues = capacities_in queues;
  pools = capacities_in pools;
  logs = capacities_in logs;
  cells = plain.capacity;
}

-- These are the places of all structures of their shape
pub record IsPlan (maps queues pools logs : List Place) (plain : Place) : Type 0 where
  pub maps_stand : StandFrom (λ c. c) 0 (capacities_in maps) maps
  pub queues_stand : StandFrom with_end (queues_from (shape_by maps queues pools logs plain)) (capacities_in queues) queues
  pub pools_stand : StandFrom (λ c. c) (pools_from (shape_by maps queues pools logs plain)) (capacities_in pools) pools
  pub logs_stand : StandFrom with_end (logs_from (shape_by maps queues pools logs plain)) (capacities_in logs) logs
  pub plain_stands : plain.first ≡ plain_from (shape_by maps queues pools logs plain)
  pub few : (length maps < 2 ^ 32) × (length queues < 2 ^ 32) × (length pools < 2 ^ 32) × (length logs < 2 ^ 32)
  pub within : cells_of (shape_by maps queues pools logs plain) ≤ most_cells

-- the cell is one of the place i, which has so many cells more than values
abbrev pub IsAt : List Place → ℕ → ℕ → ℕ → Type 0
IsAt places more i cell = (slice_index (firsts_in places) i ≤ cell)
    × (cell < slice_index (firsts_in places) i + (slice_index (capacities_in places) i + more))

-- none of the places has the cell
abbrev pub IsAtNone : List Place → ℕ → ℕ → Type 0
IsAtNone places more cell = (i : ℕ) → i < length places → IsAt places more i cell → ⊥

-- the number of the place that has it, and which of its cells it is
abbrev pub IsFound : List Place → ℕ → ℕ → ℕ × ℕ → Type 0
IsFound places more cell found = (found.0 < length places) × IsAt places more found.0 cell
    × (slice_index (firsts_in places) found.0 + found.1 ≡ cell)

module _ {A : Type 0} where
  -- the layout was refused for its size
  abbrev pub IsTooLarge : Result A LayoutEnd → Type 0
  IsTooLarge (Ok a) = ⊥
  IsTooLarge (Err (TooLarge cells)) = Unit {0}
  IsTooLarge (Err Memory) = ⊥

  -- where it was, P holds of the number that is told
  abbrev pub IfTooLarge : Result A LayoutEnd → (ℕ → Type 0) → Type 0
  IfTooLarge (Ok a) P = Unit {0}
  IfTooLarge (Err (TooLarge cells)) P = P cells
  IfTooLarge (Err Memory) P = Unit {0}
