-- Worked cells and what they stand for, and words that stand for nothing.
use Rattle.std.specs.Prelude.{◌≡◌, ℕ, ◌+◌, ◌*◌, ◌^◌, List, [], ◌∷◌, Some, None}
use Rattle.serial_terms.specs.Serial.{pool_of}
use Rattle.store_layout.specs.Shapes.{Shape}
use Rattle.store_layout.specs.States.{state_in, IsQueue, IsLog}

-- one structure of each kind
abbrev pub one_of_each : Shape
one_of_each = record { maps = 4 ∷ []; queues = 2 ∷ []; pools = 2 ∷ []; logs = 3 ∷ []; cells = 1 }

-- a map with the key 1 alone, a queue whose second item stands first, a pool of two items, a log of two values
abbrev pub worked_cells : List ℕ
worked_cells = 0 ∷ 12 ∷ 0 ∷ 0 ∷ (2 ^ 32 + 2) ∷ 6 ∷ 5 ∷ 7 ∷ 9 ∷ 2 ∷ 4 ∷ 5 ∷ 0 ∷ 77 ∷ []

pub record WorkedState : Type 0 where
  pub absent : (state_in one_of_each worked_cells).maps 0 0 ≡ None
  pub present : (state_in one_of_each worked_cells).maps 0 1 ≡ Some 11
  pub no_map : (state_in one_of_each worked_cells).maps 1 0 ≡ None
  pub queue : (state_in one_of_each worked_cells).queues 0 ≡ record { items = 5 ∷ 6 ∷ []; capacity = 2 }
  pub no_queue : (state_in one_of_each worked_cells).queues 1 ≡ record { items = []; capacity = 0 }
  pub pool : (state_in one_of_each worked_cells).pools 0 ≡ pool_of 2 (6 ∷ 8 ∷ [])
  pub log : (state_in one_of_each worked_cells).logs 0 ≡ record { items = 3 ∷ 4 ∷ []; capacity = 3 }
  pub cell : (state_in one_of_each worked_cells).cells 0 ≡ 77

pub record WrongWords : Type 0 where
  -- queues: a head at the capacity, more items than the capacity
  pub head_at_capacity : IsQueue ((2 * 2 ^ 32) ∷ 5 ∷ 6 ∷ []) → ⊥
  pub queue_over : IsQueue (3 ∷ 5 ∷ 6 ∷ []) → ⊥
  -- logs: an entry below the length that isn't there, one behind it that is, a length above the capacity
  pub entry_missing : IsLog (2 ∷ 4 ∷ 0 ∷ 0 ∷ []) → ⊥
  pub entry_behind : IsLog (1 ∷ 4 ∷ 5 ∷ 0 ∷ []) → ⊥
  pub log_over : IsLog (3 ∷ 4 ∷ 5 ∷ []) → ⊥
