-- What the cells of one place stand for.
use Rattle.std.specs.Prelude.{◌≡◌, ℕ, suc, ◌+◌, ◌==◌, ◌^◌, ◌≤◌, List, length, take, drop, slice_index, sum_by, if◌then◌else◌, Option, Some, None}
use Rattle.key_directory.specs.Directory.{KeyListView}
use Rattle.serial_terms.specs.Renaming.{value_at}
use Rattle.serial_terms.specs.Stores as contents
use Rattle.store_contents.specs.Contents.{position_below, name_in, AreByKey}
use Rattle.store_layout.specs.declared.place.Place.{Place}
use Rattle.store_layout.specs.States.{value_in, items_in, queue_in, log_in, IsQueue, IsLog}

-- n of the words from one on
abbrev pub words_at : ℕ → ℕ → List ℕ → List ℕ
words_at first n cells = take n (drop first cells)

-- there are so many cells
pub record AreThere (first n : ℕ) (cells : List ℕ) : Type 0 where
  pub within : first + n ≤ length cells
  pub small : first + n ≤ 2 ^ 24

module _ (cells : List ℕ) where
  abbrev pub pool_at : Place → List ℕ
  pool_at p = items_in (words_at p.first p.capacity cells)

  abbrev pub queue_at : Place → List ℕ
  queue_at p = queue_in (words_at p.first (p.capacity + 1) cells)

  abbrev pub log_at : Place → List ℕ
  log_at p = log_in (words_at p.first (p.capacity + 1) cells)

  abbrev pub IsPoolAt : Place → Type 0
  IsPoolAt p = AreThere p.first p.capacity cells

  abbrev pub IsQueueAt : Place → Type 0
  IsQueueAt p = AreThere p.first (p.capacity + 1) cells × IsQueue (words_at p.first (p.capacity + 1) cells)

  abbrev pub IsLogAt : Place → Type 0
  IsLogAt p = AreThere p.first (p.capacity + 1) cells × IsLog (words_at p.first (p.capacity + 1) cells)

  -- a map's keys with their values, in key order
  pub record AreOfMap (keys : KeyListView) (map : ℕ) (p : Place) (pairs : List (ℕ × ℕ)) : Type 0 where
    pub order : AreByKey pairs
    pub values : (key : ℕ) → contents.value_in pairs key ≡ value_at (λ position. value_in (slice_index (words_at p.first p.capacity cells) position)) (name_in keys map key)

-- ---- pairs in any order

abbrev pub weight : ℕ → ℕ × ℕ → ℕ
weight key p = if p.0 == key then suc p.1 else 0

abbrev pub mark : ℕ → ℕ × ℕ → ℕ
mark key p = if p.0 == key then 1 else 0

-- the word of a key at its position, and 0 where it has none
abbrev pub word_by : (ℕ → ℕ) → Option ℕ → ℕ
word_by f None = 0
word_by f (Some p) = f p

-- The pairs have the keys of the first n positions with their values: each key's word is the sum of what its pairs have, and it has at most one
pub record AreGathered (keys : KeyListView) (map first : ℕ) (cells : List ℕ) (n : ℕ) (pairs : List (ℕ × ℕ)) : Type 0 where
  pub sum : (key : ℕ) → sum_by (weight key) pairs ≡ word_by (λ position. slice_index cells (first + position)) (position_below keys map key n)
  pub one : (key : ℕ) → sum_by (mark key) pairs ≤ 1

-- the pair of a position, where a key stands at it and has a value
abbrev pub pair_in : Option ℕ → Option ℕ → Option (ℕ × ℕ)
pair_in None value = None
pair_in (Some key) None = None
pair_in (Some key) (Some value) = Some (key, value)
