-- Where the positions of a directory lie among its words, and what the words say.
use Rattle.std.specs.Prelude.{◌≡◌, ◌≢◌, ℕ, zero, suc, ◌+◌, ◌%◌, ◌<◌, List, [], ◌∷◌, slice_index, length}
use Rattle.key_directory.specs.declared.layout.Region.{Region}

-- The words of a region follow those of the regions before it. Word 0 belongs to no region, so the first one begins at 1
abbrev pub start_from : ℕ → List ℕ → ℕ → ℕ
start_from n capacities zero = n
start_from n [] (suc region) = n
start_from n (c ∷ cs) (suc region) = start_from (n + c) cs region

abbrev pub laid_out : ℕ → List ℕ → List Region
laid_out n [] = []
laid_out n (c ∷ cs) = record { start = n; capacity = c } ∷ laid_out (n + c) cs

abbrev pub capacities_of : List Region → List ℕ
capacities_of [] = []
capacities_of (r ∷ rs) = r.capacity ∷ capacities_of rs

module _ (capacities : List ℕ) where
  abbrev pub capacity_of : ℕ → ℕ
  capacity_of region = slice_index capacities region

  abbrev pub word_number : ℕ → ℕ → ℕ
  word_number region position = start_from 1 capacities region + position

  -- the region is there and has the position
  abbrev pub IsPosition : ℕ → ℕ → Type 0
  IsPosition region position = (region < length capacities) × (position < capacity_of region)

  -- a word is 0 where its position is free, else the key that holds the position plus 1
  abbrev pub HoldsKey : List ℕ → ℕ → ℕ → ℕ → Type 0
  HoldsKey words region position key = slice_index words (word_number region position) ≡ key + 1

  abbrev pub HoldsOther : List ℕ → ℕ → ℕ → ℕ → Type 0
  HoldsOther words region position key = (other : ℕ) × (other ≢ key) × HoldsKey words region position other

-- the position that the walk of a key tries after n others: from `key mod capacity` onwards, round the region
abbrev pub walk : ℕ → ℕ → ℕ → ℕ
walk capacity key n = (key + n) % capacity

-- a test that lets only keys below the capacity pass
abbrev pub OnlyBelow : (ℕ → ℕ → Type 0) → ℕ → Type 0
OnlyBelow passes capacity = (key : ℕ) → passes capacity key → key < capacity
