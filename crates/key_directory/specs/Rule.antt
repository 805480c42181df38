-- The rule of the table, which holds between any two steps.
use Rattle.std.specs.Prelude.{◌≡◌, ℕ, ◌+◌, ◌<◌, List, [], ◌∷◌, length, slice_index, sum, All, Contains, ◌⊎◌}
use mathlib.Core.Option.{some}
use lib.ListN.{get_elem?}
use Rattle.atomic_table.specs.Table.{State}
use Rattle.key_directory.specs.Words.{capacity_of, IsPosition, HoldsKey, HoldsOther, walk, OnlyBelow}
use Rattle.key_directory.specs.declared.view.Claim.{Claim}
use Rattle.key_directory.specs.declared.view.Step.{Step}
use Rattle.key_directory.specs.declared.view.Step.TheVariants.{Load, Exchange, Meeting}
use Rattle.key_directory.specs.declared.view.View.{View}

module _ (passes : ℕ → ℕ → Type 0) (capacities : List ℕ) where
  -- The key passes its region's test, each position of its walk before its own holds another key, and where only keys below the capacity pass it stands at its own number
  pub record IsPlaced (words : List ℕ) (region position key : ℕ) : Type 0 where
    pub allowed : passes (capacity_of capacities region) key
    pub tries : ℕ
    pub within : tries < capacity_of capacities region
    pub reached : walk (capacity_of capacities region) key tries ≡ position
    pub before : (n : ℕ) → n < tries → HoldsOther capacities words region (walk (capacity_of capacities region) key n) key
    pub own : OnlyBelow passes (capacity_of capacities region) → position ≡ key

  pub record IsKept (words : List ℕ) : Type 0 where
    pub wide : length words ≡ 1 + sum capacities
    pub zeroth : slice_index words 0 ≡ 0
    pub placed : (region position key : ℕ) → IsPosition capacities region position → HoldsKey capacities words region position key → IsPlaced words region position key

module _ (capacities words : List ℕ) where
  -- the key holds the position
  abbrev pub Stands : Claim → Type 0
  Stands c = IsPosition capacities c.region c.position × HoldsKey capacities words c.region c.position c.key

  -- a key that a step found holds the position
  abbrev pub FitsStep : Step → Type 0
  FitsStep (Load region position found) = (key : ℕ) → found ≡ key + 1 → HoldsKey capacities words region position key
  FitsStep (Exchange region position found) = (key : ℕ) → found ≡ key + 1 → HoldsKey capacities words region position key
  FitsStep Meeting = Unit {0}

-- a view knows the directory's shape where it has a caller, has no claim where it has none, and what it claimed and found stands in the words
pub record Fits (capacities : List ℕ) (total : ℕ) (words : List ℕ) (v : View) : Type 0 where
  pub same : 0 < v.callers → (v.capacities ≡ capacities) × (v.total ≡ total)
  pub spent : v.callers ≡ 0 → v.claims ≡ []
  pub claims : All (Stands capacities words) v.claims
  pub trail : All (FitsStep capacities words) v.trail

abbrev pub callers_in : List View → ℕ
callers_in [] = 0
callers_in (v ∷ vs) = v.callers + callers_in vs

abbrev pub IsClaimedIn : List View → Claim → Type 0
IsClaimedIn [] c = ⊥
IsClaimedIn (v ∷ vs) c = Contains v.claims c ⊎ IsClaimedIn vs c

-- Each caller number stands in one view, and each position that is held was claimed
pub record Rule (passes : ℕ → ℕ → Type 0) (capacities : List ℕ) (total : ℕ) (s : State (Unit {0}) View) : Type 0 where
  pub kept : IsKept passes capacities s.words
  pub views : (j : ℕ) (v : View) → get_elem? s.views j ≡ some v → Fits capacities total s.words v
  pub callers : callers_in s.views ≡ total
  pub claimed : (region position key : ℕ) → IsPosition capacities region position → HoldsKey capacities s.words region position key → IsClaimedIn s.views record { region = region; key = key; position = position }

-- the view of the first seat
abbrev pub newcomer : List ℕ → ℕ → View
newcomer capacities callers = record { capacities = capacities; total = callers; callers = callers; claims = []; trail = [] }
