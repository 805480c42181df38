-- A directory, its passes and its list of keys as contracts see them.
use Rattle.std.specs.Prelude.{◌≡◌, ◌≢◌, ℕ, zero, suc, ◌+◌, ◌*◌, ◌<◌, ◌≤◌, ◌==◌, ◌&&◌, ◌⊎◌, List, [], ◌∷◌, ◌++◌, length, drop, slice_index, Option, Some, None, Result, Ok, Err, Contains, if◌then◌else◌}
use Rattle.atomic_table.specs.Seated.{TableId}
use Rattle.key_directory.specs.Words.{capacity_of, word_number, walk, OnlyBelow, IsPosition}
use Rattle.key_directory.specs.declared.view.Claim.{Claim}
use Rattle.key_directory.specs.declared.view.Step.{Step}
use Rattle.key_directory.specs.declared.view.Step.TheVariants.{Load, Exchange}

-- which directory it is, the number of positions of each region, and the number of callers
pub record DirectoryView : Type 0 where
  pub table : TableId
  pub capacities : List ℕ
  pub callers : ℕ

-- A pass: its directory, how many caller numbers it has and has room for, the positions that its claims answered, and the steps that it made
pub record PassView : Type 0 where
  pub directory : DirectoryView
  pub callers : ℕ
  pub room : ℕ
  pub claims : List Claim
  pub trail : List Step

-- the words of a directory that is closed
pub record KeyListView : Type 0 where
  pub capacities : List ℕ
  pub words : List ℕ

abbrev pub key_in : ℕ → Option ℕ
key_in zero = None
key_in (suc key) = Some key

-- the key that holds the position, if it isn't free
abbrev pub key_held : KeyListView → ℕ → ℕ → Option ℕ
key_held list region position = key_in (slice_index list.words (word_number list.capacities region position))

abbrev pub claim_of : ℕ → ℕ → ℕ → Claim
claim_of region key position = record { region = region; key = key; position = position }

-- the pass claimed this position for the key
abbrev pub Claimed : List Claim → ℕ → ℕ → ℕ → Type 0
Claimed claims region key position = Contains claims (claim_of region key position)

-- the position that the claims have for the key, if they have one
abbrev pub position_in : List Claim → ℕ → ℕ → Option ℕ
position_in [] region key = None
position_in (c ∷ cs) region key = if (c.region == region) && (c.key == key) then Some c.position else position_in cs region key

-- a step found the key at the position
abbrev pub Found : List Step → ℕ → ℕ → ℕ → Type 0
Found steps region position key = Contains steps (Load region position (key + 1)) ⊎ Contains steps (Exchange region position (key + 1))

abbrev pub FoundOther : List Step → ℕ → ℕ → ℕ → Type 0
FoundOther steps region position key = (other : ℕ) × (other ≢ key) × Found steps region position other

-- the steps that a pass made since it was `old`
abbrev pub steps_since : PassView → PassView → List Step
steps_since old new = drop (length old.trail) new.trail

-- The steps at one position: a load and, where it found the position free, a compare-exchange
pub data IsVisit (region position : ℕ) : List Step → Type 0 where
  taken : (found : ℕ) → 0 < found → IsVisit region position (Load region position found ∷ [])
  free : (found : ℕ) → IsVisit region position (Load region position 0 ∷ Exchange region position found ∷ [])

-- the steps at the first positions of a walk, so many of them
abbrev pub Visits : ℕ → ℕ → ℕ → ℕ → List Step → Type 0
Visits region capacity key zero steps = steps ≡ []
Visits region capacity key (suc n) steps = (before : List Step) × (last : List Step) × Visits region capacity key n before × IsVisit region (walk capacity key n) last × (steps ≡ before ++ last)

-- the steps looked at so many positions of the key's walk, and are at most two a position
pub record Looks (region capacity key positions : ℕ) (steps : List Step) : Type 0 where
  pub visits : Visits region capacity key positions steps
  pub bounded : length steps ≤ 2 * positions

-- The position is the first of the key's walk that no other key was found to hold: each one before it was found to hold another key
pub record IsReached (capacities : List ℕ) (steps : List Step) (c : Claim) : Type 0 where
  pub tries : ℕ
  pub within : tries < capacity_of capacities c.region
  pub there : walk (capacity_of capacities c.region) c.key tries ≡ c.position
  pub before : (n : ℕ) → n < tries → FoundOther steps c.region (walk (capacity_of capacities c.region) c.key n) c.key

-- every position of the region was found to hold another key
abbrev pub AreAllOthers : List ℕ → List Step → ℕ → ℕ → Type 0
AreAllOthers capacities steps region key = (position : ℕ) → position < capacity_of capacities region → FoundOther steps region position key

-- the steps of a claim that gave this answer: it visits the positions of the walk up to the one answered, or all of them
abbrev pub Walks : {E : Type 0} → List ℕ → ℕ → ℕ → List Step → Result ℕ E → Type 0
Walks capacities region key steps (Ok position) = (tries : ℕ) × (tries < capacity_of capacities region) × (walk (capacity_of capacities region) key tries ≡ position) × Looks region (capacity_of capacities region) key (suc tries) steps
Walks capacities region key steps (Err e) = Looks region (capacity_of capacities region) key (capacity_of capacities region) steps

-- Each claim is of a position that is there, for a key that may stand there. Within a region one key has one position and one position one key, and where only keys below the capacity pass, a key has the position of its own number
pub record AreOneToOne (passes : ℕ → ℕ → Type 0) (capacities : List ℕ) (claims : List Claim) : Type 0 where
  pub there : (region key position : ℕ) → Claimed claims region key position → IsPosition capacities region position
  pub allowed : (region key position : ℕ) → Claimed claims region key position → passes (capacity_of capacities region) key
  pub same : (region key p q : ℕ) → Claimed claims region key p → Claimed claims region key q → p ≡ q
  pub apart : (region k l position : ℕ) → Claimed claims region k position → Claimed claims region l position → k ≡ l
  pub own : (region key position : ℕ) → OnlyBelow passes (capacity_of capacities region) → Claimed claims region key position → position ≡ key

-- The same of all keys of a closed directory
pub record HoldsEachOnce (passes : ℕ → ℕ → Type 0) (list : KeyListView) : Type 0 where
  pub allowed : (region key position : ℕ) → IsPosition list.capacities region position → key_held list region position ≡ Some key → passes (capacity_of list.capacities region) key
  pub once : (region key p q : ℕ) → IsPosition list.capacities region p → IsPosition list.capacities region q → key_held list region p ≡ Some key → key_held list region q ≡ Some key → p ≡ q
  pub own : (region key position : ℕ) → IsPosition list.capacities region position → OnlyBelow passes (capacity_of list.capacities region) → key_held list region position ≡ Some key → position ≡ key
