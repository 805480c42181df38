-- What the visit of one position, and a walk, make of the view of the seat.
use Rattle.std.specs.Prelude.{◌≡◌, ℕ, suc, Bool, true, false, cond, ◌+◌, ◌<◌, List, [], ◌∷◌, ◌++◌, Contains, Option, Some, None}
use Rattle.key_directory.specs.Words.{walk}
use Rattle.key_directory.specs.Directory.{FoundOther, IsVisit, Visits, claim_of}
use Rattle.key_directory.specs.declared.view.Claim.{Claim}
use Rattle.key_directory.specs.declared.view.Step.{Step}
use Rattle.key_directory.specs.declared.view.Step.TheVariants.{Load}
use Rattle.key_directory.specs.declared.view.View.{View}

abbrev pub visited_view : Claim → Bool → List Step → View → View
visited_view c claimed steps v = record v { claims = cond claimed (v.claims ++ c ∷ []) v.claims; trail = v.trail ++ steps }

pub record Visited (c : Claim) (claimed : Bool) (old new : View) : Type 0 where
  pub steps : List Step
  pub view : new ≡ visited_view c claimed steps old
  pub visit : IsVisit c.region c.position steps
  pub other : claimed ≡ false → FoundOther steps c.region c.position c.key
  pub known : Contains old.claims c → (claimed ≡ true) × (steps ≡ Load c.region c.position (c.key + 1) ∷ [])

abbrev pub claims_after : List Claim → ℕ → ℕ → Option ℕ → List Claim
claims_after claims region key None = claims
claims_after claims region key (Some position) = claims ++ claim_of region key position ∷ []

-- the answer is the position of the walk after so many others, or there is none
abbrev pub EndsAt : ℕ → ℕ → Option ℕ → ℕ → Type 0
EndsAt capacity key None tries = tries ≡ capacity
EndsAt capacity key (Some position) tries = (tries < capacity) × (walk capacity key tries ≡ position)

abbrev pub visits_of : ℕ → Option ℕ → ℕ
visits_of tries None = tries
visits_of tries (Some position) = suc tries

-- a walk through a region
pub record Walked (region capacity key : ℕ) (result : Option ℕ) (old new : View) : Type 0 where
  pub steps : List Step
  pub tries : ℕ
  pub view : new ≡ record old { claims = claims_after old.claims region key result; trail = old.trail ++ steps }
  pub ends : EndsAt capacity key result tries
  pub before : (n : ℕ) → n < tries → FoundOther steps region (walk capacity key n) key
  pub visits : Visits region capacity key (visits_of tries result) steps
  pub known : 0 < capacity → Contains old.claims (claim_of region key (walk capacity key 0)) → steps ≡ Load region (walk capacity key 0) (key + 1) ∷ []

-- the walk found other keys at so many positions
pub record Passed (region capacity key tries : ℕ) (old new : View) : Type 0 where
  pub steps : List Step
  pub view : new ≡ record old { trail = old.trail ++ steps }
  pub before : (n : ℕ) → n < tries → FoundOther steps region (walk capacity key n) key
  pub visits : Visits region capacity key tries steps
