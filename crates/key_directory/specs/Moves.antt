-- What each step makes of the view of the seat that steps, and what it tells.
use Rattle.std.specs.Prelude.{◌≡◌, ◌≢◌, ℕ, ◌+◌, ◌-◌, ◌≤◌, ◌⊎◌, List, [], ◌∷◌, ◌++◌, All, Contains}
use Rattle.atomic_table.specs.Table.{Me, Step as TableStep}
use Rattle.key_directory.specs.Rule.{IsKept, Stands, FitsStep}
use Rattle.key_directory.specs.declared.view.Claim.{Claim}
use Rattle.key_directory.specs.declared.view.Step.{Step}
use Rattle.key_directory.specs.declared.view.Step.TheVariants.{Load, Exchange, Meeting}
use Rattle.key_directory.specs.declared.view.View.{View}

abbrev pub with_step : Step → View → View
with_step s v = record v { trail = v.trail ++ s ∷ [] }

abbrev pub with_claim : Claim → View → View
with_claim c v = record v { claims = v.claims ++ c ∷ [] }

-- There are words that keep the rule, in which all stands that the view claimed and found
pub record Knows (passes : ℕ → ℕ → Type 0) (v : View) : Type 0 where
  pub words : List ℕ
  pub kept : IsKept passes v.capacities words
  pub claims : All (Stands v.capacities words) v.claims
  pub trail : All (FitsStep v.capacities words) v.trail
  pub callers : v.callers ≤ v.total

abbrev pub SeatMe : Type 0
SeatMe = Me (Unit {0}) View

module _ (passes : ℕ → ℕ → Type 0) where
  -- a load of a position adds the claim where it found the key
  pub record LoadTold (c : Claim) (me : SeatMe) (found : ℕ) (me' : SeatMe) : Type 0 where
    pub slots : me'.1 ≡ me.1
    pub own : found ≡ c.key + 1 → me'.0 ≡ with_claim c (with_step (Load c.region c.position found) me.0)
    pub other : found ≢ c.key + 1 → me'.0 ≡ with_step (Load c.region c.position found) me.0
    pub known : Contains me.0.claims c → found ≡ c.key + 1
    pub knows : Knows passes me'.0

  -- a compare-exchange adds the claim where it found the position free, or the key
  pub record ExchangeTold (c : Claim) (me : SeatMe) (found : ℕ) (me' : SeatMe) : Type 0 where
    pub slots : me'.1 ≡ me.1
    pub own : (found ≡ 0) ⊎ (found ≡ c.key + 1) → me'.0 ≡ with_claim c (with_step (Exchange c.region c.position found) me.0)
    pub other : found ≢ 0 → found ≢ c.key + 1 → me'.0 ≡ with_step (Exchange c.region c.position found) me.0
    pub knows : Knows passes me'.0

  abbrev pub load_told : Claim → TableStep (Unit {0}) → SeatMe → ℕ → SeatMe → Type 0
  load_told c step me found me' = LoadTold c me found me'

  abbrev pub exchange_told : Claim → TableStep (Unit {0}) → SeatMe → ℕ → SeatMe → Type 0
  exchange_told c step me found me' = ExchangeTold c me found me'

  abbrev pub meeting_told : TableStep (Unit {0}) → SeatMe → ℕ → SeatMe → Type 0
  meeting_told step me found me' = (me'.0 ≡ with_step Meeting me.0) × (me'.1 ≡ me.1) × Knows passes me'.0

-- what a seat keeps where n callers go, and what the new seat has
abbrev pub kept_part : ℕ → View → View
kept_part n v = record v { callers = v.callers - n; trail = v.trail ++ Meeting ∷ [] }

abbrev pub moved_part : ℕ → View → View
moved_part n v = record v { callers = n; trail = v.trail ++ Meeting ∷ [] }

abbrev pub both_parts : View → View → View
both_parts v w = record v { callers = v.callers + w.callers; claims = v.claims ++ w.claims; trail = (v.trail ++ w.trail) ++ Meeting ∷ [] }

-- a seat with no caller
abbrev pub spent_part : View
spent_part = record { capacities = []; total = 0; callers = 0; claims = []; trail = [] }
