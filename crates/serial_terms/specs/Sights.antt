-- What an attempt or a child that was never committed has seen of a history.
use Rattle.std.specs.Prelude.{◌≡◌, ℕ, ◌+◌, ◌-◌, ◌<◌, ◌≤◌, nat_lt, ◌==◌, List, [], ◌∷◌, length, if◌then◌else◌, ◌⊎◌}
use Rattle.serial_terms.specs.declared.call.Done.{Done}
use Rattle.serial_terms.specs.declared.sight.Sight.{Sight}
use Rattle.serial_terms.specs.declared.sight.SightEnd.{SightEnd}
use Rattle.serial_terms.specs.declared.sight.SightEnd.TheVariants.{Aborted, Refused, Full, Child}
use Rattle.serial_terms.specs.Entries.{Entry, Each, OrderedBy, by_caller}
use Rattle.serial_terms.specs.Histories.{Runs, IsStateAt}
use Rattle.serial_terms.specs.Serial.{State, Sequence}

-- a sight with calls of the type D: the calls of an attempt or a child that wasn't committed, each with its reply, the version at
-- which they were made, how many records its caller had committed before, and how it ended
pub record Seen (D : Type 0) : Type 0 where
  pub caller : ℕ
  pub after : ℕ
  pub place : ℕ
  pub end : SightEnd
  pub dones : List D

abbrev pub seen_of : Sight → Seen Done
seen_of v = record { caller = v.caller; after = v.after; place = v.place; end = v.end; dones = v.dones }

abbrev pub all_seen_of : List Sight → List (Seen Done)
all_seen_of [] = []
all_seen_of (v ∷ vs) = seen_of v ∷ all_seen_of vs

-- the parts that have a capacity, by number: the queues, and then the logs
abbrev pub part_of : ℕ → State → ℕ → Sequence
part_of queues s p = if nat_lt p queues then s.queues p else s.logs (p - queues)

-- where a commit was refused for want of capacity: after the calls the part has the values it was said to have and those to be
-- added, more than its capacity
abbrev pub EndsAs : ℕ → State → SightEnd → Type 0
EndsAs queues s Aborted = Unit {0}
EndsAs queues s Refused = Unit {0}
EndsAs queues s Child = Unit {0}
EndsAs queues s (Full part values adding) = (length (part_of queues s part).items ≡ values + adding)
    × ((part_of queues s part).capacity < values + adding)

-- the sight is consistent with the history: its calls run, with these replies, from the state at its place
abbrev pub IsConsistent : ℕ → State → List (Entry Done) → Seen Done → Type 0
IsConsistent queues start history v = (s : State) × IsStateAt start history v.place s
    × ((t : State) × Runs s v.dones t × EndsAs queues t v.end)

-- its caller had so many records, the last of them at no later place
pub record IsAfterItsCallers (history : List (Entry Done)) (v : Seen Done) : Type 0 where
  pub counted : v.after ≤ length (by_caller v.caller history)
  pub placed : Each (λ e. e.index + 1 ≡ v.after → e.place ≤ v.place) (by_caller v.caller history)

module _ {D : Type 0} where
  -- the order of sights: by place, then by caller
  abbrev pub IsSeenBefore : Seen D → Seen D → Type 0
  IsSeenBefore a b = (a.place < b.place) ⊎ ((a.place ≡ b.place) × (a.caller ≤ b.caller))

  -- the sights of one caller
  abbrev pub seen_by : ℕ → List (Seen D) → List (Seen D)
  seen_by k [] = []
  seen_by k (v ∷ vs) = if v.caller == k then v ∷ seen_by k vs else seen_by k vs

  -- by place, then by caller, and each caller's sights in its own order, `own k` being those of the caller k
  pub record AreInSightOrder (own : ℕ → List (Seen D)) (sights : List (Seen D)) : Type 0 where
    pub order : OrderedBy IsSeenBefore sights
    pub each : (k : ℕ) → seen_by k sights ≡ own k

-- the sights of a history: in order, each consistent with it and after records of its caller, of which a later one of the caller never has fewer
pub record AreSightsOf (queues : ℕ) (start : State) (history : List (Entry Done)) (sights : List (Seen Done)) : Type 0 where
  pub order : OrderedBy IsSeenBefore sights
  pub consistent : Each (IsConsistent queues start history) sights
  pub after : Each (IsAfterItsCallers history) sights
  pub rising : OrderedBy (λ a b. a.caller ≡ b.caller → a.after ≤ b.after) sights
