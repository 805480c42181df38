-- The records run again beside the sights.
use Rattle.std.specs.Prelude.{◌≡◌, ℕ, ◌+◌, ◌<◌, ◌≤◌, ◌^◌, ◌==◌, Bool, true, false, List, [], ◌∷◌, ◌++◌, take, drop, length, Option, Some, None, if◌then◌else◌}
use Rattle.std.specs.Option.{option_map}
use Rattle.serial_terms.specs.declared.call.Done.{Done}
use Rattle.serial_terms.specs.declared.committed.Record.{Record}
use Rattle.serial_terms.specs.Entries.{Entry, Each, IsInOrder, by_caller, up_to}
use Rattle.serial_terms.specs.Histories.{Runs, IsLegalRun, entry_of}
use Rattle.serial_terms.specs.Serial.{State}
use Rattle.serial_terms.specs.Sights.{Seen, IsConsistent}
use Rattle.serial_terms.specs.Stores.{opening_of}
use Rattle.journal_terms.specs.Legal.{IsRecordIn, IsSightIn}
use Rattle.journal_terms.specs.Naming.{latest, most_after, IsNotBelow}
use Rattle.history_audit.specs.declared.lines.Sizes.{Sizes}
use Rattle.history_audit.specs.declared.replay.Replay.{Replay}
use Rattle.history_audit.specs.Counts.{count_of}
use Rattle.history_audit.specs.Begun.{onto, records_in}
use Rattle.history_audit.specs.Ledgers.{layout_of}
use Rattle.history_audit.specs.Structures.{state_of}

-- the record that waits, and the others
abbrev pub waiting : Option Record → List (Entry Done) → List (Entry Done)
waiting r es = onto (option_map entry_of r) es

-- how many lines it stands for
abbrev pub breadth : Option Record → ℕ
breadth None = 0
breadth (Some r) = 1

-- so many of the records were run, and the others wait; each was run at a place that is not above the last sight's
pub record IsReplayOf (r : Replay) (es : List (Entry Done)) : Type 0 where
  pub done : r.done ≤ length es
  pub others : drop r.done es ≡ waiting r.next (records_in r.left.now)
  pub run : IsLegalRun (opening_of (layout_of r.sizes)) (take r.done es) (state_of r.structures)
  pub counts : (k : ℕ) → k < 16 → count_of r.counts k ≡ length (by_caller k (take r.done es))
  pub low : Each (λ e. e.place ≤ r.place) (take r.done es)

-- these are the sights so far
pub record IsOrderOf (r : Replay) (vs : List (Seen Done)) : Type 0 where
  pub last : (r.place, r.caller) ≡ latest vs
  pub afters : (k : ℕ) → k < 16 → count_of r.afters k ≡ most_after k vs

-- the records are a legal run, in order
pub record AreReplayed (sizes : Sizes) (es : List (Entry Done)) : Type 0 where
  pub end : State
  pub run : IsLegalRun (opening_of (layout_of sizes)) es end
  pub order : IsInOrder es
  pub within : Each (IsRecordIn (layout_of sizes)) es
  pub few : length es < 2 ^ 63

-- these are the records of the run, as far as they were run and where they wait
pub record AreRecordsOf (r : Replay) (es : List (Entry Done)) : Type 0 where
  pub replay : IsReplayOf r es
  pub whole : AreReplayed r.sizes es

-- what the sights come to is as it was, but for the place
pub record KeepsOrder (old new : Replay) (place : ℕ) : Type 0 where
  pub sizes : new.sizes ≡ old.sizes
  pub place_is : new.place ≡ place
  pub caller : new.caller ≡ old.caller
  pub afters : new.afters ≡ old.afters

-- one record more was run
pub record HasNextRun (old : Replay) (e : Entry Done) (new : Replay) : Type 0 where
  pub ran : (u : State) → Runs (state_of old.structures) e.dones u → u ≡ state_of new.structures
  pub done : new.done ≡ old.done + 1
  pub counts : (k : ℕ) → k < 16 → count_of new.counts k ≡ (if e.caller == k then count_of old.counts e.caller + 1 else count_of old.counts k)
  pub sizes : new.sizes ≡ old.sizes
  pub place : new.place ≡ old.place
  pub caller : new.caller ≡ old.caller
  pub afters : new.afters ≡ old.afters
  pub left : new.left.now ≡ old.left.now

-- the sight may stand behind these ones, beside these records
pub record FollowsHere (sizes : Sizes) (es : List (Entry Done)) (vs : List (Seen Done)) (v : Seen Done) : Type 0 where
  pub within : IsSightIn (layout_of sizes) v
  pub order : IsNotBelow (latest vs) v
  pub rising : most_after v.caller vs ≤ v.after
  pub consistent : IsConsistent 1 (opening_of (layout_of sizes)) es v
  pub after : v.after ≤ length (by_caller v.caller (up_to v.place es))

pub record HasWatched (sizes : Sizes) (es : List (Entry Done)) (vs : List (Seen Done)) (v : Seen Done) (r : Replay) : Type 0 where
  pub follows : FollowsHere sizes es vs v
  pub replay : IsReplayOf r es
  pub order : IsOrderOf r (vs ++ v ∷ [])

-- whether it does, and then it was read
abbrev pub IsWatched : Bool → Sizes → List (Entry Done) → List (Seen Done) → Seen Done → Replay → Type 0
IsWatched true sizes es vs v r = HasWatched sizes es vs v r
IsWatched false sizes es vs v r = FollowsHere sizes es vs v → ⊥
