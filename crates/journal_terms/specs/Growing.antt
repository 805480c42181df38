-- How a legal journal grows line by line: what may stand behind the lines of one.
use Rattle.std.specs.Prelude.{◌≡◌, ◌↔◌, ◌⊎◌, ℕ, ◌<◌, ◌≤◌, Bool, true, false, IsTrue, List, [], ◌∷◌, ◌++◌, length, Option, Some, None, codes}
use Rattle.serial_terms.specs.declared.call.Done.{Done}
use Rattle.serial_terms.specs.Entries.{Entry, Each, Precedes, by_caller}
use Rattle.serial_terms.specs.Histories.{IsLegalRun, IsLegalHistory}
use Rattle.serial_terms.specs.Serial.{State}
use Rattle.serial_terms.specs.Sights.{Seen, IsSeenBefore, IsConsistent, IsAfterItsCallers}
use Rattle.journal_terms.specs.Legal.{AreSizes, IsRecordIn, IsSightIn, IsLegalJournal, BeginsLegal, layout_of, start_of}
use Rattle.journal_terms.specs.Laws.{IsWritableEntry, IsWritableSight}
use Rattle.journal_terms.specs.Strict.{IsReadableRecord, IsReadableSight}
use Rattle.journal_terms.specs.Text.{Journal, title, sizes_text, record_text, sight_text, sights_in, begun_lines, journal_lines}

-- ---- the first two lines

-- a journal of these sizes without records: of version 2, or of version 1
abbrev pub without_sights : Bool → Option (List (Seen Done))
without_sights true = Some []
without_sights false = None

abbrev pub opened : Bool → ℕ → ℕ → ℕ → Journal
opened second tasks groups findings = record { tasks = tasks; groups = groups; findings = findings; records = []; sights = without_sights second }

-- a title stands first, and behind it sizes in their ranges
pub record BeginningsAreLegal : Type 0 where
  pub nothing : BeginsLegal []
  pub titles : (line : List ℕ) → BeginsLegal (line ∷ []) ↔ ((second : Bool) × (title (without_sights second) ≡ line))
  pub sizes : (second : Bool) (line : List ℕ) → BeginsLegal (title (without_sights second) ∷ line ∷ [])
      ↔ ((n : ℕ) × ((g : ℕ) × ((f : ℕ) × AreSizes n g f × (sizes_text n g f ≡ line))))
  pub empty : (second : Bool) (n g f : ℕ) → AreSizes n g f → IsLegalJournal (opened second n g f)

-- ---- the lines behind them

abbrev pub with_record : Journal → Entry Done → Journal
with_record j e = record { tasks = j.tasks; groups = j.groups; findings = j.findings; records = j.records ++ e ∷ []; sights = j.sights }

abbrev pub with_sight : Journal → Seen Done → Journal
with_sight j v = record { tasks = j.tasks; groups = j.groups; findings = j.findings; records = j.records; sights = Some (sights_in j.sights ++ v ∷ []) }

abbrev pub IsSecond : Option (List (Seen Done)) → Type 0
IsSecond None = ⊥
IsSecond (Some vs) = Unit {0}

-- behind the lines of a legal journal, but for the last one, stands the end, or a record where no sight stands before it, or a sight in
-- version 2; with each of these the journal is legal
pub record GoesOnByRecord (j : Journal) (line : List ℕ) : Type 0 where
  pub entry : Entry Done
  pub text : record_text entry ≡ line
  pub first : sights_in j.sights ≡ []
  pub legal : IsLegalJournal (with_record j entry)

pub record GoesOnBySight (j : Journal) (line : List ℕ) : Type 0 where
  pub seen : Seen Done
  pub text : sight_text seen ≡ line
  pub second : IsSecond j.sights
  pub legal : IsLegalJournal (with_sight j seen)

pub record JournalsGrow : Type 0 where
  pub begun : (j : Journal) → IsLegalJournal j → BeginsLegal (begun_lines j)
  pub whole : (j : Journal) → IsLegalJournal j → BeginsLegal (journal_lines j)
  pub on : (j : Journal) → IsLegalJournal j → (line : List ℕ)
      → BeginsLegal (begun_lines j ++ line ∷ []) ↔ ((line ≡ codes "end") ⊎ (GoesOnByRecord j line ⊎ GoesOnBySight j line))
  pub over : (j : Journal) → IsLegalJournal j → (line : List ℕ) → BeginsLegal (journal_lines j ++ line ∷ []) → ⊥

-- ---- histories

abbrev pub last_of : List (Entry Done) → Option (Entry Done)
last_of [] = None
last_of (e ∷ []) = Some e
last_of (e ∷ x ∷ xs) = last_of (x ∷ xs)

abbrev pub IsBehind : Option (Entry Done) → Entry Done → Type 0
IsBehind None e = Unit {0}
IsBehind (Some x) e = Precedes x e

abbrev pub place_of : Option (Entry Done) → ℕ
place_of None = 0
place_of (Some x) = x.place

-- the record may stand behind a history with this last record that has so many records of its caller
pub record IsNext (last : Option (Entry Done)) (count : ℕ) (e : Entry Done) : Type 0 where
  pub order : IsBehind last e
  pub above : IsTrue e.writer → place_of last < e.place
  pub counted : e.index ≡ count

-- a history goes on by a record that may stand behind it and runs from its end
abbrev pub HistoriesGrow : Type 0
HistoriesGrow = (start end : State) (history : List (Entry Done)) → IsLegalHistory start history end → (e : Entry Done) (u : State)
    → IsLegalHistory start (history ++ e ∷ []) u ↔ (IsNext (last_of history) (length (by_caller e.caller history)) e × IsLegalRun end (e ∷ []) u)

-- ---- what a further record and a further sight have to be

-- the record may stand behind the records of a journal whose history ends so
pub record SuitsAsRecord (j : Journal) (end : State) (e : Entry Done) : Type 0 where
  pub writable : IsWritableEntry e
  pub within : IsRecordIn (layout_of j) e
  pub next : IsNext (last_of j.records) (length (by_caller e.caller j.records)) e
  pub run : (u : State) × IsLegalRun end (e ∷ []) u

-- the sight may stand behind the sights of a journal
pub record SuitsAsSight (j : Journal) (v : Seen Done) : Type 0 where
  pub writable : IsWritableSight v
  pub within : IsSightIn (layout_of j) v
  pub order : Each (λ w. IsSeenBefore w v) (sights_in j.sights)
  pub rising : Each (λ w. w.caller ≡ v.caller → w.after ≤ v.after) (sights_in j.sights)
  pub consistent : IsConsistent 1 (start_of j) j.records v
  pub after : IsAfterItsCallers j.records v

-- with such a record, and with such a sight, a legal journal stays legal, and with no other one
pub record WhatSuits : Type 0 where
  pub records : (j : Journal) → IsLegalJournal j → sights_in j.sights ≡ [] → (end : State) → IsLegalHistory (start_of j) j.records end
      → (e : Entry Done) → IsLegalJournal (with_record j e) ↔ SuitsAsRecord j end e
  pub sights : (j : Journal) → IsLegalJournal j → (v : Seen Done) → IsLegalJournal (with_sight j v) ↔ SuitsAsSight j v
  -- a strict reading reads them all
  pub records_readable : (j : Journal) (end : State) (e : Entry Done) → SuitsAsRecord j end e → IsReadableRecord e
  pub sights_readable : (j : Journal) (v : Seen Done) → SuitsAsSight j v → IsReadableSight v
