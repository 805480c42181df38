-- Which journals a legal run may have written, which lines begin such a journal, and the first line of a text that doesn't.
use Rattle.std.specs.Prelude.{◌≡◌, ℕ, ◌+◌, ◌-◌, ◌^◌, ◌<◌, ◌≤◌, List, ◌++◌, length, take}
use Rattle.serial_terms.specs.declared.call.Done.{Done}
use Rattle.serial_terms.specs.declared.sight.SightEnd.{SightEnd}
use Rattle.serial_terms.specs.declared.sight.SightEnd.TheVariants.{Aborted, Refused, Full, Child}
use Rattle.serial_terms.specs.declared.store.Layout.{Layout}
use Rattle.serial_terms.specs.Entries.{Entry, Each}
use Rattle.serial_terms.specs.Histories.{IsLegalHistory}
use Rattle.serial_terms.specs.Ranges.{AreCallsOf, BelowCapacity}
use Rattle.serial_terms.specs.RunLayout.{layout_by}
use Rattle.serial_terms.specs.Serial.{State}
use Rattle.serial_terms.specs.Sights.{Seen, AreSightsOf}
use Rattle.serial_terms.specs.Stores.{opening_of}
use Rattle.journal_terms.specs.Laws.{IsWritableJournal}
use Rattle.journal_terms.specs.Reading.{cut_at}
use Rattle.journal_terms.specs.Text.{Journal, journal_lines, journal_text, sights_in, line_feed}

-- the numbers of a run's tasks, of its groups and of the findings that it may have
pub record AreSizes (n g f : ℕ) : Type 0 where
  pub tasks : n ≤ 262144
  pub groups : g ≤ n
  pub findings : (1 ≤ f) × (f ≤ 1048576)

-- caller and place are in their ranges, and the calls are calls of the layout, with keys below the capacities of their maps
pub record IsRecordIn (layout : Layout) (e : Entry Done) : Type 0 where
  pub caller : e.caller < 16
  pub place : e.place < 2 ^ 60
  pub calls : AreCallsOf BelowCapacity layout e.dones

-- a refusal names a queue or a log that is there
abbrev pub IsEndIn : Layout → SightEnd → Type 0
IsEndIn layout Aborted = Unit {0}
IsEndIn layout Refused = Unit {0}
IsEndIn layout (Full part values adding) = part < length layout.queues + length layout.logs
IsEndIn layout Child = Unit {0}

pub record IsSightIn (layout : Layout) (v : Seen Done) : Type 0 where
  pub caller : v.caller < 16
  pub place : v.place < 2 ^ 60
  pub end : IsEndIn layout v.end
  pub calls : AreCallsOf BelowCapacity layout v.dones

abbrev pub layout_of : Journal → Layout
layout_of j = layout_by j.tasks j.groups j.findings

abbrev pub start_of : Journal → State
start_of j = opening_of (layout_of j)

-- some legal run may have written the journal: it can be written, its numbers are in their ranges, its records are a legal history
-- from the opening of a run of these sizes, and its sights are sights of that history
pub record IsLegalJournal (j : Journal) : Type 0 where
  pub writable : IsWritableJournal j
  pub sizes : AreSizes j.tasks j.groups j.findings
  pub records : Each (IsRecordIn (layout_of j)) j.records
  pub sights : Each (IsSightIn (layout_of j)) (sights_in j.sights)
  pub legal : (end : State) × IsLegalHistory (start_of j) j.records end
  pub seen : AreSightsOf 1 (start_of j) j.records (sights_in j.sights)

-- the text is a legal journal's
abbrev pub IsLegalText : List ℕ → Type 0
IsLegalText text = (j : Journal) × IsLegalJournal j × (journal_text j ≡ text)

-- some legal journal begins with these lines
abbrev pub BeginsLegal : List (List ℕ) → Type 0
BeginsLegal lines = (j : Journal) × IsLegalJournal j × ((more : List (List ℕ)) × (journal_lines j ≡ lines ++ more))

-- the lines of a text; the last of them, which no line feed ends, is empty where a line feed ends the text
abbrev pub lines_of : List ℕ → List (List ℕ)
lines_of text = cut_at line_feed text

-- the first line, counted from 1, up to which the text begins no legal journal. Where all the ended lines begin one, and the text is
-- none, it ends too early, and the line behind them is named, whether it is there or missing
pub record IsFirstBadLine (text : List ℕ) (n : ℕ) : Type 0 where
  pub there : (1 ≤ n) × (n ≤ length (lines_of text))
  pub before : BeginsLegal (take (n - 1) (lines_of text))
  pub bad : n < length (lines_of text) → BeginsLegal (take n (lines_of text)) → ⊥
  pub short : n ≡ length (lines_of text) → IsLegalText text → ⊥

-- no text has two first bad lines, and a legal journal's has none
pub record FirstBadLines : Type 0 where
  pub one : (text : List ℕ) (m n : ℕ) → IsFirstBadLine text m → IsFirstBadLine text n → m ≡ n
  pub none : (text : List ℕ) (n : ℕ) → IsLegalText text → IsFirstBadLine text n → ⊥
