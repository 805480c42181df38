-- What the records of a journal come to.
use Rattle.std.specs.Prelude.{◌≡◌, ℕ, ◌<◌, ◌≤◌, ◌^◌, Bool, true, false, List, [], ◌∷◌, ◌++◌, length}
use Rattle.std.specs.Option.{option_map}
use Rattle.serial_terms.specs.declared.call.Done.{Done}
use Rattle.serial_terms.specs.declared.store.Layout.{Layout}
use Rattle.serial_terms.specs.Entries.{Entry, by_caller}
use Rattle.serial_terms.specs.Histories.{IsLegalRun}
use Rattle.serial_terms.specs.RunLayout.{layout_by}
use Rattle.serial_terms.specs.Serial.{State}
use Rattle.journal_terms.specs.Growing.{last_of, IsNext}
use Rattle.journal_terms.specs.Legal.{IsRecordIn}
use Rattle.history_audit.specs.declared.ledger.Ledger.{Ledger}
use Rattle.history_audit.specs.declared.lines.RecordHead.{RecordHead}
use Rattle.history_audit.specs.declared.lines.Sizes.{Sizes}
use Rattle.history_audit.specs.Counts.{count_of}
use Rattle.history_audit.specs.Structures.{state_of, IsListed}

-- a record without its calls
abbrev pub as_entry : RecordHead → Entry Done
as_entry h = record { caller = h.caller; index = h.index; place = h.place; writer = h.writer; dones = [] }

abbrev pub bare : Entry Done → Entry Done
bare e = record { caller = e.caller; index = e.index; place = e.place; writer = e.writer; dones = [] }

abbrev pub layout_of : Sizes → Layout
layout_of s = layout_by s.tasks s.groups s.findings

-- these are the records that were read, and they end in this state
pub record IsLedgerOf (l : Ledger) (es : List (Entry Done)) (end : State) : Type 0 where
  pub state : state_of l.structures ≡ end
  pub listed : IsListed end
  pub counts : (k : ℕ) → k < 16 → count_of l.counts k ≡ length (by_caller k es)
  pub last : option_map as_entry l.last ≡ option_map bare (last_of es)
  pub records : l.records ≡ length es

-- there is room for one record more in the numbers
pub record HasRoom (l : Ledger) : Type 0 where
  pub listed : IsListed (state_of l.structures)
  pub records : l.records < 2 ^ 63
  pub counts : (k : ℕ) → k < 16 → count_of l.counts k ≤ l.records

-- the record stands behind the others as a legal history goes on, and it was read
pub record HasGrown (sizes : Sizes) (es : List (Entry Done)) (end : State) (e : Entry Done) (l : Ledger) : Type 0 where
  pub within : IsRecordIn (layout_of sizes) e
  pub next : IsNext (last_of es) (length (by_caller e.caller es)) e
  pub after : (u : State) × IsLegalRun end (e ∷ []) u × IsLedgerOf l (es ++ e ∷ []) u

-- whether it does
abbrev pub IsAdmitted : Bool → Sizes → List (Entry Done) → State → Entry Done → Ledger → Type 0
IsAdmitted true sizes es end e l = HasGrown sizes es end e l
IsAdmitted false sizes es end e l = IsRecordIn (layout_of sizes) e → IsNext (last_of es) (length (by_caller e.caller es)) e → (u : State) → IsLegalRun end (e ∷ []) u → ⊥
