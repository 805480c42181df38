-- How the store of a run is laid out, and its runs.
use Rattle.std.specs.Prelude.{ℕ, List, length}
use Rattle.serial_terms.specs.declared.call.Done.{Done}
use Rattle.serial_terms.specs.declared.store.Layout.{Layout}
use Rattle.serial_terms.specs.Entries.{Entry, Each}
use Rattle.serial_terms.specs.Histories.{IsLegalRun}
use Rattle.serial_terms.specs.RunLayout.{layout_by}
use Rattle.serial_terms.specs.Serial.{State}
use Rattle.serial_terms.specs.Stores.{opening_of}
use Rattle.run_stages.specs.Work.{Work}
use Rattle.run_stages.specs.Allowed.{IsAllowed}

abbrev pub layout_of : Work → ℕ → Layout
layout_of w findings = layout_by (length w.tasks) w.groups findings

abbrev pub opening : Work → ℕ → State
opening w findings = opening_of (layout_of w findings)

-- the records run from the opening to the state, and each is one that a worker may commit
pub record IsRunOfWork (w : Work) (findings : ℕ) (records : List (Entry Done)) (end : State) : Type 0 where
  pub run : IsLegalRun (opening w findings) records end
  pub allowed : Each (λ e. IsAllowed w e.dones) records
