-- Two worked runs of one worker: a whole frame, and a datagram of two fragments of which the last one comes first.
use Rattle.std.specs.Prelude.{◌≡◌, ℕ, true, false, List, [], ◌∷◌, Some, None}
use Rattle.serial_terms.specs.declared.call.Done.{Done}
use Rattle.serial_terms.specs.Entries.{Entry, Each}
use Rattle.serial_terms.specs.Histories.{IsLegalHistory}
use Rattle.serial_terms.specs.Serial.{State}
use Rattle.serial_terms.specs.Worked.{one_frame_records, two_fragments_records}
use Rattle.run_stages.specs.Work.{Work, TaskFacts, IsSoundWork}
use Rattle.run_stages.specs.Allowed.{IsAllowed}
use Rattle.run_stages.specs.Stages.{IsLawful}
use Rattle.run_stages.specs.Opening.{opening}
use Rattle.run_stages.specs.Ends.{IsFinished}

-- one whole frame, in which rule 0 finds its first pattern at place 8
abbrev pub whole_task : TaskFacts
whole_task = record { group = None; start = 0; size = 0; last = false }

abbrev pub one_frame : Work
one_frame = record { tasks = whole_task ∷ []; groups = 0; task_values = λ i. 8 ∷ []; group_values = λ h. [] }

-- task 0 is the last fragment, of the bytes 8 to 11, and task 1 the first, of the bytes 0 to 7; rule 0 finds its first
-- pattern at place 6
abbrev pub two_fragments : Work
two_fragments = record {
  tasks = record { group = Some 0; start = 8; size = 4; last = true } ∷ record { group = Some 0; start = 0; size = 8; last = false } ∷ [];
  groups = 1;
  task_values = λ i. [];
  group_values = λ h. 6 ∷ [];
}

-- the records are a legal history of allowed records from the opening to a finished lawful state
pub record IsWholeRun (w : Work) (findings : ℕ) (records : List (Entry Done)) : Type 0 where
  pub sound : IsSoundWork w
  pub end : State
  pub history : IsLegalHistory (opening w findings) records end
  pub allowed : Each (λ e. IsAllowed w e.dones) records
  pub lawful : IsLawful w end
  pub finished : IsFinished w end

pub record WorkedRuns : Type 0 where
  pub frame : IsWholeRun one_frame 65536 one_frame_records
  pub frame_found : (frame.end.logs 0).items ≡ 8 ∷ []
  pub fragments : IsWholeRun two_fragments 65536 two_fragments_records
  pub fragments_found : (fragments.end.logs 0).items ≡ 6 ∷ []
