-- The records of the workers that a run of the program hands out.
use Rattle.std.specs.Prelude.{ℕ, List, [], get_or, Option, None, Result, Ok, Err, Vec, IsPermutation}
use Rattle.std.specs.declared.alloc.Global.{Global}
use Rattle.std.specs.List.Sorted.{IsNonDecreasing}
use Rattle.std.specs.Option.{option_map}
use Rattle.capture_generator.specs.Packets.{generated_capture}
use Rattle.capture_generator.specs.TrialRules.{trial_list}
use Rattle.capture_terms.specs.Capture.{captured, contents_of}
use Rattle.capture_terms.specs.Plan.{IsPlan}
use Rattle.capture_terms.specs.declared.capture.Capture.{Capture}
use Rattle.capture_terms.specs.declared.plan.Plan.{Plan}
use Rattle.command_words.specs.declared.command.Settings.{Settings}
use Rattle.inspect_workers.specs.Inspected.{IsRunTo}
use Rattle.inspection_terms.specs.Findings.{findings_of_capture}
use Rattle.report.specs.declared.fault.Fault.{Fault}
use Rattle.rule_terms.specs.Rule.{Rule}
use Rattle.serial_terms.specs.Entries.{Entry}
use Rattle.serial_terms.specs.Histories.{entries_of}
use Rattle.serial_terms.specs.declared.call.Done.{Done}
use Rattle.serial_terms.specs.declared.store.StoreState.{StoreState}
use Rattle.tx_store.specs.Closed.{HistoryView}
use Rattle.tdsl_tool.specs.Making.{trial_settings}
use Rattle.tdsl_tool.specs.Verdict.{IsAnswerOf, AreRules}
use Rattle.tdsl_tool.specs.declared.made.Made.{Made}

-- The records.

abbrev pub records_in : Option HistoryView → Option (List (Entry Done))
records_in history = option_map (λ h. entries_of h.records) history

abbrev pub records_of : Made → Option (List (Entry Done))
records_of made = records_in made.history

abbrev pub records_made : Result Made Fault → Option (List (Entry Done))
records_made (Ok made) = records_of made
records_made (Err fault) = None

-- a text that was made without workers
abbrev pub without_workers : Result (Vec ℕ Global) Fault → Result Made Fault
without_workers (Ok text) = Ok (record { text = text; history = None })
without_workers (Err fault) = Err fault

-- What they are.

-- The records of a run of workers over the capture that these bytes are, under these rules: one legal history of allowed records, from
-- the opening of the run's store for this capture to a state in which pool and queue are empty, and whose log has the capture's findings
pub record IsHistoryOf (settings : Settings) (rules : List Rule) (bytes : List ℕ) (records : List (Entry Done)) : Type 0 where
  pub capture : Capture
  pub says : IsAnswerOf bytes (captured (contents_of capture))
  pub plan : Plan
  pub plan_is : IsPlan bytes capture settings.window plan
  pub state : StoreState
  pub run : IsRunTo rules bytes plan settings.findings records state
  pub log : IsPermutation (get_or state.logs 0 []) (findings_of_capture rules bytes settings.window (contents_of capture))
  pub ascend : IsNonDecreasing (findings_of_capture rules bytes settings.window (contents_of capture))

-- of a capture file of these bytes under the rules of this text
abbrev pub IsHistoryUnder : Settings → List ℕ → List ℕ → List (Entry Done) → Type 0
IsHistoryUnder settings text bytes records = (rules : List Rule) × AreRules text rules × IsHistoryOf settings rules bytes records

-- of the capture that is generated from a seed with so many frames, under the rules of a trial
abbrev pub IsHistoryOfTrial : ℕ → ℕ → ℕ → List (Entry Done) → Type 0
IsHistoryOfTrial workers seed frames records = IsHistoryOf (trial_settings workers) trial_list (generated_capture seed frames) records
