-- The commands that read no file: what a trial writes, and what holds of a run of them.
use Rattle.std.specs.Prelude.{◌≡◌, ◌⊎◌, ℕ, List}
use Rattle.capture_terms.specs.Capture.{Contents}
use Rattle.capture_generator.specs.Packets.{generated_capture}
use Rattle.capture_generator.specs.Reading.{IsReadAs}
use Rattle.capture_generator.specs.TrialRules.{trial_list}
use Rattle.command_words.specs.declared.command.Settings.{Settings}
use Rattle.tdsl_tool.specs.Inspection.{summary_of}
use Rattle.tdsl_tool.specs.Run.{Run, IsFaulty}

-- in seconds
abbrev pub trial_window : ℕ
trial_window = 30

-- the settings of a trial by so many workers
abbrev pub trial_settings : ℕ → Settings
trial_settings workers = record { findings = 1048576; window = trial_window; workers = workers }

-- the text is the summary of the capture that is generated from a seed with so many frames, under the rules of a trial
abbrev pub IsSummary : ℕ → ℕ → List ℕ → Type 0
IsSummary seed frames text =
    (contents : Contents) × IsReadAs seed frames contents
    × (text ≡ summary_of seed frames trial_list (generated_capture seed frames) trial_window contents)

-- what holds of the run of a command that reads no file beside
pub record ReadsNothing (run : Run) : Type 0 where
  -- no other status comes but those of its output, of a prefix of it, and of want of memory
  pub own : (run.status ≡ 0) ⊎ (run.status ≡ 3) ⊎ (run.status ≡ 7)
  -- no call for a file failed, since none was made
  pub no_file : (file : List ℕ) → run.files.after file ≡ run.files.before file
  -- where no call of standard output failed the output is written, unless memory was wanted
  pub complete : ¬ IsFaulty run.out → (run.status ≡ 0) ⊎ (run.status ≡ 7)
