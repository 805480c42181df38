-- What an inspection finds in a capture file, before any text of it is written.
use Rattle.std.specs.Prelude.{ℕ, List}
use Rattle.capture_terms.specs.Capture.{captured, contents_of}
use Rattle.capture_terms.specs.Plan.{IsPlan, IsPlanned}
use Rattle.command_words.specs.declared.command.Settings.{Settings}
use Rattle.inspect_workers.specs.Inspected.{IsRunTo, AreFindings, CountsIncomplete}
use Rattle.rule_terms.specs.Rule.{Rule}
use Rattle.serial_terms.specs.Histories.{entries_of}
use Rattle.tdsl_tool.specs.Verdict.{IsAnswerOf}
use Rattle.tdsl_tool.specs.declared.inspection.Inspection.{Inspection}

-- it is what the bytes of a capture file give under rules, with these settings
pub record IsInspection (settings : Settings) (rules : List Rule) (bytes : List ℕ) (it : Inspection) : Type 0 where
  pub says : IsAnswerOf bytes (captured (contents_of it.capture))
  pub plan : IsPlan bytes it.capture settings.window it.plan
  pub planned : IsPlanned bytes it.plan
  pub run : IsRunTo rules bytes it.plan settings.findings (entries_of it.outcome.history.records) it.outcome.state
  pub findings : AreFindings rules bytes it.plan settings.findings it.outcome.state it.outcome.findings.items
  pub open_groups : CountsIncomplete it.plan it.outcome.state it.outcome.incomplete
