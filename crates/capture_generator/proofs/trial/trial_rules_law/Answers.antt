use Rattle.capture_generator.proofs.TrialRead.{trial_is_read}
use Rattle.capture_generator.proofs.trial.trial_rules_law.Goals as goal

pub returns : goal.returns
returns c = trial_is_read c.lines_read_as_written.ensures
