use Rattle.tx_core.specs.Words.{length_after}
use Rattle.tx_core.specs.SequenceFacts.{after_other}
use Rattle.tx_log.proofs.Logs.{same_log}
use Rattle.tx_log.proofs.part.LogPart.keeps_apart_law.Goals as goal

pub returns : goal.returns
returns c = λ cells writes others log. same_log c.args.self.now cells _ (length_after writes cells) (λ k of. after_other cells writes k (others k of)) log
