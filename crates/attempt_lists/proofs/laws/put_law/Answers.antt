use Rattle.attempt_lists.specs.Laid.{word_at-put}
use Rattle.attempt_lists.proofs.laws.put_law.Goals as goal

pub returns : goal.returns
returns c = word_at-put
