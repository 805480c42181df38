use Rattle.pcapng_blocks.proofs.Chains.{same_answer}
use Rattle.pcapng_blocks.proofs.laws.one_answer_law.Goals as goal

pub returns : goal.returns
returns c = same_answer
