use Rattle.pcapng_blocks.proofs.Chains.{right_answer}
use Rattle.pcapng_blocks.proofs.laws.some_answer_law.Goals as goal

pub returns : goal.returns
returns c = right_answer
