use Rattle.tdsl_tool.proofs.OneVerdict.{some_of}
use Rattle.tdsl_tool.proofs.laws.some_answer_of.Goals as goal

pub returns : goal.returns
returns c = some_of c.some_answer.ensures c.some_answer_law.ensures
