use Rattle.tdsl_tool.specs.Run.{ending_of}
use Rattle.tdsl_tool.proofs.Asked.{ran_by}
use Rattle.tdsl_tool.proofs.run.run_with.Goals as goal

pub returns-clause-ran : goal.returns-clause-ran
returns-clause-ran g c =
    ran_by c.one_verdict.ensures.files c.one_verdict.ensures.rules c.some_answer_of.ensures c.first_bad_lines_law.ensures _ _ _ c.output_of-made.result (ending_of c.put-history.result.0)
    c.command_of.ensures.asked c.output_of-made.ensures.output c.output_of-made.ensures.history
    c.output_of-made.ensures.stops c.put-history.ensures.put c.put-history.ensures.history c.output_of-made.ensures.alone c.finish.ensures.status c.finish.ensures.tells
