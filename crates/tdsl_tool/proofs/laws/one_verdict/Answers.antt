use Rattle.tdsl_tool.proofs.OneVerdict.{answer_is_one, rule_file_is_one, verdict_is_one}
use Rattle.tdsl_tool.proofs.laws.one_verdict.Goals as goal

pub returns-clause-answer : goal.returns-clause-answer
returns-clause-answer c = answer_is_one c.one_answer.ensures c.one_answer_law.ensures

pub returns-clause-rules : goal.returns-clause-rules
returns-clause-rules c = rule_file_is_one c.text_has_one_reading.ensures

pub returns-clause-files : goal.returns-clause-files
returns-clause-files c = verdict_is_one c.text_has_one_reading.ensures c.one_answer.ensures c.one_answer_law.ensures
