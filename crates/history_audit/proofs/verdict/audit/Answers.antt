use Rattle.history_audit.proofs.Auditing.{says_yes, says_no}
use Rattle.history_audit.proofs.verdict.audit.Goals as goal

pub returns-clause-yes : goal.returns-clause-yes
returns-clause-yes c = says_yes c.first_bad_lines_law.ensures c.one_text_one_journal_law.ensures c.args.text.now c.in_ok-verdict.verdict c.in_ok-verdict.ensures

pub returns-clause-no : goal.returns-clause-no
returns-clause-no c = says_no c.first_bad_lines_law.ensures c.args.text.now c.in_ok-verdict.verdict c.in_ok-verdict.ensures
