use Rattle.run_purpose.proofs.Finishing.{finished}
use Rattle.run_purpose.proofs.laws.finished_runs_find_all_law.Goals as goal

pub returns : goal.returns
returns c = finished c.tasks_have_facts_law.ensures c.plans_are_work_law.ensures c.fills_are_counted_law.ensures c.runs_end_lawful_law.ensures c.finished_finds_capture_law.ensures c.findings_fit_log_law.ensures c.keys_are_incomplete_law.ensures
