use Rattle.run_stages.proofs.Batches.{batches_run}
use Rattle.run_stages.proofs.laws.batches_run_law.Goals as goal

pub returns : goal.returns
returns c = batches_run c.capacities_stay_law.ensures c.records_run_in_parts_law.ensures c.one_book_is_a_history_law.ensures c.runs_end_lawful_law.ensures
