use Rattle.run_stages.proofs.Ending.{fits_log}
use Rattle.run_stages.proofs.laws.finished_fits_log_law.Goals as goal

pub returns : goal.returns
returns c = fits_log c.records_keep_sizes_law.ensures c.capacities_stay_law.ensures c.runs_end_lawful_law.ensures c.finished_finds_all_law.ensures
