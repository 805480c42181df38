use Rattle.run_stages.proofs.Wrong.{wrong_records}
use Rattle.run_stages.proofs.laws.wrong_records_law.Goals as goal

pub returns : goal.returns
returns c = wrong_records
