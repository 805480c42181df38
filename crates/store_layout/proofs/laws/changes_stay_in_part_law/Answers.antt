use Rattle.store_layout.proofs.Frames.{changes_stay_in_part}
use Rattle.store_layout.proofs.laws.changes_stay_in_part_law.Goals as goal

pub returns : goal.returns
returns c = changes_stay_in_part
