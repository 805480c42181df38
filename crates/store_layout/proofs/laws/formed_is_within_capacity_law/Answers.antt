use Rattle.store_layout.specs.Within.{formed_is_within_capacity}
use Rattle.store_layout.proofs.laws.formed_is_within_capacity_law.Goals as goal

pub returns : goal.returns
returns c = formed_is_within_capacity
