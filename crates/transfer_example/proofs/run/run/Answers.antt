use Rattle.std.proofs.Common.{refl}
use Rattle.transfer_example.proofs.Banks.{opens_empty}
use Rattle.transfer_example.proofs.run.run.Goals as goal

pub open-requires-clause-lawful : goal.open-requires-clause-lawful
open-requires-clause-lawful g c = record { sized = refl; log = opens_empty _ refl refl; kept = refl; receipts = refl }
