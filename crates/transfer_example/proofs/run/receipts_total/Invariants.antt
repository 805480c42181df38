use Rattle.std.proofs.Common.{◌≡◌, sum, take}
use Rattle.tx_log.specs.Log.{values_in}
use Rattle.transfer_example.specs.declared.bank.TheConstants.{RECEIPTS}
use Rattle.transfer_example.proofs.run.receipts_total.Given as goal

abbrev pub invariant-loop-i : goal.invariant-loop-i
invariant-loop-i l = l.total ≡ sum (take l.i (values_in RECEIPTS l.contents.values))
