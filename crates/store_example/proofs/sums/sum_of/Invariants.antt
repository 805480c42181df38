use Rattle.std.proofs.Common.{◌≡◌, sum, take}
use Rattle.store_example.proofs.sums.sum_of.Given as goal

abbrev pub invariant-loop-amount : goal.invariant-loop-amount
invariant-loop-amount l = l.sum ≡ sum (take l.amount-index l.amounts)
