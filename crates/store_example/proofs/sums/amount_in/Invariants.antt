use Rattle.std.proofs.Common.{◌≡◌, drop}
use Rattle.serial_terms.specs.Stores.{value_in}
use Rattle.store_example.proofs.sums.amount_in.Given as goal

abbrev pub invariant-loop-pair : goal.invariant-loop-pair
invariant-loop-pair l = value_in l.accounts l.account ≡ value_in (drop l.pair-index l.accounts) l.account
