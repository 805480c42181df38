use Rattle.std.proofs.Common.{ℕ, arith}
use Rattle.std.proofs.lemmas.List.Sums.{sum_by_more, sum_by_more_le}
use Rattle.tx_log.specs.Log.{values_in}
use Rattle.transfer_example.specs.declared.bank.TheConstants.{RECEIPTS}
use Rattle.transfer_example.proofs.Totals.{receipt_at}
use Rattle.transfer_example.proofs.run.receipts_total.Goals as goal

pub overflow_add-total : goal.overflow_add-total
overflow_add-total c =
    let cells = c.args.contents.now.values in
    let here = receipt_at cells c.loop-i.i c.requires.log (omega arith) in
    let most = sum_by_more_le (λ (z : ℕ). z) (values_in RECEIPTS cells) c.loop-i.i 0 here.0 in
    omega (arith, most, here.1, c.loop-i.invariant, c.value-amount.ensures, c.requires.small)

pub loop-i-preserved : goal.loop-i-preserved
loop-i-preserved c =
    let cells = c.args.contents.now.values in
    let here = receipt_at cells c.loop-i.i c.requires.log (omega arith) in
    let more = sum_by_more (λ (z : ℕ). z) (values_in RECEIPTS cells) c.loop-i.i 0 here.0 in
    omega (arith, more, here.1, c.loop-i.invariant, c.value-amount.ensures)
