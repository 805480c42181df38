use Rattle.std.proofs.Common.{arith}
use Rattle.store_example.proofs.Passing.{closes}
use Rattle.store_example.proofs.run.run.Goals as goal

pub total_of-requires : goal.total_of-requires
total_of-requires g c =
    let k = closes _ _ _ _ _ _ c.in_ok-store.ensures.store c.in-Ok.ensures c.join.ensures.of c.bank_opens_law.ensures c.in-Ok-close.ensures.closed in
    omega (arith, k.sums)

pub total_of-requires-2 : goal.total_of-requires-2
total_of-requires-2 g c =
    let k = closes _ _ _ _ _ _ c.in_ok-store.ensures.store c.in-Ok.ensures c.join.ensures.of c.bank_opens_law.ensures c.in-Ok-close.ensures.closed in
    omega (arith, k.sums)

pub receipts_total-requires : goal.receipts_total-requires
receipts_total-requires g c =
    let k = closes _ _ _ _ _ _ c.in_ok-store.ensures.store c.in-Ok.ensures c.join.ensures.of c.bank_opens_law.ensures c.in-Ok-close.ensures.closed in
    omega (arith, k.sums, k.receipts)

pub returns-clause-total : goal.returns-clause-total
returns-clause-total g c =
    let k = closes _ _ _ _ _ _ c.in_ok-store.ensures.store c.in-Ok.ensures c.join.ensures.of c.bank_opens_law.ensures c.in-Ok-close.ensures.closed in
    omega (arith, k.sums, c.total_of.ensures, c.total_of-2.ensures)

pub returns-clause-receipts : goal.returns-clause-receipts
returns-clause-receipts g c =
    let k = closes _ _ _ _ _ _ c.in_ok-store.ensures.store c.in-Ok.ensures c.join.ensures.of c.bank_opens_law.ensures c.in-Ok-close.ensures.closed in
    omega (arith, k.receipts, c.receipts_total.ensures, c.total_of-2.ensures)
