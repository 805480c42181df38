use Rattle.std.proofs.Common.{◌≡◌, ◌<◌, length, ap, arith, rules}
use Rattle.tx_core.specs.Tx.{Attempt}
use Rattle.tx_map.proofs.Committing.{holds_one}
use Rattle.tx_map.proofs.tests.commit.Goals as goal

pub draw_and_check-requires-clause-holds : goal.draw_and_check-requires-clause-holds
draw_and_check-requires-clause-holds g c =
    let some : 0 < length c.args.tx.writes = search rules in
    let same : length c.lock_writes.new.self.writes ≡ length c.args.tx.writes = ap (λ (a : Attempt _ _). length a.writes) c.in-Ok.ensures.same in
    holds_one c.lock_writes.new.self.writes _ (omega arith) c.in-Ok.ensures.all_held
