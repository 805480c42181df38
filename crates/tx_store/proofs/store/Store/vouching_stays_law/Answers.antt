use Rattle.tx_store.proofs.Vouching.{vouching_stays}
use Rattle.tx_store.proofs.store.Store.vouching_stays_law.Goals as goal

pub returns : goal.returns
returns g c = vouching_stays g.P.Purpose.lawful_state c.args.self.now.table.meaning
