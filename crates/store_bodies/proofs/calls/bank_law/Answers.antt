use Rattle.store_bodies.proofs.Calling.{runs_from_bank}
use Rattle.store_bodies.proofs.calls.bank_law.Goals as goal

pub returns : goal.returns
returns c = runs_from_bank c.args.tx.now.store.table.meaning c.args.tx.now.attempt c.seen_law.ensures c.tells_law.ensures
