use Rattle.store_bodies.proofs.Banks.{opens}
use Rattle.store_bodies.proofs.bank.bank_opens_law.Goals as goal

pub returns : goal.returns
returns c = opens
