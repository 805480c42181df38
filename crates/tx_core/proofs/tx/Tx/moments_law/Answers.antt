use Rattle.std.proofs.Common.{ap, sym}
use Rattle.tx_core.specs.Tx.{Attempt}
use Rattle.tx_core.proofs.tx.Tx.moments_law.Goals as goal

pub returns : goal.returns
returns g c = rw (ap (λ (a : Attempt _ _). a.pass) (sym c.self.view_is)) c.moments_law.ensures
