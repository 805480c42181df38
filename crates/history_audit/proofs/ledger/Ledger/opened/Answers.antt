use Rattle.std.proofs.Common.{refl}
use Rattle.history_audit.proofs.Growth.{opening_listed}
use Rattle.history_audit.proofs.ledger.Ledger.opened.Goals as goal

pub returns-clause-ledger : goal.returns-clause-ledger
returns-clause-ledger c = record {
  state = c.in_ok-opened.ensures;
  listed = opening_listed c.args.sizes.tasks c.args.sizes.groups c.args.sizes.findings;
  counts = c.new.ensures;
  last = refl;
  records = refl;
}
