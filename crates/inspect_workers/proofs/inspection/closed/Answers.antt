use Rattle.std.proofs.Common.{ℕ, ◌<◌, subst}
use Rattle.inspect_workers.proofs.Ending.{finished}
use Rattle.serial_terms.specs.Histories.{entries_of}
use Rattle.inspect_workers.proofs.inspection.closed.Goals as goal

pub returns-in-Ok-clause-finished : goal.returns-in-Ok-clause-finished
returns-in-Ok-clause-finished c =
    finished c.args.run.now c.args.findings c.args.store c.requires.store c.args.pass c.requires.pass (subst (λ (n : ℕ). 0 < n) c.callers_held.ensures.count c.callers_held.ensures.some)
    (entries_of c.in-Ok.ended.0.records) c.in-Ok.ended.1 c.in-Ok.ensures.closed c.books_sum_to_history_law.ensures c.books_law.ensures
