use Rattle.std.proofs.Common.{sym, ◌∙◌}
use Rattle.cell_table.proofs.Attempts.{plan_kept}
use Rattle.cell_table.proofs.entry.drop_plan.Goals as goal

pub returns-then-not-is_empty : goal.returns-then-not-is_empty
returns-then-not-is_empty g c = plan_kept c.args.held.now _ (sym c.is_empty.ensures ∙ c.if-not-is_empty.true)
