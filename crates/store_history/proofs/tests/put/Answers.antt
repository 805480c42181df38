use Rattle.std.proofs.Common.{◌≡◌, ◌≤◌, Some, sym, ap, ◌∙◌, subst}
use Rattle.cell_table.specs.Pass.{PassState}
use Rattle.cell_table.specs.Sorted.{Each}
use Rattle.store_history.specs.Plain.{is_put}
use Rattle.store_history.specs.declared.tests.LimitedCell.{LimitedCell}
use Rattle.store_history.proofs.tests.put.Goals as goal

pub plan-requires-clause-drawn : goal.plan-requires-clause-drawn
plan-requires-clause-drawn c = (
  c.draw.result,
  ap (λ (p : PassState LimitedCell _). p.view.stage) c.draw.ensures.view,
  record {
    explained = λ m is. let one : Some c.args.table.now.meaning ≡ Some m = sym c.draw.ensures.of.1 ∙ is in let same : c.args.table.now.meaning ≡ m = cc in
        is_put m.limit c.args.value c.args.observations.items c.args.writes.items c.args.dones.items (subst (λ (z : LimitedCell). c.args.value ≤ z.limit) same c.requires.limit) c.requires.plan.0 c.requires.plan.1 c.requires.plan.2;
    observed = subst (Each _) (sym c.requires.plan.0) tt;
  },
)
