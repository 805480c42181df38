use Rattle.std.proofs.Common.{arith, subst, sym, List, ◌+◌}
use Rattle.cell_table.specs.Seats.{AreFresh}
use Rattle.cell_table.specs.declared.entry.Ledger.{Ledger}
use Rattle.cell_table.proofs.Ledgers.{fresh_more}
use Rattle.cell_table.proofs.open.ledgers_to.Goals as goal

pub loop-caller-preserved : goal.loop-caller-preserved
loop-caller-preserved g c = (
  subst (λ (z : List (Ledger g.row.D.Denot)). AreFresh 0 (c.loop-caller.caller + 1) z) (sym c.in_ok-push.ensures.items) (fresh_more 0 c.loop-caller.caller c.loop-caller.ledgers.items _ c.loop-caller.invariant.0 (omega arith) c.new-entries.ensures.items c.new-entries.ensures.capacity),
  (let a = c.in_ok-push.ensures.capacity in let b = c.loop-caller.invariant.1 in omega arith),
)
