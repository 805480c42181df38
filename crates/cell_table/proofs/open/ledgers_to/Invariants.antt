use Rattle.std.proofs.Common.{◌≤◌, vec_capacity}
use Rattle.cell_table.specs.Seats.{AreFresh}
use Rattle.cell_table.proofs.open.ledgers_to.Given as goal

abbrev pub invariant-loop-caller : goal.invariant-loop-caller
invariant-loop-caller g l = AreFresh 0 l.caller l.ledgers.items × (l.callers ≤ vec_capacity l.ledgers)
