use Rattle.std.proofs.Common.{◌≡◌, length}
use Rattle.cell_table.specs.Steps.{IsIdle}
use Rattle.cell_table.specs.Pass.{IsPassOf}
use Rattle.transfer_example.specs.Attempts.{KeepsKeys}
use Rattle.transfer_example.proofs.run.settle.Given as goal

abbrev pub invariant-loop : goal.invariant-loop
invariant-loop l = IsPassOf l.table l.pass × IsIdle l.pass.view × (length l.pass.books ≡ length l.fn.pass.books) × (l.pass.room ≡ l.fn.pass.room) × KeepsKeys l.fn.keys l.keys
