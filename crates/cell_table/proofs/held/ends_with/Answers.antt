use Rattle.std.proofs.Common.{◌≡◌, ◌-◌, ◌<◌, false, length, slice_index_or, arith}
use Rattle.std.proofs.lemmas.Bool.Decides.{nat_tests}
use Rattle.cell_table.specs.declared.entry.HeldCell.{HeldCell}
use Rattle.cell_table.proofs.HeldList.{point_last}
use Rattle.cell_table.proofs.held.ends_with.Goals as goal

pub returns : goal.returns
returns c = λ is.
    let none : HeldCell = record { cell = 0; version = 0; stored = false } in
    let some : 0 < length c.args.held.now = grind (arith, nat_tests, c.is_empty.ensures, c.if-is_empty.false) in
    let same : (slice_index_or c.args.held.now (length c.args.held.now - 1) none).cell ≡ c.args.cell = grind (arith, nat_tests, is) in
    (some, point_last c.args.cell c.args.held.now none c.requires some same)
