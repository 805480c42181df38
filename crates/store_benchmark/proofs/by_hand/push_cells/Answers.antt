use Rattle.std.proofs.Common.{[], ◌∷◌}
use Rattle.std.proofs.lemmas.Result.{err_from_is_err_and}
use Rattle.store_benchmark.proofs.Asking.{asked_then, stopped_after, asks_then}
use Rattle.store_benchmark.proofs.by_hand.push_cells.Goals as goal

pub returns-in_err-write_cell : goal.returns-in_err-write_cell
returns-in_err-write_cell c =
    let p = err_from_is_err_and c.from_residual-in_err-write_cell.result c.from_residual-in_err-write_cell.ensures.1 in
    rw (p.1, p.2) (stopped_after c.args.tx.now c.read_cell.new.tx c.write_cell.new.tx _ _ c.in_ok-read_cell.ensures c.in_err-write_cell.ensures)

pub returns : goal.returns
returns c = asks_then c.args.tx.now c.write_cell.new.tx c.write_cell-2.new.tx (_ ∷ _ ∷ []) (λ x. _ ∷ []) c.write_cell-2.result (asked_then c.args.tx.now c.read_cell.new.tx c.write_cell.new.tx (_ ∷ []) (_ ∷ []) c.in_ok-read_cell.ensures c.in_ok-write_cell.ensures) c.write_cell-2.ensures
