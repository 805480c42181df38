use Rattle.std.proofs.Common.{[], ◌∷◌}
use Rattle.std.proofs.lemmas.Result.{err_from_is_err_and}
use Rattle.store_benchmark.proofs.Asking.{asked_then, stopped_after, asks_then}
use Rattle.store_benchmark.proofs.by_hand.pop_cells.Goals as goal

pub returns-in_err-read_cell-2 : goal.returns-in_err-read_cell-2
returns-in_err-read_cell-2 c =
    let p = err_from_is_err_and c.from_residual-in_err-read_cell-2.result c.from_residual-in_err-read_cell-2.ensures.1 in
    rw (p.1, p.2) (stopped_after c.args.tx.now c.read_cell.new.tx c.read_cell-2.new.tx _ _ c.in_ok-read_cell.ensures c.in_err-read_cell-2.ensures)

pub returns : goal.returns
returns c = asks_then c.args.tx.now c.read_cell-2.new.tx c.write_cell.new.tx (_ ∷ _ ∷ []) (λ x. _ ∷ []) c.write_cell.result (asked_then c.args.tx.now c.read_cell.new.tx c.read_cell-2.new.tx (_ ∷ []) (_ ∷ []) c.in_ok-read_cell.ensures c.in_ok-read_cell-2.ensures) c.write_cell.ensures
