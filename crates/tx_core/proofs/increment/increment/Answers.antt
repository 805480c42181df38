use Rattle.std.proofs.Common.{◌≡◌, ◌+◌, ◌∷◌, [], true, slice_index, ap, ◌∙◌, arith}
use Rattle.cell_table.specs.Pass.{PassState, note}
use Rattle.tx_core.specs.Stored.{cells_left}
use Rattle.tx_core.proofs.Increments.{one_write}
use Rattle.tx_core.proofs.increment.increment.Goals as goal

-- the record writes one more than the cell had, above all that was seen
pub returns-in-Ok-add_one-clause-sum : goal.returns-in-Ok-add_one-clause-sum
returns-in-Ok-add_one-clause-sum c =
    let begun = c.in-Ok.ensures.pass in
    let done = c.commit_alone.ensures.books in
    let opening = c.commit_alone.ensures.grows.opening ∙ c.add_one.ensures.grows.opening ∙ ap (λ (s : PassState _ _). s.view.opening) begun in
    let books = ap (λ (s : PassState _ _). s.books) begun in
    let same : cells_left c.in-Ok.tx.pass ≡ cells_left c.args.pass = ap cells_left begun in
    one_write c.args.pass c.commit_alone.result done.0 _ c.args.cell (slice_index (cells_left c.args.pass) c.args.cell + 1) opening (done.2 ∙ ap (λ bs. note done.0 true (record { observations = c.add_one.new.tx.observations; writes = c.add_one.new.tx.writes; dones = c.add_one.new.tx.notes }) bs) (c.add_one.ensures.same.2 ∙ books))
    (omega (arith, done.1, c.add_one.ensures.same.1, c.in-Ok.ensures.version.1)) (rw c.legal_law.ensures.books c.legal_law.ensures.acting) c.legal_law.ensures.places
    (c.in-Ok-add_one.ensures.wrote ∙ ap (λ (cells : _). (c.args.cell, slice_index cells c.args.cell + 1) ∷ []) same)
