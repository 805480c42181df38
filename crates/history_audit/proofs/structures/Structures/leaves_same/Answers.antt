use Rattle.std.proofs.Common.{◌∙◌, ap}
use Rattle.history_audit.specs.Structures.{state_of, now_at}
use Rattle.history_audit.specs.declared.structures.Change.{Change}
use Rattle.std.proofs.Common.{List, map}
use Rattle.history_audit.proofs.Again.{test_again}
use Rattle.history_audit.proofs.structures.Structures.leaves_same.Goals as goal

pub returns : goal.returns
returns c = test_again c.undo.new.self c.args.self.now c.args.changes.items _ _ _ _ _ c.in_ok-same.same
    c.in_ok-undo.ensures
    (c.as_slice-2.ensures.value ∙ (c.in_ok-noted.ensures ∙ ap (λ (cs : List Change). map (now_at (state_of c.args.self.now)) cs) c.as_slice.ensures.value))
    (c.as_slice-3.ensures.value ∙ c.in_ok-queue.ensures)
    c.log_len-log.ensures c.held-held.ensures c.cell-cell.ensures
    c.in_ok-same.ensures
