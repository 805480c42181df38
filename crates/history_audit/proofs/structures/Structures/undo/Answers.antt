use Rattle.std.proofs.Common.{◌∙◌, List, ap, sym}
use Rattle.history_audit.specs.declared.structures.Change.{Change}
use Rattle.history_audit.specs.Structures.{state_of, undone}
use Rattle.history_audit.proofs.Running.{undone_more}
use Rattle.history_audit.proofs.structures.Structures.undo.Goals as goal

pub loop-change-preserved : goal.loop-change-preserved
loop-change-preserved c =
    ap (undone c.pop.new.self.items) c.in_ok-take_back.ensures
    ∙ (sym (undone_more c.pop.new.self.items c.in-Some.change (state_of c.loop-change.self))
    ∙ (ap (λ (cs : List Change). undone cs (state_of c.loop-change.self)) (sym c.in-Some.ensures.items) ∙ c.loop-change.invariant))
