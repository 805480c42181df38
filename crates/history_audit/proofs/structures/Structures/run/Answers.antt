use Rattle.std.proofs.Common.{◌∙◌, List, refl, ap}
use Rattle.history_audit.specs.declared.structures.Change.{Change}
use Rattle.history_audit.specs.Structures.{state_of, undone}
use Rattle.history_audit.proofs.Running.{one_more, undone_more}
use Rattle.history_audit.proofs.structures.Structures.run.Goals as goal

pub loop-done-preserved : goal.loop-done-preserved
loop-done-preserved c =
    let on = one_more c.pools_are_counts.ensures (state_of c.args.self.now) (state_of c.loop-done.self) (state_of c.step.new.self) c.args.dones.now c.loop-done.done-index _
    c.loop-done-test.true c.loop-done.invariant.way c.loop-done.invariant.about c.loop-done.invariant.listed (c.if-not-allows.ensures.0 refl) c.in_ok-change.ensures.after in
    record {
      way = on.way;
      back = ap (λ (cs : List Change). undone cs (state_of c.step.new.self)) c.in_ok-push.ensures.items
          ∙ (undone_more c.loop-done.changes.items c.in_ok-change.change (state_of c.step.new.self)
          ∙ (ap (undone c.loop-done.changes.items) c.in_ok-change.ensures.back ∙ c.loop-done.invariant.back));
      about = on.about;
      listed = on.listed;
    }
