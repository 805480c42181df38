use Rattle.std.proofs.Common.{◌≡◌}
use Rattle.tx_core.specs.declared.stop.TxState.TheVariants.{Running}
use Rattle.tx_nest.specs.Attempts.{GoesOn}
use Rattle.tx_nest.specs.Ends.{ChildrenEnded}
use Rattle.tx_nest.proofs.tries.nested.Given as goal

abbrev pub invariant-loop-tried : goal.invariant-loop-tried
invariant-loop-tried g l =
    let old = g.A.Attempt.view l.initial.tx in
    let new = g.A.Attempt.view l.tx in
    record {
      goes_on : GoesOn old new;
      grows : g.A.Attempt.grows l.initial.tx l.tx;
      state : new.state ≡ Running;
      content : new.content ≡ old.content;
      alone : g.A.Attempt.sole l.initial.tx → l.tried ≡ 0;
      can_run : g.B.ChildBody.can_run l.body old.over old.calls old.pending;
      same_relation : (added : _) (out : _) → g.B.ChildBody.runs l.body added out → g.B.ChildBody.runs l.initial.body added out;
      ended : ChildrenEnded old.callers l.tried old.version old.trail l.last new.version new.trail;
    }
