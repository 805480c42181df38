-- How what a body leaves of its attempt goes on from call to call.
use Rattle.std.specs.Prelude.{◌+◌, ◌≤◌, List, ◌++◌, length}
use Rattle.std.proofs.Common.{ap, ◌∙◌, arith, append_assoc, length-append}
use Rattle.cell_table.specs.declared.view.Event.{Event}
use Rattle.tx_core.specs.declared.stop.Stop.{Stop}
use Rattle.tx_core.specs.Facts.{caused_earlier}
use Rattle.tx_nest.specs.Attempts.{AttemptView, IsSame, StaysInChild, IsBodyStop}
use Rattle.tx_nest.specs.Ends.{Grew}

pub grew_trans : (t u v : List Event) → Grew t u → Grew u v → Grew t v
grew_trans t u v a b = (a.0 ++ b.0, b.1 ∙ (ap (λ x. x ++ b.0) a.1 ∙ append_assoc t a.0 b.0))

pub grew_length : (t u : List Event) → Grew t u → length t ≤ length u
grew_length t u a = let e = ap length a.1 in omega (arith, length-append t a.0)

module _ {O F C K : Type 0} (a b c : AttemptView O F C K) where
  pub same_then : IsSame a b → IsSame b c → IsSame a c
  same_then p q = record { over = q.over ∙ p.over; fixed = q.fixed ∙ p.fixed; callers = q.callers ∙ p.callers; before_commit = q.before_commit }

  -- a call in the child after other calls in it
  pub stays_then : StaysInChild a b → StaysInChild b c → StaysInChild a c
  stays_then p q = record {
    same = same_then p.same q.same;
    version = q.version ∙ p.version;
    marked = q.marked ∙ p.marked;
    trail = grew_trans a.trail b.trail c.trail p.trail q.trail;
  }

  -- its stop has its cause since the body began
  pub stopped_then : (stop : Stop) → StaysInChild a b → IsBodyStop b c stop → IsBodyStop a c stop
  stopped_then stop p q = record {
    child = q.child;
    cause = caused_earlier a.callers a.version (length a.trail) (length b.trail) c.trail stop (grew_length a.trail b.trail p.trail) (rw (← p.same.callers, ← p.version) q.cause);
  }
