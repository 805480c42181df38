use Rattle.tx_map.proofs.Looking.{fills_stopped}
use Rattle.tx_map.proofs.part.MapPart.put_if_absent.Goals as goal

pub returns-in_err-there-clause-exact : goal.returns-in_err-there-clause-exact
returns-in_err-there-clause-exact g c = fills_stopped _ _ _ _ _ c.in_err-there.field-0.0 c.from_residual-in_err-there.ensures.1
    (rw (← (c.in_ok-position.ensures.position.0)) c.in_err-there.ensures.stopped)
