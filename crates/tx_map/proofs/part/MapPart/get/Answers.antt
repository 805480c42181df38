use Rattle.tx_map.proofs.part.MapPart.get.Goals as goal

pub returns-clause-exact : goal.returns-clause-exact
returns-clause-exact g c = rw (← (c.in_ok-position.ensures.position.0)) c.in_ok-found.ensures.observes
