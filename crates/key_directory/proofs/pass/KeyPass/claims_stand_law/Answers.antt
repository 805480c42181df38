use Rattle.key_directory.proofs.Claims.{one_to_one}
use Rattle.key_directory.proofs.Positions.{positions}
use Rattle.key_directory.proofs.pass.KeyPass.claims_stand_law.Goals as goal

pub returns-clause-claims : goal.returns-clause-claims
returns-clause-claims g c = rw (← c.self.view_is) (one_to_one g.K.KeyTest.passes _ c.self.invariant.knows)

pub returns-clause-positions : goal.returns-clause-positions
returns-clause-positions g c = rw (← c.self.view_is) (positions g.K.KeyTest.passes _ c.self.invariant.knows)
