use Rattle.std.proofs.Common.{IfOk, subst}
use Rattle.store_bodies.specs.Moves.{calls_of, WasThere}
use Rattle.store_bodies.proofs.Banks.{keeps}
use Rattle.store_bodies.proofs.Calling.{ran}
use Rattle.store_bodies.proofs.carry_out.CarryOutBodyBank.body.Goals as goal

pub returns-clause-ok : goal.returns-clause-ok
returns-clause-ok c =
    ran c.args.tx.now c.carry_out.new.tx calls_of c.carry_out.result (λ out is. keeps out (subst (λ r. IfOk r WasThere) is c.carry_out.ensures.there)) c.requires.fresh c.carry_out.ensures.acts
