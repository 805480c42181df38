use Rattle.std.proofs.Common.{[], ◌∷◌}
use Rattle.store_bodies.proofs.Banks.{keeps_order}
use Rattle.store_bodies.proofs.Calling.{ran}
use Rattle.store_bodies.proofs.place_order.PlaceOrderBodyBank.body.Goals as goal

pub returns-clause-ok : goal.returns-clause-ok
returns-clause-ok c = ran c.args.tx.now c.add_order.new.tx (λ x. _ ∷ []) c.add_order.result (λ out is. keeps_order c.args.self.now.order) c.requires.fresh c.add_order.ensures
