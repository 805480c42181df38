use Rattle.std.proofs.Common.{◌∙◌}
use Rattle.tx_store.proofs.Pairing.{paired_call, told}
use Rattle.tx_store.proofs.tx.StoreTx.queue_len.Goals as goal

pub invariant_of-self : goal.invariant_of-self
invariant_of-self g c =
    let made = c.queue_length.ensures in (
      made.keeps.table ∙ c.self.invariant.0,
      c.self.invariant.1,
      told g.P.Keys.KeyTest.passes _ _ c.plan-plan.ensures.plan c.self.inside.tx c.queue_length.new.tx made.keeps.tells c.self.invariant.2,
      paired_call c.self.inside.keys _ _ c.self.inside.tx c.queue_length.new.tx _ _ _ made.holds made.notes (λ x. tt) c.self.invariant.3,
    )
