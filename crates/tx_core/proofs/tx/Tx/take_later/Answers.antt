use Rattle.std.proofs.Common.{ap, sym}
use Rattle.tx_core.specs.Tx.{Attempt}
use Rattle.tx_core.specs.Facts.{goes_none, grew_none}
use Rattle.tx_core.proofs.Calling.{steps_by}
use Rattle.tx_core.proofs.Providing.{provided_adds, two_after, two_same, marked_after}
use Rattle.tx_core.proofs.tx.Tx.take_later.Goals as goal

pub invariant_of-self : goal.invariant_of-self
invariant_of-self g c =
    let a = c.self.invariant.1 in
    (c.self.invariant.0, provided_adds _ _ _ _ _ c.take_later.new.self _ _ _ a a.spare_locks a.spare_observations a.spare_writes a.few a.room (λ before. two_after _ _ _ c.args.part c.take_later.result (a.twice before) c.take_later.ensures) (λ before. two_same _ _ _ (a.marked before) (marked_after _ _ c.args.part c.take_later.result c.take_later.ensures)), c.self.invariant.2)

pub returns-clause-does : goal.returns-clause-does
returns-clause-does g c =
    steps_by _ _ _ _ (ap (λ (a : Attempt _ _). a.version) c.self.view_is) (ap (λ (a : Attempt _ _). a.observations) c.self.view_is) (ap (λ (a : Attempt _ _). a.writes) c.self.view_is) (ap (λ (a : Attempt _ _). a.pass.view.held) c.self.view_is)
    (rw (ap (λ (a : Attempt _ _). a.pass) (sym c.self.view_is)) (goes_none _)) (rw (ap (λ (a : Attempt _ _). a.pass) (sym c.self.view_is)) (grew_none _))
