use Rattle.std.proofs.Common.{sym, ap, ◌∙◌}
use Rattle.tx_core.specs.Tx.{Attempt}
use Rattle.tx_core.proofs.Looks.{observes_of, stands_grows, each_from_places}
use Rattle.tx_core.proofs.tx.Tx.commit_reads.Goals as goal

-- each observation stands at the version, also after the cells were given back
pub add_reads-requires-clause-stands : goal.add_reads-requires-clause-stands
add_reads-requires-clause-stands g c =
    rw c.into_observations.ensures.observations (each_from_places _ _ (λ i lt.
    let s = stands_grows _ _ _ _ _ _ c.give_back_all.ensures.gives.grows ((c.self.invariant.0.observed i lt).stands (c.self.invariant.0.early (ap (λ (a : Attempt _ _). a.committing) c.self.view_is ∙ c.requires.callable.before_commit) i lt)) in
    (s.there, observes_of _ _ _ _ _ s)))

pub add_reads-requires-clause-explained : goal.add_reads-requires-clause-explained
add_reads-requires-clause-explained g c = λ m is.
    rw (c.into_observations.ensures.observations, ap (λ (a : Attempt _ _). a.observations) c.self.view_is, ap (λ (a : Attempt _ _). a.notes) c.self.view_is)
    (c.requires.explained m (ap (λ (a : Attempt _ _). a.pass.view.meaning) (sym c.self.view_is) ∙ sym c.give_back_all.ensures.gives.grows.meaning ∙ is))
