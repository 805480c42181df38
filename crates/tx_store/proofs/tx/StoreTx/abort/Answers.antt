use Rattle.serial_terms.specs.declared.sight.SightEnd.TheVariants.{Aborted}
use Rattle.std.proofs.Common.{subst}
use Rattle.tx_store.specs.Commits.{SeesCalls}
use Rattle.tx_store.specs.Stores.{TxView, PassView}
use Rattle.tx_store.proofs.Seeing.{sees_at_version, observed_there}
use Rattle.tx_store.proofs.tx.StoreTx.abort.Goals as goal

pub returns-clause-sees : goal.returns-clause-sees
returns-clause-sees g c =
    let v : TxView _ = record { store = c.self.inside.store.now; attempt = c.self.inside.tx; keys = c.self.inside.keys } in
    let p : PassView _ = record { pass = c.abort.result; keys = c.self.inside.keys } in
    let tells = c.self.invariant.2 in
    subst (λ (w : TxView _). SeesCalls g.P.Purpose.lawful_state w p w.attempt.version Aborted) c.self.view_is
    (sees_at_version g.P.Purpose.lawful_state v p c.self.invariant.3.notes c.abort.ensures.grows tells.seen
    (observed_there c.self.inside.tx c.pass_law.ensures.of c.vouched_law.ensures.there)
    (λ i low. c.vouched_law.ensures.stands i low (c.vouched_law.ensures.early tells.early i low)) c.pass_law.ensures.known Aborted (λ s. tt))
