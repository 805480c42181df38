use Rattle.std.proofs.Common.{rules, subst}
use Rattle.serial_terms.specs.Renaming.{by_key, by_name}
use Rattle.tx_store.specs.Commits.{IsCommitted, IsRefused}
use Rattle.tx_store.specs.Stores.{TxView, PassView}
use Rattle.tx_store.proofs.Seeing.{store_committed, store_refused, observed_there}
use Rattle.tx_store.proofs.tx.StoreTx.commit.Goals as goal

-- what is allowed by the keys is allowed by the keys' positions
pub commit_attempt-requires-clause-placed : goal.commit_attempt-requires-clause-placed
commit_attempt-requires-clause-placed g c =
    let notes = c.self.inside.tx.notes in
    let keyed : g.P.Purpose.allowed c.self.inside.tx.table.meaning.purpose (by_key notes) = search rules in
    g.met.P.Purpose.renamed c.self.inside.tx.table.meaning.purpose (by_key notes) (by_name notes) c.self.invariant.2.named keyed

pub returns-in-Ok-clause-committed : goal.returns-in-Ok-clause-committed
returns-in-Ok-clause-committed g c =
    let v : TxView _ = record { store = c.self.inside.store.now; attempt = c.self.inside.tx; keys = c.self.inside.keys } in
    let p : PassView _ = record { pass = c.in-Ok.pass; keys = c.self.inside.keys } in
    let e = c.in-Ok.ensures.committed in
    subst (λ (w : TxView _). IsCommitted w p c.in-Ok.receipt) c.self.view_is
    (store_committed v c.in-Ok.pass c.self.invariant.0 c.self.invariant.1 c.self.invariant.3 c.plan-plan.result.now c.plan-plan.ensures.plan c.in-Ok.receipt e.0 e.1)

pub returns-in-Err-clause-refused : goal.returns-in-Err-clause-refused
returns-in-Err-clause-refused g c =
    let v : TxView _ = record { store = c.self.inside.store.now; attempt = c.self.inside.tx; keys = c.self.inside.keys } in
    let p : PassView _ = record { pass = c.in-Err.pass; keys = c.self.inside.keys } in
    let e = c.in-Err.ensures.refused in
    let tells = c.self.invariant.2 in
    subst (λ (w : TxView _). IsRefused g.P.Purpose.lawful_state w p c.in-Err.end) c.self.view_is
    (store_refused v c.in-Err.pass c.self.invariant.0 c.self.invariant.1 c.self.invariant.3 c.plan-plan.result.now c.plan-plan.ensures.plan g.P.Purpose.lawful_state c.in-Err.end e.0 e.1 tells.seen
    (observed_there c.self.inside.tx c.pass_law.ensures.of c.vouched_law.ensures.there)
    (λ i low. c.vouched_law.ensures.stands i low (c.vouched_law.ensures.early tells.early i low)) c.pass_law.ensures.known)
