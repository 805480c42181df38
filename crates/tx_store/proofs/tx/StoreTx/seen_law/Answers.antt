use Rattle.std.proofs.Common.{Some, refl, ap, ◌∙◌, subst}
use Rattle.tx_store.specs.Known.{KnowsHistory}
use Rattle.tx_store.specs.Sees.{SeesHistory}
use Rattle.tx_store.specs.Stores.{StoreView, TxView}
use Rattle.tx_store.proofs.Knowing.{as_seen}
use Rattle.tx_store.proofs.OpenSees.{sees}
use Rattle.tx_store.proofs.tx.StoreTx.seen_law.Goals as goal

pub returns : goal.returns
returns g c =
    let lawful = g.P.Purpose.lawful_state in
    let allowed = g.P.Purpose.allowed in
    let tells = c.self.invariant.2 in
    let of = c.pass_law.ensures.of in
    let knows = as_seen (KnowsHistory lawful allowed) c.meaning.result.now c.self.inside.store.now.table.meaning c.self.inside.tx.pass c.self.inside.tx.pass
    (c.meaning.ensures ∙ ap (λ (s : StoreView _). s.table.meaning) c.store.view_is) refl (of.1 ∙ ap (λ t. Some t.meaning) c.self.invariant.0)
    (λ is. c.fitting_history_law.ensures c.self.inside.tx.pass c.legal_law.ensures (c.moments_law.ensures c.legal_law.ensures.legal) is) in
    subst (λ (t : TxView _). SeesHistory lawful allowed t.store.table.meaning t.attempt) c.self.view_is
    (sees lawful allowed c.self.inside.store.now.table.meaning c.self.inside.tx knows c.pass_law.ensures.known of.2 c.vouched_law.ensures.there
    (λ i low. c.vouched_law.ensures.stands i low (c.vouched_law.ensures.early tells.early i low)) tells.seen)
