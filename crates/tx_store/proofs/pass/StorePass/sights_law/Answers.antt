use Rattle.std.proofs.Common.{refl, ap}
use Rattle.tx_store.specs.Stores.{PassView}
use Rattle.tx_store.proofs.Knowing.{as_seen}
use Rattle.tx_store.proofs.Sighting.{HasMoments, sees_state}
use Rattle.tx_store.proofs.pass.StorePass.sights_law.Goals as goal

pub returns : goal.returns
returns g c = λ seen vouched.
    let meaning = c.args._store.now.table.meaning in
    let moments = as_seen (HasMoments g.P.Purpose.lawful_state) meaning meaning c.self.inside.pass c.args.self.now.pass refl (ap (λ (p : PassView _). p.pass) c.self.view_is) c.requires.cells.1
    (c.one_moment_law.ensures meaning) in
    sees_state g.P.Purpose.lawful_state meaning c.args.self.now.pass moments c.args.self.now.keys.claims seen vouched
