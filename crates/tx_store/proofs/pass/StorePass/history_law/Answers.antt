use Rattle.std.proofs.Common.{ap, ◌∙◌}
use Rattle.tx_store.specs.Known.{KnowsHistory}
use Rattle.tx_store.specs.Stores.{PassView, StoreView}
use Rattle.tx_store.proofs.Knowing.{as_seen}
use Rattle.tx_store.proofs.pass.StorePass.history_law.Goals as goal

pub returns : goal.returns
returns g c = as_seen (KnowsHistory g.P.Purpose.lawful_state g.P.Purpose.allowed) c.meaning.result.now c.args.store.now.table.meaning c.self.inside.pass c.args.self.now.pass
    (c.meaning.ensures ∙ ap (λ (s : StoreView _). s.table.meaning) c.store.view_is) (ap (λ (p : PassView _). p.pass) c.self.view_is) c.requires.cells.1 c.one_history_law.ensures
