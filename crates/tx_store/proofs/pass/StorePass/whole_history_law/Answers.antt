use Rattle.std.proofs.Common.{ap, sym, ◌∙◌, subst}
use Rattle.cell_table.specs.Pass.{PassState, IsSole}
use Rattle.serial_terms.specs.Renaming.{NamedDone}
use Rattle.tx_store.specs.Known.{KnowsWholeHistory}
use Rattle.tx_store.specs.Stores.{PassView, StoreView}
use Rattle.tx_store.proofs.Knowing.{as_seen}
use Rattle.tx_store.proofs.pass.StorePass.whole_history_law.Goals as goal

pub returns : goal.returns
returns g c = let pass = ap (λ (p : PassView _). p.pass) c.self.view_is in
    as_seen (KnowsWholeHistory g.P.Purpose.lawful_state g.P.Purpose.allowed) c.meaning.result.now c.args.store.now.table.meaning c.self.inside.pass c.args.self.now.pass
    (c.meaning.ensures ∙ ap (λ (s : StoreView _). s.table.meaning) c.store.view_is) pass c.requires.of.cells.1
    (λ is. c.whole_history_law.ensures is (subst (λ (p : PassState _ NamedDone). IsSole p) (sym pass) c.requires.sole))
