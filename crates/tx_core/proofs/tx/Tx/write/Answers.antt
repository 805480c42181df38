use Rattle.std.proofs.Common.{refl, ap, inl}
use Rattle.cell_table.specs.Pass.{PassState}
use Rattle.tx_core.specs.Tx.{Attempt}
use Rattle.tx_core.proofs.Calling.{touches_written, looks_blind}
use Rattle.tx_core.proofs.tx.Tx.write.Goals as goal

pub returns-in-Ok-clause-looks : goal.returns-in-Ok-clause-looks
returns-in-Ok-clause-looks g c =
    let ok = c.in-Ok.ensures.ok in
    looks_blind _ c.args.self.now c.put_write.new.self _ (ap (λ (t : Attempt _ _). t.version) ok)
    (touches_written _ c.args.self.now c.put_write.new.self c.args.cell c.args.value refl (ap (λ (t : Attempt _ _). t.observations) ok) (ap (λ (t : Attempt _ _). t.writes) ok) (ap (λ (s : PassState _ _). s.view.held) c.in-Ok.ensures.pass) (λ cells. c.laid_over_law.ensures.put cells c.args.cell c.args.value))
    c.in-Ok.ensures.pass (inl (refl, ap (λ (t : Attempt _ _). t.state) ok))
