use Rattle.std.proofs.Common.{ap, sym, ◌∙◌}
use Rattle.attempt_lists.specs.Cells.{word_at}
use Rattle.tx_core.specs.Tx.{Attempt}
use Rattle.tx_core.specs.Causes.{begun_of}
use Rattle.tx_core.proofs.Calling.{steps_late}
use Rattle.tx_core.proofs.tx.Tx.late_hold.Goals as goal

pub returns-in-Ok-clause-leaves : goal.returns-in-Ok-clause-leaves
returns-in-Ok-clause-leaves g c =
    let e = c.in-Ok.ensures in
    let view = c.self.view_is in
    record {
      ends = e.state ∙ ap (λ (a : Attempt _ _). a.state) view;
      does = steps_late _ 3 c.args.self.now _ c.take_late.new.self (ap (λ (a : Attempt _ _). a.version) view) (ap (λ (a : Attempt _ _). a.observations) view) (ap (λ (a : Attempt _ _). a.writes) view) (ap (λ (a : Attempt _ _). a.pass) view) e.does;
      known = e.pass.known ∙ ap (λ (a : Attempt _ _). a.pass.view.known) view;
      began = e.pass.begun ∙ ap (λ (a : Attempt _ _). begun_of a.pass.view.trail) view;
    }

pub returns-in-Err-clause-twice : goal.returns-in-Err-clause-twice
returns-in-Err-clause-twice g c = λ none. rw (ap (λ (a : Attempt _ _). a.pass) (sym c.self.view_is), ap (λ (a : Attempt _ _). a.pass) c.halt.ensures) (c.in-Err.ensures.twice (ap (λ (a : Attempt _ _). word_at a.observations c.args.cell) c.self.view_is ∙ none))
