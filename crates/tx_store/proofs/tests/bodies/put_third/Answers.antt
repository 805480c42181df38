use Rattle.std.proofs.Common.{◌≡◌, Err, refl, sym, subst}
use Rattle.tx_store.specs.BodyFacts.{acts_keyed}
use Rattle.tx_store.specs.declared.run.BodyStop.{BodyStop}
use Rattle.tx_store.specs.Runs.{IsBodyStop, IfStopKeysFull}
use Rattle.tx_store.proofs.tests.bodies.put_third.Goals as goal

pub returns-in-Err-clause-stopped : goal.returns-in-Err-clause-stopped
returns-in-Err-clause-stopped c =
    let acts = acts_keyed (λ map _. map ≡ 0) _ c.args.tx.now.store.table.meaning.plan 0 3 0 c.args.tx.now c.map_put.new.self _ (Err c.in-Err.stop) c.requires.may.before_commit (λ _ _. refl) c.in-Err.ensures.called in
    subst (λ (stop : BodyStop). IsBodyStop c.args.tx.now c.map_put.new.self stop) (sym c.of_map.ensures) acts.cause

pub returns-in-Err-clause-map : goal.returns-in-Err-clause-map
returns-in-Err-clause-map c =
    let acts = acts_keyed (λ map _. map ≡ 0) _ c.args.tx.now.store.table.meaning.plan 0 3 0 c.args.tx.now c.map_put.new.self _ (Err c.in-Err.stop) c.requires.may.before_commit (λ _ _. refl) c.in-Err.ensures.called in
    subst (λ (stop : BodyStop). IfStopKeysFull (λ map _. map ≡ 0) stop) (sym c.of_map.ensures) acts.full
