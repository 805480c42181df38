use Rattle.std.proofs.Common.{◌≡◌, ℕ, suc, ◌+◌, ◌<◌, List, length, ap, sym, subst, ◌∙◌, arith}
use Rattle.serial_terms.specs.Counts.{numbers_from}
use Rattle.serial_terms.specs.declared.call.Done.{Done}
use Rattle.run_bodies.proofs.Filled.{gives_more}
use Rattle.run_bodies.proofs.Outside.{may_go_on}
use Rattle.run_bodies.proofs.filling.give_all.Goals as goal
use Rattle.run_bodies.specs.RunStores.{work_of_run}
use Rattle.run_stages.specs.Allowed.{gives}
use Rattle.tx_store.specs.Bodies.{Does}
use Rattle.tx_store.specs.BodyFacts.{does_nothing, does_then, stops_after}
use Rattle.tx_store.specs.Stores.{StoreView}

pub loop-place-init : goal.loop-place-init
loop-place-init c = does_nothing c.args.tx.now c.requires.callable.before_commit

pub give-requires-clause-callable : goal.give-requires-clause-callable
give-requires-clause-callable c = may_go_on c.args.tx.now c.loop-place.tx _ c.requires.callable c.loop-place.invariant

pub give-requires-clause-pool : goal.give-requires-clause-pool
give-requires-clause-pool c = subst (λ (s : StoreView _). 0 < length s.table.meaning.plan.pools) (sym c.loop-place.invariant.same.store) c.requires.pool

pub returns-in-Err : goal.returns-in-Err
returns-in-Err c = stops_after c.args.tx.now c.loop-place.tx c.give.new.tx c.in-Err.stop c.loop-place.invariant.same c.in-Err.ensures

pub loop-place-preserved : goal.loop-place-preserved
loop-place-preserved c =
    let w = work_of_run c.args._run.now in
    let k = c.loop-place.place in
    let next : suc k ≡ k + 1 = omega arith in
    subst (λ (ds : List Done). Does c.args.tx.now c.give.new.tx ds) (gives_more w c.args.first k ∙ ap (λ (n : ℕ). gives w (numbers_from c.args.first n)) next)
    (does_then c.args.tx.now c.loop-place.tx c.give.new.tx _ _ c.loop-place.invariant c.in-Ok.ensures)

pub returns : goal.returns
returns c =
    let w = work_of_run c.args._run.now in
    let e : c.loop-place.place ≡ c.args.count = omega arith in
    subst (λ (n : ℕ). Does c.args.tx.now c.loop-place.tx (gives w (numbers_from c.args.first n))) e c.loop-place.invariant
