use Rattle.std.proofs.Common.{ℕ, ◌*◌, ◌<◌, refl, sym, ap, ◌∙◌, subst, arith}
use Rattle.tx_core.specs.Calls.{MayCall}
use Rattle.tx_core.specs.Facts.{holds_looks, pass_of_holds}
use Rattle.tx_core.specs.Tx.{Attempt}
use Rattle.tx_pool.specs.Pool.{slot_at}
use Rattle.tx_pool.specs.Walk.{FoundUnfit}
use Rattle.tx_pool.specs.Steps.{KnownUnfit}
use Rattle.tx_pool.proofs.Filling.{stop_answered, stays_by, stays_fills, stays_sees, known_unfit, holds_write, holds_none, holds_stopped, holds_memory, fills_slot, fills_none, sees_since, sees_stopped, sees_memory, all_known, stop_since, explains_none, explains_fill}
use Rattle.tx_pool.proofs.fill.fill.Goals as goal

pub agreed_law-requires : goal.agreed_law-requires
agreed_law-requires g c = record { before_commit = ap (λ (a : Attempt _ _). a.committing) c.in-Ok-observe_all.ensures.sees.sees.is ∙ ap (λ (a : Attempt _ _). a.committing) c.in-NoneFit.ensures.tells.0.is ∙ c.requires.callable.before_commit }

pub returns-in-Ok-clause-leaves : goal.returns-in-Ok-clause-leaves
returns-in-Ok-clause-leaves g c =
    let w = c.in-Holds.ensures.tells in
    (fills_slot c.args.part.now c.args.from c.args.wanted c.args.tx.now c.walk.new.tx c.write.new.self w.0 c.in-Holds.cell c.in-Holds.old c.args.word w.1 w.2 w.3 w.4 c.in-Ok.ensures.ok c.in-Ok.ensures.looks, w.5)

pub returns-in-Ok-clause-explains : goal.returns-in-Ok-clause-explains
returns-in-Ok-clause-explains g c =
    let w = c.in-Holds.ensures.tells in
    explains_fill c.args.part.now c.args.from c.args.wanted c.args.tx.now c.walk.new.tx c.write.new.self w.0 c.in-Holds.cell c.in-Holds.old c.args.word w.1 w.2 w.4 c.laid_over_law.ensures.shows c.laid_over_law.ensures.put c.laid_over_law.ensures.sized c.in-Ok.ensures.ok

pub returns-in-Ok-observe_all-clause-leaves : goal.returns-in-Ok-observe_all-clause-leaves
returns-in-Ok-observe_all-clause-leaves g c = (
  sees_since c.args.part.now c.args.from c.args.tx.now c.walk.new.tx c.observe_all.new.tx c.in-NoneFit.ensures.tells.0 c.in-Ok-observe_all.ensures.sees,
  all_known c.args.part.now c.args.from c.args.wanted c.observe_all.new.tx c.in-Ok-observe_all.ensures.known,
)

pub returns-in-Ok-observe_all-clause-explains : goal.returns-in-Ok-observe_all-clause-explains
returns-in-Ok-observe_all-clause-explains g c =
    let m = c.walk.new.tx in
    let b = c.observe_all.new.tx in
    let looks = c.in-NoneFit.ensures.tells.0 in
    let then = c.in-Ok-observe_all.ensures.sees in
    let sees = sees_since c.args.part.now c.args.from c.args.tx.now m b looks then in
    let unfit : (j : ℕ) → j < c.args.part.now.slots → FoundUnfit c.args.wanted m m.pass (slot_at c.args.part.now c.args.from j) = λ j lt. subst (λ (a : Attempt _ _). FoundUnfit c.args.wanted a m.pass (slot_at c.args.part.now c.args.from j)) (sym looks.is) (c.in-NoneFit.ensures.tells.1 j lt).1 in
    let known : (j : ℕ) → j < c.args.part.now.slots → KnownUnfit c.args.wanted b (slot_at c.args.part.now c.args.from j) = λ j lt. known_unfit c.args.part.now c.args.from c.args.wanted m b (slot_at c.args.part.now c.args.from j) (ap (λ (a : Attempt _ _). a.version) then.sees.is) (ap (λ (a : Attempt _ _). a.writes) then.sees.is) then.sees.pass.grows c.agreed_law.ensures.seen c.agreed_law.ensures.one (c.in-Ok-observe_all.ensures.known j lt) (unfit j lt) in
    explains_none c.args.part.now c.args.from c.args.wanted c.args.tx.now b (ap (λ (a : Attempt _ _). a.writes) sees.sees.is)
    c.laid_over_law-in-Ok-observe_all.ensures.shows c.laid_over_law-in-Ok-observe_all.ensures.sized known

pub returns-in-Err-observe_all-clause-stopped : goal.returns-in-Err-observe_all-clause-stopped
returns-in-Err-observe_all-clause-stopped g c =
    (sees_since c.args.part.now c.args.from c.args.tx.now c.walk.new.tx c.observe_all.new.tx c.in-NoneFit.ensures.tells.0 c.in-Err-observe_all.ensures.sees).sees

pub returns-in-Err-observe_all-clause-walk_found : goal.returns-in-Err-observe_all-clause-walk_found
returns-in-Err-observe_all-clause-walk_found g c found = (
  stop_since c.args.part.now c.args.from c.args.wanted c.args.tx.now c.walk.new.tx c.observe_all.new.tx _ _ c.in-Err-observe_all.stop c.in-NoneFit.ensures.tells.0 c.in-NoneFit.ensures.does.steps c.in-Err-observe_all.ensures.holds.does.steps c.in-Err-observe_all.ensures.sees
      c.in-NoneFit.ensures.tells.1 c.in-Err-observe_all.ensures.stopped found,
  (sees_since c.args.part.now c.args.from c.args.tx.now c.walk.new.tx c.observe_all.new.tx c.in-NoneFit.ensures.tells.0 c.in-Err-observe_all.ensures.sees).held,
)

pub stop_with-requires-clause-callable : goal.stop_with-requires-clause-callable
stop_with-requires-clause-callable g c = subst MayCall (sym c.in-Stopped.ensures.tells.0.is) (record { open_now = c.requires.callable.open_now; before_commit = c.requires.callable.before_commit })

pub stop_with-requires-clause-answered : goal.stop_with-requires-clause-answered
stop_with-requires-clause-answered g c = stop_answered c.args.part.now c.args.from c.args.wanted c.args.tx.now c.walk.new.tx c.in-Stopped.stop c.in-Stopped.ensures.tells.0 c.in-Stopped.ensures.tells.1

pub returns-in-Stopped-clause-stopped : goal.returns-in-Stopped-clause-stopped
returns-in-Stopped-clause-stopped g c = sees_stopped c.args.part.now c.args.from c.args.tx.now c.walk.new.tx c.stop_with.new.self _ c.in-Stopped.ensures.tells.0 c.stop_with.ensures.stopped

pub returns-in-Stopped-clause-holds : goal.returns-in-Stopped-clause-holds
returns-in-Stopped-clause-holds g c = holds_stopped c.args.part.now (6 * c.args.part.now.slots) c.args.tx.now c.walk.new.tx c.stop_with.new.self c.args.from c.args.wanted c.in-Stopped.stop c.in-Stopped.ensures.tells.0 c.in-Stopped.ensures.does c.in-Stopped.ensures.tells.1 c.stop_with.ensures.stopped

pub returns-in-Ok-clause-holds : goal.returns-in-Ok-clause-holds
returns-in-Ok-clause-holds g c =
    let w = c.in-Holds.ensures.tells in
    holds_write c.args.part.now (6 * c.args.part.now.slots) c.args.tx.now c.walk.new.tx c.write.new.self c.args.from w.0 c.in-Holds.cell c.in-Holds.old _ w.1 w.2 w.4 c.in-Holds.ensures.does c.in-Ok.ensures.looks

pub returns-in-Err-clause-holds : goal.returns-in-Err-clause-holds
returns-in-Err-clause-holds g c =
    let w = c.in-Holds.ensures.tells in
    holds_write c.args.part.now (6 * c.args.part.now.slots) c.args.tx.now c.walk.new.tx c.write.new.self c.args.from w.0 c.in-Holds.cell c.in-Holds.old _ w.1 w.2 w.4 c.in-Holds.ensures.does c.in-Err.ensures.looks

pub returns-in-Err-clause-stopped : goal.returns-in-Err-clause-stopped
returns-in-Err-clause-stopped g c =
    let w = c.in-Holds.ensures.tells in
    fills_none c.args.part.now c.args.from c.args.wanted c.args.tx.now c.walk.new.tx c.write.new.self w.0 c.in-Holds.cell c.in-Holds.old w.1 w.2 w.4
    (c.in-Err.ensures.stopped ∙ ap (λ st. record c.walk.new.tx { pass = c.write.new.self.pass; state = st }) (sym (ap (λ (a : Attempt _ _). a.state) c.in-Err.ensures.stopped)))
    (pass_of_holds _ 0 c.walk.new.tx c.write.new.self _ (holds_looks _ 0 c.walk.new.tx c.write.new.self _ c.in-Err.ensures.looks))

pub returns-in-Ok-observe_all-clause-holds : goal.returns-in-Ok-observe_all-clause-holds
returns-in-Ok-observe_all-clause-holds g c =
    let n = c.in-NoneFit.ensures in
    holds_none c.args.part.now (6 * c.args.part.now.slots) c.args.tx.now c.walk.new.tx c.observe_all.new.tx (3 * c.args.part.now.slots) _ n.tells.0 n.does n.tells.2 c.in-Ok-observe_all.ensures.holds (omega arith)

pub returns-in-Err-observe_all-clause-holds : goal.returns-in-Err-observe_all-clause-holds
returns-in-Err-observe_all-clause-holds g c =
    let n = c.in-NoneFit.ensures in
    holds_none c.args.part.now (6 * c.args.part.now.slots) c.args.tx.now c.walk.new.tx c.observe_all.new.tx (3 * c.args.part.now.slots) _ n.tells.0 n.does n.tells.2 c.in-Err-observe_all.ensures.holds (omega arith)

pub returns-in-Memory-clause-holds : goal.returns-in-Memory-clause-holds
returns-in-Memory-clause-holds g c = let w = c.in-Memory.ensures.tells in holds_memory c.args.part.now (6 * c.args.part.now.slots) c.args.tx.now c.walk.new.tx w.0 w.1 c.in-Memory.ensures.does

pub returns-in-Memory-clause-stopped : goal.returns-in-Memory-clause-stopped
returns-in-Memory-clause-stopped g c =
    let w = c.in-Memory.ensures.tells in
    sees_memory c.args.part.now c.args.from c.args.tx.now c.walk.new.tx c.walk.new.tx (w.0 ∙ ap (λ st. record c.args.tx.now { pass = c.walk.new.tx.pass; state = st }) (sym (ap (λ (a : Attempt _ _). a.state) w.0))) w.1

pub returns-in-Ok-clause-stays : goal.returns-in-Ok-clause-stays
returns-in-Ok-clause-stays g c =
    let w = c.in-Holds.ensures.tells in
    stays_fills c.args.part.now c.args.from c.args.wanted c.args.tx.now c.write.new.self c.in-Holds.old c.args.word (fills_slot c.args.part.now c.args.from c.args.wanted c.args.tx.now c.walk.new.tx c.write.new.self w.0 c.in-Holds.cell c.in-Holds.old c.args.word w.1 w.2 w.3 w.4 c.in-Ok.ensures.ok c.in-Ok.ensures.looks)

pub returns-in-Ok-observe_all-clause-stays : goal.returns-in-Ok-observe_all-clause-stays
returns-in-Ok-observe_all-clause-stays g c =
    stays_sees c.args.part.now c.args.from c.args.tx.now c.observe_all.new.tx (sees_since c.args.part.now c.args.from c.args.tx.now c.walk.new.tx c.observe_all.new.tx c.in-NoneFit.ensures.tells.0 c.in-Ok-observe_all.ensures.sees).sees

pub returns-in-Err-observe_all-clause-stays : goal.returns-in-Err-observe_all-clause-stays
returns-in-Err-observe_all-clause-stays g c =
    stays_sees c.args.part.now c.args.from c.args.tx.now c.observe_all.new.tx (sees_since c.args.part.now c.args.from c.args.tx.now c.walk.new.tx c.observe_all.new.tx c.in-NoneFit.ensures.tells.0 c.in-Err-observe_all.ensures.sees).sees

pub returns-in-Stopped-clause-stays : goal.returns-in-Stopped-clause-stays
returns-in-Stopped-clause-stays g c = stays_sees c.args.part.now c.args.from c.args.tx.now c.stop_with.new.self (sees_stopped c.args.part.now c.args.from c.args.tx.now c.walk.new.tx c.stop_with.new.self _ c.in-Stopped.ensures.tells.0 c.stop_with.ensures.stopped)

pub returns-in-Err-clause-stays : goal.returns-in-Err-clause-stays
returns-in-Err-clause-stays g c =
    let w = c.in-Holds.ensures.tells in
    stays_sees c.args.part.now c.args.from c.args.tx.now c.write.new.self (fills_none c.args.part.now c.args.from c.args.wanted c.args.tx.now c.walk.new.tx c.write.new.self w.0 c.in-Holds.cell c.in-Holds.old w.1 w.2 w.4
    (c.in-Err.ensures.stopped ∙ ap (λ st. record c.walk.new.tx { pass = c.write.new.self.pass; state = st }) (sym (ap (λ (a : Attempt _ _). a.state) c.in-Err.ensures.stopped)))
    (pass_of_holds _ 0 c.walk.new.tx c.write.new.self _ (holds_looks _ 0 c.walk.new.tx c.write.new.self _ c.in-Err.ensures.looks)))

pub returns-in-Memory-clause-stays : goal.returns-in-Memory-clause-stays
returns-in-Memory-clause-stays g c = stays_by c.args.tx.now c.walk.new.tx _ c.in-Memory.ensures.tells.0 (record { table = refl; version = refl; notes = refl; additions = refl; spare = refl; committing = refl; mark = refl })
