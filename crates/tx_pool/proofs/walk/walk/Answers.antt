use Rattle.std.proofs.Common.{◌≡◌, ◌*◌, refl, ap, ◌∙◌, arith}
use Rattle.tx_core.specs.Tx.{Attempt}
use Rattle.tx_core.specs.Facts.{steps_wider}
use Rattle.tx_pool.specs.declared.walk.Tried.TheVariants as tried
use Rattle.tx_pool.specs.Pool.{slot_at}
use Rattle.tx_pool.proofs.Walks.{walk_in}
use Rattle.tx_pool.proofs.Finding.{passed_later}
use Rattle.tx_pool.proofs.Trying.{tells_since}
use Rattle.tx_pool.proofs.Walking.{walking_unfit, walking_stopped, walking_does, walk_ended}
use Rattle.tx_pool.proofs.walk.walk.Goals.{in-Unfit, in-Stopped}
use Rattle.tx_pool.proofs.walk.walk.Goals as goal

pub try_slot-requires-clause-cell : goal.try_slot-requires-clause-cell
try_slot-requires-clause-cell g c =
    let at : c.slot-cell.result ≡ slot_at c.args.part.now c.args.from c.loop-i.i = c.slot-cell.ensures c.args.from refl in
    let inside = walk_in c.args.part.now c.args.from c.loop-i.i c.loop-i-test.true in
    let table : c.loop-i.tx.table ≡ c.args.tx.now.table = ap (λ (a : Attempt _ _). a.table) c.loop-i.invariant.looks.is in
    rw table (omega (arith, at, inside.1, c.requires.part.1))

pub returns-in-Holds-clause-tells : goal.returns-in-Holds-clause-tells
returns-in-Holds-clause-tells g c =
    let at : c.slot-cell.result ≡ slot_at c.args.part.now c.args.from c.loop-i.i = c.slot-cell.ensures c.args.from refl in
    let since = tells_since c.args.wanted c.args.tx.now c.loop-i.tx c.try_slot.new.tx c.slot-cell.result _ (tried.Holds c.in-Holds.word) c.loop-i.invariant.looks c.loop-i.invariant.does.steps tt c.in-Holds.ensures.tells in (
      c.loop-i.i,
      c.loop-i-test.true,
      at,
      λ j lt. passed_later c.args.wanted c.args.tx.now c.loop-i.tx.pass c.try_slot.new.tx.pass _ 6 c.in-Holds.ensures.tells.0.pass.grows c.in-Holds.ensures.does.steps (c.loop-i.invariant.passed j lt),
      since.0,
      since.1,
    )

pub returns-in-Memory-clause-tells : goal.returns-in-Memory-clause-tells
returns-in-Memory-clause-tells g c =
    tells_since c.args.wanted c.args.tx.now c.loop-i.tx c.try_slot.new.tx c.slot-cell.result _ tried.Memory c.loop-i.invariant.looks c.loop-i.invariant.does.steps tt c.in-Memory.ensures.tells

pub loop-i-preserved : goal.loop-i-preserved
loop-i-preserved g c =
    let at : c.slot-cell.result ≡ slot_at c.args.part.now c.args.from c.loop-i.i = c.slot-cell.ensures c.args.from refl in
    elim c.match-try_slot.branch [
      | in-Unfit w ↦ rw w.first-is (walking_unfit c.args.part.now c.args.from c.args.wanted c.args.tx.now c.loop-i.i c.loop-i.first c.loop-i.tx c.try_slot.new.tx c.slot-cell.result c.loop-i.invariant at w.in-Unfit.ensures.tells w.in-Unfit.ensures.looked c.loop-i-test.true w.in-Unfit.ensures.does w.in-Unfit.ensures.looks)
      | in-Stopped w ↦ walking_stopped c.args.part.now c.args.from c.args.wanted c.args.tx.now c.loop-i.i c.loop-i.first c.loop-i.tx c.try_slot.new.tx c.slot-cell.result w.in-Stopped.stop c.loop-i.invariant at w.in-Stopped.ensures.tells w.in-Stopped.ensures.looked c.loop-i-test.true w.in-Stopped.ensures.does c.match-try_slot.first (w.first-is ∙ w.or-first.ensures)
    ]

pub returns-clause-tells : goal.returns-clause-tells
returns-clause-tells g c =
    walk_ended c.args.part.now c.args.from c.args.wanted c.args.tx.now c.loop-i.i c.loop-i.first c.loop-i.tx c.ended.result (omega (arith, c.loop-i-test.false, c.loop-i.auto.i-end)) c.loop-i.invariant c.ended.ensures

pub returns-in-Holds-clause-does : goal.returns-in-Holds-clause-does
returns-in-Holds-clause-does g c =
    walking_does c.args.part.now c.args.from c.args.wanted c.args.tx.now c.loop-i.i c.loop-i.first c.loop-i.tx c.try_slot.new.tx c.slot-cell.result c.loop-i.invariant (c.slot-cell.ensures c.args.from refl) c.loop-i-test.true c.in-Holds.ensures.does

pub returns-in-Memory-clause-does : goal.returns-in-Memory-clause-does
returns-in-Memory-clause-does g c =
    walking_does c.args.part.now c.args.from c.args.wanted c.args.tx.now c.loop-i.i c.loop-i.first c.loop-i.tx c.try_slot.new.tx c.slot-cell.result c.loop-i.invariant (c.slot-cell.ensures c.args.from refl) c.loop-i-test.true c.in-Memory.ensures.does

pub returns-clause-does : goal.returns-clause-does
returns-clause-does g c = steps_wider _ _ (6 * c.loop-i.i) _ _ _ (λ d here. here) (omega (arith, c.loop-i-test.false, c.loop-i.auto.i-end)) c.loop-i.invariant.does
