use Rattle.std.proofs.Common.{ℕ, sym, subst}
use Rattle.tx_core.specs.Facts.{goes_sole, goes_trans}
use Rattle.tx_store.specs.declared.commit.CommitEnd.{CommitEnd}
use Rattle.tx_store.specs.Commits.{IsGivenUp}
use Rattle.tx_store.proofs.Committing.{locked_writer, something_written, ready}
use Rattle.tx_store.proofs.Fitting.{some_held}
use Rattle.tx_store.proofs.Refusing.{lock_given_up, placing_given_up, check_given_up, sole_placing, not_ok}
use Rattle.tx_store.proofs.commit.place_and_check.Goals as goal

pub returns-in-Err-clause-given_up : goal.returns-in-Err-clause-given_up
returns-in-Err-clause-given_up g c =
    let s = c.args.plan.now in let a0 = c.args.tx.now in let a = c.lock_writes.new.self in let e = c.in-Err.ensures in
    subst (λ (end : CommitEnd). IsGivenUp s a0 a end) (sym c.end_of_stop.ensures)
    (lock_given_up s a0 a _ _ c.in-Err.stop _ e.steps_to_stop e.stopped.0 e.stopped.1 e.leaves e.twice (λ sole. not_ok (Unit {0}) c.in-Err.stop (e.sole sole)))

pub returns-in-Err-resolve_all-clause-given_up : goal.returns-in-Err-resolve_all-clause-given_up
returns-in-Err-resolve_all-clause-given_up g c =
    let s = c.args.plan.now in let a0 = c.args.tx.now in let a = c.lock_writes.new.self in let b = c.resolve_all.new.tx in
    let e = c.in-Ok.ensures in let r = c.in-Err-resolve_all.ensures.refused in
    subst (λ (end : CommitEnd). IsGivenUp s a0 b end) (sym c.end_of.ensures)
    (placing_given_up s a0 a e.same e.leaves.does.pass e.steps r.at r.middle r.before b r.part r.is r.leaves r.some c.pass_law.ensures.of c.vouched_law-in-Err-resolve_all.ensures.there
    c.in-Err-resolve_all.end (sole_placing a0.pass a.pass c.in-Err-resolve_all.end e.leaves.does.pass c.in-Err-resolve_all.ensures.sole) r.refused)

pub draw_and_check-requires-clause-holds : goal.draw_and_check-requires-clause-holds
draw_and_check-requires-clause-holds g c =
    let s = c.args.plan.now in let a0 = c.args.tx.now in let a = c.lock_writes.new.self in let b = c.resolve_all.new.tx in
    let e = c.in-Ok.ensures in let to = c.in-Ok-resolve_all.ensures.resolved in
    some_held b.writes b.pass.view.held (something_written s a b (locked_writer s a0 a e.same c.requires.writer) to) to.to.writes_held

pub returns-in-Ok-draw_and_check-clause-ready : goal.returns-in-Ok-draw_and_check-clause-ready
returns-in-Ok-draw_and_check-clause-ready g c =
    let s = c.args.plan.now in let a0 = c.args.tx.now in let a = c.lock_writes.new.self in let b = c.resolve_all.new.tx in
    let e = c.in-Ok.ensures in let to = c.in-Ok-resolve_all.ensures.resolved in let d = c.in-Ok-draw_and_check.ensures in
    ready s a0 a e.same b to e.leaves.does.pass (c.attempts_follow_law.ensures s) c.draw_and_check.new.self c.in-Ok-draw_and_check.place d.same c.requires.writer e.steps
    d.drawn.0 d.drawn.1 d.draws d.held d.pass d.grows d.steps

pub returns-in-Err-draw_and_check-clause-given_up : goal.returns-in-Err-draw_and_check-clause-given_up
returns-in-Err-draw_and_check-clause-given_up g c =
    let s = c.args.plan.now in let a0 = c.args.tx.now in let a = c.lock_writes.new.self in let b = c.resolve_all.new.tx in let d = c.draw_and_check.new.self in
    let e = c.in-Ok.ensures in let to = c.in-Ok-resolve_all.ensures.resolved in let x = c.in-Err-draw_and_check.ensures in
    subst (λ (end : CommitEnd). IsGivenUp s a0 d end) (sym c.end_of_stop-in-Err-draw_and_check.ensures)
    (check_given_up s a0 a e.same e.leaves.does.pass e.steps to.parts b to.to d c.in-Err-draw_and_check.stop _ x.stopped.0 x.stopped.1 x.cause x.first x.draws x.held x.pass x.grows x.steps
    (λ sole. not_ok ℕ c.in-Err-draw_and_check.stop (x.sole (goes_sole a0.pass b.pass (goes_trans a0.pass a.pass b.pass e.leaves.does.pass to.to.pass) sole))))
