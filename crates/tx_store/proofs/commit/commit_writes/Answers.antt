use Rattle.std.proofs.Common.{◌+◌, length, refl, arith}
use Rattle.tx_store.proofs.Committing.{returns_committed, committed, explained}
use Rattle.tx_store.proofs.Refusing.{returns_refused, refuses}
use Rattle.tx_store.proofs.commit.commit_writes.Goals as goal

pub publish-requires-clause-explained : goal.publish-requires-clause-explained
publish-requires-clause-explained g c = explained g.P.Purpose.allowed c.args.plan.now c.args.tx c.place_and_check.new.tx c.in-Ok.place c.in-Ok.ensures.ready c.requires.of c.requires.plan c.requires.allowed c.requires.placed

pub returns-in-Ok-clause-committed : goal.returns-in-Ok-clause-committed
returns-in-Ok-clause-committed g c =
    let s = c.args.plan.now in let a = c.args.tx in let b = c.place_and_check.new.tx in let place = c.in-Ok.place in let now = c.in-Ok.ensures.ready in let e = c.publish.ensures in (
      returns_committed s a b place now c.publish.result e.of e.idle e.pass.0 e.grows (length b.writes + length b.pass.view.held) e.steps,
      committed s a b place now c.publish.result c.requires.writer c.alone_law.ensures.begun c.laid_over_law.ensures.ascending e.record e.seen e.pass.1 e.grows e.steps _ refl,
    )

pub returns-in-Err-clause-refused : goal.returns-in-Err-clause-refused
returns-in-Err-clause-refused g c =
    let s = c.args.plan.now in let a = c.args.tx in let b = c.place_and_check.new.tx in let up = c.in-Err.ensures.given_up in let e = c.abort.ensures in (
      returns_refused s a b c.in-Err.end up c.abort.result e.grows (length b.pass.view.held) e.steps (omega arith) e.of e.idle e.pass.0,
      refuses s a b c.in-Err.end up c.abort.result e.grows (length b.pass.view.held) e.steps (omega arith) c.requires.writer e.seen e.books e.pass.1,
    )
