use Rattle.std.proofs.Common.{◌+◌, ◌∙◌, arith, add-one}
use Rattle.tx_store.specs.Known.{Vouches}
use Rattle.tx_store.specs.Resolves.{parts_of}
use Rattle.tx_store.specs.Runs.{IsAnswered, IsLastEnd, IsTryEnd, IfEndKeysFull, IfTryKeysFull}
use Rattle.tx_store.proofs.Trying.{left_then, alone_left, ran_by, last_by, refused_as, full_by}
use Rattle.tx_store.proofs.run.atomically.Goals as goal

pub returns-in-Ok-clause-committed : goal.returns-in-Ok-clause-committed
returns-in-Ok-clause-committed g c =
    let so_far = c.loop-tried.invariant in
    record {
      before = c.loop-tried.tried;
      few = c.loop-tried-test.true;
      last = c.loop-tried.last;
      pass = c.loop-tried.pass;
      ended = so_far.ended;
      books = so_far.books;
      ends = ran_by _ _ _ c.loop-tried.pass c.in-Ok.done.0 c.in-Ok.done.1 (λ calls h. so_far.same_relation calls c.in-Ok.done.1 h) c.in-Ok.ensures.committed;
    }

pub returns-in-Ok-clause-left : goal.returns-in-Ok-clause-left
returns-in-Ok-clause-left g c =
    let low = c.loop-tried-test.true in
    left_then c.args.store.now c.loop-tried.tried 1 c.args.tries c.args.pass c.loop-tried.pass c.in-Ok.done.0 (omega arith) c.loop-tried.invariant.left c.in-Ok.ensures.left

pub returns-in-Ends-clause-refused : goal.returns-in-Ends-clause-refused
returns-in-Ends-clause-refused g c =
    let so_far = c.loop-tried.invariant in
    let refused = c.in-Err.ensures.refused in
    let ended : IsTryEnd (Vouches g.P.Purpose.lawful_state c.args.store.now.table.meaning) (parts_of c.args.store.now.table.meaning.plan) (IsAnswered (g.P.Purpose.allowed c.args.store.now.table.meaning.purpose) (g.B.Body.runs c.loop-tried.body)) c.loop-tried.pass c.in-Err.refused.0 c.in-Err.refused.1 = refused.1 in
    let last : IsLastEnd (Vouches g.P.Purpose.lawful_state c.args.store.now.table.meaning) (parts_of c.args.store.now.table.meaning.plan) (IsAnswered (g.P.Purpose.allowed c.args.store.now.table.meaning.purpose) (g.B.Body.runs c.loop-tried.body)) c.loop-tried.pass c.in-Err.refused.0 c.in-Ends.end = rw c.in-Ends.is at ended in (
      refused.0 ∙ so_far.books,
      refused_as (Vouches g.P.Purpose.lawful_state c.args.store.now.table.meaning) (parts_of c.args.store.now.table.meaning.plan) (IsAnswered (g.P.Purpose.allowed c.args.store.now.table.meaning.purpose) (g.B.Body.runs c.args.body.now)) c.args.tries c.args.pass c.in-Err.refused.0 c.in-Ends.end (record {
        before = c.loop-tried.tried;
        few = c.loop-tried-test.true;
        last = c.loop-tried.last;
        pass = c.loop-tried.pass;
        ended = so_far.ended;
        books = so_far.books;
        ends = last_by (Vouches g.P.Purpose.lawful_state c.args.store.now.table.meaning) (parts_of c.args.store.now.table.meaning.plan) (g.P.Purpose.allowed c.args.store.now.table.meaning.purpose) (g.B.Body.runs c.loop-tried.body) (g.B.Body.runs c.args.body.now) c.loop-tried.pass c.in-Err.refused.0 c.in-Ends.end so_far.same_relation last;
      }),
    )

pub returns-in-Ends-clause-left_refused : goal.returns-in-Ends-clause-left_refused
returns-in-Ends-clause-left_refused g c =
    let low = c.loop-tried-test.true in
    left_then c.args.store.now c.loop-tried.tried 1 c.args.tries c.args.pass c.loop-tried.pass c.in-Err.refused.0 (omega arith) c.loop-tried.invariant.left c.in-Err.ensures.left_refused

pub returns-in-Ends-clause-full : goal.returns-in-Ends-clause-full
returns-in-Ends-clause-full g c =
    let ended : IfTryKeysFull (g.B.Body.keys_full c.loop-tried.body) c.in-Err.refused.1 = c.in-Err.ensures.full in
    let last : IfEndKeysFull (g.B.Body.keys_full c.loop-tried.body) c.in-Ends.end = rw c.in-Ends.is at ended in
    full_by (g.B.Body.keys_full c.loop-tried.body) (g.B.Body.keys_full c.args.body.now) c.in-Ends.end c.loop-tried.invariant.same_maps last

pub loop-tried-preserved : goal.loop-tried-preserved
loop-tried-preserved g c =
    let so_far = c.loop-tried.invariant in
    let refused = c.in-Err.ensures.refused in
    let ended = rw c.in-Again.is at refused.1 in
    record {
      left = left_then c.args.store.now c.loop-tried.tried 1 (c.loop-tried.tried + 1) c.args.pass c.loop-tried.pass c.in-Err.refused.0 (omega arith) so_far.left c.in-Err.ensures.left_refused;
      books = refused.0 ∙ so_far.books;
      ended = rw add-one (c.loop-tried.pass, c.loop-tried.last, so_far.ended, ended);
      alone = λ alone. let no = c.in-Err.ensures.sole (alone_left c.args.store.now c.loop-tried.tried c.args.pass c.loop-tried.pass so_far.left alone) in absurd (rw c.in-Again.is at no);
      can_run = c.once.ensures.again;
      same_maps = λ map capacity h. so_far.same_maps map capacity (c.once.ensures.same_maps map capacity h);
      same_relation = λ calls out h. so_far.same_relation calls out (c.once.ensures.same_relation calls out h);
    }
