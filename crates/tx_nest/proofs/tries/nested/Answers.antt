use Rattle.std.proofs.Common.{◌≡◌, length, arith, refl, add-one, ◌∙◌}
use Rattle.tx_nest.specs.Attempts.{GoesOn}
use Rattle.tx_nest.specs.Ends.{ChildrenEnded, IsRefusedRaise}
use Rattle.tx_nest.specs.AttemptLaws.{grew_length}
use Rattle.tx_nest.proofs.Growing.{found_of, last_caused, refused_earlier, goes_then, same_goes, body_goes, dropped_goes}
use Rattle.tx_nest.proofs.tries.nested.Goals as goal

pub returns-in-Err-child_abort-clause-err : goal.returns-in-Err-child_abort-clause-err
returns-in-Err-child_abort-clause-err g c =
    let h = c.in-Err-child_abort.ensures.err in
    let on : GoesOn (g.A.Attempt.view c.args.tx.now) (g.A.Attempt.view c.body.new.tx) =
    goes_then _ _ _ (goes_then _ _ _ c.loop-tried.invariant.goes_on (same_goes _ _ c.child_begin.ensures.same c.in-Ok.ensures.opened.0.has)) (body_goes _ _ c.body.ensures.stays.0) in
    let cause : IsRefusedRaise (g.A.Attempt.view c.args.tx.now).callers (g.A.Attempt.view c.child_abort.new.self).version (length (g.A.Attempt.view c.body.new.tx).trail) (g.A.Attempt.view c.child_abort.new.self).trail c.in-Err-child_abort.parent =
    rw (← on.same.callers, h.version) h.cause in
    (h.state, refused_earlier _ _ _ _ _ _ (grew_length _ _ on.trail) cause)

pub loop-tried-preserved : goal.loop-tried-preserved
loop-tried-preserved g c =
    let old = g.A.Attempt.view c.args.tx.now in
    let loop = g.A.Attempt.view c.loop-tried.tx in
    let opened = g.A.Attempt.view c.child_begin.new.self in
    let ended = g.A.Attempt.view c.body.new.tx in
    let new = g.A.Attempt.view c.child_abort.new.self in
    let inv = c.loop-tried.invariant in
    let begin = c.child_begin.ensures in
    let opening = c.in-Ok.ensures.opened.0 in
    let body = c.body.ensures in
    let abort = c.child_abort.ensures in
    let ok = c.in_default-child_abort.ensures.ok in
    let stop = c.in-Err.ensures.err in
    let began : GoesOn old opened = goes_then old loop opened inv.goes_on (same_goes loop opened begin.same opening.has) in
    let child : GoesOn opened new = goes_then opened ended new (body_goes opened ended body.stays.0) (dropped_goes ended new abort.same abort.dropped) in
    let before : new.content ≡ loop.content = abort.dropped.content ∙ (body.stays.0.marked ∙ opening.marked) in
    let later = goes_then loop opened new (same_goes loop opened begin.same opening.has) child in
    let calls = g.met.A.Attempt.calls_of c.child_begin.new.self c.args.tx.now (opening.has.content ∙ inv.content) in
    let pending = g.met.A.Attempt.pending_of c.child_begin.new.self c.args.tx.now (opening.has.content ∙ inv.content) in
    record {
      goes_on = goes_then old opened new began child;
      grows = g.met.A.Attempt.grows_then _ _ _ (g.met.A.Attempt.grows_then _ _ _ inv.grows begin.grows) (g.met.A.Attempt.grows_then _ _ _ body.grows abort.grows);
      state = ok.state;
      content = before ∙ inv.content;
      alone = λ s. absurd (c.in_default-stop.not-Memory (c.in-Err.ensures.sole (g.met.A.Attempt.sole_of c.child_begin.new.self c.args.tx.now began.same.fixed s)));
      can_run = rw (← began.same.over, ← calls, ← pending) body.again;
      same_relation = λ added out h. inv.same_relation added out (body.same_relation added out h);
      ended = rw add-one (
        loop.trail,
        loop.version,
        c.loop-tried.last,
        inv.ended,
        record {
          found = found_of c.in-Err.stop c.in_default-stop.not-Memory;
          ended = ended.trail;
          ran = rw (← opening.has.trail) body.stays.0.trail;
          caused = rw (← began.same.callers, ← opening.has.version, ← opening.has.trail) stop.cause;
          aborted = abort.dropped.trail;
          raised = ok.clocked;
          higher = later.version;
        },
      );
    }

pub returns-clause-err : goal.returns-clause-err
returns-clause-err g c =
    let old = g.A.Attempt.view c.args.tx.now in
    let new = g.A.Attempt.view c.loop-tried.tx in
    let e : c.loop-tried.tried ≡ c.args.tries = omega arith in
    let ended : ChildrenEnded old.callers c.args.tries old.version old.trail c.loop-tried.last new.version new.trail = rw (← e) c.loop-tried.invariant.ended in
    (c.loop-tried.invariant.state, refl, (ended, last_caused old.callers c.args.tries old.version old.trail c.loop-tried.last new.version new.trail c.requires.tries ended))
