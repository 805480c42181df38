use Rattle.std.proofs.Common.{◌+◌, ◌*◌, length, refl, subst, ap, arith}
use Rattle.cell_table.specs.Pass.{IsHeld, trail_of}
use Rattle.cell_table.specs.Rule.{callers_of}
use Rattle.attempt_lists.specs.Cells.{cell_at}
use Rattle.tx_core.specs.Causes.{CausedSince}
use Rattle.tx_core.proofs.Found.{found_at_one}
use Rattle.tx_core.proofs.LateLocks.{IsLocking, locking_begins, locking_tries, locking_holds, counted_none, counted_trans, counted_to_stop, place_of, word_there}
use Rattle.tx_core.specs.Facts.{held_still, grew_more, length_grown, caused_earlier, twice_earlier}
use Rattle.tx_core.proofs.locks.lock_all.Goals as goal
use Rattle.tx_core.proofs.locks.lock_all.Goals.{After-lock_at}

pub loop-index-init : goal.loop-index-init
loop-index-init g c = (locking_begins _ _ _ _ c.args.pass.now _ c.args.held.now c.requires.attempt c.requires.undrawn c.requires.locks (omega arith), counted_none c.args.pass.now c.args.pass.now refl)

-- one more cell was tried
tried : (g : _) (c : After-lock_at g) → IsLocking c.args.table.now c.args.version c.args.reads.now c.args.writes.now.parent c.args.pass.now c.args.held.now.reserved (c.loop-index.index + 1) c.loop-index.index c.lock_at.new.pass c.lock_at.new.held
tried g c =
    let e = c.lock_at.ensures in
    locking_tries _ _ _ _ c.args.pass.now _ c.loop-index.index c.loop-index.index c.loop-index.pass c.lock_at.new.pass c.loop-index.held c.lock_at.new.held c.loop-index.invariant.0 (omega (arith, ap length c.parent-index-end.ensures.entries)) e.attempt e.pass e.others (held_still _ _ e.kept) e.kept e.locks e.room e.steps

pub returns-clause-all_held : goal.returns-clause-all_held
returns-clause-all_held g c = λ d some.
    let at = place_of c.args.writes.now.parent d some in
    subst (λ e. IsHeld c.loop-index.pass e) at.2 (c.loop-index.invariant.0.locked at.0 (omega (arith, at.1, ap length c.parent-index-end.ensures.entries)))

pub loop-index-preserved : goal.loop-index-preserved
loop-index-preserved g c = (
  locking_holds _ _ _ _ c.args.pass.now _ (c.loop-index.index + 1) c.loop-index.index c.lock_at.new.pass c.lock_at.new.held (tried g c.before) c.in_default.ensures.held,
  counted_trans c.args.pass.now c.loop-index.pass c.lock_at.new.pass c.loop-index.invariant.1 c.in_default.ensures.counted,
)

pub returns-in-Err-clause-pass : goal.returns-in-Err-clause-pass
returns-in-Err-clause-pass g c = (tried g c.before).pass

pub returns-in-Err-clause-others : goal.returns-in-Err-clause-others
returns-in-Err-clause-others g c = (tried g c.before).others

pub returns-in-Err-clause-kept : goal.returns-in-Err-clause-kept
returns-in-Err-clause-kept g c = (tried g c.before).kept

pub returns-in-Err-clause-counted_to_stop : goal.returns-in-Err-clause-counted_to_stop
returns-in-Err-clause-counted_to_stop g c = counted_to_stop c.args.pass.now c.loop-index.pass c.lock_at.new.pass c.loop-index.invariant.1 c.in-Err.ensures.looks.1.held c.in-Err.ensures.steps

pub returns-in-Err-clause-steps : goal.returns-in-Err-clause-steps
returns-in-Err-clause-steps g c = grew_more (2 * (c.loop-index.index + 1)) _ _ _ (omega (arith, ap length c.parent-index-end.ensures.entries)) (tried g c.before).grew

-- the stop is of this cell, and was found since the first step
pub returns-in-Err-clause-cause : goal.returns-in-Err-clause-cause
returns-in-Err-clause-cause g c =
    let found = c.in-Err.ensures.cause in
    let lt = ap length c.parent-index-end.ensures.entries in (
      (cell_at c.args.writes.now.parent c.loop-index.index, word_there c.args.writes.now.parent c.loop-index.index (omega (arith, lt)), found.1),
      subst (λ bs. CausedSince (callers_of bs) c.args.version (length (trail_of c.args.pass.now)) (trail_of c.lock_at.new.pass) c.in-Err.stop) c.loop-index.invariant.0.pass.books
          (caused_earlier _ _ _ _ _ _ (length_grown _ _ _ c.loop-index.invariant.0.grew) found.0),
    )

pub returns-in-Err-clause-twice : goal.returns-in-Err-clause-twice
returns-in-Err-clause-twice g c = λ d at unseen.
    let here = found_at_one d (cell_at c.args.writes.now.parent c.loop-index.index) c.in-Err.stop at c.in-Err.ensures.cause.1 in
    twice_earlier _ _ _ _ (length_grown _ _ _ c.loop-index.invariant.0.grew) (c.in-Err.ensures.twice (rw (← here) unseen))
