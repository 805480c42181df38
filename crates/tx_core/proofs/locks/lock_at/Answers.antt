use Rattle.std.proofs.Common.{◌<◌, ap, refl, length}
use Rattle.attempt_lists.specs.Cells.{Entries, cell_at}
use Rattle.tx_core.proofs.AttemptFacts.{attempt_looks}
use Rattle.tx_core.proofs.Locking.{others_takes, held_takes, among_insert}
use Rattle.tx_core.proofs.LateLocks.{cell_there, counted_none, counted_takes, attempt_locks_reserved}
use Rattle.tx_core.proofs.locks.lock_at.Goals as goal

pub lock_late-requires-clause-cell : goal.lock_late-requires-clause-cell
lock_late-requires-clause-cell g c = rw c.parent.ensures.entries (cell_there (λ d. d < length c.args.table.now.opening) c.args.writes.now.parent c.args.index c.requires.attempt.written c.requires.index)

-- the lock takes one of the reserved places
pub returns-in-Ok-clause-attempt : goal.returns-in-Ok-clause-attempt
returns-in-Ok-clause-attempt g c =
    attempt_locks_reserved _ _ c.args.pass.now c.lock_late.new.pass c.args.reads.now c.args.writes.now.parent c.args.held.now c.push_reserved.new.self _ c.in-Ok.found c.args.index
    c.requires.attempt c.in-Ok.ensures.takes.0 c.in-Ok.ensures.of c.requires.undrawn c.push_reserved.ensures.entries c.requires.index
    (ap (λ (es : Entries). cell_at es c.args.index) c.parent.ensures.entries) c.in-Ok.ensures.seen

pub returns-in-Ok-clause-held : goal.returns-in-Ok-clause-held
returns-in-Ok-clause-held g c = rw (← c.parent.ensures.entries) (held_takes _ _ _ _ c.in-Ok.ensures.takes.0)

pub returns-in-Ok-clause-others : goal.returns-in-Ok-clause-others
returns-in-Ok-clause-others g c = rw (← c.parent.ensures.entries) (others_takes c.args.pass.now c.args.pass.now _ _ _ refl c.in-Ok.ensures.takes.0)

pub returns-in-Ok-clause-kept : goal.returns-in-Ok-clause-kept
returns-in-Ok-clause-kept g c = λ t h. rw (c.in-Ok.ensures.takes.0.held) (among_insert _ t c.args.pass.now.view.held h)

pub returns-in-Ok-clause-counted : goal.returns-in-Ok-clause-counted
returns-in-Ok-clause-counted g c = counted_takes c.args.pass.now c.lock_late.new.pass _ _ c.in-Ok.ensures.takes.0 c.in-Ok.ensures.steps

pub returns-then-is_some-clause-counted : goal.returns-then-is_some-clause-counted
returns-then-is_some-clause-counted g c = counted_none c.args.pass.now c.args.pass.now refl

pub returns-in-Err-clause-attempt : goal.returns-in-Err-clause-attempt
returns-in-Err-clause-attempt g c = attempt_looks _ _ _ c.lock_late.new.pass _ _ _ _ c.in-Err.ensures.looks c.in-Err.ensures.of c.requires.attempt
