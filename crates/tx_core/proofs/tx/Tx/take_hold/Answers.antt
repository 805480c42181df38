use Rattle.std.proofs.Common.{arith, ap}
use Rattle.tx_core.specs.Tx.{Attempt}
use Rattle.tx_core.proofs.Calling.{held_locked, steps_locked_known, steps_locked_new}
use Rattle.tx_core.proofs.tx.Tx.take_hold.Goals as goal

pub returns-then-is_some-2-clause-held : goal.returns-then-is_some-2-clause-held
returns-then-is_some-2-clause-held g c = let t = c.in_ok-lock_known.ensures.takes in held_locked c.args.self.now c.lock_known.new.self c.args.cell t.0 t.2

pub returns-then-is_some-2-clause-does : goal.returns-then-is_some-2-clause-does
returns-then-is_some-2-clause-does g c =
    let t = c.in_ok-lock_known.ensures in
    steps_locked_known 2 3 c.args.self.now c.lock_known.new.self c.args.cell t.takes.0 (omega arith) (ap (λ (t : Attempt _ _). t.version) t.same) (ap (λ (t : Attempt _ _). t.observations) t.same) (ap (λ (t : Attempt _ _). t.writes) t.same) t.takes.2 t.pass t.steps

pub returns-clause-held : goal.returns-clause-held
returns-clause-held g c = let t = c.in_ok-value.ensures.takes in held_locked c.args.self.now c.lock_new.new.self c.args.cell t.0 t.2

pub returns-clause-does : goal.returns-clause-does
returns-clause-does g c =
    let t = c.in_ok-value.ensures in
    steps_locked_new 3 c.args.self.now c.lock_new.new.self c.args.cell t.takes.0 _ t.observes t.takes.2 t.pass t.steps
