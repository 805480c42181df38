use Rattle.std.proofs.Common.{◌+◌, arith}
use Rattle.tx_core.specs.Facts.{looks_trans, grew_trans, grew_more}
use Rattle.tx_core.proofs.Looks.{seen_grows}
use Rattle.tx_core.proofs.Checking.{checking_step}
use Rattle.tx_core.proofs.check.check.Goals as goal

-- what was observed at the start still stands
pub check_one-requires-clause-observed : goal.check_one-requires-clause-observed
check_one-requires-clause-observed g c =
    rw (← c.at.ensures.cell, ← c.at.ensures.value, ← c.at.ensures.version)
    (seen_grows _ _ _ _ _ _ c.loop-i.invariant.looks.1.grows (λ h. rw (c.loop-i.invariant.looks.1.held) h) (c.requires.observed c.loop-i.i c.at.ensures.in_range))

pub returns-in-Err-clause-looks : goal.returns-in-Err-clause-looks
returns-in-Err-clause-looks g c = looks_trans _ _ _ c.loop-i.invariant.looks c.in-Err.ensures.looks

pub returns-in-Err-clause-steps : goal.returns-in-Err-clause-steps
returns-in-Err-clause-steps g c =
    grew_more (c.loop-i.i + 1) _ _ _ (omega (arith, c.at.ensures.in_range)) (grew_trans _ 1 _ _ _ c.loop-i.invariant.grew c.in-Err.ensures.steps)

pub loop-i-preserved : goal.loop-i-preserved
loop-i-preserved g c =
    checking_step _ _ _ c.loop-i.i c.loop-i.pass c.check_one.new.pass c.loop-i.invariant c.in_default.ensures.of c.in_default.ensures.looks c.in_default.ensures.steps
    (rw (c.at.ensures.cell, c.at.ensures.version) c.in_default.ensures.ok)

-- the observations before this one were looked at
pub returns-in-Err-clause-first : goal.returns-in-Err-clause-first
returns-in-Err-clause-first g c =
    let looks = c.in-Err.ensures.looks.1 in
    let old = c.loop-i.invariant.looks.1 in
    record {
      place = c.loop-i.i;
      in_range = c.at.ensures.in_range;
      free = rw (c.at.ensures.cell, looks.held) c.in-Err.ensures.free;
      found = rw c.at.ensures.cell c.in-Err.ensures.cause.1;
      before = λ j lt free. rw (looks.known, old.known) (looks.grows.validations _ (c.loop-i.invariant.checked j lt (rw (← old.held, ← looks.held) free)));
    }
