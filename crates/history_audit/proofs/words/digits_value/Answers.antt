use Rattle.std.proofs.Common.{arith}
use Rattle.history_audit.proofs.Cuts.{too_great}
use Rattle.history_audit.proofs.words.digits_value.Goals as goal

pub returns-then-next-from : goal.returns-then-next-from
returns-then-next-from c = too_great c.args.digits.now c.loop-digit.digit-index c.loop-digit.number (omega arith) c.loop-digit.invariant.read (omega arith)
