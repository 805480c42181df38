use Rattle.std.proofs.Common.{arith}
use Rattle.tx_core.specs.Facts.{looks_none, looks_wider}
use Rattle.tx_log.proofs.part.LogPart.entry_word.Goals as goal

pub returns-then-i-from-clause-looks : goal.returns-then-i-from-clause-looks
returns-then-i-from-clause-looks g c = looks_wider _ _ 0 3 c.args.tx.now c.args.tx.now _ (λ k none. absurd none) (omega arith) (looks_none (λ k. ⊥) c.args.tx.now)

pub returns-in-Ok-clause-looks : goal.returns-in-Ok-clause-looks
returns-in-Ok-clause-looks g c = looks_wider _ _ 3 3 _ _ _ (λ k here. (omega (arith, c.if-i-from.false), here)) (omega arith) c.in-Ok.ensures.looks

pub returns-in-Err-clause-looks : goal.returns-in-Err-clause-looks
returns-in-Err-clause-looks g c = looks_wider _ _ 3 3 _ _ _ (λ k here. (omega (arith, c.if-i-from.false), here)) (omega arith) c.in-Err.ensures.looks
