use Rattle.std.proofs.Common.{refl, ◌∙◌, inl, inr, arith}
use Rattle.command_words.proofs.Numbers.{number_in_none, number_in_some, number_in_out}
use Rattle.command_words.proofs.options.number_in.Goals.{else-least-number-via-then-least-number+else-number-most, else-least-number-via-else-least-number}
use Rattle.command_words.proofs.options.number_in.Goals as goal

pub returns-in_err-number-clause-number : goal.returns-in_err-number-clause-number
returns-in_err-number-clause-number c = c.from_residual.ensures ∙ number_in_none c.args.least c.args.most c.args.word.now (omega (arith, c.ranges.most.fits)) (c.in_err-number.ensures.none refl)

pub returns-then-number-most-clause-number : goal.returns-then-number-most-clause-number
returns-then-number-most-clause-number c = number_in_some c.args.least c.args.most c.in_ok-number.number c.args.word.now c.in_ok-number.ensures.number.0 c.in_ok-number.ensures.number.1 (omega (arith, c.if-least-number.true)) (omega (arith, c.if-number-most.true))

pub returns-else-least-number-clause-number : goal.returns-else-least-number-clause-number
returns-else-least-number-clause-number c = number_in_out c.args.least c.args.most c.in_ok-number.number c.args.word.now c.in_ok-number.ensures.number.0 c.in_ok-number.ensures.number.1
    (elim c.else-least-number.branch [
      | else-least-number-via-then-least-number+else-number-most w ↦ inr (omega (arith, w.if-number-most))
      | else-least-number-via-else-least-number w ↦ inl (omega (arith, w.if-least-number))
    ])
