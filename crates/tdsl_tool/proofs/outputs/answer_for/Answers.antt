use Rattle.std.proofs.Common.{◌≤◌, ◌∙◌, ℕ, List, length, inr, ap, subst, arith}
use Rattle.journal_terms.specs.Legal.{IsFirstBadLine}
use Rattle.tdsl_tool.specs.Verdict.{max_file}
use Rattle.tdsl_tool.proofs.outputs.answer_for.Goals as goal

pub returns-in-Ok-No-clause-stops : goal.returns-in-Ok-No-clause-stops
returns-in-Ok-No-clause-stops g c = λ bytes told.
    let whole = c.in-Ok.ensures.whole bytes told in
    let short : length bytes ≤ max_file = omega (arith, c.in-Ok.ensures.short, ap (length {A = ℕ}) whole) in
    let bad = (c.in-Ok-No.ensures.no c.in-Ok-No.line).0 (cc) in
    inr (short, subst (λ (b : List ℕ). IsFirstBadLine b c.in-Ok-No.line) (c.deref.ensures.value ∙ whole) bad)
