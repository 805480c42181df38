use Rattle.std.proofs.Common.{◌≡◌, true, length, ap, sym, ◌∙◌}
use Rattle.std.proofs.lemmas.Bool.{eqb-true, eq-eqb}
use Rattle.rule_matcher.proofs.Ends.{skip_none, skip_some}
use Rattle.rule_matcher.proofs.reading.is_skipped.Goals as goal

pub returns-then-is_empty : goal.returns-then-is_empty
returns-then-is_empty c =
    let none : length c.behind_blanks-rest.result.now ≡ 0 = eqb-true _ _ (sym c.is_empty.ensures ∙ c.if-is_empty.true) in
    c.if-is_empty.true ∙ sym (skip_none c.args.line.now c.behind_blanks-rest.result.now c.behind_blanks-rest.ensures none)

pub returns-else-is_empty : goal.returns-else-is_empty
returns-else-is_empty c =
    let some : length c.behind_blanks-rest.result.now ≡ 0 → ⊥ = λ none. cc (eq-eqb (length c.behind_blanks-rest.result.now) 0 none, c.is_empty.ensures, c.if-is_empty.false) in
    sym (skip_some c.args.line.now c.behind_blanks-rest.result.now c.behind_blanks-rest.ensures some)
