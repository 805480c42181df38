use Rattle.std.proofs.Common.{◌≡◌, [], length, drop, arith, add-one}
use Rattle.std.proofs.lemmas.List.{take_rest, drop_all}
use Rattle.rule_terms.specs.RuleText.{lines_of}
use Rattle.rule_matcher.proofs.Lines.{lines_cut, lines_last}
use Rattle.rule_matcher.proofs.reading.first_line.Goals as goal

pub returns-in-None-clause-lines : goal.returns-in-None-clause-lines
unfolding lines_of
returns-in-None-clause-lines c =
    let last = lines_last c.args.text.now c.requires (λ k lt. c.in-None.ensures k (omega arith) lt) in
    let none : drop (length c.args.text.now) c.args.text.now ≡ [] = drop_all (length c.args.text.now) c.args.text.now (omega arith) in
    rw (take_rest, none) last

pub returns-in-Some-clause-lines : goal.returns-in-Some-clause-lines
returns-in-Some-clause-lines c =
    rw (take_rest, add-one) (lines_cut c.args.text.now c.in-Some.end c.in-Some.ensures.0.high (λ k lt. c.in-Some.ensures.0.before k (omega arith) lt) c.in-Some.ensures.1)
