use Rattle.std.proofs.Common.{◌≡◌, [], length, drop, sym, arith}
use Rattle.std.proofs.lemmas.List.{take_rest, drop_all}
use Rattle.rule_matcher.proofs.Ends.{blank_at, blank_none}
use Rattle.rule_matcher.proofs.words.until_blank.Goals as goal

pub returns-in-None : goal.returns-in-None
returns-in-None c =
    let none : drop (length c.args.bytes.now) c.args.bytes.now ≡ [] = drop_all (length c.args.bytes.now) c.args.bytes.now (omega arith) in
    rw (take_rest, none) (sym (blank_none c.args.bytes.now (λ k lt. c.in-None.ensures k (omega arith) lt)))

pub returns-in-Some : goal.returns-in-Some
returns-in-Some c =
    rw take_rest (sym (blank_at c.args.bytes.now c.in-Some.end c.in-Some.ensures.0.high (λ k lt. c.in-Some.ensures.0.before k (omega arith) lt) c.in-Some.ensures.1))
