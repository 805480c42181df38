use Rattle.std.proofs.Common.{sym, arith, add-one}
use Rattle.std.proofs.lemmas.List.{take_rest}
use Rattle.rule_matcher.proofs.Ends.{quote_at, quote_none}
use Rattle.rule_matcher.proofs.words.until_quote.Goals as goal

pub returns-in-None : goal.returns-in-None
returns-in-None c = sym (quote_none c.args.bytes.now (λ k lt. c.in-None.ensures k (omega arith) lt))

pub returns-in-Some : goal.returns-in-Some
returns-in-Some c =
    rw (take_rest, add-one) (sym (quote_at c.args.bytes.now c.in-Some.end c.in-Some.ensures.0.high (λ k lt. c.in-Some.ensures.0.before k (omega arith) lt) c.in-Some.ensures.1))
