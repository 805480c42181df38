use Rattle.std.proofs.Common.{arith, add-one}
use Rattle.std.proofs.lemmas.List.{take_rest}
use Rattle.history_audit.proofs.Cuts.{cut_found, cut_nowhere}
use Rattle.history_audit.proofs.words.cut.Goals as goal

pub returns-in-None-clause-cut : goal.returns-in-None-clause-cut
returns-in-None-clause-cut c = cut_nowhere c.args.separator c.args.bytes.now (λ k lt. c.in-None.ensures k (omega arith) lt)

pub returns-in-Some-clause-cut : goal.returns-in-Some-clause-cut
returns-in-Some-clause-cut c =
    rw (take_rest, add-one) (cut_found c.args.separator c.args.bytes.now c.in-Some.end c.in-Some.ensures.0.high (λ k lt. c.in-Some.ensures.0.before k (omega arith) lt) c.in-Some.ensures.1)
