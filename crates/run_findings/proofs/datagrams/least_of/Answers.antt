use Rattle.std.proofs.Common.{arith}
use Rattle.run_findings.proofs.Found.{contains_at, least_all, least_more}
use Rattle.run_findings.proofs.datagrams.least_of.Goals as goal

pub loop-number-preserved : goal.loop-number-preserved
loop-number-preserved c =
    let numbers = c.args.numbers.now in
    let k = c.loop-number.number-index in
    let there = c.loop-number-test.true in
    record {
      among = c.lesser-least.ensures.one numbers c.loop-number.invariant.among (contains_at numbers k _ there);
      least = least_more numbers k _ c.loop-number.least c.lesser-least.result there c.loop-number.invariant.least c.lesser-least.ensures.most.0 c.lesser-least.ensures.most.1;
    }

pub returns-clause-least : goal.returns-clause-least
returns-clause-least c = least_all c.args.numbers.now c.loop-number.number-index c.loop-number.least (omega (arith, c.loop-number-test.false, c.loop-number.auto.number-index-end)) c.loop-number.invariant.least
