use Rattle.std.proofs.Common.{◌≡◌, arith}
use Rattle.pcapng_blocks.specs.Times.{units_per_second, seconds_of, fraction_of}
use Rattle.pcapng_blocks.proofs.Seconds.{no_seconds, no_fraction}
use Rattle.pcapng_blocks.proofs.times.split.Goals as goal

pub returns-in_default-clause-seconds : goal.returns-in_default-clause-seconds
unfolding seconds_of
returns-in_default-clause-seconds c = no_seconds _ _ c.in_default.ensures (omega arith)

pub returns-in_default-clause-fraction : goal.returns-in_default-clause-fraction
unfolding fraction_of
returns-in_default-clause-fraction c = no_fraction _ _ c.in_default.ensures (omega arith)

pub returns-clause-seconds : goal.returns-clause-seconds
unfolding seconds_of
returns-clause-seconds c =
    let units : c.in-Some.units ≡ units_per_second c.args.resolution = c.in-Some.ensures.0 in
    let time : c.from-time.result ≡ c.args.time = c.from-time.ensures in
    cc

pub returns-clause-fraction : goal.returns-clause-fraction
unfolding fraction_of
returns-clause-fraction c =
    let units : c.in-Some.units ≡ units_per_second c.args.resolution = c.in-Some.ensures.0 in
    let time : c.from-time.result ≡ c.args.time = c.from-time.ensures in
    cc
