use Rattle.std.proofs.Common.{arith}
use Rattle.pcapng_blocks.specs.Times.{units_per_second, seconds_of, fraction_of}
use Rattle.pcapng_blocks.proofs.times.seconds_and_nanoseconds.Goals as goal

pub returns-in-6-clause-seconds : goal.returns-in-6-clause-seconds
unfolding seconds_of units_per_second
returns-in-6-clause-seconds c = rw c.in-6.is

pub returns-in-6-clause-fraction : goal.returns-in-6-clause-fraction
unfolding fraction_of units_per_second
returns-in-6-clause-fraction c = rw c.in-6.is (omega arith)

pub returns-in-9-clause-seconds : goal.returns-in-9-clause-seconds
unfolding seconds_of units_per_second
returns-in-9-clause-seconds c = rw c.in-9.is

pub returns-in-9-clause-fraction : goal.returns-in-9-clause-fraction
unfolding fraction_of units_per_second
returns-in-9-clause-fraction c = rw c.in-9.is (omega arith)
