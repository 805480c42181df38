use Rattle.std.proofs.Common.{◌^◌, ◌-◌, ◌≤◌, arith}
use Rattle.std.proofs.Math.Pow.{pow_mono}
use Rattle.std.proofs.lemmas.Bool.Decides.{nat_tests}
use Rattle.pcapng_blocks.specs.Times.{units_per_second}
use Rattle.pcapng_blocks.proofs.Seconds.{ten_positive, many_digits}
use Rattle.pcapng_blocks.proofs.times.units_per_second.Goals as goal

pub returns-then-resolution-lt-MANY_DIGITS : goal.returns-then-resolution-lt-MANY_DIGITS
unfolding units_per_second
returns-then-resolution-lt-MANY_DIGITS c =
    let some = ten_positive c.args.resolution in
    (grind (arith, nat_tests), omega arith)

pub returns-then-resolution-lt128 : goal.returns-then-resolution-lt128
unfolding units_per_second
returns-then-resolution-lt128 c =
    let many : 2 ^ 94 ≤ 10 ^ c.args.resolution = many_digits c.args.resolution (omega arith) in
    grind (arith, nat_tests)

pub returns-else-resolution-lt-MANY_BITS : goal.returns-else-resolution-lt-MANY_BITS
unfolding units_per_second
returns-else-resolution-lt-MANY_BITS c =
    let many : 2 ^ 94 ≤ 2 ^ (c.args.resolution - 128) = pow_mono {i = 94} {j = c.args.resolution - 128} (omega arith) in
    grind (arith, nat_tests)
