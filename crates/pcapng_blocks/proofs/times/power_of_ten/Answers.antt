use Rattle.std.proofs.Common.{◌^◌, ◌≤◌, arith}
use Rattle.std.proofs.Math.Nat.{pow-le-pow_right}
use Rattle.pcapng_blocks.proofs.times.power_of_ten.Goals as goal

pub overflow_mul-power : goal.overflow_mul-power
overflow_mul-power c =
    let small : 10 ^ c.loop.counter ≤ 10 ^ 28 = pow-le-pow_right {n = 10} (omega arith) {i = c.loop.counter} {j = 28} (omega arith) in
    omega arith
