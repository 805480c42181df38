-- Quotients and remainders of times.
use Rattle.std.proofs.Common.{◌≡◌, ℕ, ◌-◌, ◌*◌, ◌/◌, ◌%◌, ◌^◌, ◌<◌, ◌≤◌, Bool, true, false, cond, arith}
use Rattle.std.proofs.Math.Nat.{div-eq_of_lt, mod-eq_of_lt, pow-le-pow_right}
use Rattle.std.proofs.lemmas.Nat.{mod_below, div_below, pow_pos}
use Rattle.std.specs.Prelude.{nat_lt}
use Rattle.pcapng_blocks.specs.Times.{units_per_second}

-- a time that is less than a second has no whole seconds
pub no_seconds : (units time : ℕ) → 2 ^ 94 ≤ units → time < 2 ^ 64 → 0 ≡ time / units % 4294967296
no_seconds units time many few =
    let below : time < units = omega arith in
    let none : time / units ≡ 0 = div-eq_of_lt below in
    omega arith

-- nor nanoseconds, where it is less than one
pub no_fraction : (units time : ℕ) → 2 ^ 94 ≤ units → time < 2 ^ 64 → 0 ≡ time % units * 1000000000 / units
no_fraction units time many few =
    let below : time < units = omega arith in
    let same : time % units ≡ time = mod-eq_of_lt below in
    let less : time % units * 1000000000 < units = omega arith in
    let none : time % units * 1000000000 / units ≡ 0 = div-eq_of_lt less in
    omega arith

pub fraction_small : (units time : ℕ) → 0 < units → time % units * 1000000000 / units < 1000000000
fraction_small units time some =
    let below : time % units < units = mod_below time units some in
    div_below (time % units * 1000000000) units 1000000000 some (omega arith)

pub ten_positive : (exponent : ℕ) → 1 ≤ 10 ^ exponent
ten_positive exponent =
    let grows : 10 ^ 0 ≤ 10 ^ exponent = pow-le-pow_right {n = 10} (omega arith) {i = 0} {j = exponent} (omega arith) in omega arith

pub many_digits : (exponent : ℕ) → 29 ≤ exponent → 2 ^ 94 ≤ 10 ^ exponent
many_digits exponent many =
    let grows : 10 ^ 29 ≤ 10 ^ exponent = pow-le-pow_right {n = 10} (omega arith) {i = 29} {j = exponent} many in omega arith

pub units_positive : (resolution : ℕ) → 0 < units_per_second resolution
unfolding units_per_second
units_positive resolution = by_case (nat_lt resolution 128)
  where
    by_case : (small : Bool) → 0 < cond small (10 ^ resolution) (2 ^ (resolution - 128))
    by_case true = let some = ten_positive resolution in omega arith
    by_case false = pow_pos (resolution - 128)
