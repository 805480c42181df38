-- A file that begins with the type of a section header has its four bytes.
use Rattle.std.proofs.Common.{◌≡◌, ◌≢◌, ℕ, ◌<◌, List, length, get_or, arith}
use Rattle.std.proofs.Math.ListN.{get_or-eq_default}
use Rattle.capture_terms.specs.Numbers.{number32}
use Rattle.capture_terms.specs.declared.capture.Endianness.TheVariants.{Little}

pub too_short : (bytes : List ℕ) → ((k : ℕ) → get_or bytes k 0 < 256) → length bytes < 4 → number32 Little bytes 0 ≢ 0x0a0d0d0a
unfolding number32
too_short bytes small short same =
    let none : get_or bytes 3 0 ≡ 0 = get_or-eq_default bytes 0 {n = 3} (omega arith) in
    omega (arith, small 0, small 1, small 2)
