use Rattle.std.proofs.Common.{◌≢◌, arith}
use Rattle.std.proofs.lemmas.Bool.Decides.{nat_tests}
use Rattle.capture_terms.specs.Numbers.{number32}
use Rattle.capture_terms.specs.declared.capture.Endianness.TheVariants.{Little}
use Rattle.pcapng_blocks.proofs.Heads.{too_short}
use Rattle.pcapng_blocks.proofs.capture.is_pcapng.Goals as goal

pub returns-then-bytes-lt4 : goal.returns-then-bytes-lt4
returns-then-bytes-lt4 c =
    let other : number32 Little c.args.bytes.now 0 ≢ 0x0a0d0d0a = too_short c.args.bytes.now (λ k. omega (arith, c.type_inv.bytes k)) (omega arith) in
    grind (arith, nat_tests)
