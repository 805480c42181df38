use Rattle.std.proofs.Common.{◌<◌, ◌%◌, w64, arith}
use Rattle.std.proofs.Math.Decide.{ℕ_discrete}
use Rattle.std.proofs.lemmas.Nat.Bits.{bit_at_set_same, bit_at_set_other}
use Rattle.attempt_lists.proofs.filter.with_cell.Goals as goal

pub returns-clause-added : goal.returns-clause-added
returns-clause-added c =
    let within : c.args.cell % 64 < 64 = omega arith in
    bit_at_set_same w64 c.args.filter (c.args.cell % 64) within

-- a set bit stays set
pub returns-clause-kept : goal.returns-clause-kept
returns-clause-kept c = λ q passes.
    let within : c.args.cell % 64 < 64 = omega arith in
    elim (ℕ_discrete (q % 64) (c.args.cell % 64)) [
      | yes same ↦ rw same (bit_at_set_same w64 c.args.filter (c.args.cell % 64) within)
      | no other ↦ rw (bit_at_set_other w64 c.args.filter (c.args.cell % 64) within (q % 64) other) passes
    ]
