use Rattle.std.proofs.Common.{arith}
use Rattle.cell_table.proofs.Attempts.{roomy_pass}
use Rattle.cell_table.proofs.pass.Pass.reserve.Goals as goal

pub invariant_of-self : goal.invariant_of-self
invariant_of-self g c = (
  roomy_pass g.M.Meaning.lawful g.M.Meaning.explains _ _ _ _ c.self.invariant.0 c.reserve_entry.ensures.more c.reserve_entry.ensures.books,
  c.self.invariant.1,
  (let a = c.reserve_entry.ensures.capacity in let b = c.self.invariant.2 in omega arith),
  c.self.invariant.3,
  c.self.invariant.4,
)
