use Rattle.std.proofs.Common.{refl, arith, sym, List, subst}
use Rattle.cell_table.specs.declared.entry.HeldCell.{HeldCell}
use Rattle.cell_table.specs.Seats.{Tied}
use Rattle.cell_table.proofs.Attempts.{roomy_pass}
use Rattle.cell_table.proofs.pass.Pass.reserve_locks.Goals as goal

pub invariant_of-self : goal.invariant_of-self
invariant_of-self g c = (
  roomy_pass g.M.Meaning.lawful g.M.Meaning.explains _ _ _ _ c.self.invariant.0 (omega arith) refl,
  subst (λ (z : List HeldCell). Tied c.self.inside.seat.me.0 z c.self.inside.drawn c.self.inside.draws) (sym c.reserve.ensures.items) c.self.invariant.1,
  c.self.invariant.2,
  (let a = c.reserve.ensures.len in let b = c.reserve.ensures.capacity in let f = c.self.invariant.3 in omega arith),
  c.self.invariant.4,
)
