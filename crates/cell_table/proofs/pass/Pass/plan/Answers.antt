use Rattle.cell_table.proofs.Attempts.{planned_pass, plan_now, room_now}
use Rattle.cell_table.proofs.pass.Pass.plan.Goals as goal

pub invariant_of-self : goal.invariant_of-self
invariant_of-self g c = let now = plan_now g.M.Meaning.explains _ _ c.requires.drawn.0 _ c.self.view_is (c.requires.drawn.1, c.requires.drawn.2) in (planned_pass g.M.Meaning.lawful g.M.Meaning.explains _ _ c.requires.drawn.0 c.self.invariant.0 now.0 now.1 (room_now _ _ c.self.view_is c.requires.reserved), c.self.invariant.1, c.self.invariant.2, c.self.invariant.3, c.self.invariant.4)
