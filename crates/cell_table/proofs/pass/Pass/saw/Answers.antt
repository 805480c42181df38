use Rattle.cell_table.proofs.Attempts.{saw_pass, idle_now}
use Rattle.cell_table.proofs.pass.Pass.saw.Goals as goal

pub invariant_of-self : goal.invariant_of-self
invariant_of-self g c = let idle = idle_now _ _ c.args.place c.self.view_is c.requires.idle c.requires.place in (saw_pass g.M.Meaning.lawful g.M.Meaning.explains _ c.args.place c.self.invariant.0 idle.0 idle.1 idle.2, c.self.invariant.1, c.self.invariant.2, c.self.invariant.3, c.self.invariant.4)
