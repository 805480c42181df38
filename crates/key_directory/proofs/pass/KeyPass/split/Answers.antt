use Rattle.std.proofs.Common.{arith, ◌≡◌, ℕ, ◌-◌, ap, sym, subst}
use Rattle.atomic_table.specs.Table.{Me}
use Rattle.key_directory.specs.declared.view.View.{View}
use Rattle.key_directory.specs.Directory.{PassView}
use Rattle.key_directory.specs.Layouts.{IsPass}
use Rattle.key_directory.proofs.Ends.{part_knows}
use Rattle.key_directory.proofs.pass.KeyPass.split.Goals as goal

pub invariant_of-self : goal.invariant_of-self
invariant_of-self g c = let v : View = c.self.inside.seat.me.0 in let n : ℕ = c.args.n in let me = c.split_off-seat.ensures.kept.2 in let count = c.self.invariant.counted in let small = c.requires.callers.1 in
    let held : v.callers ≡ c.args.self.now.callers = ap (λ (z : PassView). z.callers) c.self.view_is in
    subst (λ (z : Me (Unit {0}) View). IsPass g.K.KeyTest.passes z (c.self.inside.callers - n)) (sym {A = Me (Unit {0}) View} me) record {
      counted = (omega arith);
      acting = (omega arith);
      slots = c.self.invariant.slots;
      knows = part_knows g.K.KeyTest.passes v (v.callers - n) (omega arith) c.self.invariant.knows;
    }
