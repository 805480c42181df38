use Rattle.std.proofs.Common.{arith, ◌∙◌, ap}
use Rattle.atomic_table.specs.Table.{Me}
use Rattle.key_directory.specs.declared.view.View.{View}
use Rattle.key_directory.proofs.Steps.{meets}
use Rattle.key_directory.proofs.seats.rejoin.Goals as goal

pub load-requires : goal.load-requires
load-requires g c = let e = c.merge.ensures in let n = ap (λ (z : Me (Unit {0}) View). z.0.callers) e.2 in let p = c.requires.callers in
    (e.0 ∙ c.requires.table.0, c.requires.table.2, meets g.K.KeyTest.passes _ _ _ _ _ (omega arith))
