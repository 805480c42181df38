use Rattle.std.proofs.Common.{◌<◌, length, arith}
use Rattle.std.proofs.lemmas.List.Edits.{map_over_more}
use Rattle.attempt_lists.specs.Parts.{clears}
use Rattle.attempt_lists.proofs.additions.clear_all.Goals as goal

pub loop-part-preserved : goal.loop-part-preserved
loop-part-preserved c =
    let lt : c.loop-part.part-index < length c.args.parts.now = omega arith in
    rw (c.clear.ensures, ← c.part-item.is) (map_over_more clears c.args.parts.now c.loop-part.parts c.loop-part.part-index c.part-item.result lt c.loop-part.invariant c.part-item.is)
