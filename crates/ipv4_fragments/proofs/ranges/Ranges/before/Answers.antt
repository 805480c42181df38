use Rattle.std.proofs.Common.{sym, Less}
use Rattle.std.specs.Cmp.{nat_cmp_is}
use Rattle.std.proofs.lemmas.Map.Keys.{ge_from_not_lt}
use Rattle.std.proofs.lemmas.Cmp.{ranked}
use Rattle.ipv4_fragments.proofs.ranges.Ranges.before.Goals as goal

pub returns-in-Some : goal.returns-in-Some
returns-in-Some c =
    let here = (c.range.ensures.in_range tt).3 _ _ c.in-Some.ensures.steps in (
      ranked _ _ Less (sym here.0.1),
      here.1,
      λ q before found. ge_from_not_lt _ _ ((c.range.ensures.in_range tt).4 _ _ c.in-Some.ensures.steps q (tt, sym (nat_cmp_is q c.args.end Less before)) found),
    )
