use Rattle.std.proofs.Common.{◌∙◌, ap, sym, get_or, arith}
use Rattle.std.specs.Prelude.{slice_set}
use Rattle.std.proofs.lemmas.List.Edits.{map_over_more}
use Rattle.std.proofs.lemmas.Grind.{get_or_default_zero}
use Rattle.rule_terms.specs.Match.{lowered}
use Rattle.rule_matcher.proofs.lowered.lower.Goals as goal

pub loop-b-preserved : goal.loop-b-preserved
loop-b-preserved c =
    ap (slice_set c.loop-b.bytes c.loop-b.b-index) c.lowered.ensures
    ∙ map_over_more lowered c.args.bytes.now c.loop-b.bytes c.loop-b.b-index (get_or c.loop-b.bytes c.loop-b.b-index 0) c.loop-b-test.true c.loop-b.invariant (sym (get_or_default_zero c.loop-b.bytes c.loop-b.b-index (get_or c.loop-b.bytes c.loop-b.b-index 0) (omega arith)))
