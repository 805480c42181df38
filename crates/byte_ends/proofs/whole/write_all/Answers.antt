use Rattle.std.proofs.Common.{arith}
use Rattle.std.proofs.lemmas.List.{take_rest}
use Rattle.byte_ends.proofs.Pieces.{Sends-more}
use Rattle.byte_ends.proofs.whole.write_all.Goals as goal

pub loop-rest-preserved : goal.loop-rest-preserved
loop-rest-preserved g c =
    let more = Sends-more _ _ _ _ c.loop-rest.rest.now c.in_ok-count.count c.loop-rest.invariant.sends c.in_ok-count.ensures.appended in
    record { counts = omega (arith, c.loop-rest.invariant.counts, c.write.ensures.counts); sends = rw take_rest more }
