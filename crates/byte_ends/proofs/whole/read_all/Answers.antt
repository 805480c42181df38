use Rattle.std.proofs.Common.{◌∙◌, arith}
use Rattle.std.proofs.lemmas.Grind.{common_steps}
use Rattle.byte_ends.proofs.Pieces.{IsFront-more}
use Rattle.byte_ends.proofs.whole.read_all.Goals as goal

pub loop-piece-preserved : goal.loop-piece-preserved
loop-piece-preserved g c = record {
  content = λ file. c.in-Ok.ensures.content file ∙ c.loop-piece.invariant.content file;
  counts = λ file. omega (arith, c.loop-piece.invariant.counts file, c.in-Ok.ensures.counts file);
  length = grind (arith, common_steps);
  some = omega arith;
  front = λ bytes told.
      let piece = c.in-Ok.ensures.bytes bytes (c.loop-piece.invariant.content c.args.name.now ∙ told) in
      IsFront-more c.loop-piece.content.items _ bytes _ _ c.in-Ok.count (c.loop-piece.invariant.front bytes told) piece c.in-Ok.ensures.bound (grind (arith, common_steps)) (grind (arith, common_steps));
}
