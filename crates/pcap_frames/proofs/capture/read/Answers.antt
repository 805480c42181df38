use Rattle.std.proofs.Common.{◌≡◌, [], ◌∷◌, ◌++◌, ap, arith, length, length-append}
use Rattle.std.proofs.lemmas.Grind.{common_steps}
use Rattle.pcap_frames.proofs.Records.{AreRecords-append}
use Rattle.pcap_frames.proofs.capture.read.Goals as goal

pub loop-frame-preserved : goal.loop-frame-preserved
loop-frame-preserved c =
    let pushed : c.push.new.self.items ≡ c.loop-frame.frames.items ++ c.in-Record.frame ∷ [] = grind (arith, common_steps) in
    let more = AreRecords-append _ _ 24 _ _ _ c.loop-frame.invariant.records c.in-Record.ensures in
    record {
      records = rw pushed more;
      few = omega (arith, ap length pushed, length-append c.loop-frame.frames.items (c.in-Record.frame ∷ []));
      within = c.in-Record.ensures.whole;
    }
