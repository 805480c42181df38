use Rattle.std.proofs.Common.{◌≤◌, ◌-◌, length}
use Rattle.capture_terms.specs.Capture.{AreRecords}
use Rattle.pcap_frames.proofs.capture.read.Given as goal

abbrev pub invariant-loop-frame : goal.invariant-loop-frame
invariant-loop-frame l = record {
  records : AreRecords l.order l.bytes 24 l.frames.items l.at;
  few : length l.frames.items ≤ 262144;
  within : l.at ≤ length l.bytes;
}

abbrev pub decreases-loop-frame : goal.decreases-loop-frame
decreases-loop-frame l = length l.bytes - l.at
