use Rattle.std.proofs.Common.{◌≡◌, ◌≤◌, ◌*◌, take, length}
use Rattle.std.specs.Prelude.{map, vec_len}
use Rattle.capture_terms.specs.Capture.{contents_of}
use Rattle.capture_terms.specs.Plan.{timed}
use Rattle.ipv4_fragments.specs.Sorting.{Holds}
use Rattle.ipv4_fragments.proofs.sorting.classify.Given as goal

abbrev pub invariant-loop-number : goal.invariant-loop-number
invariant-loop-number l = record {
  holds : Holds l.sorting (map (timed l.bytes (contents_of l.capture)) (take l.number l.capture.frames.items));
  window : l.sorting.generations.window ≡ l.window * 1000000000;
  long : vec_len l.sorting.groups.ranges ≡ length l.sorting.groups.known;
  few : length l.sorting.groups.known ≤ l.number;
}
