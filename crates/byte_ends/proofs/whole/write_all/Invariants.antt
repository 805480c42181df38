use Rattle.std.proofs.Common.{◌≤◌, length}
use Rattle.byte_ends.proofs.Pieces.{Sends}
use Rattle.byte_ends.proofs.whole.write_all.Given as goal

abbrev pub invariant-loop-rest : goal.invariant-loop-rest
invariant-loop-rest g l = record {
  counts : g.O.Sink.faults l.initial.sink ≤ g.O.Sink.faults l.sink;
  sends : Sends (g.O.Sink.written l.initial.sink) (g.O.Sink.written l.sink) l.bytes l.rest;
}

abbrev pub decreases-loop-rest : goal.decreases-loop-rest
decreases-loop-rest g l = length l.rest
