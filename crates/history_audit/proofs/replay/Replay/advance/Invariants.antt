use Rattle.std.proofs.Common.{◌+◌, List, length}
use Rattle.serial_terms.specs.declared.call.Done.{Done}
use Rattle.serial_terms.specs.Entries.{Entry}
use Rattle.history_audit.specs.Replays.{AreRecordsOf, IsReplayOf, KeepsOrder, breadth}
use Rattle.history_audit.proofs.replay.Replay.advance.Given as goal

abbrev pub invariant-records : goal.invariant-records
invariant-records l = record {
  kept : KeepsOrder l.fn.self l.self l.place;
  replay : (es : List (Entry Done)) → AreRecordsOf l.fn.self es → IsReplayOf l.self es;
}

abbrev pub decreases-records : goal.decreases-records
decreases-records l = breadth l.self.next + length l.self.left.now
