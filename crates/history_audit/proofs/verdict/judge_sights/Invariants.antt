use Rattle.std.proofs.Common.{◌≡◌, ◌≤◌, ◌+◌, List, length}
use Rattle.serial_terms.specs.declared.call.Done.{Done}
use Rattle.history_audit.specs.Begun.{records_in}
use Rattle.serial_terms.specs.Sights.{Seen}
use Rattle.history_audit.specs.Replays.{IsReplayOf, IsOrderOf}
use Rattle.history_audit.proofs.Sighting.{HasSeenAll}
use Rattle.history_audit.proofs.verdict.judge_sights.Given as goal

abbrev pub invariant-lines : goal.invariant-lines
invariant-lines l = record {
  seen : (vs : List (Seen Done)) × HasSeenAll l.fn.sizes (records_in l.records) l.lines l.rest l.number vs × IsOrderOf l.replay vs × (l.sights ≡ length vs);
  again : IsReplayOf l.replay (records_in l.records);
  sized : l.replay.sizes ≡ l.fn.sizes;
  bound : l.number + length l.rest ≤ l.fn.first + length l.lines;
}

abbrev pub decreases-lines : goal.decreases-lines
decreases-lines l = length l.rest
