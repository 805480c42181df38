use Rattle.std.proofs.Common.{◌≡◌}
use Rattle.key_directory.specs.Moves.{Knows}
use Rattle.key_directory.specs.Visits.{Passed}
use Rattle.key_directory.proofs.walk.find_place.Given as goal

abbrev pub invariant-loop-tries : goal.invariant-loop-tries
invariant-loop-tries g l = record {
  table : l.place.table_id ≡ l.initial.place.table_id;
  id : l.place.id ≡ l.initial.place.id;
  slots : l.place.me.1 ≡ l.initial.place.me.1;
  knows : Knows g.K.KeyTest.passes l.place.me.0;
  passed : Passed l.number l.capacity l.key l.tries l.initial.place.me.0 l.place.me.0;
}

abbrev pub ghosts-visit : goal.ghosts-visit
ghosts-visit g a = record { claim = a.claim }
