use Rattle.key_directory.proofs.Ends.{joins}
use Rattle.key_directory.proofs.seats.merge.Goals as goal

pub join_seat-requires : goal.join_seat-requires
join_seat-requires g c = (c.requires.table.0, c.requires.table.1, c.requires.slots, c.requires.table.2, joins g.K.KeyTest.passes _ _ _ _ _ _ c.requires.callers)
