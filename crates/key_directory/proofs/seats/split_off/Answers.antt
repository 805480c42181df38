use Rattle.key_directory.proofs.Ends.{splits}
use Rattle.key_directory.proofs.seats.split_off.Goals as goal

pub split_seat-requires : goal.split_seat-requires
split_seat-requires g c = (c.requires.table.0, c.requires.table.1, rw c.requires.pick (splits g.K.KeyTest.passes _ _ _ _ _ c.requires.callers.0 c.requires.callers.1))
