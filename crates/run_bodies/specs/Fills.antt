-- What a step of a fill leaves.
use Rattle.std.specs.Prelude.{◌≡◌, Bool, true, Result, Ok, Err}
use Rattle.tx_core.specs.declared.stop.Stop.TheVariants.{Memory}
use Rattle.tx_store.specs.declared.run.BodyStop.{BodyStop}
use Rattle.tx_store.specs.declared.run.BodyStop.TheVariants as stops

-- it goes on where it is so, and else the attempt is given up as if memory were wanting
abbrev pub GoesOnWhere : Bool → Result (Unit {0}) BodyStop → Type 0
GoesOnWhere is (Ok answer) = is ≡ true
GoesOnWhere is (Err stop) = stop ≡ stops.Stop Memory
