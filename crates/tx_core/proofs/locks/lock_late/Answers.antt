use Rattle.tx_core.proofs.Locking.{no_entry}
use Rattle.tx_core.proofs.locks.lock_late.Goals as goal

-- a cell that wasn't observed has no version among the observed ones
pub returns-in-Ok-lock_newest-clause-seen : goal.returns-in-Ok-lock_newest-clause-seen
returns-in-Ok-lock_newest-clause-seen g c = λ i lt here. absurd (no_entry _ _ i c.in-None.ensures lt here)
