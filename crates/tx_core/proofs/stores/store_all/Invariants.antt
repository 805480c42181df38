use Rattle.tx_core.proofs.Storing.{IsStoring}
use Rattle.tx_core.proofs.stores.store_all.Given as goal

abbrev pub invariant-loop-index : goal.invariant-loop-index
invariant-loop-index g l = IsStoring l.table l.fn.pass (record { observations = l.fn.observations.items; writes = l.fn.writes.items; dones = l.fn.dones.items }) l.index l.pass
