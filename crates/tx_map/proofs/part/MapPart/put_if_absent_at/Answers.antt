use Rattle.std.proofs.Common.{inl, refl}
use Rattle.tx_map.proofs.part.MapPart.put_if_absent_at.Goals as goal

pub returns-in-Err-clause-stopped : goal.returns-in-Err-clause-stopped
returns-in-Err-clause-stopped g c = (c.args.tx.now, inl refl, c.in-Err.ensures.stopped)
