use Rattle.std.proofs.Common.{◌≡◌, length}
use Rattle.tx_core.proofs.Giving.{IsGiving}
use Rattle.tx_core.proofs.gives.give_back_to.Given as goal

abbrev pub invariant-loop-held : goal.invariant-loop-held
invariant-loop-held g l = IsGiving l.table l.initial.pass l.initial.held.entries l.len l.pass l.held.entries × (l.held.reserved ≡ l.initial.held.reserved)

abbrev pub decreases-loop-held : goal.decreases-loop-held
decreases-loop-held g l = length l.held.entries
