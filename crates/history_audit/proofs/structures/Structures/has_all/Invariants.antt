use Rattle.std.proofs.Common.{◌↔◌, drop}
use Rattle.serial_terms.specs.Entries.{Each}
use Rattle.history_audit.specs.Structures.{state_of, Has}
use Rattle.history_audit.proofs.structures.Structures.has_all.Given as goal

abbrev pub invariant-loop-place : goal.invariant-loop-place
invariant-loop-place l = Each (Has (state_of l.self)) l.noted ↔ Each (Has (state_of l.self)) (drop l.place-index l.noted)
