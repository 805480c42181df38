use Rattle.std.proofs.Common.{◌≡◌, drop}
use Rattle.serial_terms.specs.Entries.{Each}
use Rattle.history_audit.specs.Structures.{state_of, undone, IsFirst, IsListed}
use Rattle.history_audit.proofs.Running.{IsOnItsWay}
use Rattle.history_audit.proofs.structures.Structures.run.Given as goal

abbrev pub invariant-loop-done : goal.invariant-loop-done
invariant-loop-done l = record {
  way : IsOnItsWay (state_of l.initial.self) (state_of l.self) l.dones (drop l.done-index l.dones);
  back : undone l.changes.items (state_of l.self) ≡ undone l.initial.changes.items (state_of l.initial.self);
  about : Each (λ d. IsFirst d.call) (drop l.done-index l.dones);
  listed : IsListed (state_of l.self);
}
