use Rattle.std.proofs.Common.{◌≡◌, map, None}
use Rattle.serial_terms.specs.Entries.{Each}
use Rattle.inspect_workers.proofs.seats.seated.Given as goal

abbrev pub invariant-loop-gate : goal.invariant-loop-gate
invariant-loop-gate g l = record {
  free : Each (λ s. s.pass ≡ None) l.seats.items;
  gates : map (λ s. s.gate) l.seats.items ≡ l.yielded;
}
