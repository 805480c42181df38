use Rattle.std.proofs.Common.{ℕ, ◌≤◌, take}
use Rattle.std.specs.Prelude.{All}
use Rattle.ipv4_fragments.specs.Payload.{end_at}
use Rattle.ipv4_fragments.proofs.assembly.greatest_end.Given as goal

abbrev pub invariant-loop-number : goal.invariant-loop-number
invariant-loop-number l = record {
  most : All (λ number. end_at l.tasks number ≤ l.greatest) (take l.number-index l.numbers);
  least : (end : ℕ) → All (λ number. end_at l.tasks number ≤ end) l.numbers → l.greatest ≤ end;
}
