use Rattle.std.proofs.Common.{take}
use Rattle.std.specs.Prelude.{All, IsSomeAnd, slice_get}
use Rattle.ipv4_fragments.specs.Payload.{Stands}
use Rattle.ipv4_fragments.proofs.assembly.copy_tasks.Given as goal

abbrev pub invariant-loop-number : goal.invariant-loop-number
invariant-loop-number l = All (λ number. IsSomeAnd (slice_get l.tasks number) (Stands l.bytes l.whole)) (take l.number-index l.numbers)
