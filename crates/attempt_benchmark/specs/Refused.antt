-- Why there was no commit.
use Rattle.std.specs.Prelude.{◌≡◌}
use Rattle.tx_core.specs.declared.stop.Stop.TheVariants as stops
use Rattle.attempt_benchmark.specs.declared.attempt.Refused.{Refused}
use Rattle.attempt_benchmark.specs.declared.attempt.Refused.TheVariants as refused

-- there was no memory
abbrev pub WantsMemory : Refused → Type 0
WantsMemory (refused.Stopped stop) = stop ≡ stops.Memory
WantsMemory refused.Memory = Unit {0}
