use Rattle.std.proofs.Common.{◌≡◌, ◌≤◌, ◌+◌, ◌-◌, ℕ}
use Rattle.pcapng_blocks.specs.Options.{resolution_in}
use Rattle.pcapng_blocks.proofs.Resolutions.{first_value}
use Rattle.pcapng_blocks.proofs.options.resolution.Given as goal

-- as many options as there may still be
abbrev pub invariant-loop-next : goal.invariant-loop-next
invariant-loop-next l =
    (more : ℕ) × (l.end ≤ l.at + more) × (first_value l.order l.bytes l.end more l.at ≡ resolution_in l.order l.bytes l.end l.from)

abbrev pub decreases-loop-next : goal.decreases-loop-next
decreases-loop-next l = l.end - l.at
