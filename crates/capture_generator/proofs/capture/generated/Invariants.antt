use Rattle.std.proofs.Common.{◌≡◌, ◌≤◌}
use Rattle.capture_generator.specs.Packets.{line_state, datagrams_before, lines_of}
use Rattle.capture_generator.specs.Written.{Holds}
use Rattle.capture_generator.proofs.capture.generated.Given as goal

abbrev pub invariant-loop : goal.invariant-loop
invariant-loop l =
    Holds l.fn.frames l.written (lines_of l.fn.seed l.counter)
    × (l.draws.state ≡ line_state l.fn.seed l.counter)
    × (l.datagram ≡ datagrams_before l.fn.seed l.counter)
    × (l.datagram ≤ l.counter)
