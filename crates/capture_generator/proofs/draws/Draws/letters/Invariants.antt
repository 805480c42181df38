use Rattle.std.proofs.Common.{◌≡◌, length}
use Rattle.capture_generator.specs.Draws.{letters, state_after}
use Rattle.capture_generator.proofs.draws.Draws.letters.Given as goal

abbrev pub invariant-loop : goal.invariant-loop
invariant-loop l = (l.self.state ≡ state_after l.fn.self.state l.counter) × (l.drawn.items ≡ letters l.fn.self.state l.counter) × (length l.drawn.items ≡ l.counter)
