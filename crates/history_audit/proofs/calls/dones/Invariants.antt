use Rattle.std.proofs.Common.{◌≡◌, ◌++◌, length}
use Rattle.std.specs.Option.{option_map}
use Rattle.journal_terms.specs.Reading.{cut_at}
use Rattle.journal_terms.specs.Strict.{read_pieces, read_calls}
use Rattle.history_audit.proofs.calls.dones.Given as goal

abbrev pub invariant-loop-done : goal.invariant-loop-done
invariant-loop-done l = option_map (λ ds. l.dones.items ++ ds) (read_pieces (cut_at 59 l.rest)) ≡ read_calls l.calls

abbrev pub decreases-loop-done : goal.decreases-loop-done
decreases-loop-done l = length l.rest
