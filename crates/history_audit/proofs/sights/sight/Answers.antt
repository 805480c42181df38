use Rattle.std.proofs.Common.{◌≡◌}
use Rattle.serial_terms.specs.declared.call.Done.{Done}
use Rattle.serial_terms.specs.Sights.{Seen, seen_of}
use Rattle.journal_terms.specs.Strict.{IsReadableSight, read_sight}
use Rattle.journal_terms.specs.Text.{sight_text}
use Rattle.history_audit.proofs.Exactly.{read_exactly}
use Rattle.history_audit.proofs.sights.sight.Goals as goal

pub returns : goal.returns
returns c = read_exactly seen_of (read_sight c.args.line.now) (λ (v : Seen Done). IsReadableSight v × (sight_text v ≡ c.args.line.now)) (c.lines_are_read_law.ensures.sights c.args.line.now) c.read_sight.result c.read_sight.ensures
