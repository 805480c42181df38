use Rattle.std.proofs.Common.{◌≡◌, ◌^◌, ◌<◌, drop}
use Rattle.journal_terms.specs.Strict.{read_on}
use Rattle.history_audit.proofs.words.digits_value.Given as goal

abbrev pub invariant-loop-digit : goal.invariant-loop-digit
invariant-loop-digit l = record { small : l.number < 2 ^ 64; read : read_on l.number (drop l.digit-index l.digits) ≡ read_on 0 l.digits }
