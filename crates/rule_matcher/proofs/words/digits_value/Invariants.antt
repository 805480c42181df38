use Rattle.std.proofs.Common.{◌≡◌, ◌≤◌, drop}
use Rattle.rule_terms.specs.Reader.{digits_from}
use Rattle.rule_matcher.proofs.words.digits_value.Given as goal

abbrev pub invariant-loop-digit : goal.invariant-loop-digit
invariant-loop-digit l = record { small : l.number ≤ 65535; read : digits_from l.number (drop l.digit-index l.digits) ≡ digits_from 0 l.digits }
