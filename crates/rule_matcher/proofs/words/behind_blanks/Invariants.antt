use Rattle.std.proofs.Common.{◌≡◌, drop}
use Rattle.rule_terms.specs.Reader.{behind_blanks}
use Rattle.rule_matcher.proofs.words.behind_blanks.Given as goal

abbrev pub invariant-loop-i : goal.invariant-loop-i
invariant-loop-i l = behind_blanks (drop l.i l.bytes) ≡ behind_blanks l.bytes
