use Rattle.std.proofs.Common.{◌≡◌, ◌++◌, ◌-◌, List}
use Rattle.std.specs.Option.{option_map}
use Rattle.rule_terms.specs.Rule.{Pattern}
use Rattle.rule_terms.specs.Reader.{read_others}
use Rattle.rule_matcher.proofs.patterns.others.Given as goal

abbrev pub invariant-loop-taken : goal.invariant-loop-taken
invariant-loop-taken l = option_map (λ (more : List Pattern). l.patterns.items ++ more) (read_others (7 - l._taken) l.rest) ≡ read_others 7 l.bytes
