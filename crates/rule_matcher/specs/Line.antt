-- What is read of a line, without where its bytes lie in memory.
use Rattle.std.specs.Prelude.{ℕ, List}
use Rattle.std.specs.Global.{Vec}
use Rattle.rule_terms.specs.Rule.{Pattern, Rule}
use Rattle.rule_terms.specs.Reader as reader
use Rattle.rule_matcher.specs.declared.line.Front.{Front}
use Rattle.rule_matcher.specs.declared.patterns.Found.{Found}

abbrev pub found_of : Found → Pattern × List ℕ
found_of found = (found.pattern, found.rest.now)

abbrev pub patterns_of : Vec Pattern → List Pattern
patterns_of patterns = patterns.items

abbrev pub front_of : Front → reader.Head
front_of front = record { name = front.name.now; protocol = front.protocol; source_port = front.source_port; destination_port = front.destination_port; rest = front.rest.now }
