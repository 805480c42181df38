use Rattle.rule_matcher.proofs.Named.{names_more, name_taken}
use Rattle.rule_matcher.proofs.reading.add_name.Goals as goal

pub returns-in-Ok-clause-new : goal.returns-in-Ok-clause-new
returns-in-Ok-clause-new c = λ rules are. name_taken _ c.args.name rules _ c.in-Ok.ensures.added are

pub returns-in-Ok-clause-added : goal.returns-in-Ok-clause-added
returns-in-Ok-clause-added c = λ rules rule are is. names_more _ _ c.args.name rules rule c.in-Ok.ensures.updates.0 are is
