use Rattle.std.proofs.Common.{rules, sym, ◌∙◌}
use Rattle.store_contents.proofs.Words.{ring}
use Rattle.store_contents.proofs.queues.ring_of.Goals as goal

pub returns-clause-within : goal.returns-clause-within
returns-clause-within c = (ring c.args.cells.now.values c.args.place c.head_len.result.0 c.head_len.result.1 (search rules) c.requires (sym c.value.ensures ∙ c.head_len.ensures)).0

pub returns-clause-queue : goal.returns-clause-queue
returns-clause-queue c = (ring c.args.cells.now.values c.args.place c.head_len.result.0 c.head_len.result.1 (search rules) c.requires (sym c.value.ensures ∙ c.head_len.ensures)).1
