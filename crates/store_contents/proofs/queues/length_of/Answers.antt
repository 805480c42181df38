use Rattle.std.proofs.Common.{ℕ, ◌+◌, ◌-◌, map, ap, sym, ◌∙◌}
use Rattle.store_contents.specs.Places.{words_at}
use Rattle.store_contents.proofs.Words.{entries}
use Rattle.store_contents.proofs.queues.length_of.Goals as goal

pub returns-clause-log : goal.returns-clause-log
returns-clause-log c = (entries c.args.cells.now.values c.args.place c.requires).1 ∙ ap (λ (n : ℕ). map (λ w. w - 1) (words_at (c.args.place.first + 1) n c.args.cells.now.values)) (sym c.value.ensures)
