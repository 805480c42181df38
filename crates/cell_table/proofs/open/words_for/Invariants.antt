use Rattle.std.proofs.Common.{◌≡◌, take}
use Rattle.cell_table.specs.Rule.{start_words}
use Rattle.cell_table.proofs.open.words_for.Given as goal

abbrev pub invariant-loop-value : goal.invariant-loop-value
invariant-loop-value l = l.words.items ≡ start_words (take l.value-index l.opening)
