use Rattle.std.proofs.Common.{◌≡◌, ◌++◌, take}
use Rattle.std.specs.List.{flat_map}
use Rattle.journal_terms.specs.Text.{done_text}
use Rattle.journal_writer.specs.Texts.{separated}
use Rattle.journal_writer.proofs.calls.push_further.Given as goal

abbrev pub invariant-loop-done : goal.invariant-loop-done
invariant-loop-done l = l.text.items ≡ l.fn.text.items ++ flat_map (λ d. separated (done_text d)) (take l.done-index l.dones)
