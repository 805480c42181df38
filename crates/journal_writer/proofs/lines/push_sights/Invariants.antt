use Rattle.std.proofs.Common.{◌≡◌, ◌++◌, take}
use Rattle.std.specs.List.{flat_map}
use Rattle.serial_terms.specs.Sights.{seen_of}
use Rattle.journal_terms.specs.Text.{sight_text}
use Rattle.journal_writer.specs.Texts.{ended}
use Rattle.journal_writer.proofs.lines.push_sights.Given as goal

abbrev pub invariant-loop-sight : goal.invariant-loop-sight
invariant-loop-sight l = l.text.items ≡ l.fn.text.items ++ flat_map (λ v. ended (sight_text (seen_of v))) (take l.sight-index l.sights)
