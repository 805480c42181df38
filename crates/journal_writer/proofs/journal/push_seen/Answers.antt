use Rattle.std.proofs.Common.{◌∙◌, ap, ◌++◌, List, ℕ}
use Rattle.std.proofs.lemmas.Result.{on_ok_weaker}
use Rattle.journal_writer.proofs.Joined.{sight_lines_by}
use Rattle.journal_writer.proofs.journal.push_seen.Goals as goal

pub returns-in-Sights : goal.returns-in-Sights
returns-in-Sights c =
    on_ok_weaker c.push_sights.result
    (λ pushed. pushed ∙ ap (λ (l : List ℕ). c.args.text.now.items ++ l) (sight_lines_by c.args.format c.args.sights.now c.in-Sights.is))
    c.push_sights.ensures
