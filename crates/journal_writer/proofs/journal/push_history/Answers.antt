use Rattle.std.proofs.Common.{◌∙◌, ap, ◌++◌, List, ℕ}
use Rattle.std.proofs.lemmas.Result.{on_ok_weaker}
use Rattle.journal_writer.proofs.Joined.{record_lines}
use Rattle.journal_writer.proofs.journal.push_history.Goals as goal

pub returns : goal.returns
returns c =
    on_ok_weaker c.push_records.result
    (λ pushed. pushed ∙ ap (λ (l : List ℕ). c.args.text.now.items ++ l) (record_lines c.args.records.now))
    c.push_records.ensures
