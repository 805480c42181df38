use Rattle.std.proofs.Common.{◌∙◌, ap, ◌++◌, ℕ}
use Rattle.std.specs.Prelude.{codes}
use Rattle.report.specs.Report.{ended, count_line}
use Rattle.report.specs.Summary.{trial_line, sum_line}
use Rattle.report.proofs.Summarized.{summary_joined}
use Rattle.report.proofs.summary.summary_text.Goals as goal

pub returns : goal.returns
returns c =
    summary_joined _ _ _ (trial_line c.args.seed c.args.frames) (sum_line c.args.findings.now) _ _ _ _
    c.counts-counts.ensures c.new-text.ensures.items c.in_ok-push_trial.ensures c.in_ok-push_counts.ensures
    (c.in_ok-push_count.ensures ∙ ap (λ (n : ℕ). c.push_counts.new.text.items ++ ended (count_line (codes "sum", n))) c.sum_of.ensures)
