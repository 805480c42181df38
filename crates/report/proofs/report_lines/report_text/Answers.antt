use Rattle.report.specs.Report.{finding_line}
use Rattle.report.proofs.Joined.{lines_joined}
use Rattle.report.proofs.report_lines.report_text.Goals as goal

pub returns : goal.returns
returns c = record { text = lines_joined _ _ _ (finding_line c.args.rules.now) c.args.findings.now _ _ _ c.counts-counts.ensures c.new-text.ensures.items c.in_ok-push_counts.ensures c.in_ok-push_findings.ensures }
