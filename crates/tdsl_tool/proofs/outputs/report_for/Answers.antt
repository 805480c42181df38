use Rattle.std.proofs.Common.{◌∙◌, inr}
use Rattle.std.proofs.lemmas.Result.{IfOk-weaker, IfErr-weaker}
use Rattle.command_words.specs.Words.{names_of}
use Rattle.report.specs.Fault.{cause_of}
use Rattle.tdsl_tool.specs.Handed.{records_of}
use Rattle.tdsl_tool.specs.Run.{folder, reading}
use Rattle.tdsl_tool.specs.Verdict.{reports}
use Rattle.tdsl_tool.proofs.Verdicts.{comes_to_of, hands_out, stops_at}
use Rattle.tdsl_tool.proofs.outputs.report_for.Goals as goal

pub returns-in-Err-clause-stops : goal.returns-in-Err-clause-stops
returns-in-Err-clause-stops g c = c.in-Err.ensures.stops c.args.settings

pub returns-clause-report : goal.returns-clause-report
returns-clause-report g c =
    let content = g.F.Files.content in
    let faults = g.F.Files.faults in
    let capture = c.args.names.capture.now in
    IfOk-weaker c.report_under.result _ _
    (λ made under. comes_to_of
    (reading (folder (content c.args.files.now) (faults c.args.files.now) (faults c.given_by.new.files)) (names_of c.args.names) c.args.settings)
    c.in-Ok.given.rules c.in-Ok.ensures.rules c.deref.result.now
    (λ bytes told. c.deref.ensures.value ∙ c.in-Ok.ensures.whole bytes told)
    (reports made.text.items) (under capture))
    c.report_under.ensures.report

pub returns-clause-history : goal.returns-clause-history
returns-clause-history g c =
    let content = g.F.Files.content in
    let faults = g.F.Files.faults in
    IfOk-weaker c.report_under.result _ _
    (λ made is. hands_out
    (reading (folder (content c.args.files.now) (faults c.args.files.now) (faults c.given_by.new.files)) (names_of c.args.names) c.args.settings)
    c.in-Ok.given.rules c.in-Ok.ensures.rules c.deref.result.now
    (λ bytes told. c.deref.ensures.value ∙ c.in-Ok.ensures.whole bytes told)
    (records_of made) is)
    c.report_under.ensures.history

pub returns-clause-stops : goal.returns-clause-stops
returns-clause-stops g c =
    let content = g.F.Files.content in
    let faults = g.F.Files.faults in
    let capture = c.args.names.capture.now in
    IfErr-weaker c.report_under.result _ _
    (λ fault under. inr (stops_at
    (reading (folder (content c.args.files.now) (faults c.args.files.now) (faults c.given_by.new.files)) (names_of c.args.names) c.args.settings)
    c.in-Ok.given.rules c.in-Ok.ensures.rules c.deref.result.now
    (λ bytes told. c.deref.ensures.value ∙ c.in-Ok.ensures.whole bytes told)
    (cause_of fault) (under capture)))
    c.report_under.ensures.stops
