use Rattle.std.proofs.Common.{◌∙◌, inr}
use Rattle.std.proofs.lemmas.Result.{IfErr-weaker}
use Rattle.command_words.specs.Words.{names_of}
use Rattle.report.specs.Fault.{cause_of}
use Rattle.tdsl_tool.specs.Run.{folder, reading}
use Rattle.tdsl_tool.proofs.Journaled.{journal_is, journal_hands_out}
use Rattle.tdsl_tool.proofs.Verdicts.{stops_at}
use Rattle.tdsl_tool.proofs.outputs.journal_for.Goals as goal

pub returns-in-Err-clause-stops : goal.returns-in-Err-clause-stops
returns-in-Err-clause-stops g c = c.in-Err.ensures.stops c.args.settings

pub returns-clause-journal : goal.returns-clause-journal
returns-clause-journal g c =
    let content = g.F.Files.content in
    let faults = g.F.Files.faults in
    let of = reading (folder (content c.args.files.now) (faults c.args.files.now) (faults c.given_by.new.files)) (names_of c.args.names) c.args.settings in
    journal_is of c.in-Ok.given.rules c.in-Ok.ensures.rules c.deref.result.now
    (λ bytes told. c.deref.ensures.value ∙ c.in-Ok.ensures.whole bytes told)
    c.journal_under.result c.journal_under.ensures.report c.journal_under.ensures.journal

pub returns-clause-history : goal.returns-clause-history
returns-clause-history g c =
    let content = g.F.Files.content in
    let faults = g.F.Files.faults in
    let of = reading (folder (content c.args.files.now) (faults c.args.files.now) (faults c.given_by.new.files)) (names_of c.args.names) c.args.settings in
    journal_hands_out of c.in-Ok.given.rules c.in-Ok.ensures.rules c.deref.result.now
    (λ bytes told. c.deref.ensures.value ∙ c.in-Ok.ensures.whole bytes told)
    c.journal_under.result c.journal_under.ensures.journal

pub returns-clause-stops : goal.returns-clause-stops
returns-clause-stops g c =
    let content = g.F.Files.content in
    let faults = g.F.Files.faults in
    let capture = c.args.names.capture.now in
    IfErr-weaker c.journal_under.result _ _
    (λ fault under. inr (stops_at
    (reading (folder (content c.args.files.now) (faults c.args.files.now) (faults c.given_by.new.files)) (names_of c.args.names) c.args.settings)
    c.in-Ok.given.rules c.in-Ok.ensures.rules c.deref.result.now
    (λ bytes told. c.deref.ensures.value ∙ c.in-Ok.ensures.whole bytes told)
    (cause_of fault) (under capture)))
    c.journal_under.ensures.stops
