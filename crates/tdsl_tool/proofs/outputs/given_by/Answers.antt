use Rattle.std.proofs.Common.{refl, ◌∙◌, inl, inr, arith}
use Rattle.command_words.specs.Words.{names_of}
use Rattle.report.specs.Fault.{cause_of}
use Rattle.tdsl_tool.specs.Run.{folder, source, reading}
use Rattle.tdsl_tool.proofs.Verdicts.{stops_unread}
use Rattle.tdsl_tool.proofs.outputs.given_by.Goals as goal

pub returns-in-Err-clause-stops : goal.returns-in-Err-clause-stops
returns-in-Err-clause-stops g c = λ settings. inl c.in-Err.ensures.stops

pub returns-in-Err-bytes_of-clause-stops : goal.returns-in-Err-bytes_of-clause-stops
returns-in-Err-bytes_of-clause-stops g c = λ settings.
    let content = g.F.Files.content in
    let faults = g.F.Files.faults in
    let capture = c.args.names.capture.now in
    inr (stops_unread
    (reading (folder (content c.args.files.now) (faults c.args.files.now) (faults c.bytes_of.new.files)) (names_of c.args.names) settings)
    c.in-Ok.rules c.in-Ok.ensures.rules
    (source (folder (content c.rules_from.new.files) (faults c.rules_from.new.files) (faults c.bytes_of.new.files)) capture)
    refl (c.rules_from.ensures.content capture) (λ failed. omega (arith, c.rules_from.ensures.counts capture, failed))
    (cause_of c.in-Err-bytes_of.fault) c.in-Err-bytes_of.ensures.stops)

pub returns-clause-whole : goal.returns-clause-whole
returns-clause-whole g c = λ file told. c.in-Ok-bytes_of.ensures.whole file (c.rules_from.ensures.content c.args.names.capture.now ∙ told)
