use Rattle.std.proofs.Common.{inl, inr, sym}
use Rattle.std.proofs.lemmas.Option.{IfSome_then}
use Rattle.tdsl_tool.proofs.inspection.capture_in.Goals as goal

pub returns-in-Ok-clause-capture : goal.returns-in-Ok-clause-capture
returns-in-Ok-clause-capture c = inl (sym c.if-is_pcapng.ensures, c.in-Ok.ensures.found)

pub returns-in-Err-clause-stops : goal.returns-in-Err-clause-stops
returns-in-Err-clause-stops c = λ settings rules name.
    c.blocks_refused.ensures settings rules name c.args.bytes.now c.requires (IfSome_then _ c.in-Err.ensures.found (λ answer is. inl (sym c.if-is_pcapng.ensures, is)))

pub returns-in-Err-frames-clause-stops : goal.returns-in-Err-frames-clause-stops
returns-in-Err-frames-clause-stops c = λ settings rules name.
    c.refused.ensures settings rules name c.args.bytes.now c.requires (IfSome_then _ c.in-Err-frames.ensures.found (λ answer is. inr (sym c.if-is_pcapng.ensures, is)))
