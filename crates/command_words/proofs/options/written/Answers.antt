use Rattle.std.proofs.Common.{◌≡◌, true, false, sym, ◌∙◌, ap}
use Rattle.std.proofs.lemmas.Slice.Eq.{bytes_eq-Decides}
use Rattle.std.specs.Fmt.{decimal}
use Rattle.command_words.proofs.Numbers.{parsed}
use Rattle.command_words.proofs.options.written.Goals as goal

pub returns-in_default-clause-none : goal.returns-in_default-clause-none
returns-in_default-clause-none c = λ none number small is. c.in_default.not-Ok number (parsed number c.args.word.now c.parse.result small is c.parse.ensures.value.0)

pub returns-else-eq-clause-none : goal.returns-else-eq-clause-none
returns-else-eq-clause-none c = λ none number small is.
    let parse_is = parsed number c.args.word.now c.parse.result small is c.parse.ensures.value.0 in
    let same : c.in-Ok.number ≡ number = cc in
    let equal : c.as_bytes.result.now ≡ c.as_bytes-2.result.now = c.as_bytes.ensures.value ∙ c.format.ensures.text ∙ ap decimal same ∙ sym is ∙ sym c.as_bytes-2.ensures.value in
    let found : c.eq.result ≡ true = c.eq.ensures ∙ (bytes_eq-Decides c.as_bytes.result.now c.as_bytes-2.result.now).1 equal in
    let both : true ≡ false = sym found ∙ c.if-eq.false in
    absurd (cc)
