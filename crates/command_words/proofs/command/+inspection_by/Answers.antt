use Rattle.std.proofs.Common.{sym, ◌∙◌, ap, List, ℕ, string_bytes}
use Rattle.command_words.specs.Words.{with_option}
use Rattle.command_words.proofs.Inspections.{one_option}
use Rattle.command_words.proofs.command.+inspection_by.Goals as goal

pub returns-in-Some-clause-asked : goal.returns-in-Some-clause-asked
returns-in-Some-clause-asked t c =
    let given = ap (λ (w : List ℕ). with_option c.args.options w (string_bytes c.value-item.result)) (sym c.as_str.ensures.value)
    ∙ ap (λ (v : List ℕ). with_option c.args.options c.as_str.result.now v) (sym c.as_str-in-len2-up.ensures.value)
    ∙ sym c.with.ensures.with ∙ c.in-Some.is in
    c.inspection_by.ensures.asked
    ∙ one_option (λ w. string_bytes w) c.args.options c.in-Some.more c.args.words.now c.word-item.result c.value-item.result c.in-len2-up.len_at_least (sym c.is_empty.ensures ∙ c.if-not-is_empty.true) c.word-item.is c.value-item.is given
