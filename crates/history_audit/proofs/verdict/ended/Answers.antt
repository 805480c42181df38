use Rattle.std.proofs.Common.{◌≡◌, ◌∙◌, true, false, eqb, length, sym, ap, eq-eqb}
use Rattle.history_audit.proofs.Judging.{no_behind}
use Rattle.history_audit.proofs.verdict.ended.Goals as goal

pub returns-else-is_empty : goal.returns-else-is_empty
returns-else-is_empty c = λ text j l e n r s. no_behind c.lines_are_named_law.ensures c.journals_grow_law.ensures text j c.args.behind.now c.args.number
    (λ z. let t : eqb (length c.args.behind.now) 0 ≡ true = eq-eqb (length c.args.behind.now) 0 (ap length z) in
    let bad : true ≡ false = sym t ∙ (sym c.is_empty.ensures ∙ c.if-is_empty.false) in absurd (cc bad)) l e n
