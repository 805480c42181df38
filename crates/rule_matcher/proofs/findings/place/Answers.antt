use Rattle.std.proofs.Common.{ℕ, ◌≤◌, true, sym, ◌∙◌, ap, subst, length}
use Rattle.std.specs.Prelude.{IfSome}
use Rattle.rule_matcher.proofs.Places.{compared_len, compared_off}
use Rattle.rule_matcher.proofs.findings.place.Goals as goal

pub returns-then-compares_lowered-clause-within : goal.returns-then-compares_lowered-clause-within
returns-then-compares_lowered-clause-within c =
    subst (λ (n : ℕ). IfSome c.place_in.result (λ place. place ≤ n)) (ap length (c.requires (sym c.compares_lowered.ensures ∙ c.if-compares_lowered.true)) ∙ compared_len true c.args.payload.now) c.place_in.ensures.within

pub returns-else-compares_lowered-clause-place : goal.returns-else-compares_lowered-clause-place
returns-else-compares_lowered-clause-place c =
    c.place_in-else-compares_lowered.ensures.place c.args.payload.now (compared_off c.args.pattern.now.nocase c.args.payload.now (sym c.compares_lowered.ensures ∙ c.if-compares_lowered.false))
