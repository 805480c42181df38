use Rattle.std.proofs.Common.{◌≡◌, ℕ, ◌<◌, ◌≤◌, ◌∷◌, ◌++◌, [], length, Some, None, false, true, List, refl, sym, ◌∙◌, ap, arith, inr, subst}
use Rattle.std.specs.Prelude.{◌⊎◌}
use Rattle.rule_terms.specs.Reader.{read_rule, Head}
use Rattle.rule_terms.specs.Rule.{Rule}
use Rattle.rule_terms.specs.RuleText.{IsTaken}
use Rattle.rule_matcher.specs.Line.{front_of}
use Rattle.rule_matcher.specs.Ends.{IsNewRule, IsReadBehind}
use Rattle.rule_matcher.specs.Names.{AreNamesOf}
use Rattle.rule_matcher.proofs.LinesRead.{IsLookedAt, no_front, front_then, named_as, true_not_false, bad_none, bad_taken, new_rule, read_behind}
use Rattle.std.proofs.lemmas.Grind.{common_steps}
use Rattle.rule_matcher.proofs.reading.read_line.Goals as goal

pub returns-in_default-clause-cause : goal.returns-in_default-clause-cause
returns-in_default-clause-cause c =
    let is : IsLookedAt c.args.line.now c.cut_return-cut.result.now = record { cut_is = c.cut_return-cut.ensures; looked_at = sym c.is_skipped.ensures ∙ c.if-is_skipped.false } in
    (refl, bad_none c.lines_read_as_written.ensures c.args.line.now c.cut_return-cut.result.now c.args.rules.now.items is (no_front c.cut_return-cut.result.now (sym c.in_default.ensures)))

pub returns-in_default-found-clause-cause : goal.returns-in_default-found-clause-cause
returns-in_default-found-clause-cause c =
    let is : IsLookedAt c.args.line.now c.cut_return-cut.result.now = record { cut_is = c.cut_return-cut.ensures; looked_at = sym c.is_skipped.ensures ∙ c.if-is_skipped.false } in
    let none : read_rule c.cut_return-cut.result.now ≡ None = front_then c.cut_return-cut.result.now (front_of c.in-Some.front) None (sym c.in-Some.ensures) (sym c.in_default-found.is ∙ c.in-Ok.ensures) in
    (refl, bad_none c.lines_read_as_written.ensures c.args.line.now c.cut_return-cut.result.now c.args.rules.now.items is none)

pub returns-then-not-is_new-clause-cause : goal.returns-then-not-is_new-clause-cause
returns-then-not-is_new-clause-cause c =
    let is : IsLookedAt c.args.line.now c.cut_return-cut.result.now = record { cut_is = c.cut_return-cut.ensures; looked_at = sym c.is_skipped.ensures ∙ c.if-is_skipped.false } in
    let rule : Rule = c.in-Some-found.found in
    let reads : Some rule ≡ _ = sym c.in-Some-found.is ∙ c.in-Ok.ensures in
    let read : read_rule c.cut_return-cut.result.now ≡ Some rule = front_then c.cut_return-cut.result.now (front_of c.in-Some.front) (Some rule) (sym c.in-Some.ensures) reads in
    let has : IsTaken c.in-Some.front.name.now c.args.rules.now.items = (c.in_ok-is_new.ensures.new c.args.rules.now.items c.requires.names).0 c.if-not-is_new.true in
    let taken : IsTaken rule.name c.args.rules.now.items = subst (λ (name : List ℕ). IsTaken name c.args.rules.now.items) (sym (named_as (front_of c.in-Some.front) rule reads)) has in
    (refl, bad_taken c.lines_read_as_written.ensures c.args.line.now c.cut_return-cut.result.now c.args.rules.now.items is rule read taken)

pub returns-then-len-ge-MAX_RULES-clause-cause : goal.returns-then-len-ge-MAX_RULES-clause-cause
returns-then-len-ge-MAX_RULES-clause-cause c =
    let is : IsLookedAt c.args.line.now c.cut_return-cut.result.now = record { cut_is = c.cut_return-cut.ensures; looked_at = sym c.is_skipped.ensures ∙ c.if-is_skipped.false } in
    let rule : Rule = c.in-Some-found.found in
    let reads : Some rule ≡ _ = sym c.in-Some-found.is ∙ c.in-Ok.ensures in
    let read : read_rule c.cut_return-cut.result.now ≡ Some rule = front_then c.cut_return-cut.result.now (front_of c.in-Some.front) (Some rule) (sym c.in-Some.ensures) reads in
    let new : ¬ IsTaken rule.name c.args.rules.now.items = λ taken.
    let has : IsTaken c.in-Some.front.name.now c.args.rules.now.items = subst (λ (name : List ℕ). IsTaken name c.args.rules.now.items) (named_as (front_of c.in-Some.front) rule reads) taken in
    true_not_false c.in_ok-is_new.is_new c.if-not-is_new.false ((c.in_ok-is_new.ensures.new c.args.rules.now.items c.requires.names).1 has) in
    (omega arith, new_rule c.lines_read_as_written.ensures c.args.line.now c.cut_return-cut.result.now c.args.rules.now.items is rule read new)

pub returns-clause-read : goal.returns-clause-read
returns-clause-read c =
    let is : IsLookedAt c.args.line.now c.cut_return-cut.result.now = record { cut_is = c.cut_return-cut.ensures; looked_at = sym c.is_skipped.ensures ∙ c.if-is_skipped.false } in
    let rule : Rule = c.in-Some-found.found in
    let reads : Some rule ≡ _ = sym c.in-Some-found.is ∙ c.in-Ok.ensures in
    let read : read_rule c.cut_return-cut.result.now ≡ Some rule = front_then c.cut_return-cut.result.now (front_of c.in-Some.front) (Some rule) (sym c.in-Some.ensures) reads in
    let new : ¬ IsTaken rule.name c.args.rules.now.items = λ taken.
    let has : IsTaken c.in-Some.front.name.now c.args.rules.now.items = subst (λ (name : List ℕ). IsTaken name c.args.rules.now.items) (named_as (front_of c.in-Some.front) rule reads) taken in
    true_not_false c.in_ok-is_new.is_new c.if-not-is_new.false ((c.in_ok-is_new.ensures.new c.args.rules.now.items c.requires.names).1 has) in
    let pushed : c.push.new.self.items ≡ c.args.rules.now.items ++ rule ∷ [] = grind (arith, common_steps) in
    read_behind c.lines_read_as_written.ensures c.args.line.now c.cut_return-cut.result.now c.args.rules.now.items is rule c.push.new.self.items read new (omega arith) pushed

pub returns-clause-names : goal.returns-clause-names
returns-clause-names c =
    let rule : Rule = c.in-Some-found.found in
    let reads : Some rule ≡ _ = sym c.in-Some-found.is ∙ c.in-Ok.ensures in
    let pushed : c.push.new.self.items ≡ c.args.rules.now.items ++ rule ∷ [] = grind (arith, common_steps) in
    subst (λ (rules : List Rule). AreNamesOf c.add_name.new.names rules) (sym pushed)
    (c.in_ok-is_new.ensures.added c.args.rules.now.items rule c.requires.names (named_as (front_of c.in-Some.front) rule reads))
