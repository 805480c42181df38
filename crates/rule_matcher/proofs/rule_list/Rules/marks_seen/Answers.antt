use Rattle.std.proofs.Common.{◌≡◌, List, ℕ, sym, subst}
use Rattle.rule_terms.specs.Rule.{Rule}
use Rattle.rule_matcher.specs.Filter.{AreMarked, AreSeen, RulesOut}
use Rattle.rule_matcher.proofs.Filters.{rules_out}
use Rattle.rule_matcher.proofs.rule_list.Rules.marks_seen.Goals as goal

pub returns-clause-out : goal.returns-clause-out
returns-clause-out c =
    let are : AreMarked c.self.inside.table.items c.self.inside.marks.items c.args.self.now =
    subst (λ (rules : List Rule). AreMarked c.self.inside.table.items c.self.inside.marks.items rules) c.self.view_is c.self.invariant.1.each in
    let out : RulesOut c.self.inside.marks.items c.marks_in.result c.args.self.now c.args.payload.now =
    rules_out c.self.inside.table.items c.self.inside.marks.items c.args.payload.now c.marks_in.result c.args.self.now c.places_are_least.ensures are (subst (λ (table : List ℕ). AreSeen table c.args.payload.now c.marks_in.result) c.deref.ensures.value c.marks_in.ensures) in
    subst (λ (marks : List ℕ). RulesOut marks c.marks_in.result c.args.self.now c.args.payload.now) (sym c.deref-2.ensures.value) out
