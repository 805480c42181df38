use Rattle.std.proofs.Common.{◌≡◌, ℕ, ◌+◌, Option, List, refl, sym, ◌∙◌, ap}
use Rattle.std.specs.Option.{option_map}
use Rattle.rule_terms.specs.Rule.{Pattern}
use Rattle.rule_terms.specs.Match.{compared}
use Rattle.rule_matcher.proofs.Places.{found_place, no_place}
use Rattle.rule_matcher.proofs.rule_list.Pattern.place_in.Goals as goal

pub returns-then-low-high-clause-place : goal.returns-then-low-high-clause-place
returns-then-low-high-clause-place c = λ payload is.
    no_place c.args.self.now payload c.args.compared.now _ c.args.compared.now c.bounds-low.result.0 c.bounds-low.result.1 is refl c.bounds-low.ensures.low c.bounds-low.ensures.high c.if-low-high.true c.places_are_least.ensures

pub returns-in-None-clause-place : goal.returns-in-None-clause-place
returns-in-None-clause-place c = λ payload is.
    let needle : c.self.inside.finder ≡ compared c.args.self.now.nocase c.args.self.now.bytes = c.self.invariant ∙ ap (λ (p : Pattern). compared p.nocase p.bytes) c.self.view_is in
    ap (option_map (λ (k : ℕ). c.bounds-low.result.0 + k)) (sym c.in-None.is)
    ∙ found_place c.args.self.now payload c.args.compared.now c.self.inside.finder _ c.bounds-low.result.0 c.bounds-low.result.1 is needle c.bounds-low.ensures.low c.bounds-low.ensures.high c.if-low-high.false refl c.find.result c.find.ensures c.places_are_least.ensures

pub returns-in-Some-clause-place : goal.returns-in-Some-clause-place
returns-in-Some-clause-place c = λ payload is.
    let needle : c.self.inside.finder ≡ compared c.args.self.now.nocase c.args.self.now.bytes = c.self.invariant ∙ ap (λ (p : Pattern). compared p.nocase p.bytes) c.self.view_is in
    ap (option_map (λ (k : ℕ). c.bounds-low.result.0 + k)) (sym c.in-Some.is)
    ∙ found_place c.args.self.now payload c.args.compared.now c.self.inside.finder _ c.bounds-low.result.0 c.bounds-low.result.1 is needle c.bounds-low.ensures.low c.bounds-low.ensures.high c.if-low-high.false refl c.find.result c.find.ensures c.places_are_least.ensures
