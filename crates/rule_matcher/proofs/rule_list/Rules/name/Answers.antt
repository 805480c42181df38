use Rattle.std.proofs.Common.{◌≡◌, get_or, ◌∙◌, ap}
use Rattle.rule_terms.specs.Rule.{Rule}
use Rattle.rule_matcher.proofs.Lines.{name_at_place}
use Rattle.rule_matcher.proofs.rule_list.Rules.name.Goals as goal

pub returns : goal.returns
returns c =
    let is : c.index-found.result.now ≡ get_or c.args.self.now c.args.rule c.index-found.result.now = rw c.self.view_is at c.index-found.ensures in
    c.deref.ensures.value ∙ ap (λ (r : Rule). r.name) c.found.view_is ∙ name_at_place c.args.self.now c.args.rule c.index-found.result.now c.requires is
