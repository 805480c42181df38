use Rattle.std.proofs.Common.{◌≡◌, length, ap, ◌∙◌}
use Rattle.std.proofs.lemmas.List.{with_items_is, length-map}
use Rattle.attempt_lists.specs.Parts.{clears}
use Rattle.attempt_lists.proofs.PartLists.{clears_all}
use Rattle.attempt_lists.proofs.additions.Additions.clear.Goals as goal

pub returns-clause-waiting : goal.returns-clause-waiting
returns-clause-waiting c = λ part.
    let len : length c.clear_all.new.parts ≡ c.self.inside.parts.len = ap length c.clear_all.ensures ∙ length-map c.deref_mut.result.now clears ∙ c.deref_mut.ensures.len in
    rw (with_items_is c.self.inside.parts c.clear_all.new.parts len, c.clear_all.ensures, c.deref_mut.ensures.value, c.self.view_is) ((clears_all c.args.self.now part).0)

pub returns-clause-marked : goal.returns-clause-marked
returns-clause-marked c = λ part.
    let len : length c.clear_all.new.parts ≡ c.self.inside.parts.len = ap length c.clear_all.ensures ∙ length-map c.deref_mut.result.now clears ∙ c.deref_mut.ensures.len in
    rw (with_items_is c.self.inside.parts c.clear_all.new.parts len, c.clear_all.ensures, c.deref_mut.ensures.value, c.self.view_is) ((clears_all c.args.self.now part).1)
