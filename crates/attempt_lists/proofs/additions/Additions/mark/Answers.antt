use Rattle.std.proofs.Common.{◌≡◌, length, ap, ◌∙◌}
use Rattle.std.proofs.lemmas.List.{with_items_is, length-map}
use Rattle.attempt_lists.specs.Parts.{marks}
use Rattle.attempt_lists.proofs.PartLists.{marks_all}
use Rattle.attempt_lists.proofs.additions.Additions.mark.Goals as goal

pub returns-clause-waiting : goal.returns-clause-waiting
returns-clause-waiting c = λ part.
    let len : length c.mark_all.new.parts ≡ c.self.inside.parts.len = ap length c.mark_all.ensures ∙ length-map c.deref_mut.result.now marks ∙ c.deref_mut.ensures.len in
    rw (with_items_is c.self.inside.parts c.mark_all.new.parts len, c.mark_all.ensures, c.deref_mut.ensures.value, c.self.view_is) ((marks_all c.args.self.now part).0)

pub returns-clause-marked : goal.returns-clause-marked
returns-clause-marked c = λ part.
    let len : length c.mark_all.new.parts ≡ c.self.inside.parts.len = ap length c.mark_all.ensures ∙ length-map c.deref_mut.result.now marks ∙ c.deref_mut.ensures.len in
    rw (with_items_is c.self.inside.parts c.mark_all.new.parts len, c.mark_all.ensures, c.deref_mut.ensures.value, c.self.view_is) ((marks_all c.args.self.now part).1)
