use Rattle.std.proofs.Common.{◌≡◌, length, ap, ◌∙◌}
use Rattle.std.proofs.lemmas.List.{with_items_is, length-map}
use Rattle.attempt_lists.specs.Parts.{restores}
use Rattle.attempt_lists.proofs.PartLists.{restores_all}
use Rattle.attempt_lists.proofs.additions.Additions.back_to_mark.Goals as goal

pub returns-clause-waiting : goal.returns-clause-waiting
returns-clause-waiting c = λ part.
    let len : length c.restore_all.new.parts ≡ c.self.inside.parts.len = ap length c.restore_all.ensures ∙ length-map c.deref_mut.result.now restores ∙ c.deref_mut.ensures.len in
    rw (with_items_is c.self.inside.parts c.restore_all.new.parts len, c.restore_all.ensures, c.deref_mut.ensures.value, c.self.view_is) ((restores_all c.args.self.now part).0)

pub returns-clause-marked : goal.returns-clause-marked
returns-clause-marked c = λ part.
    let len : length c.restore_all.new.parts ≡ c.self.inside.parts.len = ap length c.restore_all.ensures ∙ length-map c.deref_mut.result.now restores ∙ c.deref_mut.ensures.len in
    rw (with_items_is c.self.inside.parts c.restore_all.new.parts len, c.restore_all.ensures, c.deref_mut.ensures.value, c.self.view_is) ((restores_all c.args.self.now part).1)
