use Rattle.std.proofs.Common.{◌≡◌, [], false, sym, refl, ◌∙◌, ap, subst, get_or}
use Rattle.std.specs.Prelude.{not}
use Rattle.std.specs.List.{list_any, IsDistinct}
use Rattle.capture_terms.specs.Kept.{is_same_group, group_of, cannot_both_stand}
use Rattle.ipv4_fragments.specs.Groups.{of_group}
use Rattle.ipv4_fragments.specs.Ranges.{Agrees}
use Rattle.ipv4_fragments.specs.declared.ranges.Ranges.{Ranges}
use Rattle.ipv4_fragments.proofs.KeptGroups.{any_in_group, follows_new, follows_kept, follows_aside, at_number, apart_keys, place_old, mine_there, number_old, number_new, new_unknown, old_known}
use Rattle.ipv4_fragments.proofs.groups.Groups.keep.Goals as goal
use Rattle.ipv4_fragments.proofs.groups.Groups.keep.Goals.{In_ok-push, Then-clashes, In_ok-keep-2}

unknown : (c : In_ok-push) → list_any (is_same_group (group_of c.args.piece.now)) c.args.self.now.known ≡ false
unknown c = new_unknown _ _ c.in_ok-is_new.ensures.added c.if-is_new.true

pub returns-then-is_new-clause-number : goal.returns-then-is_new-clause-number
returns-then-is_new-clause-number c = λ _. number_new c.args.self.now.known c.args.piece.now c.args.number c.requires.place (unknown c) c.insert.new.self (c.in_ok-is_new.ensures.groups ∙ (rw (unknown c)))

pub returns-then-is_new-clause-kept : goal.returns-then-is_new-clause-kept
returns-then-is_new-clause-kept c = λ kept follows.
    let made = follows_new c.args.self.now _ kept follows c.args.piece.now (unknown c) (c.in_ok-is_new.ensures.groups ∙ (rw (unknown c))) c.keep.new.self c.in_ok-push.ensures.items (c.in_ok-keep.ensures [] c.new-ranges.ensures refl) in
    (sym (ap not made.0), made.1)

pub returns-then-clashes-clause-kept : goal.returns-then-clashes-clause-kept
returns-then-clashes-clause-kept c = λ kept follows.
    let known = old_known _ _ c.in_ok-is_new.ensures.added c.if-is_new.false in
    let old = c.args.self.now in
    let f = c.args.piece.now in
    let first = c.requires.place in
    let within = place_old old.known f c.args.number first known in
    let mine = mine_there old.known f c.args.number first (group_of f) within in
    let agrees : Agrees c.index.result.now (of_group (group_of f) kept) = subst (λ (r : Ranges). Agrees r (of_group (group_of f) kept)) (sym c.index.ensures) (at_number old old kept follows f c.args.number within (group_of f) c.index.result.now mine) in (
      sym (ap not (any_in_group f kept ∙ sym (c.clashes.ensures (of_group (group_of f) kept) agrees) ∙ c.if-clashes.true)),
      follows_aside old _ kept follows f (c.in_ok-is_new.ensures.groups ∙ (rw known)) refl,
    )

pub returns-clause-number : goal.returns-clause-number
returns-clause-number c = λ _. number_old c.args.self.now.known c.args.piece.now c.args.number c.requires.place (old_known _ _ c.in_ok-is_new.ensures.added c.if-is_new.false) c.insert.new.self (c.in_ok-is_new.ensures.groups ∙ (rw (old_known _ _ c.in_ok-is_new.ensures.added c.if-is_new.false)))

pub returns-clause-kept : goal.returns-clause-kept
returns-clause-kept c = λ kept follows.
    let known = old_known _ _ c.in_ok-is_new.ensures.added c.if-is_new.false in
    let old = c.args.self.now in
    let f = c.args.piece.now in
    let first = c.requires.place in
    let within = place_old old.known f c.args.number first known in
    let mine = mine_there old.known f c.args.number first (group_of f) within in
    let same : c.insert.new.self ≡ old.known = c.in_ok-is_new.ensures.groups ∙ (rw known) in
    let distinct : IsDistinct is_same_group old.known = subst (IsDistinct is_same_group) same c.in_ok-is_new.ensures.unique in
    let agrees : Agrees c.index.result.now (of_group (group_of f) kept) = subst (λ (r : Ranges). Agrees r (of_group (group_of f) kept)) (sym c.index.ensures) (at_number old old kept follows f c.args.number within (group_of f) c.index.result.now mine) in
    let stands : list_any (cannot_both_stand f) (of_group (group_of f) kept) ≡ false = sym (c.clashes.ensures (of_group (group_of f) kept) agrees) ∙ c.if-clashes.false in
    let now : c.index_mut.result.now ≡ get_or old.ranges.items c.args.number c.index_mut.result.now = c.index_mut.ensures.value in
    let agreed : Agrees c.index_mut.result.now (of_group (group_of f) kept) = subst (λ (r : Ranges). Agrees r (of_group (group_of f) kept)) (sym now) (at_number old old kept follows f c.args.number within (group_of f) c.index_mut.result.now mine) in (
      sym (ap not (any_in_group f kept ∙ stands)),
      follows_kept old _ kept follows f c.args.number within (group_of f) c.index_mut.result.now mine same (apart_keys old.known distinct (group_of f) c.args.number (group_of f) within mine) c.keep-2.new.self refl (c.in_ok-keep-2.ensures (of_group (group_of f) kept) agreed stands),
    )
