use Rattle.std.proofs.Common.{◌≡◌, [], ◌∷◌, ◌++◌, List, length, true, false, refl, sym, ◌∙◌, ap, subst, arith}
use Rattle.std.specs.Prelude.{not}
use Rattle.std.specs.List.{list_any, IsDistinct}
use Rattle.capture_terms.specs.declared.plan.Group.{Group}
use Rattle.capture_terms.specs.Kept.{is_same_group}
use Rattle.ipv4_fragments.proofs.GroupNumbers.{place_known, place_new, distinct_more}
use Rattle.ipv4_fragments.proofs.group_list.GroupList.insert.Goals as goal
use Rattle.ipv4_fragments.proofs.group_list.GroupList.insert.Goals.{Then-place-len, In_ok-push}

known : (c : Then-place-len) → list_any (is_same_group c.args.group) c.args.self.now ≡ true
known c = place_known c.args.self.now c.args.group c.args.place c.requires (omega (arith, c.if-place-len.true, c.len.ensures, ap (length {A = Group}) c.self.view_is))

pub returns-then-place-len-clause-added : goal.returns-then-place-len-clause-added
returns-then-place-len-clause-added c = sym (ap not (known c))

pub returns-then-place-len-clause-groups : goal.returns-then-place-len-clause-groups
returns-then-place-len-clause-groups c = rw (known c) refl

unknown : (c : In_ok-push) → list_any (is_same_group c.args.group) c.args.self.now ≡ false
unknown c = place_new c.args.self.now c.args.group c.args.place c.requires (omega (arith, c.if-place-len.false, c.len.ensures, ap (length {A = Group}) c.self.view_is))

pushed : (c : In_ok-push) → c.push.new.self.items ≡ c.args.self.now ++ c.args.group ∷ []
pushed c = c.in_ok-push.ensures.items ∙ ap (λ (l : List Group). l ++ c.args.group ∷ []) c.self.view_is

distinct : (c : In_ok-push) → IsDistinct is_same_group c.push.new.self.items
distinct c = subst (IsDistinct is_same_group) (sym (pushed c)) (distinct_more c.args.self.now c.args.group (subst (IsDistinct is_same_group) c.self.view_is c.self.invariant) (unknown c))

pub invariant_of-self-2 : goal.invariant_of-self-2
invariant_of-self-2 c = distinct c

pub returns-clause-added : goal.returns-clause-added
returns-clause-added c = sym (ap not (unknown c))

pub returns-clause-groups : goal.returns-clause-groups
returns-clause-groups c = rw (unknown c) (pushed c)

pub returns-clause-unique : goal.returns-clause-unique
returns-clause-unique c = distinct c
