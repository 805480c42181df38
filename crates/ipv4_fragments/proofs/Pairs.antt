-- Two tasks of one group that make up a datagram.
use Rattle.std.proofs.Common.{◌≡◌, ℕ, zero, suc, ◌<◌, true, List, [], ◌∷◌, Option, None, Some, inr, refl, sym, ◌∙◌, ap, subst, arith, get_or, length}
use Rattle.std.specs.Prelude.{IsSomeAnd, Contains, slice_get}
use Rattle.capture_terms.specs.Datagram.{is_member, is_complete, members, IsDatagramAt}
use Rattle.capture_terms.specs.declared.plan.Task.{Task}

in_group : (o : Option ℕ) → IsSomeAnd o (λ group. group ≡ 0) → o ≡ Some 0
in_group None none = absurd none
in_group (Some group) is = ap Some is

pub pair_is_datagram : (end front : Task) → end.last ≡ true → end.start ≡ front.length → IsSomeAnd end.group (λ group. group ≡ 0) → IsSomeAnd front.group (λ group. group ≡ 0) → IsDatagramAt (end ∷ front ∷ []) (1 ∷ 0 ∷ []) (end ∷ front ∷ [])
pair_is_datagram end front last reach one two = inr (record {
  group = 0;
  each = each;
  all = all;
  complete = ap is_complete (sym both) ∙ complete;
  is = both;
})
  where
    of_end : is_member 0 end ≡ true
    of_end = rw (in_group end.group one) refl

    of_front : is_member 0 front ≡ true
    of_front = rw (in_group front.group two) refl

    both : end ∷ front ∷ [] ≡ members (end ∷ front ∷ []) 0
    both = rw (of_end, of_front) refl

    complete : is_complete (end ∷ front ∷ []) ≡ true
    complete = grind arith

    each : (k d : ℕ) → k < 2 → IsSomeAnd (slice_get (end ∷ front ∷ []) (get_or (1 ∷ 0 ∷ []) k d)) (λ task. is_member 0 task ≡ true)
    each zero d lt = of_front
    each (suc zero) d lt = of_end
    each (suc (suc k)) d lt = absurd (omega arith)

    all : (number : ℕ) (task : Task) → slice_get (end ∷ front ∷ []) number ≡ Some task → is_member 0 task ≡ true → Contains (1 ∷ 0 ∷ []) number
    all zero task there member = (1, omega arith, refl)
    all (suc zero) task there member = (0, omega arith, refl)
    all (suc (suc k)) task there member = absurd (cc)

pub pair_is_all : (tasks : List Task) (end front : Task) → length tasks ≡ 2 → end ≡ get_or tasks 0 end → front ≡ get_or tasks 1 front → IsDatagramAt (end ∷ front ∷ []) (1 ∷ 0 ∷ []) (end ∷ front ∷ []) → IsDatagramAt tasks (1 ∷ 0 ∷ []) tasks
pair_is_all [] end front two first second at = absurd (omega (arith, two))
pair_is_all (s ∷ []) end front two first second at = absurd (omega (arith, two))
pair_is_all (s ∷ t ∷ []) end front two first second at = subst (λ (l : List Task). IsDatagramAt l (1 ∷ 0 ∷ []) l) (ap (λ (u : Task). u ∷ front ∷ []) first ∙ ap (λ (u : Task). s ∷ u ∷ []) second) at
pair_is_all (s ∷ t ∷ u ∷ tasks) end front two first second at = absurd (omega (arith, two))
