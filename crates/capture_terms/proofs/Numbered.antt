-- The numbers by which a datagram is asked for are those of its tasks.
use Rattle.std.proofs.Common.{◌≡◌, ℕ, true, List, Option, None, Some, inl, inr, refl, sym, ◌∙◌, ap, subst, arith}
use Rattle.std.specs.Prelude.{Contains, IsSomeAnd, slice_get}
use Rattle.std.proofs.lemmas.List.Elements.{All-contains}
use Rattle.capture_terms.specs.Datagram.{is_member, IsWholeAt, IsGroupAt}
use Rattle.capture_terms.specs.Groups.{AreNumbersOf, NumbersAreOfTasks}
use Rattle.capture_terms.specs.declared.plan.Task.{Task}
use Rattle.capture_terms.proofs.Filters.{only_one, contains_filter, filter_contains}

-- a value of which one thing holds, and with it another
some_then : {X : Type 0} (P Q : X → Type 0) (o : Option X) → IsSomeAnd o P → ((x : X) → o ≡ Some x → P x → Q x) → IsSomeAnd o Q
some_then P Q None none gives = absurd none
some_then P Q (Some x) here gives = gives x refl here

whole_numbers : (tasks : List Task) (numbers : List ℕ) (datagram : List Task) → IsWholeAt tasks numbers datagram → AreNumbersOf tasks numbers datagram
whole_numbers tasks numbers datagram w = record {
  each = λ number among.
      let same : w.number ≡ number = only_one w.number number (subst (λ (l : List ℕ). Contains l number) w.alone among) in
      subst (λ (n : ℕ). IsSomeAnd (slice_get tasks n) (Contains datagram)) same (rw w.there (subst (λ (l : List Task). Contains l w.task) (sym w.is) (0, omega arith, refl)));
  all = λ task among.
      let same : w.task ≡ task = only_one w.task task (subst (λ (l : List Task). Contains l task) w.is among) in
      (w.number, w.there ∙ ap Some same, subst (λ (l : List ℕ). Contains l w.number) (sym w.alone) (0, omega arith, refl));
}

group_numbers : (tasks : List Task) (numbers : List ℕ) (datagram : List Task) → IsGroupAt tasks numbers datagram → AreNumbersOf tasks numbers datagram
group_numbers tasks numbers datagram g = record {
  each = λ number among.
      some_then (λ task. is_member g.group task ≡ true) (Contains datagram) (slice_get tasks number)
      (All-contains (λ number. IsSomeAnd (slice_get tasks number) (λ task. is_member g.group task ≡ true)) numbers number g.each among)
      (λ task there member. subst (λ (l : List Task). Contains l task) (sym g.is) (contains_filter (is_member g.group) tasks number task there member));
  all = λ task among.
      let found = filter_contains (is_member g.group) tasks task (subst (λ (l : List Task). Contains l task) g.is among) in
      (found.0, found.1, g.all found.0 task found.1 found.2);
}

pub numbers_are_of_tasks : NumbersAreOfTasks
numbers_are_of_tasks tasks numbers datagram at = elim at [
  | inl whole ↦ whole_numbers tasks numbers datagram whole
  | inr group ↦ group_numbers tasks numbers datagram group
]
