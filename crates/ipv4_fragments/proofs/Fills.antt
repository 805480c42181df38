-- What stands where the tasks of a datagram were copied.
use Rattle.std.proofs.Common.{◌≡◌, ℕ, zero, suc, ◌+◌, ◌<◌, ◌≤◌, Bool, true, false, List, [], ◌∷◌, Option, Some, refl, sym, ◌∙◌, ap, subst, inl, inr, arith, length, get_or}
use Rattle.std.specs.Prelude.{All, AllPairs, Contains, IsSomeAnd, slice_get, slice_index, count_by, ◌↔◌, cond}
use Rattle.std.proofs.lemmas.Bool.{cases_eq, cases_lt}
use Rattle.std.proofs.lemmas.Bool.Decides.{nat_tests}
use Rattle.std.proofs.lemmas.List.{get_or_default}
use Rattle.std.proofs.lemmas.List.Sums.{sum_by-cons}
use Rattle.std.proofs.lemmas.List.FromFn.{length-map-range_with_len, get_or-map-range_with_len}
use Rattle.std.proofs.lemmas.Grind.{same_number_lists}
use Rattle.capture_terms.specs.Datagram.{holds, end_of_task, AreApart, ArePacked, size_of, byte_at, payload_of, IsSound}
use Rattle.capture_terms.specs.Groups.{AreNumbersOf}
use Rattle.capture_terms.specs.declared.plan.Task.{Task}
use Rattle.ipv4_fragments.specs.Payload.{byte_of, Stands, Agree, AreThere, end_at}
use Rattle.ipv4_fragments.proofs.Copies.{some_and}

-- of tasks that share no place, one holds a place
pub same_holder : (tasks : List Task) → AllPairs AreApart tasks → (s t : Task) → Contains tasks s → Contains tasks t → (place : ℕ) → holds place s ≡ true → holds place t ≡ true → s ≡ t
same_holder tasks apart s t at_s at_t place in_s in_t = elim (cases_eq at_s.0 at_t.0) [
  | inl same ↦ sym at_s.2 ∙ get_or_default tasks at_s.0 s t at_s.1 ∙ ap (λ (k : ℕ). get_or tasks k t) same ∙ at_t.2
  | inr other ↦ elim (cases_lt at_s.0 at_t.0) [
    | inl less ↦ absurd (clash (apart at_s.0 at_t.0 s less at_t.1) at_s.2 (get_or_default tasks at_t.0 s t at_t.1 ∙ at_t.2) in_s in_t)
    | inr most ↦ absurd (clash (apart at_t.0 at_s.0 t (omega (arith, other)) at_s.1) at_t.2 (get_or_default tasks at_s.0 t s at_s.1 ∙ at_s.2) in_t in_s)
  ]
]
  where
    clash : {a b x y : Task} → AreApart a b → a ≡ x → b ≡ y → holds place x ≡ true → holds place y ≡ true → ⊥
    clash {a} {b} {x} {y} away is_a is_b in_x in_y = meet x y (subst (λ (k : Task). AreApart k y) is_a (subst (λ (k : Task). AreApart a k) is_b away)) in_x in_y
      where
        meet : (x y : Task) → AreApart x y → holds place x ≡ true → holds place y ≡ true → ⊥
        meet x y away in_x in_y = grind (arith, nat_tests)

-- 1 where the task holds the place
abbrev mark : ℕ → Task → ℕ
mark place task = cond (holds place task) 1 0

-- a place that is counted once is held
held_by : (tasks : List Task) (place : ℕ) → count_by (holds place) tasks ≡ 1 → (t : Task) × Contains tasks t × (holds place t ≡ true) × ((bytes : List ℕ) → byte_at bytes tasks place ≡ byte_of bytes t place)
held_by [] place one = absurd (omega arith)
held_by (t ∷ tasks) place one = by_case (holds place t) refl (held_by tasks place)
  where
    later : holds place t ≡ false → (s : Task) × Contains tasks s × (holds place s ≡ true) × ((bytes : List ℕ) → byte_at bytes tasks place ≡ byte_of bytes s place) → (s : Task) × Contains (t ∷ tasks) s × (holds place s ≡ true) × ((bytes : List ℕ) → byte_at bytes (t ∷ tasks) place ≡ byte_of bytes s place)
    later away (s, among, here, byte) = (s, (suc among.0, omega (arith, among.1), among.2), here, λ bytes. rw away (byte bytes))

    by_case : (b : Bool) → holds place t ≡ b → (count_by (holds place) tasks ≡ 1 → (s : Task) × Contains tasks s × (holds place s ≡ true) × ((bytes : List ℕ) → byte_at bytes tasks place ≡ byte_of bytes s place)) → (s : Task) × Contains (t ∷ tasks) s × (holds place s ≡ true) × ((bytes : List ℕ) → byte_at bytes (t ∷ tasks) place ≡ byte_of bytes s place)
    by_case true here rest = (t, (0, omega arith, refl), here, λ bytes. rw here)
    by_case false away rest =
        let more : count_by (holds place) (t ∷ tasks) ≡ mark place t + count_by (holds place) tasks = sum_by-cons (mark place) t tasks in
        let none : mark place t ≡ 0 = rw away in
        let tail : count_by (holds place) tasks ≡ 1 = omega (arith, more, none, one) in
        later away (rest tail)

named_at : {X : Type 0} (o : Option X) (P : X → Type 0) (x : X) → IsSomeAnd o P → o ≡ Some x → P x
named_at o P x here is = rw is at here

module _ (bytes : List ℕ) (tasks : List Task) (numbers : List ℕ) (datagram : List Task) (names : AreNumbersOf tasks numbers datagram) (sound : IsSound bytes datagram) where
  pub agree : Agree bytes tasks numbers
  agree place n m s t among_n among_m at_s at_t in_s in_t =
      ap (λ (k : Task). byte_of bytes k place) (same_holder datagram sound.packed.apart s t (named_at (slice_get tasks n) (Contains datagram) s (names.each n among_n) at_s) (named_at (slice_get tasks m) (Contains datagram) t (names.each m among_m) at_t) place in_s in_t)

  pub there : AreThere 65535 bytes tasks numbers
  there k d lt =
      let found = some_and (Contains datagram) (slice_get tasks (get_or numbers k d)) (names.each (get_or numbers k d) (k, lt, get_or_default numbers k (get_or numbers k d) d lt)) in
      let inside : found.0.from + found.0.length ≤ length bytes = subst (λ (t : Task). t.from + t.length ≤ length bytes) found.2.2 (sound.there found.2.0 found.0 found.2.1) in
      let within : end_of_task found.0 ≤ size_of datagram = subst (λ (t : Task). end_of_task t ≤ size_of datagram) found.2.2 (sound.packed.within found.2.0 found.0 found.2.1) in
      rw found.1 (inside, omega (arith, sound.short))

  module _ (exact : (end : ℕ) (packed : List Task) → ArePacked end packed → ((size_of packed ≡ end) ↔ ((place : ℕ) → place < end → count_by (holds place) packed ≡ 1))) (whole : List ℕ)
      (stands : All (λ number. IsSomeAnd (slice_get tasks number) (Stands bytes whole)) numbers)
      (most : All (λ number. end_at tasks number ≤ length whole) numbers)
      (least : (end : ℕ) → All (λ number. end_at tasks number ≤ end) numbers → length whole ≤ end) where
    once : (place : ℕ) → place < size_of datagram → count_by (holds place) datagram ≡ 1
    once = (exact (size_of datagram) datagram sound.packed).0 refl

    upper : length whole ≤ size_of datagram
    upper = least (size_of datagram) (λ k d lt. at k d lt)
      where
        at : (k d : ℕ) → k < length numbers → end_at tasks (get_or numbers k d) ≤ size_of datagram
        at k d lt =
            let found = some_and (Contains datagram) (slice_get tasks (get_or numbers k d)) (names.each (get_or numbers k d) (k, lt, get_or_default numbers k (get_or numbers k d) d lt)) in
            rw found.1 (subst (λ (t : Task). end_of_task t ≤ size_of datagram) found.2.2 (sound.packed.within found.2.0 found.0 found.2.1))

    -- what stands at a place of the datagram
    at_place : (place : ℕ) → place < size_of datagram → (place < length whole) × (slice_index whole place ≡ byte_at bytes datagram place)
    at_place place before =
        let held = held_by datagram place (once place before) in
        let named = names.all held.0 held.1 in
        let k : ℕ = named.2.0 in
        let is : get_or numbers k named.0 ≡ named.0 = named.2.2 in
        let end : end_at tasks named.0 ≤ length whole = subst (λ (n : ℕ). end_at tasks n ≤ length whole) is (most k named.0 named.2.1) in
        let reach : end_of_task held.0 ≤ length whole = rw named.1 at end in
        let stood : IsSomeAnd (slice_get tasks named.0) (Stands bytes whole) = subst (λ (n : ℕ). IsSomeAnd (slice_get tasks n) (Stands bytes whole)) is (stands k named.0 named.2.1) in
        let inside : place < end_of_task held.0 = holds_below place held.0 held.2 in
        (omega arith, named_at (slice_get tasks named.0) (Stands bytes whole) held.0 stood named.1 place held.2 ∙ sym (held.3 bytes))
      where
        holds_below : (place : ℕ) (t : Task) → holds place t ≡ true → place < end_of_task t
        holds_below place t here = grind (arith, nat_tests)

    lower : (n : ℕ) → size_of datagram ≡ n → n ≤ length whole
    lower zero is = omega arith
    lower (suc n) is = let last : n < length whole = (at_place n (omega (arith, is))).0 in omega (arith, last)

    pub fills : whole ≡ payload_of bytes datagram
    fills =
        let long : length whole ≡ size_of datagram = omega (arith, upper, lower (size_of datagram) refl) in
        same_number_lists whole (payload_of bytes datagram) (long ∙ sym (length-map-range_with_len (byte_at bytes datagram) 0 (size_of datagram)))
        (λ place lt. (at_place place (omega (arith, lt, long))).1 ∙ sym (get_or-map-range_with_len (byte_at bytes datagram) 0 (size_of datagram) place place 0 (omega (arith, lt, long)) (omega arith)))

    pub fits : length whole ≤ 65535
    fits = omega (arith, upper, sound.short)
