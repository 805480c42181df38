-- The state that an attempt has, and what changes of it.
use Rattle.std.proofs.Common.{◌≡◌, ℕ, ◌+◌, ◌-◌, ◌^◌, ◌<◌, Bool, true, false, cond, ltb, List, [], ◌++◌, length, get_or, refl, ap, ◌∙◌, inl, inr, arith}
use Rattle.std.specs.List.{All}
use Rattle.std.proofs.lemmas.Bool.{cases_lt, ltb-true}
use Rattle.std.proofs.lemmas.List.{append-nil}
use Rattle.std.proofs.lemmas.List.Elements.{All-get_or, All-from_get_or}
use mathlib.Core.Path.{fun_ext}
use Rattle.serial_terms.specs.Facts.{with_at_other}
use Rattle.serial_terms.specs.Serial.{State, Sequence}
use Rattle.store_layout.specs.Facts.{changed_at, state_is}
use Rattle.store_layout.specs.Laws.{WordsAreCells, ChangesStayInPart}
use Rattle.store_layout.specs.Shapes.{Shape, Object, the_map, the_queue, the_pool, the_log, the_cell, first_of, size_of, IsCellOf}
use Rattle.store_layout.specs.States.{words_of, state_in, IsFormed, DifferOnlyIn, with_object}
use Rattle.store_meaning.specs.Follows.{part_of_log, waits_for_queue, state_with, IsPartOf, ChangesOnly}
use Rattle.store_meaning.specs.Laws.{NothingWaitsBehind, ChangesStayInObject}

sequence_is : (a b : Sequence) → a.items ≡ b.items → a.capacity ≡ b.capacity → a ≡ b
sequence_is a b items capacity = λ i. record { items = items i; capacity = capacity i }

none_of : (there : Bool) (xs : List ℕ) → xs ≡ [] → cond there xs [] ≡ []
none_of true xs none = none
none_of false xs none = refl

same_where : (there : Bool) (xs ys : List ℕ) → (there ≡ true → xs ≡ ys) → cond there xs [] ≡ cond there ys []
same_where true xs ys same = same refl
same_where false xs ys same = refl

behind : (xs ys : List ℕ) → ys ≡ [] → xs ++ ys ≡ xs
behind xs ys none = ap (λ (zs : List ℕ). xs ++ zs) none ∙ append-nil xs

pub nothing_waits_behind : NothingWaitsBehind
unfolding state_with
nothing_waits_behind s cells waiting none = state_is (state_with s cells waiting) (state_in s cells)
    refl
    (fun_ext (λ q. sequence_is ((state_with s cells waiting).queues q) ((state_in s cells).queues q)
    (behind ((state_in s cells).queues q).items (waits_for_queue s waiting q) (none_of (ltb q (length s.queues)) (waiting q) (none q))) refl))
    refl
    (fun_ext (λ l. sequence_is ((state_with s cells waiting).logs l) ((state_in s cells).logs l)
    (behind ((state_in s cells).logs l).items (waiting (part_of_log s l)) (none (part_of_log s l))) refl))
    refl

-- the sequence with what waits, where neither has changed
waiting_sequence : (a b : Sequence) (xs ys : List ℕ) → a ≡ b → xs ≡ ys
    → (let x : Sequence = record { items = a.items ++ xs; capacity = a.capacity } in x) ≡ (let y : Sequence = record { items = b.items ++ ys; capacity = b.capacity } in y)
waiting_sequence a b xs ys same waits = λ i. record { items = (same i).items ++ waits i; capacity = (same i).capacity }

module _ (law : ChangesStayInPart) (s : Shape) where
  differ : (o : Object) (before after : List ℕ) (waiting waits : ℕ → List ℕ) → ChangesOnly s o before after waiting waits → DifferOnlyIn s o before after
  differ o before after waiting waits changes = record { sized = changes.sized; outside = changes.outside }

  module _ (o : Object) (before after : List ℕ) (waiting waits : ℕ → List ℕ) (changes : ChangesOnly s o before after waiting waits) where
    changed : state_in s after ≡ with_object (state_in s before) o (state_in s after)
    changed = law.state s o before after (differ o before after waiting waits changes)

    -- a queue and a log of which neither the cells nor what waits has changed
    queue_stays : (q : ℕ) → (state_in s after).queues q ≡ (state_in s before).queues q → (q < length s.queues → IsPartOf s o q → ⊥)
        → (state_with s after waits).queues q ≡ (state_with s before waiting).queues q
    unfolding state_with
    queue_stays q same apart = waiting_sequence ((state_in s after).queues q) ((state_in s before).queues q) (waits_for_queue s waits q) (waits_for_queue s waiting q) same
        (same_where (ltb q (length s.queues)) (waits q) (waiting q) (λ there. changes.waits q (apart (ltb-true q (length s.queues) there))))

    log_stays : (l : ℕ) → (state_in s after).logs l ≡ (state_in s before).logs l → (IsPartOf s o (part_of_log s l) → ⊥)
        → (state_with s after waits).logs l ≡ (state_with s before waiting).logs l
    unfolding state_with
    log_stays l same apart = waiting_sequence ((state_in s after).logs l) ((state_in s before).logs l) (waits (part_of_log s l)) (waiting (part_of_log s l)) same
        (changes.waits (part_of_log s l) apart)

  state : (o : Object) (before after : List ℕ) (waiting waits : ℕ → List ℕ) → ChangesOnly s o before after waiting waits
      → state_with s after waits ≡ with_object (state_with s before waiting) o (state_with s after waits)
  unfolding state_with
  state (the_map n) b a w v h =
      let e = changed (the_map n) b a w v h in
      state_is (state_with s a v) (with_object (state_with s b w) (the_map n) (state_with s a v))
      (ap (λ (z : State). z.maps) e)
      (fun_ext (λ q. queue_stays (the_map n) b a w v h q (ap (λ (z : State). z.queues q) e) (λ there own. own)))
      (ap (λ (z : State). z.pools) e)
      (fun_ext (λ l. log_stays (the_map n) b a w v h l (ap (λ (z : State). z.logs l) e) (λ own. own)))
      (ap (λ (z : State). z.cells) e)
  state (the_queue n) b a w v h =
      let e = changed (the_queue n) b a w v h in
      state_is (state_with s a v) (with_object (state_with s b w) (the_queue n) (state_with s a v))
      (ap (λ (z : State). z.maps) e)
      (changed_at (state_with s b w).queues (state_with s a v).queues n (λ q ne. queue_stays (the_queue n) b a w v h q
      (ap (λ (z : State). z.queues q) e ∙ with_at_other (state_in s b).queues n ((state_in s a).queues n) q ne) (λ there own. ne own.0)))
      (ap (λ (z : State). z.pools) e)
      (fun_ext (λ l. log_stays (the_queue n) b a w v h l (ap (λ (z : State). z.logs l) e) (λ own. omega (arith, own.0, own.1))))
      (ap (λ (z : State). z.cells) e)
  state (the_pool n) b a w v h =
      let e = changed (the_pool n) b a w v h in
      state_is (state_with s a v) (with_object (state_with s b w) (the_pool n) (state_with s a v))
      (ap (λ (z : State). z.maps) e)
      (fun_ext (λ q. queue_stays (the_pool n) b a w v h q (ap (λ (z : State). z.queues q) e) (λ there own. own)))
      (ap (λ (z : State). z.pools) e)
      (fun_ext (λ l. log_stays (the_pool n) b a w v h l (ap (λ (z : State). z.logs l) e) (λ own. own)))
      (ap (λ (z : State). z.cells) e)
  state (the_log n) b a w v h =
      let e = changed (the_log n) b a w v h in
      state_is (state_with s a v) (with_object (state_with s b w) (the_log n) (state_with s a v))
      (ap (λ (z : State). z.maps) e)
      (fun_ext (λ q. queue_stays (the_log n) b a w v h q (ap (λ (z : State). z.queues q) e) (λ there own. omega (arith, there, own))))
      (ap (λ (z : State). z.pools) e)
      (changed_at (state_with s b w).logs (state_with s a v).logs n (λ l ne. log_stays (the_log n) b a w v h l
      (ap (λ (z : State). z.logs l) e ∙ with_at_other (state_in s b).logs n ((state_in s a).logs n) l ne) (λ own. ne (omega (arith, own)))))
      (ap (λ (z : State). z.cells) e)
  state (the_cell n) b a w v h =
      let e = changed (the_cell n) b a w v h in
      state_is (state_with s a v) (with_object (state_with s b w) (the_cell n) (state_with s a v))
      (ap (λ (z : State). z.maps) e)
      (fun_ext (λ q. queue_stays (the_cell n) b a w v h q (ap (λ (z : State). z.queues q) e) (λ there own. own)))
      (ap (λ (z : State). z.pools) e)
      (fun_ext (λ l. log_stays (the_cell n) b a w v h l (ap (λ (z : State). z.logs l) e) (λ own. own)))
      (ap (λ (z : State). z.cells) e)

  -- the words of all cells stay below 2^64
  below : WordsAreCells → (o : Object) (before after : List ℕ) (waiting waits : ℕ → List ℕ) → ChangesOnly s o before after waiting waits → IsFormed s before → All (λ w. w < 2 ^ 64) after
  below cells o b a w v h f = All-from_get_or (λ w. w < 2 ^ 64) a 0 (λ c lt.
      let other : (IsCellOf s o c → ⊥) → get_or a c 0 < 2 ^ 64 = λ apart. omega (arith, h.outside c apart, All-get_or (λ w. w < 2 ^ 64) b c 0 (omega (arith, h.sized)) f.words) in
      elim (cases_lt c (first_of s o)) [
        | inl low ↦ other (λ own. omega (arith, own.0))
        | inr from ↦ elim (cases_lt c (first_of s o + size_of s o)) [
          | inl within ↦
              let inside : c - first_of s o < size_of s o = omega arith in
              let sized = cells.sized s o a (h.sized ∙ f.sized) in
              let word = All-get_or (λ w. w < 2 ^ 64) (words_of s o a) (c - first_of s o) 0 (omega arith) h.words in
              let same = cells.words s o a (c - first_of s o) inside in
              let at : get_or a (first_of s o + (c - first_of s o)) 0 ≡ get_or a c 0 = ap (λ (k : ℕ). get_or a k 0) (omega arith) in
              omega (arith, word, same, at)
          | inr past ↦ other (λ own. omega (arith, own.1))
        ]
      ])

pub changes_stay_in_object : ChangesStayInPart → WordsAreCells → ChangesStayInObject
changes_stay_in_object law cells = record {
  formed = λ s o b a w v h f. law.formed s o b a (differ law s o b a w v h) f (below law s cells o b a w v h f) h.are;
  state = λ s. state law s;
}
