-- The state that a run opens with, and what is within the capacities of a state.
use Rattle.std.proofs.Common.{◌≡◌, ◌↔◌, ℕ, zero, suc, ◌+◌, ◌<◌, ◌≤◌, Bool, true, false, cond, [], ◌∷◌, length, refl, sym, ap, ◌∙◌, subst, Option, Some, None, arith, eq-eqb, ne_eqb}
use Rattle.std.specs.Prelude.{nat_lt, nat_eq, get_or, min}
use Rattle.std.specs.Map.{count_at}
use Rattle.std.specs.HashMap.{get}
use Rattle.std.proofs.lemmas.Bool.{cond-true, cond-false, false_from_ne_true, ltb-true, lt-ltb}
use mathlib.Core.Logic.{dite}
use mathlib.Core.Path.{fun_ext}
use native.Mathlib.Decide.{ℕ_discrete}
use Rattle.serial_terms.specs.Counts.{times, numbers_from}
use Rattle.serial_terms.specs.Facts.{with_at_same, with_at_other}
use Rattle.serial_terms.specs.RunLayout.{layout_by, room_for}
use Rattle.serial_terms.specs.Serial.{State, Sequence, pool_of, IsWithinCapacity}
use Rattle.serial_terms.specs.Sights.{part_of}
use Rattle.serial_terms.specs.Stores.{opening_of}
use Rattle.history_audit.specs.declared.structures.Structures.{Structures}
use Rattle.history_audit.specs.Structures.{state_of, is_same_key, alone, no_sequence, no_pool}
use Rattle.history_audit.proofs.Stated.{queue_at, log_at}

alone_is : {A : Type 0} (other first : A) (f : ℕ → A) → first ≡ f 0 → ((n : ℕ) → other ≡ f (suc n)) → alone other first ≡ f
alone_is other first f a b = fun_ext by_number
  where
    by_number : (n : ℕ) → alone other first n ≡ f n
    by_number zero = with_at_same (λ m. other) 0 first 0 refl ∙ a
    by_number (suc n) = with_at_other (λ m. other) 0 first (suc n) (λ e. omega arith) ∙ b n

pub opening_is : (s : Structures) (n g f : ℕ) → ((q : ℕ × ℕ) → get is_same_key s.values q ≡ None) → s.queue.items ≡ [] → s.room ≡ room_for n
    → ((x : ℕ) → count_at (get nat_eq s.counts) x ≡ times x (numbers_from 0 (min n 4096))) → s.held ≡ min n 4096 → s.log.items ≡ [] → s.findings ≡ f → s.cell ≡ 0
    → state_of s ≡ opening_of (layout_by n g f)
unfolding state_of opening_of layout_by
opening_is s n g f v q r c h l k z = λ i. record {
  maps = fun_ext {A = ℕ} (λ m. fun_ext {A = ℕ} (λ k. v (m, k))) i;
  queues = alone_is no_sequence (record { items = s.queue.items; capacity = s.room }) (λ q. record { items = []; capacity = get_or (room_for n ∷ []) q 0 }) (λ j. record { items = q j; capacity = r j }) (λ m. refl) i;
  pools = alone_is no_pool (record { count = λ x. count_at (get nat_eq s.counts) x; held = s.held; slots = s.room }) (λ p. pool_of (get_or (room_for n ∷ []) p 0) (get_or (numbers_from 0 (min n 4096) ∷ []) p []))
      (λ j. record { count = fun_ext {A = ℕ} c j; held = (h ∙ sym (length_numbers 0 (min n 4096))) j; slots = r j }) (λ m. refl) i;
  logs = alone_is no_sequence (record { items = s.log.items; capacity = s.findings }) (λ l. record { items = []; capacity = get_or (f ∷ []) l 0 }) (λ j. record { items = l j; capacity = k j }) (λ m. refl) i;
  cells = alone_is 0 s.cell (λ c. 0) z (λ m. refl) i;
}
  where
    length_numbers : (a m : ℕ) → length (numbers_from a m) ≡ m
    length_numbers a zero = refl
    length_numbers a (suc m) = ap suc (length_numbers (a + 1) m)

-- ---- the items of the pool

abbrev once_below : ℕ → ℕ → ℕ → ℕ
once_below a n x = cond (nat_lt x a) 0 (cond (nat_lt x (a + n)) 1 0)

times_numbers : (x a n : ℕ) → times x (numbers_from a n) ≡ once_below a n x
times_numbers x a zero = by_case (nat_lt x a) refl
  where
    by_case : (t : Bool) → nat_lt x a ≡ t → 0 ≡ once_below a 0 x
    by_case true e = sym (cond-true (nat_lt x a) 0 _ e)
    by_case false e = sym (cond-false (nat_lt x a) 0 _ e ∙ cond-false (nat_lt x (a + 0)) 1 0 (false_from_ne_true _ (λ t. let below : x < a + 0 = ltb-true _ _ t in let bad : true ≡ false = sym (lt-ltb x a (omega arith)) ∙ e in absurd (cc bad))))
times_numbers x a (suc n) = dite (ℕ_discrete x a)
    (λ e. (λ i. cond (eq-eqb x a e i) 1 0 + times_numbers x (a + 1) n i)
    ∙ (ap (λ (k : ℕ). 1 + k) (cond-true (nat_lt x (a + 1)) 0 _ (lt-ltb x (a + 1) (omega arith)))
    ∙ sym (cond-false (nat_lt x a) 0 _ (false_from_ne_true _ (λ t. let below : x < a = ltb-true _ _ t in omega arith)) ∙ cond-true (nat_lt x (a + suc n)) 1 0 (lt-ltb x (a + suc n) (omega arith)))))
    (λ e. (λ i. cond (ne_eqb x a e i) 1 0 + times_numbers x (a + 1) n i) ∙ apart e)
  where
    apart : (x ≡ a → ⊥) → 0 + once_below (a + 1) n x ≡ once_below a (suc n) x
    apart e = grind (arith, cond-true, cond-false)

pub times_first : (x n : ℕ) → times x (numbers_from 0 n) ≡ cond (nat_lt x n) 1 0
times_first x n = times_numbers x 0 n ∙ (cond-false (nat_lt x 0) 0 _ (false_from_ne_true _ (λ t. let below : x < 0 = ltb-true _ _ t in omega arith)) ∙ ap (λ (k : ℕ). cond (nat_lt x k) 1 0) (let z : 0 + n ≡ n = omega arith in z))

-- ---- capacities

pub within_is : (s : Structures) → ((length s.queue.items ≤ s.room) × (length s.log.items ≤ s.findings)) ↔ IsWithinCapacity (state_of s)
unfolding state_of
within_is s = (
  (λ h. record {
    queues = λ q. dite (ℕ_discrete q 0)
        (λ e. subst (λ (x : Sequence). length x.items ≤ x.capacity) (sym (queue_at s q e)) h.0)
        (λ e. subst (λ (x : Sequence). length x.items ≤ x.capacity) (sym (with_at_other (λ n. no_sequence) 0 (record { items = s.queue.items; capacity = s.room }) q e)) (omega arith));
    logs = λ q. dite (ℕ_discrete q 0)
        (λ e. subst (λ (x : Sequence). length x.items ≤ x.capacity) (sym (log_at s q e)) h.1)
        (λ e. subst (λ (x : Sequence). length x.items ≤ x.capacity) (sym (with_at_other (λ n. no_sequence) 0 (record { items = s.log.items; capacity = s.findings }) q e)) (omega arith));
  }),
  (λ w. (subst (λ (x : Sequence). length x.items ≤ x.capacity) (queue_at s 0 refl) (w.queues 0), subst (λ (x : Sequence). length x.items ≤ x.capacity) (log_at s 0 refl) (w.logs 0))),
)

pub within_state : (s : Structures) → (length ((state_of s).queues 0).items ≤ ((state_of s).queues 0).capacity) → (length ((state_of s).logs 0).items ≤ ((state_of s).logs 0).capacity)
    → IsWithinCapacity (state_of s)
within_state s a b = (within_is s).0 (subst (λ (x : Sequence). length x.items ≤ x.capacity) (queue_at s 0 refl) a, subst (λ (x : Sequence). length x.items ≤ x.capacity) (log_at s 0 refl) b)

pub first_part : (s : State) (p : ℕ) → p ≡ 0 → part_of 1 s p ≡ s.queues 0
first_part s p e = rw e refl

pub second_part : (s : State) (p : ℕ) → p < 2 → (p ≡ 0 → ⊥) → part_of 1 s p ≡ s.logs 0
second_part s p l h = let e : p ≡ 1 = omega (arith, h) in rw e refl

pub counted_items : (f : ℕ → Option ℕ) (n : ℕ) → ((x : ℕ) → f x ≡ cond (nat_lt x n) (Some 1) None) → (x : ℕ) → count_at f x ≡ times x (numbers_from 0 n)
counted_items f n h x = by_case (nat_lt x n) refl
  where
    by_case : (t : Bool) → nat_lt x n ≡ t → count_at f x ≡ times x (numbers_from 0 n)
    by_case true e = ap (λ (o : Option ℕ). count_at (λ (z : ℕ). o) x) (h x ∙ cond-true (nat_lt x n) (Some 1) None e) ∙ sym (times_first x n ∙ cond-true (nat_lt x n) 1 0 e)
    by_case false e = ap (λ (o : Option ℕ). count_at (λ (z : ℕ). o) x) (h x ∙ cond-false (nat_lt x n) (Some 1) None e) ∙ sym (times_first x n ∙ cond-false (nat_lt x n) 1 0 e)
