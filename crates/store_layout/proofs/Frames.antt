-- What changes in the cells of one structure changes that structure alone.
use Rattle.std.proofs.Common.{◌≡◌, ◌≢◌, ℕ, ◌+◌, ◌^◌, ◌<◌, List, length, drop, get_or, ap, sym, ◌∙◌, inl, inr, subst, arith}
use Rattle.std.specs.List.{All}
use Rattle.std.proofs.lemmas.Bool.{cases_eq}
use Rattle.std.proofs.lemmas.List.{length-take, length-drop, ext_get_or}
use mathlib.Core.Path.{fun_ext}
use Rattle.serial_terms.specs.Serial.{Sequence, pool_of}
use Rattle.store_layout.specs.Facts.{changed_at, state_is}
use Rattle.store_layout.specs.Shapes.{Shape, Object, the_map, the_queue, the_pool, the_log, the_cell, first_of, size_of}
use Rattle.store_layout.specs.States.{value_in, items_in, queue_in, log_in, AreOf, words_of, state_in, IsFormed, DifferOnlyIn, with_object}
use Rattle.store_layout.specs.Laws.{ChangesStayInPart}
use Rattle.store_layout.proofs.Parts.{parts_are_apart}
use Rattle.store_layout.specs.Within.{short}
use Rattle.store_layout.proofs.Words.{words_are_cells}

module _ (s : Shape) (o : Object) (before after : List ℕ) (d : DifferOnlyIn s o before after) where
  same_length : (p : Object) → length (words_of s p after) ≡ length (words_of s p before)
  same_length p =
      let a = length-take (size_of s p) (drop (first_of s p) after) in
      let b = length-take (size_of s p) (drop (first_of s p) before) in
      let c = length-drop (first_of s p) after in
      let e = length-drop (first_of s p) before in
      omega (arith, d.sized)

  same_words : (p : Object) → p ≢ o → words_of s p after ≡ words_of s p before
  same_words p ne = ext_get_or 0 (words_of s p after) (words_of s p before) (same_length p) (λ i lt.
      let inside : i < size_of s p = omega (arith, short s p after) in
      words_are_cells.words s p after i inside
      ∙ (d.outside (first_of s p + i) (λ own. ne (parts_are_apart.apart s p o (first_of s p + i) (omega arith, omega arith) own))
      ∙ sym (words_are_cells.words s p before i inside)))

  -- ---- each kind, where the structure isn't of that kind, and where it is

  map_stays : (m : ℕ) → the_map m ≢ o → (state_in s after).maps m ≡ (state_in s before).maps m
  unfolding state_in
  map_stays m ne = ap (λ (ws : List ℕ). λ k. value_in (get_or ws k 0)) (same_words (the_map m) ne)

  queue_stays : (q : ℕ) → the_queue q ≢ o → (state_in s after).queues q ≡ (state_in s before).queues q
  unfolding state_in
  queue_stays q ne = ap (λ (ws : List ℕ). let r : Sequence = record { items = queue_in ws; capacity = get_or s.queues q 0 } in r) (same_words (the_queue q) ne)

  pool_stays : (p : ℕ) → the_pool p ≢ o → (state_in s after).pools p ≡ (state_in s before).pools p
  unfolding state_in
  pool_stays p ne = ap (λ (ws : List ℕ). pool_of (get_or s.pools p 0) (items_in ws)) (same_words (the_pool p) ne)

  log_stays : (l : ℕ) → the_log l ≢ o → (state_in s after).logs l ≡ (state_in s before).logs l
  unfolding state_in
  log_stays l ne = ap (λ (ws : List ℕ). let r : Sequence = record { items = log_in ws; capacity = get_or s.logs l 0 } in r) (same_words (the_log l) ne)

  cell_stays : (c : ℕ) → the_cell c ≢ o → (state_in s after).cells c ≡ (state_in s before).cells c
  unfolding state_in
  cell_stays c ne = ap (λ (ws : List ℕ). get_or ws 0 0) (same_words (the_cell c) ne)

module _ (s : Shape) where
  state : (o : Object) (before after : List ℕ) → DifferOnlyIn s o before after → state_in s after ≡ with_object (state_in s before) o (state_in s after)
  state (the_map n) a b d = state_is (state_in s b) (with_object (state_in s a) (the_map n) (state_in s b))
      (changed_at (state_in s a).maps (state_in s b).maps n (λ m ne. map_stays s (the_map n) a b d m (λ e. ne cc)))
      (fun_ext (λ q. queue_stays s (the_map n) a b d q (λ e. cc)))
      (fun_ext (λ p. pool_stays s (the_map n) a b d p (λ e. cc)))
      (fun_ext (λ l. log_stays s (the_map n) a b d l (λ e. cc)))
      (fun_ext (λ c. cell_stays s (the_map n) a b d c (λ e. cc)))
  state (the_queue n) a b d = state_is (state_in s b) (with_object (state_in s a) (the_queue n) (state_in s b))
      (fun_ext (λ m. map_stays s (the_queue n) a b d m (λ e. cc)))
      (changed_at (state_in s a).queues (state_in s b).queues n (λ q ne. queue_stays s (the_queue n) a b d q (λ e. ne cc)))
      (fun_ext (λ p. pool_stays s (the_queue n) a b d p (λ e. cc)))
      (fun_ext (λ l. log_stays s (the_queue n) a b d l (λ e. cc)))
      (fun_ext (λ c. cell_stays s (the_queue n) a b d c (λ e. cc)))
  state (the_pool n) a b d = state_is (state_in s b) (with_object (state_in s a) (the_pool n) (state_in s b))
      (fun_ext (λ m. map_stays s (the_pool n) a b d m (λ e. cc)))
      (fun_ext (λ q. queue_stays s (the_pool n) a b d q (λ e. cc)))
      (changed_at (state_in s a).pools (state_in s b).pools n (λ p ne. pool_stays s (the_pool n) a b d p (λ e. ne cc)))
      (fun_ext (λ l. log_stays s (the_pool n) a b d l (λ e. cc)))
      (fun_ext (λ c. cell_stays s (the_pool n) a b d c (λ e. cc)))
  state (the_log n) a b d = state_is (state_in s b) (with_object (state_in s a) (the_log n) (state_in s b))
      (fun_ext (λ m. map_stays s (the_log n) a b d m (λ e. cc)))
      (fun_ext (λ q. queue_stays s (the_log n) a b d q (λ e. cc)))
      (fun_ext (λ p. pool_stays s (the_log n) a b d p (λ e. cc)))
      (changed_at (state_in s a).logs (state_in s b).logs n (λ l ne. log_stays s (the_log n) a b d l (λ e. ne cc)))
      (fun_ext (λ c. cell_stays s (the_log n) a b d c (λ e. cc)))
  state (the_cell n) a b d = state_is (state_in s b) (with_object (state_in s a) (the_cell n) (state_in s b))
      (fun_ext (λ m. map_stays s (the_cell n) a b d m (λ e. cc)))
      (fun_ext (λ q. queue_stays s (the_cell n) a b d q (λ e. cc)))
      (fun_ext (λ p. pool_stays s (the_cell n) a b d p (λ e. cc)))
      (fun_ext (λ l. log_stays s (the_cell n) a b d l (λ e. cc)))
      (changed_at (state_in s a).cells (state_in s b).cells n (λ c ne. cell_stays s (the_cell n) a b d c (λ e. ne cc)))

  -- words that are the same in both lists stand for what they stood for
  part_stays : (o p : Object) (before after : List ℕ) → DifferOnlyIn s o before after → AreOf p (words_of s p before) → p ≢ o → AreOf p (words_of s p after)
  part_stays o p a b d h ne = subst (λ (ws : List ℕ). AreOf p ws) (sym (same_words s o a b d p ne)) h

  parts : (o p : Object) (before after : List ℕ) → DifferOnlyIn s o before after → AreOf p (words_of s p before) → AreOf o (words_of s o after) → AreOf p (words_of s p after)
  parts o (the_map m) a b d h own = tt
  parts o (the_pool m) a b d h own = tt
  parts o (the_cell m) a b d h own = tt
  parts (the_queue n) (the_queue m) a b d h own = elim (cases_eq m n) [
    | inl e ↦ subst (λ k. AreOf (the_queue k) (words_of s (the_queue k) b)) (sym e) own
    | inr ne ↦ part_stays (the_queue n) (the_queue m) a b d h (λ e. ne cc)
  ]
  parts (the_log n) (the_log m) a b d h own = elim (cases_eq m n) [
    | inl e ↦ subst (λ k. AreOf (the_log k) (words_of s (the_log k) b)) (sym e) own
    | inr ne ↦ part_stays (the_log n) (the_log m) a b d h (λ e. ne cc)
  ]
  parts (the_map n) (the_queue m) a b d h own = part_stays (the_map n) (the_queue m) a b d h (λ e. cc)
  parts (the_pool n) (the_queue m) a b d h own = part_stays (the_pool n) (the_queue m) a b d h (λ e. cc)
  parts (the_log n) (the_queue m) a b d h own = part_stays (the_log n) (the_queue m) a b d h (λ e. cc)
  parts (the_cell n) (the_queue m) a b d h own = part_stays (the_cell n) (the_queue m) a b d h (λ e. cc)
  parts (the_map n) (the_log m) a b d h own = part_stays (the_map n) (the_log m) a b d h (λ e. cc)
  parts (the_queue n) (the_log m) a b d h own = part_stays (the_queue n) (the_log m) a b d h (λ e. cc)
  parts (the_pool n) (the_log m) a b d h own = part_stays (the_pool n) (the_log m) a b d h (λ e. cc)
  parts (the_cell n) (the_log m) a b d h own = part_stays (the_cell n) (the_log m) a b d h (λ e. cc)

  formed : (o : Object) (before after : List ℕ) → DifferOnlyIn s o before after → IsFormed s before → All (λ w. w < 2 ^ 64) after → AreOf o (words_of s o after) → IsFormed s after
  formed o a b d f w own = record { sized = d.sized ∙ f.sized; words = w; parts = λ p. parts o p a b d (f.parts p) own }

pub changes_stay_in_part : ChangesStayInPart
changes_stay_in_part = record { words = λ s o p a b d ne. same_words s o a b d p ne; state = state; formed = formed }
