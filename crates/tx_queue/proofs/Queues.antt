-- The values of a queue in cells, and what leaves or changes them.
use Rattle.std.proofs.Common.{◌≡◌, ◌↔◌, ℕ, suc, ◌+◌, ◌-◌, ◌%◌, ◌^◌, ◌<◌, ◌≤◌, List, [], ◌∷◌, ◌++◌, inl, inr, length, take, drop, get_or, set, Some, refl, sym, ap, ◌∙◌, arith}
use Rattle.std.specs.Prelude.{slice_index}
use Rattle.std.specs.List.{slice_get}
use Rattle.std.proofs.Math.Nat.{mod-add-mod}
use Rattle.std.proofs.lemmas.Nat.{mod_below}
use Rattle.std.proofs.lemmas.Bool.{cases_lt}
use Rattle.std.proofs.lemmas.Option.{slice_get-get_or}
use Rattle.std.proofs.lemmas.List.{length-take-le, length-drop, length-set, length-append, get_or-take, get_or-drop, get_or-set_same, get_or-set_other, get_or_append_left, get_or-append_right, get_or_default, drop_more, same_lists}
use Rattle.store_layout.specs.States as layout
use Rattle.store_layout.specs.States.{head_in, length_in}
use Rattle.tx_core.specs.Sequences.{IsEndOrAddition}
use Rattle.tx_core.specs.SequencePlaces.{HasPlaces}
use Rattle.tx_core.specs.SequenceFacts.{HasMore, IsSequenceOf}
use Rattle.tx_queue.specs.declared.part.QueuePart.{QueuePart}
use Rattle.tx_queue.specs.Queue.{IsQueue, IsOfQueue, end_in, ring_in, words_in, values_in, sequence_of, front_of, end_after}
use Rattle.tx_queue.proofs.Rings.{halves, halves_more, length-round, round_is, ring_apart}

module _ (queue : QueuePart) where
  -- the word of the item at a place of the queue, by the word of the end
  abbrev pub item_in : List ℕ → ℕ → ℕ → ℕ
  item_in cells word i = slice_index cells (queue.end + 1 + (head_in word + i) % queue.capacity)

  length-ring : (cells : List ℕ) → queue.end + queue.capacity < length cells → length (ring_in queue cells) ≡ queue.capacity
  length-ring cells lt = length-take-le queue.capacity (drop (queue.end + 1) cells) (omega (arith, length-drop (queue.end + 1) cells, lt))

  pub length-values : (cells : List ℕ) → length (values_in queue cells) ≡ length_in (end_in queue cells)
  length-values cells = length-round (ring_in queue cells) (head_in (end_in queue cells)) (length_in (end_in queue cells))

  pub place_below : (cells : List ℕ) (n : ℕ) → IsQueue queue cells → n % queue.capacity < queue.capacity
  place_below cells n is = mod_below n queue.capacity (omega (arith, is.head))

  pub value_is : (cells : List ℕ) (i d : ℕ) → IsQueue queue cells → i < length_in (end_in queue cells) → get_or (values_in queue cells) i d ≡ item_in cells (end_in queue cells) i
  value_is cells i d is lt =
      let ring = ring_in queue cells in
      let at : ℕ = head_in (end_in queue cells) + i in
      round_is ring (head_in (end_in queue cells)) (length_in (end_in queue cells)) i d lt
      ∙ ap (λ c. get_or ring (at % c) 0) (length-ring cells is.in_table)
      ∙ get_or-take queue.capacity (drop (queue.end + 1) cells) (at % queue.capacity) 0 (place_below cells at is)
      ∙ get_or-drop (queue.end + 1) cells (at % queue.capacity) 0

  -- cells that are as those of a queue stand for the same queue
  pub same_queue : (cells others : List ℕ) → length others ≡ length cells → ((c : ℕ) → IsOfQueue queue c → slice_index others c ≡ slice_index cells c) → IsQueue queue cells → IsQueue queue others × (values_in queue others ≡ values_in queue cells)
  same_queue cells others sized same is =
      let end : end_in queue others ≡ end_in queue cells = same queue.end (omega arith, omega arith) in
      let there : IsQueue queue others = record { in_table = omega (arith, sized, is.in_table); head = rw end (is.head); within = rw end (is.within) } in
      let item : (i : ℕ) → item_in others (end_in queue others) i ≡ item_in cells (end_in queue cells) i = λ i.
      ap (λ w. item_in others w i) end ∙ same _ (omega arith, omega (arith, place_below cells (head_in (end_in queue cells) + i) is)) in (
        there,
        same_lists (values_in queue others) (values_in queue cells) (length-values others ∙ ap length_in end ∙ sym (length-values cells)) (λ i d lt.
            let near : i < length_in (end_in queue others) = omega (arith, lt, length-values others) in
            value_is others i d there near ∙ item i ∙ sym (value_is cells i d is (omega (arith, near, ap length_in end)))),
      )

  -- an empty one has no values
  pub none_there : (cells : List ℕ) (word : ℕ) → end_in queue cells ≡ word → length_in word ≡ 0 → values_in queue cells ≡ []
  none_there cells word end none = empty (values_in queue cells) (length-values cells ∙ ap length_in end ∙ none)
    where
      empty : (xs : List ℕ) → length xs ≡ 0 → xs ≡ []
      empty [] e = refl
      empty (x ∷ xs) e = absurd (omega arith)

  -- ---- the layout of a store

  words_are : (cells : List ℕ) → queue.end + queue.capacity < length cells → words_in queue cells ≡ end_in queue cells ∷ ring_in queue cells
  words_are cells lt = ap (take (queue.capacity + 1)) (drop_more cells queue.end 0 (omega (arith, lt))) ∙ take_one queue.capacity (end_in queue cells) (drop (queue.end + 1) cells)
    where
      take_one : (n x : ℕ) (xs : List ℕ) → take (n + 1) (x ∷ xs) ≡ x ∷ take n xs
      take_one n x xs = let e : n + 1 ≡ suc n = omega arith in rw e refl

  pub formed_in_layout : (cells : List ℕ) → queue.end + queue.capacity < length cells → IsQueue queue cells ↔ layout.IsQueue (words_in queue cells)
  formed_in_layout cells lt =
      let long = length-ring cells lt in
      rw (words_are cells lt) (
        (λ is. (omega (arith, long, is.head), omega (arith, long, is.within))),
        (λ formed. record { in_table = lt; head = omega (arith, long, formed.0); within = omega (arith, long, formed.1) }),
      )

  pub values_in_layout : (cells : List ℕ) → queue.end + queue.capacity < length cells → layout.queue_in (words_in queue cells) ≡ values_in queue cells
  values_in_layout cells lt = ap layout.queue_in (words_are cells lt)

  -- ---- the first item is taken

  pub queue_dequeued : (cells : List ℕ) (word : ℕ) → IsQueue queue cells → end_in queue cells ≡ word → 0 < length_in word
      → IsQueue queue (set cells queue.end (end_after queue word)) × (values_in queue (set cells queue.end (end_after queue word)) ≡ drop 1 (values_in queue cells)) × (slice_get (values_in queue cells) 0 ≡ Some (slice_index cells (front_of queue word)))
  queue_dequeued cells word is end some =
      let new : List ℕ = set cells queue.end (end_after queue word) in
      let next : ℕ = (head_in word % queue.capacity + 1) % queue.capacity in
      let below : length_in word < 2 ^ 32 = mod_below word (2 ^ 32) (omega arith) in
      let two = halves next (length_in word - 1) (omega (arith, below)) in
      let at_end : end_in queue new ≡ end_after queue word = get_or-set_same cells queue.end (end_after queue word) 0 (omega (arith, is.in_table)) in
      let head : head_in (end_in queue new) ≡ next = ap head_in at_end ∙ two.0 in
      let long : length_in (end_in queue new) ≡ length_in word - 1 = ap length_in at_end ∙ two.1 in
      let old_long : length_in (end_in queue cells) ≡ length_in word = ap length_in end in
      let there : IsQueue queue new = record {
        in_table = omega (arith, length-set cells queue.end (end_after queue word), is.in_table);
        head = omega (arith, head, place_below cells (head_in word % queue.capacity + 1) is);
        within = omega (arith, long, old_long, is.within);
      } in
      let place : (i : ℕ) → (head_in (end_in queue new) + i) % queue.capacity ≡ (head_in (end_in queue cells) + (1 + i)) % queue.capacity = λ i.
      let sum : head_in word + 1 + i ≡ head_in word + (1 + i) = omega arith in
      ap (λ h. (h + i) % queue.capacity) head
      ∙ mod-add-mod (head_in word % queue.capacity + 1) queue.capacity i
      ∙ ap (λ n. n % queue.capacity) (let e : head_in word % queue.capacity + 1 + i ≡ head_in word % queue.capacity + (1 + i) = omega arith in e)
      ∙ mod-add-mod (head_in word) queue.capacity (1 + i)
      ∙ ap (λ h. (head_in h + (1 + i)) % queue.capacity) (sym end) in
      let item : (i : ℕ) → item_in new (end_in queue new) i ≡ item_in cells (end_in queue cells) (1 + i) = λ i.
      ap (λ p. slice_index new (queue.end + 1 + p)) (place i) ∙ get_or-set_other cells queue.end _ (end_after queue word) 0 (λ same. omega (arith, same)) in
      let values : values_in queue new ≡ drop 1 (values_in queue cells) = same_lists (values_in queue new) (drop 1 (values_in queue cells)) (omega (arith, length-values new, long, length-drop 1 (values_in queue cells), length-values cells, old_long)) (λ i d lt.
      let near : i < length_in (end_in queue new) = omega (arith, lt, length-values new) in
      value_is new i d there near ∙ item i ∙ sym (get_or-drop 1 (values_in queue cells) i d ∙ value_is cells (1 + i) d is (omega (arith, near, long, old_long)))) in
      let front : item_in cells (end_in queue cells) 0 ≡ slice_index cells (front_of queue word) = ap (λ p. slice_index cells (queue.end + 1 + p % queue.capacity)) (let e : head_in (end_in queue cells) + 0 ≡ head_in word = omega (arith, ap head_in end) in e) in
      (there, values, slice_get-get_or (values_in queue cells) 0 0 (omega (arith, length-values cells, old_long, some)) ∙ ap (λ v. Some v) (value_is cells 0 0 is (omega (arith, old_long, some)) ∙ front))

  -- ---- items are added

  pub queue_places : (word n : ℕ) → queue.capacity < 2 ^ 32 → length_in word + n ≤ queue.capacity → HasPlaces (sequence_of queue) word n
  queue_places word n low fits = record {
    next = λ k lt. let two = halves_more word k (omega (arith, fits, lt, low)) in ap (λ h. queue.end + 1 + (h + length_in (word + k)) % queue.capacity) two.0 ∙ ap (λ l. queue.end + 1 + (head_in word + l) % queue.capacity) two.1;
    apart = λ j k lt in_range same. ring_apart queue.capacity (head_in word) (length_in word + j) (length_in word + k) (omega (arith, lt)) (omega (arith, in_range, fits)) (omega (arith, same));
    free = λ k lt same. omega (arith, same);
  }

  queue_in_table : (cells : List ℕ) (word n : ℕ) → IsQueue queue cells → length_in word + n ≤ queue.capacity → (c : ℕ) → IsEndOrAddition (sequence_of queue) word n c → c < length cells
  queue_in_table cells word n is fits c (inl end) = omega (arith, end, is.in_table)
  queue_in_table cells word n is fits c (inr one) = omega (arith, one.2, is.in_table, place_below cells (head_in word + (length_in word + one.0)) is)

  module _ (low : queue.capacity < 2 ^ 32) where
    queue_grows : (cells xs new : List ℕ) → IsQueue queue cells → length_in (end_in queue cells) + length xs ≤ queue.capacity → HasMore (sequence_of queue) (end_in queue cells) xs cells new → IsQueue queue new × (values_in queue new ≡ values_in queue cells ++ xs)
    queue_grows cells xs new is fits more =
        let word : ℕ = end_in queue cells in
        let two = halves_more word (length xs) (omega (arith, fits, low)) in
        let head : head_in (end_in queue new) ≡ head_in word = ap head_in more.end ∙ two.0 in
        let long : length_in (end_in queue new) ≡ length_in word + length xs = ap length_in more.end ∙ two.1 in
        let there : IsQueue queue new = record {
          in_table = omega (arith, more.sized, is.in_table);
          head = omega (arith, head, is.head);
          within = omega (arith, long, fits);
        } in
        let item : (i : ℕ) → item_in new (end_in queue new) i ≡ item_in new word i = λ i. ap (λ h. slice_index new (queue.end + 1 + (h + i) % queue.capacity)) head in
        let old : (i : ℕ) → i < length_in word → item_in new word i ≡ item_in cells word i = λ i lt. more.others _ (away i lt) in
        let fresh : (i : ℕ) → length_in word ≤ i → i < length_in word + length xs → item_in new word i ≡ get_or xs (i - length_in word) 0 = λ i from upto.
        let place : i ≡ length_in word + (i - length_in word) = omega (arith, from) in
        ap (λ p. item_in new word p) place ∙ more.items (i - length_in word) (omega (arith, from, upto)) in
        let counts = length-values cells in
        let sized : length (values_in queue new) ≡ length (values_in queue cells ++ xs) = omega (arith, length-values new, long, counts, length-append (values_in queue cells) xs) in (
          there,
          same_lists (values_in queue new) (values_in queue cells ++ xs) sized (λ i d lt.
              let near : i < length_in (end_in queue new) = omega (arith, lt, length-values new) in
              value_is new i d there near ∙ item i ∙ elim (cases_lt i (length_in word)) [
                | inl before ↦ old i before ∙ sym (value_is cells i d is before) ∙ sym (get_or_append_left (values_in queue cells) xs d i (omega (arith, before, counts)))
                | inr behind ↦
                    let k : ℕ = i - length_in word in
                    fresh i behind (omega (arith, near, long)) ∙ get_or_default xs k 0 d (omega (arith, behind, near, long)) ∙ sym (get_or-append_right (values_in queue cells) xs (length_in word) i d counts behind)
              ]),
        )
      where
        away : (i : ℕ) → i < length_in (end_in queue cells) → IsEndOrAddition (sequence_of queue) (end_in queue cells) (length xs) (queue.end + 1 + (head_in (end_in queue cells) + i) % queue.capacity) → ⊥
        away i lt (inl end) = omega (arith, end)
        away i lt (inr one) = ring_apart queue.capacity (head_in (end_in queue cells)) i (length_in (end_in queue cells) + one.0) (omega (arith, lt)) (omega (arith, one.1, fits)) (omega (arith, one.2))

    pub queue_is_sequence : IsSequenceOf (sequence_of queue) (IsQueue queue) (values_in queue)
    queue_is_sequence = record {
      in_table = queue_in_table;
      within = λ cells is. is.within;
      counts = λ cells is. length-values cells;
      grows = queue_grows;
    }
