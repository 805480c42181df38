-- A log is a sequence in cells: each place has a cell of its own, and entries behind those that are there are values more.
use Rattle.std.proofs.Common.{◌≡◌, ℕ, ◌+◌, ◌-◌, ◌<◌, ◌≤◌, List, ◌++◌, ◌⊎◌, inl, inr, length, get_or, sym, ap, ◌∙◌, arith}
use Rattle.std.specs.Prelude.{slice_index}
use Rattle.std.proofs.lemmas.List.{length-append, get_or_append_left, get_or-append_right, get_or_default, same_lists}
use Rattle.tx_core.specs.Sequences.{IsEndOrAddition}
use Rattle.tx_core.specs.SequencePlaces.{HasPlaces}
use Rattle.tx_core.specs.SequenceFacts.{HasMore, IsSequenceOf}
use Rattle.tx_log.specs.declared.part.LogPart.{LogPart}
use Rattle.tx_log.specs.Log.{IsLog, length_in, word_in, values_in, sequence_of}
use Rattle.tx_log.proofs.Logs.{length-values, value_is}

below : (i n : ℕ) → (i < n) ⊎ (n ≤ i)
below i n = grind arith

module _ (log : LogPart) where
  pub log_places : (word n : ℕ) → HasPlaces (sequence_of log) word n
  log_places word n = record {
    next = λ k lt. omega arith;
    apart = λ j k lt in_range same. omega (arith, lt, same);
    free = λ k lt same. omega (arith, same);
  }

  log_in_table : (cells : List ℕ) (word n : ℕ) → IsLog log cells → word + n ≤ log.capacity → (c : ℕ) → IsEndOrAddition (sequence_of log) word n c → c < length cells
  log_in_table cells word n is fits c (inl end) = omega (arith, end, is.in_table)
  log_in_table cells word n is fits c (inr one) = omega (arith, one.1, one.2, fits, is.in_table)

  log_grows : (cells xs new : List ℕ) → IsLog log cells → length_in log cells + length xs ≤ log.capacity → HasMore (sequence_of log) (length_in log cells) xs cells new → IsLog log new × (values_in log new ≡ values_in log cells ++ xs)
  log_grows cells xs new is fits more =
      let long : length_in log new ≡ length_in log cells + length xs = more.end in
      let old : (i : ℕ) → (i < length_in log cells) ⊎ (length_in log new ≤ i) → word_in log new i ≡ word_in log cells i = λ i off. more.others (log.end + 1 + i) (away i off) in
      let fresh : (i : ℕ) → length_in log cells ≤ i → i < length_in log new → word_in log new i ≡ get_or xs (i - length_in log cells) 0 + 1 = λ i low high.
      let cell : log.end + 1 + i ≡ log.end + 1 + (length_in log cells + (i - length_in log cells)) = omega (arith, low) in
      ap (λ c. slice_index new c) cell ∙ more.items (i - length_in log cells) (omega (arith, low, high, long)) in
      let there : IsLog log new = record {
        in_table = omega (arith, more.sized, is.in_table);
        within = omega (arith, long, fits);
        there = λ i lt. elim (below i (length_in log cells)) [
          | inl low ↦ omega (arith, old i (inl low), is.there i low)
          | inr high ↦ omega (arith, fresh i high lt)
        ];
        free = λ i far lt. old i (inr far) ∙ is.free i (omega (arith, far, long)) lt;
      } in
      let counts = length-values log cells is in
      let sized : length (values_in log new) ≡ length (values_in log cells ++ xs) = omega (arith, length-values log new there, long, counts, length-append (values_in log cells) xs) in (
        there,
        same_lists (values_in log new) (values_in log cells ++ xs) sized (λ i d lt.
            let near : i < length_in log new = omega (arith, lt, length-values log new there) in
            value_is log new i d there near ∙ elim (below i (length_in log cells)) [
              | inl low ↦ ap (λ w. w - 1) (old i (inl low)) ∙ sym (value_is log cells i d is low) ∙ sym (get_or_append_left (values_in log cells) xs d i (omega (arith, low, counts)))
              | inr high ↦
                  let k : ℕ = i - length_in log cells in
                  let word : word_in log new i - 1 ≡ get_or xs k 0 = omega (arith, fresh i high near) in
                  word ∙ get_or_default xs k 0 d (omega (arith, high, near, long)) ∙ sym (get_or-append_right (values_in log cells) xs (length_in log cells) i d counts high)
            ]),
      )
    where
      away : (i : ℕ) → (i < length_in log cells) ⊎ (length_in log new ≤ i) → IsEndOrAddition (sequence_of log) (length_in log cells) (length xs) (log.end + 1 + i) → ⊥
      away i off (inl end) = omega (arith, end)
      away i (inl low) (inr one) = omega (arith, low, one.1, one.2)
      away i (inr high) (inr one) = omega (arith, high, one.1, one.2, more.end)

  pub log_is_sequence : IsSequenceOf (sequence_of log) (IsLog log) (values_in log)
  log_is_sequence = record {
    in_table = log_in_table;
    within = λ cells is. is.within;
    counts = λ cells is. length-values log cells is;
    grows = log_grows;
  }
