-- What the log has at a place, with what waits behind its entries.
use Rattle.std.proofs.Common.{◌≡◌, ℕ, zero, suc, ◌-◌, ◌<◌, ◌≤◌, List, [], ◌∷◌, ◌++◌, ◌⊎◌, inl, inr, length, Some, refl, ap, ◌∙◌, arith}
use Rattle.std.specs.List.{slice_get}
use Rattle.std.proofs.lemmas.List.{length-append, get_or_append_left}
use Rattle.std.proofs.lemmas.Option.{slice_get-get_or}
use Rattle.tx_log.specs.Log.{IsLog, length_in, word_in, values_in}
use Rattle.tx_log.specs.declared.part.LogPart.{LogPart}
use Rattle.tx_log.proofs.Logs.{length-values, value_is}

get_past : (xs ys : List ℕ) (i : ℕ) → length xs ≤ i → slice_get (xs ++ ys) i ≡ slice_get ys (i - length xs)
get_past [] ys i far = let e : i - 0 ≡ i = omega arith in rw e refl
get_past (x ∷ xs) ys zero far = absurd (omega arith)
get_past (x ∷ xs) ys (suc i) far = let e : suc i - suc (length xs) ≡ i - length xs = omega arith in rw e (get_past xs ys i (omega arith))

below : (i n : ℕ) → (i < n) ⊎ (n ≤ i)
below i n = grind arith

module _ (log : LogPart) where
  -- an entry whose word isn't 0 is there
  pub entry_there : (cells more : List ℕ) (i : ℕ) → IsLog log cells → i < log.capacity → 0 < word_in log cells i → slice_get (values_in log cells ++ more) i ≡ Some (word_in log cells i - 1)
  entry_there cells more i is in_range full = elim (below i (length_in log cells)) [
    | inl low ↦
        let near : i < length (values_in log cells) = omega (arith, length-values log cells is) in
        slice_get-get_or (values_in log cells ++ more) i 0 (omega (arith, length-append (values_in log cells) more))
        ∙ ap (λ v. Some v) (get_or_append_left (values_in log cells) more 0 i near ∙ value_is log cells i 0 is low)
    | inr high ↦ absurd (omega (arith, is.free i high in_range))
  ]

  -- one whose word is 0 isn't, nor is one from the capacity on
  pub entry_waits : (cells more : List ℕ) (i : ℕ) → IsLog log cells → (i < log.capacity → word_in log cells i ≡ 0) → (length_in log cells ≤ i) × (slice_get (values_in log cells ++ more) i ≡ slice_get more (i - length_in log cells))
  entry_waits cells more i is empty = elim (below i (length_in log cells)) [
    | inl low ↦ absurd (omega (arith, is.there i low, is.within, empty (omega (arith, is.within))))
    | inr high ↦
        let long = length-values log cells is in
        (high, get_past (values_in log cells) more i (omega (arith, long)) ∙ ap (λ n. slice_get more (i - n)) long)
  ]
