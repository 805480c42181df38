-- A log in the words of its structure, and in its cells.
use Rattle.std.proofs.Common.{◌≡◌, ℕ, zero, suc, ◌+◌, ◌-◌, ◌^◌, ◌<◌, ◌≤◌, List, ◌∷◌, length, take, drop, map, get_or, ap, sym, ◌∙◌, inl, inr, arith}
use Rattle.std.specs.List.{All}
use Rattle.std.proofs.lemmas.Bool.{cases_lt}
use Rattle.std.proofs.lemmas.List.{length-take-le, length-drop, length-map, get_or-take, get_or-drop, take-take, get_or-map}
use Rattle.std.proofs.lemmas.List.Elements.{All-get_or, All-from_get_or}
use Rattle.std.proofs.Math.Seq.{drop-cons}
use Rattle.store_layout.specs.States as layout
use Rattle.tx_log.specs.declared.part.LogPart.{LogPart}
use Rattle.tx_log.specs.Log.{IsLog, values_in}

-- the words behind the end
module _ (part : LogPart) (cells : List ℕ) (fits : part.end + part.capacity < length cells) where
  abbrev entries : List ℕ
  entries = take part.capacity (drop (part.end + 1) cells)

  pub words_are : take (part.capacity + 1) (drop part.end cells) ≡ get_or cells part.end 0 ∷ entries
  words_are =
      let next : suc part.end ≡ part.end + 1 = omega arith in
      ap (take (part.capacity + 1)) (drop-cons cells part.end 0 (omega arith) ∙ ap (λ (k : ℕ). get_or cells part.end 0 ∷ drop k cells) next)
      ∙ ap (λ (n : ℕ). take n (get_or cells part.end 0 ∷ drop (part.end + 1) cells)) (let e : part.capacity + 1 ≡ suc part.capacity = omega arith in e)

  entries_length : length entries ≡ part.capacity
  entries_length = length-take-le part.capacity (drop (part.end + 1) cells) (omega (arith, length-drop (part.end + 1) cells))

  entry_at : (i : ℕ) → i < part.capacity → get_or entries i 0 ≡ get_or cells (part.end + 1 + i) 0
  entry_at i lt = get_or-take part.capacity (drop (part.end + 1) cells) i 0 lt ∙ get_or-drop (part.end + 1) cells i 0

  -- the words are a log where the cells are
  pub to_log : layout.IsLog (get_or cells part.end 0 ∷ entries) → IsLog part cells
  to_log is = record {
    in_table = fits;
    within = omega (arith, is.0, entries_length);
    there = λ i lt. omega (
      arith,
      entry_at i (omega (arith, is.0, entries_length)),
      get_or-take (get_or cells part.end 0) entries i 0 lt,
      All-get_or (λ w. 0 < w) (take (get_or cells part.end 0) entries) i 0 (omega (arith, length-take-le (get_or cells part.end 0) entries is.0)) is.1,
    );
    free = λ i ge lt.
        let k : ℕ = i - get_or cells part.end 0 in
        let at : get_or entries (get_or cells part.end 0 + k) 0 ≡ get_or entries i 0 = ap (λ (j : ℕ). get_or entries j 0) (omega arith) in
        sym (entry_at i lt) ∙ (sym at ∙ (sym (get_or-drop (get_or cells part.end 0) entries k 0)
        ∙ All-get_or (λ w. w ≡ 0) (drop (get_or cells part.end 0) entries) k 0 (omega (arith, length-drop (get_or cells part.end 0) entries, entries_length)) is.2));
  }

  pub from_log : IsLog part cells → layout.IsLog (get_or cells part.end 0 ∷ entries)
  from_log is =
      let n : ℕ = get_or cells part.end 0 in
      let short : n ≤ length entries = omega (arith, is.within, entries_length) in (
        short,
        All-from_get_or (λ w. 0 < w) (take n entries) 0 (λ i lt.
            let low : i < n = omega (arith, length-take-le n entries short) in
            omega (arith, get_or-take n entries i 0 low, entry_at i (omega (arith, is.within)), is.there i low)),
        All-from_get_or (λ w. w ≡ 0) (drop n entries) 0 (λ i lt.
            let low : n + i < part.capacity = omega (arith, length-drop n entries, entries_length) in
            get_or-drop n entries i 0 ∙ (entry_at (n + i) low ∙ is.free (n + i) (omega arith) low)),
      )

  -- and the values are the same
  pub values_same : IsLog part cells → layout.log_in (get_or cells part.end 0 ∷ entries) ≡ values_in part cells
  values_same is = ap (map (λ (w : ℕ). w - 1)) (take-take (get_or cells part.end 0) part.capacity (drop (part.end + 1) cells) is.within)

  -- the words of a log whose values are below 2^64 - 1 are below 2^64
  pub log_below : part.capacity < 2 ^ 64 → IsLog part cells → All (λ v. v < 2 ^ 64 - 1) (values_in part cells) → All (λ w. w < 2 ^ 64) (get_or cells part.end 0 ∷ entries)
  log_below few is kept = All-from_get_or (λ w. w < 2 ^ 64) (get_or cells part.end 0 ∷ entries) 0 below
    where
      n : ℕ
      n = get_or cells part.end 0

      entry_below : (i : ℕ) → i < part.capacity → get_or entries i 0 < 2 ^ 64
      entry_below i lt = elim (cases_lt i n) [
        | inl low ↦
            let long : length (take n (drop (part.end + 1) cells)) ≡ n = length-take-le n (drop (part.end + 1) cells) (omega (arith, length-drop (part.end + 1) cells, is.within)) in
            let value : get_or (values_in part cells) i 0 ≡ get_or (take n (drop (part.end + 1) cells)) i 0 - 1 = get_or-map (λ (w : ℕ). w - 1) (take n (drop (part.end + 1) cells)) i 0 0 (omega arith) in
            omega (
              arith,
              entry_at i lt,
              get_or-take n (drop (part.end + 1) cells) i 0 low,
              get_or-drop (part.end + 1) cells i 0,
              value,
              All-get_or (λ v. v < 2 ^ 64 - 1) (values_in part cells) i 0 (omega (arith, long, length-map (take n (drop (part.end + 1) cells)) (λ (w : ℕ). w - 1))) kept,
            )
        | inr ge ↦ omega (arith, entry_at i lt, is.free i ge lt)
      ]

      below : (i : ℕ) → i < length (get_or cells part.end 0 ∷ entries) → get_or (get_or cells part.end 0 ∷ entries) i 0 < 2 ^ 64
      below zero lt = omega (arith, is.within)
      below (suc i) lt = entry_below i (omega (arith, entries_length))
