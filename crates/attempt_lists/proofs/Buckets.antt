-- How the chains of a list grow and shrink by an entry, and what a walk along one finds.
use Rattle.std.proofs.Common.{◌≡◌, ◌≢◌, ℕ, suc, ◌+◌, ◌*◌, ◌/◌, ◌%◌, ◌^◌, ◌<◌, ◌≤◌, List, [], ◌∷◌, ◌++◌, length, get_or, set, None, refl, sym, ap, ◌∙◌, inl, inr, arith}
use Rattle.std.proofs.Math.Nat.{div-lt_iff_lt-mul, mod-lt, mod-le, mul-lt-mul_of_pos_right, mul_comm, lt_of_le_of_lt}
use Rattle.std.proofs.lemmas.Bool.{cases_lt, cases_eq}
use Rattle.std.proofs.lemmas.Grind.{common_steps}
use Rattle.attempt_lists.specs.Cells.{Entries, word_at, cell_at}
use Rattle.attempt_lists.specs.Buckets.{bucket_of, IsLink, AreChains}
use Rattle.attempt_lists.specs.Words.{word_absent}

-- the first n cells are the same
abbrev SameCells : Entries → Entries → ℕ → Type 0
SameCells es fs n = (i : ℕ) → i < n → cell_at fs i ≡ cell_at es i

-- a link speaks of the cells below its end alone
link_same : (es fs : Entries) (buckets bucket n link : ℕ) → SameCells es fs n → IsLink es buckets bucket n link → IsLink fs buckets bucket n link
link_same es fs buckets bucket n link same is = record {
  within = is.within;
  of_bucket = λ place at. rw (same place (omega (arith, is.within, at))) (is.of_bucket place at);
  last = λ i lt of_bucket. is.last i lt (rw (← same i lt) of_bucket);
}

pub chains_same : (heads links : List ℕ) (es fs : Entries) (n : ℕ) → SameCells es fs n → AreChains heads links es n → AreChains heads links fs n
chains_same heads links es fs n same are = record {
  some = are.some;
  len = are.len;
  from_heads = λ bucket lt. link_same es fs _ _ n _ same (are.from_heads bucket lt);
  from_links = λ i lt. rw (same i lt) (link_same es fs _ _ i _ (λ j below. same j (omega (arith, lt, below))) (are.from_links i lt));
}

module _ (es : Entries) (buckets bucket n : ℕ) where
  -- an entry of another bucket changes nothing
  link_other : (link : ℕ) → bucket_of buckets (cell_at es n) ≢ bucket → IsLink es buckets bucket n link → IsLink es buckets bucket (n + 1) link
  link_other link other is = record {
    within = omega (arith, is.within);
    of_bucket = is.of_bucket;
    last = λ i lt of_bucket. elim (cases_eq i n) [
      | inl here ↦ absurd (other (rw (← here) of_bucket))
      | inr before ↦ is.last i (omega (arith, lt, before)) of_bucket
    ];
  }

  link_back : (link : ℕ) → bucket_of buckets (cell_at es n) ≢ bucket → IsLink es buckets bucket (n + 1) link → IsLink es buckets bucket n link
  link_back link other is = record {
    within = elim (cases_eq link (n + 1)) [
      | inl here ↦ absurd (other (is.of_bucket n (omega (arith, here))))
      | inr before ↦ omega (arith, is.within, before)
    ];
    of_bucket = is.of_bucket;
    last = λ i lt of_bucket. is.last i (omega (arith, lt)) of_bucket;
  }

  -- an entry of the bucket is the last one
  link_here : bucket_of buckets (cell_at es n) ≡ bucket → IsLink es buckets bucket (n + 1) (n + 1)
  link_here here = record {
    within = omega arith;
    of_bucket = λ place at.
        let same : place ≡ n = omega (arith, at) in
        rw same here;
    last = λ i lt of_bucket. lt;
  }

module _ (heads links : List ℕ) (es : Entries) (n here : ℕ) (is : bucket_of (length heads) (cell_at es n) ≡ here) (in_range : here < length heads) where
  as_many : (link : ℕ) → length (set heads here link) ≡ length heads
  as_many link = grind (arith, common_steps)

  at_here : (link : ℕ) → get_or (set heads here link) here 0 ≡ link
  at_here link = grind (arith, common_steps, in_range)

  elsewhere : (link bucket : ℕ) → bucket ≢ here → get_or (set heads here link) bucket 0 ≡ get_or heads bucket 0
  elsewhere link bucket other = grind (arith, common_steps, other)

  -- one entry more
  pub chains_pushed : AreChains heads links es n → AreChains (set heads here (n + 1)) (links ++ get_or heads here 0 ∷ []) es (n + 1)
  chains_pushed are = record {
    some = rw (as_many (n + 1)) are.some;
    len = grind (arith, common_steps, are.len);
    from_heads = λ bucket lt. rw (as_many (n + 1)) (elim (cases_eq bucket here) [
      | inl same ↦ rw (same, at_here (n + 1)) (link_here es (length heads) here n is)
      | inr other ↦ rw (elsewhere (n + 1) bucket other) (link_other es (length heads) bucket n _ (λ e. other (sym e ∙ is)) (are.from_heads bucket (rw (← as_many (n + 1)) lt)))
    ]);
    from_links = λ i lt. rw (as_many (n + 1)) (elim (cases_eq i n) [
      | inl last ↦
          let at : get_or (links ++ get_or heads here 0 ∷ []) i 0 ≡ get_or heads here 0 = grind (arith, common_steps, are.len, last) in
          rw at (rw (last, is) (are.from_heads here in_range))
      | inr before ↦
          let within : i < n = omega (arith, lt, before) in
          let at : get_or (links ++ get_or heads here 0 ∷ []) i 0 ≡ get_or links i 0 = grind (arith, common_steps, are.len, within) in
          rw at (are.from_links i within)
    ]);
  }

  -- one entry less
  pub chains_popped : (link : ℕ) → AreChains heads (links ++ link ∷ []) es (n + 1) → AreChains (set heads here link) links es n
  chains_popped link are =
      let len : length links ≡ n = grind (arith, common_steps, are.len) in
      record {
        some = rw (as_many link) are.some;
        len = len;
        from_heads = λ bucket lt. rw (as_many link) (elim (cases_eq bucket here) [
          | inl same ↦
              let at : get_or (links ++ link ∷ []) n 0 ≡ link = grind (arith, common_steps, len) in
              rw (same, at_here link) (rw (← at, ← is) (are.from_links n (omega arith)))
          | inr other ↦ rw (elsewhere link bucket other) (link_back es (length heads) bucket n _ (λ e. other (sym e ∙ is)) (are.from_heads bucket (rw (← as_many link) lt)))
        ]);
        from_links = λ i lt. rw (as_many link) (
            let at : get_or (links ++ link ∷ []) i 0 ≡ get_or links i 0 = grind (arith, common_steps, len, lt) in
            rw (← at) (are.from_links i (omega (arith, lt))));
      }

-- a walk along the chain of a cell's bucket has come to the link: the entries that it left behind are not the cell's
pub record IsWalk (es : Entries) (buckets cell link : ℕ) : Type 0 where
  pub within : link ≤ length es
  pub of_bucket : (place : ℕ) → link ≡ suc place → bucket_of buckets (cell_at es place) ≡ bucket_of buckets cell
  pub passed : (i : ℕ) → link ≤ i → i < length es → cell_at es i ≢ cell

module _ (heads links : List ℕ) (es : Entries) (cell : ℕ) (are : AreChains heads links es (length es)) where
  pub walk_begins : bucket_of (length heads) cell < length heads → IsWalk es (length heads) cell (get_or heads (bucket_of (length heads) cell) 0)
  walk_begins in_range =
      let head = are.from_heads (bucket_of (length heads) cell) in_range in
      record {
        within = head.within;
        of_bucket = head.of_bucket;
        passed = λ i from lt same. omega (arith, from, head.last i lt (ap (bucket_of (length heads)) same));
      }

  pub walk_goes_on : (place : ℕ) → IsWalk es (length heads) cell (suc place) → cell_at es place ≢ cell → IsWalk es (length heads) cell (get_or links place 0)
  walk_goes_on place walk other =
      let here = walk.of_bucket place refl in
      let next = are.from_links place (omega (arith, walk.within)) in
      record {
        within = omega (arith, next.within, walk.within);
        of_bucket = λ at is. next.of_bucket at is ∙ here;
        passed = λ i from lt same. elim (cases_lt i place) [
          | inl below ↦ omega (arith, from, next.last i below (ap (bucket_of (length heads)) same ∙ sym here))
          | inr above ↦ elim (cases_eq i place) [
            | inl at ↦ other (rw (← at) same)
            | inr past ↦ walk.passed i (omega (arith, above, past)) lt same
          ]
        ];
      }

  pub walk_ends : IsWalk es (length heads) cell 0 → word_at es cell ≡ None
  walk_ends walk = word_absent es cell (λ i lt. walk.passed i (omega arith) lt)

-- a bucket is one of the buckets
pub bucket_in_range : (buckets cell : ℕ) → 0 < buckets → bucket_of buckets cell < buckets
bucket_in_range buckets cell some =
    let spread : cell * 2654435769 % 2 ^ 32 < 2 ^ 32 = mod-lt _ (omega arith) in
    elim (cases_lt buckets (2 ^ 32)) [
      | inl few ↦ (div-lt_iff_lt-mul (omega arith)).1 (few_spread (cell * 2654435769 % 2 ^ 32) spread few)
      | inr many ↦
          let high : bucket_of buckets cell < 2 ^ 32 = high_part (cell * 2654435769 % 2 ^ 32 * buckets) in
          omega (arith, high, many)
    ]
  where
    high_part : (x : ℕ) → x % 2 ^ 64 / 2 ^ 32 < 2 ^ 32
    high_part x = (div-lt_iff_lt-mul (omega arith)).1 (mod-lt x (omega arith))

    few_spread : (x : ℕ) → x < 2 ^ 32 → buckets < 2 ^ 32 → x * buckets % 2 ^ 64 < buckets * 2 ^ 32
    few_spread x below few =
        let product : x * buckets < 2 ^ 32 * buckets = mul-lt-mul_of_pos_right below some in
        lt_of_le_of_lt (mod-le (x * buckets) (2 ^ 64)) (rw (mul_comm buckets (2 ^ 32)) product)
