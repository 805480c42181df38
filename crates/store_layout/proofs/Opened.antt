-- The words of the opening stand for the opening state.
use Rattle.std.proofs.Common.{◌≡◌, ℕ, zero, suc, ◌+◌, ◌-◌, ◌/◌, ◌%◌, ◌^◌, ◌<◌, ◌≤◌, List, [], ◌∷◌, ◌++◌, length, take, drop, map, replicate, get_or, ltb, ap, sym, ◌∙◌, refl, inl, inr, subst, arith}
use Rattle.std.specs.List.{All, sum, sum_by, flat_map}
use Rattle.std.proofs.lemmas.Bool.{cases_lt, cond-true, cond-false, lt-ltb, le-ltb}
use Rattle.std.proofs.lemmas.List.{get_or_past, get_or_append_left, get_or-append_right, get_or-replicate, length-replicate, length-map, length-append, append_assoc, take_at, take_all}
use Rattle.std.proofs.Math.Seq.{drop-append-add}
use Rattle.std.proofs.lemmas.List.Elements.{All-get_or, All-from_get_or, All-append, All-replicate, All-map, All-weaker, All-head, All-tail, All-nil}
use Rattle.std.proofs.lemmas.List.Concat.{flat_map-cons}
use Rattle.std.proofs.lemmas.List.Sums.{sum_by-cons}
use Rattle.serial_terms.specs.declared.store.Layout.{Layout}
use Rattle.serial_terms.specs.declared.store.PoolLayout.{PoolLayout}
use Rattle.serial_terms.specs.Ranges.{IsKept}
use Rattle.serial_terms.specs.Serial.{pool_of}
use Rattle.serial_terms.specs.Stores.{slots_of, items_of, opening_of}
use Rattle.store_layout.specs.Shapes.{Object, the_map, the_queue, the_pool, the_log, the_cell, shape_of, with_end, pools_from, logs_from, cells_of, first_of, size_of, IsCellOf, IsPool, IsLayout}
use Rattle.store_layout.specs.States.{value_in, items_in, round_from, queue_in, log_in, IsQueue, IsLog, AreOf, words_of, state_in, IsFormed}
use Rattle.store_layout.specs.Opening.{opening_slots, opening_words}
use Rattle.store_layout.specs.Laws.{OpeningStands}
use Rattle.store_layout.proofs.Parts.{in_map, in_queue, in_log, in_cell}
use Rattle.store_layout.specs.Within.{short}
use Rattle.store_layout.proofs.Words.{words_are_cells}

-- ---- one pool

length-slots : (p : PoolLayout) → IsPool p → length (opening_slots p) ≡ p.slots
length-slots p is = omega (arith, length-append (map (λ v. suc v) p.items) (replicate (p.slots - length p.items) 0), length-map p.items (λ (v : ℕ). suc v), length-replicate {A = ℕ} (p.slots - length p.items) 0, is.1)

no_items : (n : ℕ) → items_in (replicate n 0) ≡ []
no_items zero = refl
no_items (suc n) = no_items n

items_back : (xs : List ℕ) (n : ℕ) → items_in (map (λ v. suc v) xs ++ replicate n 0) ≡ xs
items_back [] n = no_items n
items_back (x ∷ xs) n = ap (λ (ys : List ℕ). x ∷ ys) (items_back xs n)

slots_below : (p : PoolLayout) → IsPool p → All (λ w. w < 2 ^ 64) (opening_slots p)
slots_below p is = All-append (λ w. w < 2 ^ 64) (map (λ v. suc v) p.items) (replicate (p.slots - length p.items) 0) (All-map (λ w. w < 2 ^ 64) (λ (v : ℕ). suc v) p.items (All-weaker IsKept (λ v. suc v < 2 ^ 64) (λ v h. omega arith) p.items is.2)) (All-replicate (λ w. w < 2 ^ 64) (p.slots - length p.items) 0 (omega arith))

-- ---- all pools

length-pools : (ps : List PoolLayout) → All IsPool ps → length (flat_map opening_slots ps) ≡ sum (slots_of ps)
length-pools [] h = refl
length-pools (p ∷ ps) h = omega (arith, ap length (flat_map-cons opening_slots p ps), length-append (opening_slots p) (flat_map opening_slots ps), length-slots p (All-head IsPool p ps h), length-pools ps (All-tail IsPool p ps h), sum_by-cons (λ (x : ℕ). x) p.slots (slots_of ps))

pools_below : (ps : List PoolLayout) → All IsPool ps → All (λ w. w < 2 ^ 64) (flat_map opening_slots ps)
pools_below [] h = All-nil (λ w. w < 2 ^ 64)
pools_below (p ∷ ps) h = rw (flat_map-cons opening_slots p ps) (All-append (λ w. w < 2 ^ 64) (opening_slots p) (flat_map opening_slots ps) (slots_below p (All-head IsPool p ps h)) (pools_below ps (All-tail IsPool p ps h)))

-- the words of the pool n, with what stands behind the pools
slots_at : (ps : List PoolLayout) (more : List ℕ) (n : ℕ) → All IsPool ps → items_in (take (get_or (slots_of ps) n 0) (drop (sum (take n (slots_of ps))) (flat_map opening_slots ps ++ more))) ≡ get_or (items_of ps) n []
slots_at [] more zero h = refl
slots_at [] more (suc n) h = refl
slots_at (p ∷ ps) more zero h =
    let e : flat_map opening_slots (p ∷ ps) ++ more ≡ opening_slots p ++ (flat_map opening_slots ps ++ more) = ap (λ (xs : List ℕ). xs ++ more) (flat_map-cons opening_slots p ps) ∙ append_assoc (opening_slots p) (flat_map opening_slots ps) more in
    ap (λ (xs : List ℕ). items_in (take p.slots xs)) e
    ∙ (ap items_in (take_at (opening_slots p) (flat_map opening_slots ps ++ more) p.slots (length-slots p (All-head IsPool p ps h)))
    ∙ items_back p.items (p.slots - length p.items))
slots_at (p ∷ ps) more (suc n) h =
    let e : flat_map opening_slots (p ∷ ps) ++ more ≡ opening_slots p ++ (flat_map opening_slots ps ++ more) = ap (λ (xs : List ℕ). xs ++ more) (flat_map-cons opening_slots p ps) ∙ append_assoc (opening_slots p) (flat_map opening_slots ps) more in
    let at : sum (take (suc n) (p.slots ∷ slots_of ps)) ≡ length (opening_slots p) + sum (take n (slots_of ps)) = omega (arith, sum_by-cons (λ (x : ℕ). x) p.slots (take n (slots_of ps)), length-slots p (All-head IsPool p ps h)) in
    ap (λ (k : ℕ). items_in (take (get_or (slots_of ps) n 0) (drop k (flat_map opening_slots (p ∷ ps) ++ more)))) at
    ∙ (ap (λ (xs : List ℕ). items_in (take (get_or (slots_of ps) n 0) (drop (length (opening_slots p) + sum (take n (slots_of ps))) xs))) e
    ∙ (ap (λ (xs : List ℕ). items_in (take (get_or (slots_of ps) n 0) xs)) (drop-append-add (opening_slots p) (flat_map opening_slots ps ++ more) (sum (take n (slots_of ps))))
    ∙ slots_at ps more n (All-tail IsPool p ps h)))

-- ---- words that are all 0

zeros_at : (n i : ℕ) → get_or {A = ℕ} (replicate n 0) i 0 ≡ 0
zeros_at n i = elim (cases_lt i n) [
  | inl lt ↦ get_or-replicate n i 0 0 lt
  | inr ge ↦ get_or_past {X = ℕ} (replicate n 0) i 0 (omega (arith, length-replicate {A = ℕ} n 0))
]

AreZero : List ℕ → Type 0
AreZero ws = (i : ℕ) → get_or ws i 0 ≡ 0

empty_queue : (ws : List ℕ) → AreZero ws → queue_in ws ≡ []
unfolding AreZero
empty_queue [] z = refl
empty_queue (end ∷ ws) z = ap (λ (e : ℕ). round_from ws (e / 2 ^ 32) (e % 2 ^ 32)) (z 0)

empty_log : (ws : List ℕ) → AreZero ws → log_in ws ≡ []
unfolding AreZero
empty_log [] z = refl
empty_log (n ∷ ws) z = ap (λ (k : ℕ). map (λ w. w - 1) (take k ws)) (z 0)

is_queue : (ws : List ℕ) → AreZero ws → (0 < length ws → 1 < length ws) → IsQueue ws
unfolding AreZero
is_queue [] z h = tt
is_queue (end ∷ ws) z h = let e = z 0 in subst (λ (x : ℕ). (x / 2 ^ 32 < length ws) × (x % 2 ^ 32 ≤ length ws)) (sym (z 0)) (omega (arith, h (omega arith)), omega arith)

is_log : (ws : List ℕ) → AreZero ws → IsLog ws
unfolding AreZero
is_log [] z = tt
is_log (n ∷ ws) z = subst (λ (k : ℕ). (k ≤ length ws) × All (λ w. 0 < w) (take k ws) × All (λ w. w ≡ 0) (drop k ws)) (sym (z 0))
    (omega arith, All-nil (λ w. 0 < w), All-from_get_or (λ w. w ≡ 0) ws 0 (λ i lt. z (suc i)))

-- ---- the whole

module _ (layout : Layout) (is : IsLayout layout) where
  -- all cells but those of the pools
  zero_before : (c : ℕ) → c < pools_from (shape_of layout) → get_or (opening_words layout) c 0 ≡ 0
  zero_before c lt =
      let n : ℕ = pools_from (shape_of layout) in
      let more : List ℕ = flat_map opening_slots layout.pools ++ replicate (sum_by with_end layout.logs + layout.cells) 0 in
      get_or_append_left (replicate n 0) more 0 c (omega (arith, length-replicate {A = ℕ} n 0)) ∙ get_or-replicate n c 0 0 lt

  zero_behind : (c : ℕ) → logs_from (shape_of layout) ≤ c → get_or (opening_words layout) c 0 ≡ 0
  zero_behind c ge =
      let n : ℕ = pools_from (shape_of layout) in
      let k : ℕ = sum (slots_of layout.pools) in
      let more : List ℕ = replicate (sum_by with_end layout.logs + layout.cells) 0 in
      get_or-append_right (replicate n 0) (flat_map opening_slots layout.pools ++ more) n c 0 (length-replicate {A = ℕ} n 0) (omega arith)
      ∙ (get_or-append_right (flat_map opening_slots layout.pools) more k (c - n) 0 (length-pools layout.pools is.pools) (omega arith)
      ∙ zeros_at (sum_by with_end layout.logs + layout.cells) (c - n - k))

  -- the words of a structure, where its cells are 0
  zero_part : (o : Object) → ((c : ℕ) → IsCellOf (shape_of layout) o c → get_or (opening_words layout) c 0 ≡ 0) → AreZero (words_of (shape_of layout) o (opening_words layout))
  unfolding AreZero
  zero_part o z i = elim (cases_lt i (size_of (shape_of layout) o)) [
    | inl lt ↦ words_are_cells.words (shape_of layout) o (opening_words layout) i lt ∙ z (first_of (shape_of layout) o + i) (omega arith, omega arith)
    | inr ge ↦ get_or_past (words_of (shape_of layout) o (opening_words layout)) i 0 (omega (arith, short (shape_of layout) o (opening_words layout)))
  ]

  zero_map : (m : ℕ) → AreZero (words_of (shape_of layout) (the_map m) (opening_words layout))
  zero_map m = zero_part (the_map m) (λ c a. zero_before c (omega (arith, (in_map (shape_of layout) m c a).below)))

  zero_queue : (q : ℕ) → AreZero (words_of (shape_of layout) (the_queue q) (opening_words layout))
  zero_queue q = zero_part (the_queue q) (λ c a. zero_before c (in_queue (shape_of layout) q c a).below)

  zero_log : (l : ℕ) → AreZero (words_of (shape_of layout) (the_log l) (opening_words layout))
  zero_log l = zero_part (the_log l) (λ c a. zero_behind c (in_log (shape_of layout) l c a).above)

  zero_cell : (k : ℕ) → AreZero (words_of (shape_of layout) (the_cell k) (opening_words layout))
  zero_cell k = zero_part (the_cell k) (λ c a. zero_behind c (omega (arith, (in_cell (shape_of layout) k c a).0)))

  items_of_pool : (p : ℕ) → items_in (words_of (shape_of layout) (the_pool p) (opening_words layout)) ≡ get_or (items_of layout.pools) p []
  items_of_pool p =
      let n : ℕ = pools_from (shape_of layout) in
      let more : List ℕ = replicate (sum_by with_end layout.logs + layout.cells) 0 in
      let all : List ℕ = flat_map opening_slots layout.pools ++ more in
      let k : ℕ = sum (take p (slots_of layout.pools)) in
      let e : drop (n + k) (replicate n 0 ++ all) ≡ drop k all = ap (λ (j : ℕ). drop (j + k) (replicate n 0 ++ all)) (sym (length-replicate {A = ℕ} n 0)) ∙ drop-append-add (replicate n 0) all k in
      ap (λ (xs : List ℕ). items_in (take (get_or (slots_of layout.pools) p 0) xs)) e ∙ slots_at layout.pools more p is.pools

  -- ---- what they stand for

  state : state_in (shape_of layout) (opening_words layout) ≡ opening_of layout
  unfolding state_in opening_of AreZero
  state = λ i. record {
    maps = λ m k. ap value_in (zero_map m k) i;
    queues = λ q. record { items = empty_queue (words_of (shape_of layout) (the_queue q) (opening_words layout)) (zero_queue q) i; capacity = get_or layout.queues q 0 };
    pools = λ p. pool_of (get_or (slots_of layout.pools) p 0) (items_of_pool p i);
    logs = λ l. record { items = empty_log (words_of (shape_of layout) (the_log l) (opening_words layout)) (zero_log l) i; capacity = get_or layout.logs l 0 };
    cells = λ c. zero_cell c 0 i;
  }

  length-opening : length (opening_words layout) ≡ cells_of (shape_of layout)
  length-opening =
      let n : ℕ = pools_from (shape_of layout) in
      let k : ℕ = sum_by with_end layout.logs + layout.cells in
      let more : List ℕ = replicate k 0 in
      omega (arith, length-append (replicate n 0) (flat_map opening_slots layout.pools ++ more), length-append (flat_map opening_slots layout.pools) more, length-replicate {A = ℕ} n 0, length-replicate {A = ℕ} k 0, length-pools layout.pools is.pools)

  -- a queue that is there has a cell for an item
  has_item : (q : ℕ) → 0 < length (words_of (shape_of layout) (the_queue q) (opening_words layout)) → 1 < length (words_of (shape_of layout) (the_queue q) (opening_words layout))
  has_item q some =
      let sized = words_are_cells.sized (shape_of layout) (the_queue q) (opening_words layout) length-opening in
      elim (cases_lt q (length layout.queues)) [
        | inl there ↦
            let e = cond-true {A = ℕ} (ltb q (length layout.queues)) (with_end (get_or layout.queues q 0)) 0 (lt-ltb q (length layout.queues) there) in
            let one = All-get_or (λ c. 0 < c) layout.queues q 0 there is.queues in
            omega arith
        | inr past ↦
            let e = cond-false {A = ℕ} (ltb q (length layout.queues)) (with_end (get_or layout.queues q 0)) 0 (le-ltb q (length layout.queues) past) in
            absurd (omega arith)
      ]

  parts : (o : Object) → AreOf o (words_of (shape_of layout) o (opening_words layout))
  parts (the_map m) = tt
  parts (the_queue q) = is_queue (words_of (shape_of layout) (the_queue q) (opening_words layout)) (zero_queue q) (has_item q)
  parts (the_pool p) = tt
  parts (the_log l) = is_log (words_of (shape_of layout) (the_log l) (opening_words layout)) (zero_log l)
  parts (the_cell c) = tt

  below : All (λ w. w < 2 ^ 64) (opening_words layout)
  below =
      let n : ℕ = pools_from (shape_of layout) in
      let k : ℕ = sum_by with_end layout.logs + layout.cells in
      All-append (λ w. w < 2 ^ 64) (replicate n 0) (flat_map opening_slots layout.pools ++ replicate k 0)
      (All-replicate (λ w. w < 2 ^ 64) n 0 (omega arith))
      (All-append (λ w. w < 2 ^ 64) (flat_map opening_slots layout.pools) (replicate k 0) (pools_below layout.pools is.pools) (All-replicate (λ w. w < 2 ^ 64) k 0 (omega arith)))

  formed : IsFormed (shape_of layout) (opening_words layout)
  formed = record { sized = length-opening; words = below; parts = parts }

pub opening_stands : OpeningStands
opening_stands = record { formed = formed; state = state }

-- ---- words that are added one kind after the other

pub opened : (layout : Layout) → IsLayout layout → (n k before behind : ℕ) (none first pools all : List ℕ)
    → none ≡ [] → before ≡ 0 → first ≡ take n none ++ replicate (n - before) 0
    → pools ≡ first ++ flat_map opening_slots layout.pools → behind ≡ length pools → all ≡ take k pools ++ replicate (k - behind) 0
    → n ≡ pools_from (shape_of layout) → k ≡ cells_of (shape_of layout) → all ≡ opening_words layout
opened layout is n k before behind none first pools all e0 b0 e1 e2 b1 e3 fn fk =
    let flat : List ℕ = flat_map opening_slots layout.pools in
    let m : ℕ = sum_by with_end layout.logs + layout.cells in
    let nothing : take n none ≡ [] = ap (λ (xs : List ℕ). take n xs) e0 ∙ take_all n [] (omega arith) in
    let zeros : first ≡ replicate n 0 = e1 ∙ (ap (λ (xs : List ℕ). xs ++ replicate (n - before) 0) nothing ∙ ap (λ (j : ℕ). replicate {A = ℕ} j 0) (omega arith)) in
    let so_far : pools ≡ replicate n 0 ++ flat = e2 ∙ ap (λ (xs : List ℕ). xs ++ flat) zeros in
    let long : length pools ≡ n + sum (slots_of layout.pools) = omega (arith, ap length so_far, length-append (replicate n 0) flat, length-replicate {A = ℕ} n 0, length-pools layout.pools is.pools) in
    let whole : take k pools ≡ replicate n 0 ++ flat = take_all k pools (omega arith) ∙ so_far in
    let rest : k - behind ≡ m = omega arith in
    e3 ∙ (ap (λ (xs : List ℕ). xs ++ replicate (k - behind) 0) whole
    ∙ (append_assoc (replicate n 0) flat (replicate (k - behind) 0)
    ∙ (ap (λ (j : ℕ). replicate n 0 ++ (flat ++ replicate j 0)) rest
    ∙ ap (λ (j : ℕ). replicate j 0 ++ (flat ++ replicate m 0)) fn)))
