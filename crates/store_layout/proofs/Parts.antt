-- The cells of structures.
use Rattle.std.proofs.Common.{◌≡◌, ℕ, ◌+◌, ◌-◌, ◌<◌, ◌≤◌, List, length, take, get_or, cond, ltb, inl, inr, ap, arith}
use Rattle.std.specs.List.{sum, sum_by}
use Rattle.std.proofs.lemmas.Bool.{cases_lt, cond-true, cond-false, lt-ltb, le-ltb}
use Rattle.std.proofs.lemmas.List.{get_or_past}
use Rattle.store_layout.specs.Shapes.{Shape, Object, the_map, the_queue, the_pool, the_log, the_cell, with_end, queues_from, pools_from, logs_from, plain_from, cells_of, IsCellOf}
use Rattle.store_layout.specs.Laws.{PartsAreApart}
use Rattle.store_layout.proofs.Sums.{IsIn, is_in, in_one, some_part}

-- ---- the cells of each kind

in_whole : (from : ℕ) (xs : List ℕ) (i c : ℕ) → from + sum (take i xs) ≤ c → c < from + sum (take i xs) + get_or xs i 0 → IsIn (λ x. x) from xs i c
in_whole from xs i c low high = elim (cases_lt i (length xs)) [
  | inl there ↦ is_in (λ x. x) from xs i c there low high
  | inr past ↦ absurd (omega (arith, get_or_past xs i 0 past))
]

in_ended : (from : ℕ) (xs : List ℕ) (i c : ℕ) → from + sum_by with_end (take i xs) ≤ c → c < from + sum_by with_end (take i xs) + (cond (ltb i (length xs)) (with_end (get_or xs i 0)) 0) → IsIn with_end from xs i c
in_ended from xs i c low high = elim (cases_lt i (length xs)) [
  | inl there ↦ is_in with_end from xs i c there low (omega (arith, cond-true {A = ℕ} (ltb i (length xs)) (with_end (get_or xs i 0)) 0 (lt-ltb i (length xs) there)))
  | inr past ↦ absurd (omega (arith, cond-false {A = ℕ} (ltb i (length xs)) (with_end (get_or xs i 0)) 0 (le-ltb i (length xs) past)))
]

module _ (s : Shape) where
  pub in_map : (m c : ℕ) → IsCellOf s (the_map m) c → IsIn (λ x. x) 0 s.maps m c
  in_map m c a = in_whole 0 s.maps m c (omega (arith, a.0)) (omega (arith, a.1))

  pub in_queue : (q c : ℕ) → IsCellOf s (the_queue q) c → IsIn with_end (queues_from s) s.queues q c
  in_queue q c a = in_ended (queues_from s) s.queues q c a.0 a.1

  pub in_pool : (p c : ℕ) → IsCellOf s (the_pool p) c → IsIn (λ x. x) (pools_from s) s.pools p c
  in_pool p c a = in_whole (pools_from s) s.pools p c a.0 a.1

  pub in_log : (l c : ℕ) → IsCellOf s (the_log l) c → IsIn with_end (logs_from s) s.logs l c
  in_log l c a = in_ended (logs_from s) s.logs l c a.0 a.1

  pub in_cell : (k c : ℕ) → IsCellOf s (the_cell k) c → (c ≡ plain_from s + k) × (k < s.cells)
  in_cell k c a = elim (cases_lt k s.cells) [
    | inl there ↦ (omega (arith, a.0, a.1, cond-true {A = ℕ} (ltb k s.cells) 1 0 (lt-ltb k s.cells there)), there)
    | inr past ↦ absurd (omega (arith, a.0, a.1, cond-false {A = ℕ} (ltb k s.cells) 1 0 (le-ltb k s.cells past)))
  ]

  -- ---- no cell is part of two structures

  apart : (o p : Object) (c : ℕ) → IsCellOf s o c → IsCellOf s p c → o ≡ p
  apart (the_map i) (the_map j) c a b = ap the_map (in_one (λ x. x) 0 s.maps i j c (in_map i c a) (in_map j c b))
  apart (the_map i) (the_queue j) c a b = absurd (omega (arith, (in_map i c a).below, (in_queue j c b).above))
  apart (the_map i) (the_pool j) c a b = absurd (omega (arith, (in_map i c a).below, (in_pool j c b).above))
  apart (the_map i) (the_log j) c a b = absurd (omega (arith, (in_map i c a).below, (in_log j c b).above))
  apart (the_map i) (the_cell j) c a b = absurd (omega (arith, (in_map i c a).below, (in_cell j c b).0))
  apart (the_queue i) (the_map j) c a b = absurd (omega (arith, (in_queue i c a).above, (in_map j c b).below))
  apart (the_queue i) (the_queue j) c a b = ap the_queue (in_one with_end (queues_from s) s.queues i j c (in_queue i c a) (in_queue j c b))
  apart (the_queue i) (the_pool j) c a b = absurd (omega (arith, (in_queue i c a).below, (in_pool j c b).above))
  apart (the_queue i) (the_log j) c a b = absurd (omega (arith, (in_queue i c a).below, (in_log j c b).above))
  apart (the_queue i) (the_cell j) c a b = absurd (omega (arith, (in_queue i c a).below, (in_cell j c b).0))
  apart (the_pool i) (the_map j) c a b = absurd (omega (arith, (in_pool i c a).above, (in_map j c b).below))
  apart (the_pool i) (the_queue j) c a b = absurd (omega (arith, (in_pool i c a).above, (in_queue j c b).below))
  apart (the_pool i) (the_pool j) c a b = ap the_pool (in_one (λ x. x) (pools_from s) s.pools i j c (in_pool i c a) (in_pool j c b))
  apart (the_pool i) (the_log j) c a b = absurd (omega (arith, (in_pool i c a).below, (in_log j c b).above))
  apart (the_pool i) (the_cell j) c a b = absurd (omega (arith, (in_pool i c a).below, (in_cell j c b).0))
  apart (the_log i) (the_map j) c a b = absurd (omega (arith, (in_log i c a).above, (in_map j c b).below))
  apart (the_log i) (the_queue j) c a b = absurd (omega (arith, (in_log i c a).above, (in_queue j c b).below))
  apart (the_log i) (the_pool j) c a b = absurd (omega (arith, (in_log i c a).above, (in_pool j c b).below))
  apart (the_log i) (the_log j) c a b = ap the_log (in_one with_end (logs_from s) s.logs i j c (in_log i c a) (in_log j c b))
  apart (the_log i) (the_cell j) c a b = absurd (omega (arith, (in_log i c a).below, (in_cell j c b).0))
  apart (the_cell i) (the_map j) c a b = absurd (omega (arith, (in_cell i c a).0, (in_map j c b).below))
  apart (the_cell i) (the_queue j) c a b = absurd (omega (arith, (in_cell i c a).0, (in_queue j c b).below))
  apart (the_cell i) (the_pool j) c a b = absurd (omega (arith, (in_cell i c a).0, (in_pool j c b).below))
  apart (the_cell i) (the_log j) c a b = absurd (omega (arith, (in_cell i c a).0, (in_log j c b).below))
  apart (the_cell i) (the_cell j) c a b = ap the_cell (omega (arith, (in_cell i c a).0, (in_cell j c b).0))

  there : (o : Object) (c : ℕ) → IsCellOf s o c → c < cells_of s
  there (the_map m) c a = omega (arith, (in_map m c a).below)
  there (the_queue q) c a = omega (arith, (in_queue q c a).below)
  there (the_pool p) c a = omega (arith, (in_pool p c a).below)
  there (the_log l) c a = omega (arith, (in_log l c a).below)
  there (the_cell k) c a = omega (arith, (in_cell k c a).0, (in_cell k c a).1)

  -- ---- each is part of some

  ended : (xs : List ℕ) (i : ℕ) → i < length xs → cond (ltb i (length xs)) (with_end (get_or xs i 0)) 0 ≡ with_end (get_or xs i 0)
  ended xs i there = cond-true {A = ℕ} (ltb i (length xs)) (with_end (get_or xs i 0)) 0 (lt-ltb i (length xs) there)

  cover_plain : (c : ℕ) → plain_from s ≤ c → c < cells_of s → (o : Object) × IsCellOf s o c
  cover_plain c low high = (the_cell (c - plain_from s), (omega arith, omega (arith, cond-true {A = ℕ} (ltb (c - plain_from s) s.cells) 1 0 (lt-ltb (c - plain_from s) s.cells (omega arith)))))

  cover_logs : (c : ℕ) → logs_from s ≤ c → c < cells_of s → (o : Object) × IsCellOf s o c
  cover_logs c low high = elim (cases_lt c (plain_from s)) [
    | inl lt ↦ let at = some_part with_end (logs_from s) s.logs c low lt in
        (the_log at.0, (at.1.low, omega (arith, at.1.high, ended s.logs at.0 at.1.there)))
    | inr ge ↦ cover_plain c ge high
  ]

  cover_pools : (c : ℕ) → pools_from s ≤ c → c < cells_of s → (o : Object) × IsCellOf s o c
  cover_pools c low high = elim (cases_lt c (logs_from s)) [
    | inl lt ↦ let at = some_part (λ x. x) (pools_from s) s.pools c low lt in (the_pool at.0, (at.1.low, at.1.high))
    | inr ge ↦ cover_logs c ge high
  ]

  cover_queues : (c : ℕ) → queues_from s ≤ c → c < cells_of s → (o : Object) × IsCellOf s o c
  cover_queues c low high = elim (cases_lt c (pools_from s)) [
    | inl lt ↦ let at = some_part with_end (queues_from s) s.queues c low lt in
        (the_queue at.0, (at.1.low, omega (arith, at.1.high, ended s.queues at.0 at.1.there)))
    | inr ge ↦ cover_pools c ge high
  ]

  cover : (c : ℕ) → c < cells_of s → (o : Object) × IsCellOf s o c
  cover c high = elim (cases_lt c (queues_from s)) [
    | inl lt ↦ let at = some_part (λ x. x) 0 s.maps c (omega arith) (omega arith) in (the_map at.0, (omega (arith, at.1.low), omega (arith, at.1.high)))
    | inr ge ↦ cover_queues c ge high
  ]

pub parts_are_apart : PartsAreApart
parts_are_apart = record { apart = apart; there = there; cover = cover }
