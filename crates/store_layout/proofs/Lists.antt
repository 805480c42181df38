-- Lists of pools and sizes, as loops go through them.
use Rattle.std.proofs.Common.{◌≡◌, ℕ, ◌+◌, ◌<◌, ◌≤◌, List, [], ◌∷◌, length, map, ap, refl, ◌∙◌, sym, subst, arith}
use Rattle.std.specs.List.{All, sum, sum_by}
use Rattle.std.proofs.lemmas.List.Sums.{sum_by-cons, sum-map}
use Rattle.serial_terms.specs.declared.store.PoolLayout.{PoolLayout}
use Rattle.serial_terms.specs.Stores.{slots_of}
use Rattle.std.proofs.lemmas.List.Elements.{All-head, All-tail}
use Rattle.store_layout.specs.Facts.{slots_map}
use Rattle.store_layout.specs.Shapes.{with_end}

pub slots-sum : (ps : List PoolLayout) → sum (slots_of ps) ≡ sum_by (λ p. p.slots) ps
slots-sum ps = ap sum (slots_map ps) ∙ sum-map (λ (p : PoolLayout). p.slots) ps

-- each queue and each log has one cell more than values
pub ends-sum : (ns : List ℕ) → sum_by with_end ns ≡ sum ns + length ns
ends-sum [] = refl
ends-sum (n ∷ ns) = omega (arith, sum_by-cons with_end n ns, sum_by-cons (λ (x : ℕ). x) n ns, ends-sum ns)

-- where each element counts, the sum is at least the length
pub length-sum : (f : ℕ → ℕ) (ns : List ℕ) → All (λ n. 0 < f n) ns → length ns ≤ sum_by f ns
length-sum f [] h = omega arith
length-sum f (n ∷ ns) h = omega (arith, sum_by-cons f n ns, All-head (λ (n : ℕ). 0 < f n) n ns h, length-sum f ns (All-tail (λ (n : ℕ). 0 < f n) n ns h))
