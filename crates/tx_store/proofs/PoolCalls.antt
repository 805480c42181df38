-- Pools of a store, whose parts are told by a plan.
use Rattle.std.proofs.Common.{◌≡◌, ℕ, ◌*◌, ◌<◌, ◌≤◌, length, get_or, ap, subst, arith}
use Rattle.std.specs.List.{All}
use Rattle.std.proofs.lemmas.List.Elements.{All-get_or}
use Rattle.store_layout.specs.Shapes.{Shape, the_pool, IsCellOf}
use Rattle.store_parts.specs.Parts.{pool_part}
use Rattle.tx_pool.specs.declared.part.PoolPart.{PoolPart}
use Rattle.tx_pool.specs.Pool.{IsSlot}

module _ (s : Shape) (p : ℕ) (part : PoolPart) (is : part ≡ pool_part s p) where
  slots_are : part.slots ≡ get_or s.pools p 0
  slots_are = ap (λ (q : PoolPart). q.slots) is

  pub inside : (c : ℕ) → IsSlot part c → IsCellOf s (the_pool p) c
  inside c own = subst (λ (q : PoolPart). IsSlot q c) is own

  pub few : 6 * part.slots ≤ 6 * get_or s.pools p 0
  few = omega (arith, slots_are)

  pub some : p < length s.pools → All (λ n. 0 < n) s.pools → 0 < part.slots
  some there all = omega (arith, slots_are, All-get_or (λ n. 0 < n) s.pools p 0 there all)
