-- Spots and the cells that they have.
use Rattle.std.proofs.Common.{◌≡◌, ℕ, zero, suc, ◌-◌, ◌^◌, ◌<◌, ◌≤◌, ap, sym, ◌∙◌, refl, arith}
use Rattle.std.proofs.lemmas.Bool.Decides.{nat_tests}
use Rattle.store_layout.specs.declared.spot.Spot.{Spot}
use Rattle.store_layout.specs.declared.spot.Spot.TheVariants.{MapKey, QueueEnd, QueueItem, PoolSlot, LogEnd, LogEntry, Plain}
use Rattle.store_layout.specs.Shapes.{Shape, Object, the_map, the_queue, the_pool, the_log, the_cell, cells_of, first_of, size_of, IsCellOf, most_cells}
use Rattle.store_layout.specs.Spots.{object_of, place_of, IsSpotOf, cell_of}
use Rattle.store_layout.specs.Laws.{CellsHaveSpots}
use Rattle.store_layout.proofs.Parts.{parts_are_apart}

-- the spot at a place of a structure
spot_in : Object → ℕ → Spot
spot_in (the_map m) k = MapKey m k
spot_in (the_queue q) zero = QueueEnd q
spot_in (the_queue q) (suc i) = QueueItem q i
spot_in (the_pool p) i = PoolSlot p i
spot_in (the_log l) zero = LogEnd l
spot_in (the_log l) (suc i) = LogEntry l i
spot_in (the_cell c) k = Plain c

spot_again : (spot : Spot) → spot_in (object_of spot) (place_of spot) ≡ spot
unfolding spot_in
spot_again (MapKey m k) = refl
spot_again (QueueEnd q) = refl
spot_again (QueueItem q i) = refl
spot_again (PoolSlot p i) = refl
spot_again (LogEnd l) = refl
spot_again (LogEntry l i) = refl
spot_again (Plain c) = refl

module _ (s : Shape) where
  spot_of_place : (o : Object) (k : ℕ) → k < size_of s o → (object_of (spot_in o k) ≡ o) × (place_of (spot_in o k) ≡ k)
  unfolding spot_in
  spot_of_place (the_map m) k h = (refl, refl)
  spot_of_place (the_queue q) zero h = (refl, refl)
  spot_of_place (the_queue q) (suc i) h = (refl, refl)
  spot_of_place (the_pool p) i h = (refl, refl)
  spot_of_place (the_log l) zero h = (refl, refl)
  spot_of_place (the_log l) (suc i) h = (refl, refl)
  spot_of_place (the_cell c) k h = (refl, grind (arith, nat_tests))

  pub is_cell : (spot : Spot) → IsSpotOf s spot → IsCellOf s (object_of spot) (cell_of s spot)
  is_cell spot h = (omega arith, omega arith)

  some : (c : ℕ) → c < cells_of s → (spot : Spot) × IsSpotOf s spot × (cell_of s spot ≡ c)
  some c h =
      let at = parts_are_apart.cover s c h in
      let k : ℕ = c - first_of s at.0 in
      let is = spot_of_place at.0 k (omega (arith, at.1)) in
      (spot_in at.0 k, rw (is.0, is.1) (omega (arith, at.1)), rw (is.0, is.1) (omega (arith, at.1)))

  one : (a b : Spot) → IsSpotOf s a → IsSpotOf s b → cell_of s a ≡ cell_of s b → a ≡ b
  one a b h g e =
      let o : object_of a ≡ object_of b = parts_are_apart.apart s (object_of a) (object_of b) (cell_of s a) (is_cell a h) (rw e (is_cell b g)) in
      let p : place_of a ≡ place_of b = omega (arith, ap (first_of s) o, e) in
      sym (spot_again a) ∙ (ap (λ (x : Object). spot_in x (place_of a)) o ∙ (ap (spot_in (object_of b)) p ∙ spot_again b))

  there : (spot : Spot) → IsSpotOf s spot → cell_of s spot < cells_of s
  there spot h = parts_are_apart.there s (object_of spot) (cell_of s spot) (is_cell spot h)

pub cells_have_spots : CellsHaveSpots
cells_have_spots = record { some = some; one = one; there = there }

-- a spot's cell is among the first ones, where there are few
pub spot_below : (s : Shape) (spot : Spot) → IsSpotOf s spot → cells_of s ≤ most_cells → cell_of s spot < 2 ^ 24
spot_below s spot h few = omega (arith, there s spot h)
