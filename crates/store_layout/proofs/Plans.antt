-- The places of a plan, and the cells that none of them has.
use Rattle.std.proofs.Common.{◌≡◌, ℕ, ◌+◌, ◌^◌, ◌<◌, ◌≤◌, List, length, get_or, arith, subst, sym, ap, refl, add-zero}
use Rattle.std.specs.List.{sum, sum_by}
use Rattle.std.proofs.lemmas.List.{length-map}
use mathlib.Core.Path.{fun_ext}
use Rattle.serial_terms.specs.declared.store.Layout.{Layout}
use Rattle.serial_terms.specs.Stores.{slots_of}
use Rattle.store_layout.specs.declared.place.Place.{Place}
use Rattle.store_layout.specs.Shapes.{Object, the_map, the_queue, the_pool, the_log, the_cell, with_end, shape_of, queues_from, pools_from, logs_from, plain_from, cells_of, IsCellOf, IsLayout, most_cells}
use Rattle.store_layout.specs.Plans.{capacities_in, StandFrom, shape_by, IsPlan, IsAtNone}
use Rattle.store_layout.proofs.Lists.{ends-sum, length-sum}
use Rattle.store_layout.specs.Facts.{slots_count}
use Rattle.store_layout.proofs.Sums.{IsIn}
use Rattle.store_layout.proofs.Parts.{in_map, in_queue, in_pool, in_log, in_cell, parts_are_apart}

-- structures with no end
pub stand_whole : (from : ℕ) (sizes : List ℕ) (places : List Place) → StandFrom (λ c. c + 0) from sizes places → StandFrom (λ c. c) from sizes places
stand_whole from sizes places = subst (λ (f : ℕ → ℕ). StandFrom f from sizes places) (fun_ext (λ c. add-zero c))

-- a cell that none of the places has is in none of the parts
in_no_part : (f : ℕ → ℕ) (from more : ℕ) (places : List Place) (i cell : ℕ) → f (get_or (capacities_in places) i 0) ≡ get_or (capacities_in places) i 0 + more → StandFrom f from (capacities_in places) places → IsAtNone places more cell → IsIn f from (capacities_in places) i cell → ⊥
in_no_part f from more places i cell e stand none at = none i (omega (arith, at.there, length-map places (λ (p : Place). p.capacity)))
    (omega (arith, stand.firsts i at.there, at.low), omega (arith, stand.firsts i at.there, at.high))

module _ (maps queues pools logs : List Place) (plain : Place) (is : IsPlan maps queues pools logs plain) where
  -- a cell that no other structure has is a plain one
  pub is_plain : (cell : ℕ) → cell < cells_of (shape_by maps queues pools logs plain) → IsAtNone maps 0 cell → IsAtNone queues 1 cell → IsAtNone pools 0 cell → IsAtNone logs 1 cell → plain.first ≤ cell
  is_plain cell h no_map no_queue no_pool no_log =
      let at = parts_are_apart.cover (shape_by maps queues pools logs plain) cell h in
      of at.0 at.1
    where
      of : (o : Object) → IsCellOf (shape_by maps queues pools logs plain) o cell → plain.first ≤ cell
      of (the_map m) a = absurd (in_no_part (λ c. c) 0 0 maps m cell (omega arith) is.maps_stand no_map (in_map (shape_by maps queues pools logs plain) m cell a))
      of (the_queue q) a = absurd (in_no_part with_end _ 1 queues q cell (omega arith) is.queues_stand no_queue (in_queue (shape_by maps queues pools logs plain) q cell a))
      of (the_pool p) a = absurd (in_no_part (λ c. c) _ 0 pools p cell (omega arith) is.pools_stand no_pool (in_pool (shape_by maps queues pools logs plain) p cell a))
      of (the_log l) a = absurd (in_no_part with_end _ 1 logs l cell (omega arith) is.logs_stand no_log (in_log (shape_by maps queues pools logs plain) l cell a))
      of (the_cell k) a = omega (arith, is.plain_stands, (in_cell (shape_by maps queues pools logs plain) k cell a).0)

-- ---- the plan of a layout

-- as many values as are laid out fit where they stand, whatever is told as their number of cells more
pub no_more : (from m : ℕ) (sizes : List ℕ) → m ≡ 0 → from + sum sizes < 2 ^ 32 → from + sum_by (λ c. c + m) sizes < 2 ^ 32
no_more from m sizes e h = subst (λ (f : ℕ → ℕ). from + sum_by f sizes < 2 ^ 32) (fun_ext (λ c. omega (arith, e))) h

-- the same places, with their numbers told otherwise
pub moved : (f : ℕ → ℕ) (from at : ℕ) (sizes told : List ℕ) (places : List Place) → from ≡ at → sizes ≡ told → StandFrom f from sizes places → StandFrom f at told places
moved f from at sizes told places e d stand = subst (λ (k : ℕ). StandFrom f k told places) e (subst (λ (ns : List ℕ). StandFrom f from ns places) d stand)

pub planned : (layout : Layout) (maps queues pools logs : List Place) (first : ℕ) → IsLayout layout → cells_of (shape_of layout) ≤ most_cells
    → StandFrom (λ c. c + 0) 0 layout.maps maps → StandFrom with_end (queues_from (shape_of layout)) layout.queues queues
    → StandFrom (λ c. c + 0) (pools_from (shape_of layout)) (slots_of layout.pools) pools → StandFrom with_end (logs_from (shape_of layout)) layout.logs logs
    → first ≡ plain_from (shape_of layout) → IsPlan maps queues pools logs (record { first = first; capacity = layout.cells })
planned layout maps queues pools logs first is small m q p l e =
    let maps_sum = ap sum (m.sized) in
    let queues_sum = ap (sum_by with_end) (q.sized) in
    let pools_sum = ap sum (p.sized) in
    let logs_sum = ap (sum_by with_end) (l.sized) in
    let maps_many = length-sum (λ c. c) layout.maps is.maps in
    let pools_many = length-sum (λ c. c) (slots_of layout.pools) (slots_count layout.pools is.pools) in
    record {
      maps_stand = moved (λ c. c) 0 0 layout.maps (capacities_in maps) maps refl (sym m.sized) (stand_whole 0 layout.maps maps m);
      queues_stand = moved with_end _ _ layout.queues (capacities_in queues) queues (omega arith) (sym q.sized) q;
      pools_stand = moved (λ c. c) _ _ (slots_of layout.pools) (capacities_in pools) pools (omega arith) (sym p.sized) (stand_whole _ (slots_of layout.pools) pools p);
      logs_stand = moved with_end _ _ layout.logs (capacities_in logs) logs (omega arith) (sym l.sized) l;
      plain_stands = omega arith;
      few = (
        omega (arith, ap length m.sized, length-map maps (λ (x : Place). x.capacity)),
        omega (arith, ap length q.sized, length-map queues (λ (x : Place). x.capacity), ends-sum layout.queues),
        omega (arith, ap length p.sized, length-map pools (λ (x : Place). x.capacity)),
        omega (arith, ap length l.sized, length-map logs (λ (x : Place). x.capacity), ends-sum layout.logs),
      );
      within = omega arith;
    }
