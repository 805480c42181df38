-- Rooms at the places of a plan are those of its shape.
use Rattle.std.proofs.Common.{◌≡◌, ◌^◌, ◌<◌, ◌≤◌, List, length, sym, subst}
use Rattle.store_layout.specs.declared.place.Place.{Place}
use Rattle.store_layout.specs.Plans.{StandFrom, shape_by, IsPlan}
use Rattle.store_layout.specs.Shapes.{Shape, with_end, queues_from, pools_from, logs_from, plain_from, cells_of, most_cells}

module _ (s : Shape) (maps queues pools logs : List Place) (plain : Place) where
  same_shape : StandFrom (λ c. c) 0 s.maps maps → StandFrom with_end (queues_from s) s.queues queues → StandFrom (λ c. c) (pools_from s) s.pools pools
      → StandFrom with_end (logs_from s) s.logs logs → plain.capacity ≡ s.cells → shape_by maps queues pools logs plain ≡ s
  same_shape m q p l c = λ i. record { maps = m.sized i; queues = q.sized i; pools = p.sized i; logs = l.sized i; cells = c i }

  pub of_plan : StandFrom (λ c. c) 0 s.maps maps → StandFrom with_end (queues_from s) s.queues queues → StandFrom (λ c. c) (pools_from s) s.pools pools
      → StandFrom with_end (logs_from s) s.logs logs → plain.first ≡ plain_from s → plain.capacity ≡ s.cells → cells_of s ≤ most_cells
      → (length maps < 2 ^ 32) × (length queues < 2 ^ 32) × (length pools < 2 ^ 32) × (length logs < 2 ^ 32)
      → IsPlan maps queues pools logs plain × (shape_by maps queues pools logs plain ≡ s)
  of_plan m q p l first c small few =
      let same = same_shape m q p l c in let back = sym same in (
        record {
          maps_stand = subst (λ (z : Shape). StandFrom (λ c. c) 0 z.maps maps) back m;
          queues_stand = subst (λ (z : Shape). StandFrom with_end (queues_from z) z.queues queues) back q;
          pools_stand = subst (λ (z : Shape). StandFrom (λ c. c) (pools_from z) z.pools pools) back p;
          logs_stand = subst (λ (z : Shape). StandFrom with_end (logs_from z) z.logs logs) back l;
          plain_stands = subst (λ (z : Shape). plain.first ≡ plain_from z) back first;
          few = few;
          within = subst (λ (z : Shape). cells_of z ≤ most_cells) back small;
        },
        same,
      )
