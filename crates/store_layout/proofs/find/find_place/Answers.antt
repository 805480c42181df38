use Rattle.std.proofs.Common.{arith, below_more}
use Rattle.std.proofs.lemmas.Bool.{iff_false}
use Rattle.std.proofs.lemmas.List.{get_or-map}
use Rattle.store_layout.specs.declared.place.Place.{Place}
use Rattle.store_layout.proofs.find.find_place.Goals as goal

pub loop-i-preserved : goal.loop-i-preserved
loop-i-preserved c =
    let d : Place = record { first = 0; capacity = 0 } in
    let first = get_or-map (λ (p : Place). p.first) c.args.places.now c.loop-i.i d 0 c.loop-i-test.true in
    let capacity = get_or-map (λ (p : Place). p.capacity) c.args.places.now c.loop-i.i d 0 c.loop-i-test.true in
    below_more _ _ c.loop-i.invariant (λ at. iff_false c.has_cell.ensures c.if-has_cell.false (omega (arith, at), omega (arith, at)))
