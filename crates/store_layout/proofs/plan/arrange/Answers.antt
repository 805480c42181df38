use Rattle.std.proofs.Common.{arith, ap, refl, ◌∙◌, ◌+◌}
use Rattle.std.specs.List.{sum, sum_by}
use Rattle.serial_terms.specs.Stores.{slots_of}
use Rattle.store_layout.specs.Shapes.{shape_of, with_end, queues_from, pools_from, logs_from}
use Rattle.store_layout.specs.Plans.{StandFrom}
use Rattle.store_layout.proofs.Plans.{no_more, moved, planned}
use Rattle.store_layout.proofs.plan.arrange.Goals as goal

pub places-requires-clause-fits : goal.places-requires-clause-fits
places-requires-clause-fits c = no_more 0 _ c.as_slice-maps.result.now refl (omega (arith, ap sum c.as_slice-maps.ensures))

pub places-requires-3-clause-fits : goal.places-requires-3-clause-fits
places-requires-3-clause-fits c =
    let maps = ap sum c.as_slice-maps.ensures in
    let queues = ap (sum_by with_end) c.as_slice-queues.ensures in
    let slots = ap sum (c.deref-2.ensures.value ∙ (c.in_ok-slots.ensures ∙ ap slots_of c.as_slice.ensures)) in
    no_more (c.sum_of-queues_from.result + c.sum_with_ends.result) _ c.deref-2.result.now refl (omega arith)

pub invariant_of-result : goal.invariant_of-result
invariant_of-result c =
    let slots_are = c.in_ok-slots.ensures ∙ ap slots_of c.as_slice.ensures in
    let maps = ap sum c.as_slice-maps.ensures in
    let queues = ap (sum_by with_end) c.as_slice-queues.ensures in
    let slots = ap sum (c.deref.ensures.value ∙ slots_are) in
    let logs = ap (sum_by with_end) c.as_slice-logs.ensures in
    let m : StandFrom (λ n. n + 0) 0 c.as_slice-maps.result.now c.in_ok-places.field-0.items = c.in_ok-places.ensures in
    let q : StandFrom with_end c.sum_of-queues_from.result c.as_slice-queues.result.now c.in_ok-places-2.field-0.items = c.in_ok-places-2.ensures in
    let p : StandFrom (λ n. n + 0) (c.sum_of-queues_from.result + c.sum_with_ends.result) c.deref-2.result.now c.in_ok-places-3.field-0.items = c.in_ok-places-3.ensures in
    let l : StandFrom with_end (c.sum_of-queues_from.result + c.sum_with_ends.result + c.sum_of.result) c.as_slice-logs.result.now c.in_ok-places-4.field-0.items = c.in_ok-places-4.ensures in
    let s = shape_of c.args.layout.now in
    planned c.args.layout.now c.in_ok-places.field-0.items c.in_ok-places-2.field-0.items c.in_ok-places-3.field-0.items c.in_ok-places-4.field-0.items
    (c.sum_of-queues_from.result + c.sum_with_ends.result + c.sum_of.result + c.sum_with_ends-2.result) c.requires.layout c.requires.small
    (moved (λ n. n + 0) 0 0 c.as_slice-maps.result.now c.args.layout.now.maps c.in_ok-places.field-0.items refl c.as_slice-maps.ensures m)
    (moved with_end _ (queues_from s) c.as_slice-queues.result.now c.args.layout.now.queues c.in_ok-places-2.field-0.items (omega arith) c.as_slice-queues.ensures q)
    (moved (λ n. n + 0) _ (pools_from s) c.deref-2.result.now (slots_of c.args.layout.now.pools) c.in_ok-places-3.field-0.items (omega arith) (c.deref-2.ensures.value ∙ slots_are) p)
    (moved with_end _ (logs_from s) c.as_slice-logs.result.now c.args.layout.now.logs c.in_ok-places-4.field-0.items (omega arith) c.as_slice-logs.ensures l)
    (omega arith)
