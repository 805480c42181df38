use Rattle.std.proofs.Common.{◌≡◌, ◌+◌, ◌<◌, ◌≤◌, ◌∙◌, length, Some, slice_index_or, refl, sym, ap, arith}
use Rattle.inspect_workers.proofs.Joining.{at_seat, first_joined, one_joined, none_joined, whole_again, draws_again, fills_again}
use Rattle.inspect_workers.proofs.seats.join_all.Goals as goal
use Rattle.inspect_workers.proofs.seats.join_all.Goals.{in-Some-take, in_default-take}

pub loop-place-init : goal.loop-place-init
loop-place-init g c =
    let xs = c.args.seats.now.items in
    let seat = c.index_mut.result.now in
    let is : (slice_index_or xs 0 seat).pass ≡ Some c.in-Some.pass = ap (λ s. s.pass) (sym c.index_mut.ensures.value) ∙ sym c.in-Some.ensures.value in
    let some = c.requires.count.1 in let count = c.requires.count.0 in
    at_seat c.args.store.now xs xs 1 0 c.in-Some.pass c.in-Some.pass seat.gate c.take.new.self c.take.ensures.after refl
    (first_joined c.args.store.now xs c.in-Some.pass seat.gate seat (omega (arith, some, count)) count c.requires.each c.requires.room c.requires.callers is)

pub returns-clause-pass : goal.returns-clause-pass
returns-clause-pass g c =
    let all = c.loop-place.invariant.count in
    let n = c.len-place-end.ensures in
    let t = c.loop-place-test.false in
    let old = c.requires.count.0 in
    let end : length c.loop-place.seats.items ≤ c.loop-place.place = omega arith in
    whole_again c.args.store.now c.args.seats.now.items c.loop-place.place c.loop-place.pass c.loop-place.seats.items c.loop-place.invariant end

pub returns-clause-draws : goal.returns-clause-draws
returns-clause-draws g c =
    let all = c.loop-place.invariant.count in
    let n = c.len-place-end.ensures in
    let t = c.loop-place-test.false in
    let old = c.requires.count.0 in
    let end : length c.loop-place.seats.items ≤ c.loop-place.place = omega arith in
    draws_again c.args.store.now c.args.seats.now.items c.loop-place.place c.loop-place.pass c.loop-place.seats.items c.loop-place.invariant end

pub returns-clause-fills : goal.returns-clause-fills
returns-clause-fills g c =
    let all = c.loop-place.invariant.count in
    let n = c.len-place-end.ensures in
    let t = c.loop-place-test.false in
    let old = c.requires.count.0 in
    let end : length c.loop-place.seats.items ≤ c.loop-place.place = omega arith in
    fills_again c.args.store.now c.args.seats.now.items c.loop-place.place c.loop-place.pass c.loop-place.seats.items c.loop-place.invariant end

pub loop-place-preserved : goal.loop-place-preserved
loop-place-preserved g c =
    let store = c.args.store.now in
    let old = c.args.seats.now.items in
    let xs = c.loop-place.seats.items in
    let n = c.loop-place.place in
    let so_far = c.loop-place.invariant in
    let seat = c.index_mut-in-loop-place.result.now in
    let found : (slice_index_or xs n seat).pass ≡ c.take-in-loop-place.result
    = ap (λ s. s.pass) (sym c.index_mut-in-loop-place.ensures.value) ∙ sym c.take-in-loop-place.ensures.value in
    let all = so_far.count in
    let end = c.len-place-end.ensures in
    let t = c.loop-place-test.true in
    let first = c.requires.count.0 in
    let here : n < length xs = omega arith in
    let after = c.take-in-loop-place.ensures.after in
    elim c.match-take-2.branch [
      | in-Some-take w ↦ at_seat store old xs (n + 1) n w.join.new.self c.match-take-2.pass seat.gate c.take-in-loop-place.new.self after w.pass-is
          (one_joined store old n c.loop-place.pass xs so_far seat.gate seat here w.in-Some-take.other w.join.new.self
          (found ∙ w.in-Some-take.is) w.join.ensures.of w.join.ensures.joined)
      | in_default-take w ↦ at_seat store old xs (n + 1) n c.loop-place.pass c.match-take-2.pass seat.gate c.take-in-loop-place.new.self after w.pass-is
          (none_joined store old n c.loop-place.pass xs so_far seat.gate seat here (found ∙ w.in_default-take.is))
    ]
