use Rattle.std.proofs.Common.{◌+◌, ◌*◌, ◌^◌, ◌≤◌, ◌∙◌, slice_index_or, subst, arith}
use Rattle.inspect_workers.specs.Seats.{HasRoom, over_seats, draws_left}
use Rattle.inspect_workers.proofs.Sharing.{whole_callers, still_room, still_callers, still_fills, draws_spent}
use Rattle.inspect_workers.proofs.seats.batch.Goals as goal

pub join_all-requires-clause-room : goal.join_all-requires-clause-room
join_all-requires-clause-room g c =
    let store = c.args.store.now in
    let n = store.table.callers in
    let count = c.share_out.ensures.count.0 in let some = c.share_out.ensures.count.1 in
    let xs = c.share_out.new.seats.items in
    still_room store xs c.work_seats.new.seats.items c.work_seats.ensures.count c.work_seats.ensures.ran n (omega (arith, count, some))
    (λ d. subst (λ k. HasRoom k (slice_index_or xs 0 d).pass) (whole_callers store c.args.pass c.requires.pass) (c.share_out.ensures.shared.room d))

pub join_all-requires-clause-callers : goal.join_all-requires-clause-callers
join_all-requires-clause-callers g c =
    let store = c.args.store.now in
    still_callers store c.share_out.new.seats.items c.work_seats.new.seats.items c.work_seats.ensures.count c.work_seats.ensures.ran
    ∙ (c.share_out.ensures.shared.callers ∙ whole_callers store c.args.pass c.requires.pass)

pub returns-clause-draws : goal.returns-clause-draws
returns-clause-draws g c =
    let xs = c.share_out.new.seats.items in
    let ys = c.work_seats.new.seats.items in
    let spent : over_seats draws_left xs ≤ over_seats draws_left ys + c.args.store.now.table.callers * 2 ^ 31
    = subst (λ n. over_seats draws_left xs ≤ over_seats draws_left ys + n * 2 ^ 31) c.share_out.ensures.count.0
    (draws_spent c.args.store.now xs ys c.work_seats.ensures.count c.work_seats.ensures.ran) in
    let first = c.share_out.ensures.shared.draws in
    let last = c.join_all.ensures.draws in omega (arith, spent, first, last)

pub returns-clause-fills : goal.returns-clause-fills
returns-clause-fills g c =
    c.join_all.ensures.fills
    ∙ (still_fills c.args.store.now c.share_out.new.seats.items c.work_seats.new.seats.items c.work_seats.ensures.count c.work_seats.ensures.ran
    ∙ c.share_out.ensures.shared.fills)
