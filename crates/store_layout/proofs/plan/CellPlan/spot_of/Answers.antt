use Rattle.std.proofs.Common.{arith, ap, ℕ, ◌-◌, ◌<◌, ◌≤◌, ltb}
use Rattle.std.proofs.lemmas.Bool.{cond-true, lt-ltb}
use Rattle.store_layout.specs.Shapes.{Shape, plain_from}
use Rattle.store_layout.proofs.Plans.{is_plain}
use Rattle.store_layout.proofs.plan.CellPlan.spot_of.Goals as goal

-- a cell that no map, queue, pool or log has is a plain one
left : (c : goal.In_default-find_place-3) → c.self.inside.plain.first ≤ c.args.cell
left c =
    let no_map = rw (c.in_default.is, c.deref.ensures.value) at c.find_place.ensures in
    let no_queue = rw (c.in_default-find_place.is, c.deref-2.ensures.value) at c.find_place-2.ensures in
    let no_pool = rw (c.in_default-find_place-2.is, c.deref-3.ensures.value) at c.find_place-3.ensures in
    let no_log = rw (c.in_default-find_place-3.is, c.deref-4.ensures.value) at c.find_place-4.ensures in
    let there = rw (← c.self.view_is) at c.requires in
    is_plain c.self.inside.maps.items c.self.inside.queues.items c.self.inside.pools.items c.self.inside.logs.items c.self.inside.plain c.self.invariant c.args.cell there no_map no_queue no_pool no_log

pub overflow_sub-result : goal.overflow_sub-result
overflow_sub-result c = left c

pub returns-clause-there : goal.returns-clause-there
returns-clause-there c =
    let low = left c in
    let there = rw (← c.self.view_is) at c.requires in
    let below : c.args.cell - c.self.inside.plain.first < c.args.self.now.cells = omega (arith, ap (λ (s : Shape). s.cells) c.self.view_is, c.self.invariant.plain_stands) in
    omega (arith, cond-true {A = ℕ} (ltb (c.args.cell - c.self.inside.plain.first) c.args.self.now.cells) 1 0 (lt-ltb _ _ below))

pub returns-clause-cell : goal.returns-clause-cell
returns-clause-cell c =
    let low = left c in
    let from = ap (λ (s : Shape). plain_from s) c.self.view_is in
    omega (arith, c.self.invariant.plain_stands)
