use Rattle.std.proofs.Common.{arith, ap, ◌∙◌, ◌+◌, ◌++◌, vec_len}
use Rattle.std.specs.List.{sum, sum_by, flat_map}
use Rattle.store_layout.specs.Shapes.{with_end}
use Rattle.store_layout.specs.Opening.{opening_slots}
use Rattle.store_layout.proofs.Opened.{opened}
use Rattle.store_layout.proofs.opening.opening_words.Goals as goal

pub returns : goal.returns
returns c =
    let maps = ap sum c.as_slice.ensures in
    let queues = ap (sum_by with_end) c.as_slice-2.ensures in
    opened c.args.layout.now c.requires.layout (c.sum_of.result + c.sum_with_ends.result) c.cells_of-cells.result (vec_len c.in_ok-words.words) (vec_len c.push_pools.new.words) c.in_ok-words.words.items c.resize.new.self.items c.push_pools.new.words.items c.resize-2.new.self.items
    c.in_ok-words.ensures.items (omega (arith, c.in_ok-words.ensures.len)) c.in_ok-resize.ensures.items
    (c.in_ok-push_pools.ensures ∙ ap (λ ps. c.resize.new.self.items ++ flat_map opening_slots ps) c.as_slice-3.ensures)
    (omega (arith, c.push_pools.new.words.ok.0)) c.in_ok-resize-2.ensures.items
    (omega arith) (omega arith)
