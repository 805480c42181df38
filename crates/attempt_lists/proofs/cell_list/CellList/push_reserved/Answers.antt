use Rattle.std.proofs.Common.{◌≡◌, ◌+◌, ◌-◌, ap, arith, None}
use Rattle.attempt_lists.specs.Cells.{Listed, word_at}
use Rattle.attempt_lists.proofs.Kept.{once_pushed, pass_pushed}
use Rattle.attempt_lists.proofs.cell_list.CellList.push_reserved.Goals as goal

-- the filter and the index have the new cell, and one place is used
pub invariant_of-self : goal.invariant_of-self
invariant_of-self c =
    let shown = ap (λ (l : Listed). l.entries) c.self.view_is in
    let promised = ap (λ (l : Listed). l.reserved) c.self.view_is in
    let absent : word_at c.self.inside.entries.items c.args.cell ≡ None = rw shown c.requires.absent in
    let back : c.self.inside.room - 1 + 1 ≡ c.self.inside.room = omega (arith, c.requires.room, promised, c.self.invariant.5) in
    let room = c.push.ensures.room (c.self.inside.room - 1) (rw (back, c.deref.ensures.len) c.self.invariant.4) in (
      rw c.push_reserved.ensures.items (once_pushed _ _ c.args.word c.self.invariant.0 absent),
      rw c.push_reserved.ensures.items (pass_pushed _ _ c.args.word _ _ c.self.invariant.1 c.with_cell-self-inside.ensures.added c.with_cell-self-inside.ensures.kept),
      rw (c.push_reserved.ensures.items, ← c.deref.ensures.value) (c.push.ensures.indexes c.args.word),
      omega (arith, c.push_reserved.ensures.len, c.push_reserved.ensures.capacity, c.self.invariant.3, c.self.invariant.5, c.requires.room, promised),
      rw (c.push_reserved.ensures.len, ← c.deref.ensures.len) room,
      omega (arith, c.self.invariant.5, c.requires.room, promised),
    )
