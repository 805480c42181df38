use Rattle.std.proofs.Common.{◌≡◌, ℕ, ◌<◌, length, ap}
use Rattle.std.proofs.lemmas.List.{get_or_read}
use Rattle.attempt_lists.specs.Cells.{Listed, cell_at}
use Rattle.attempt_lists.proofs.Order.{once_set, pass_set, indexes_set}
use Rattle.attempt_lists.proofs.cell_list.CellList.set_word.Goals as goal

-- the cells stay, so whatever finds them does
pub invariant_of-self : goal.invariant_of-self
invariant_of-self c =
    let in_range : c.args.place < length c.self.inside.entries.items = rw (ap (λ (l : Listed). l.entries) c.self.view_is) c.requires in
    let cell : c.index.result.now.0 ≡ cell_at c.self.inside.entries.items c.args.place = ap (λ (e : ℕ × ℕ). e.0) (get_or_read _ _ _ in_range c.index.ensures (0, 0)) in
    rw cell (
      once_set _ _ c.args.word in_range c.self.invariant.0,
      pass_set _ _ c.args.word in_range _ c.self.invariant.1,
      indexes_set _ _ c.args.word in_range _ c.self.invariant.2,
      c.self.invariant.3,
      c.self.invariant.4,
      c.self.invariant.5,
    )
