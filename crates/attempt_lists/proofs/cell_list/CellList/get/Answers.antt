use Rattle.std.proofs.Common.{◌≡◌, ℕ, ap, get_or, sym, ◌∙◌, Some}
use Rattle.std.proofs.lemmas.List.{get_or_read}
use Rattle.attempt_lists.specs.Cells.{Listed}
use Rattle.attempt_lists.proofs.cell_list.CellList.get.Goals as goal

-- the entry at the cell's place is the one that was read
pub returns-in-Some : goal.returns-in-Some
returns-in-Some c =
    let shown = ap (λ (l : Listed). l.entries) c.self.view_is in
    let read : c.index.result.now ≡ get_or c.args.self.now.entries c.in-Some.place (0, 0) = get_or_read _ _ _ c.in-Some.ensures.0 (rw (← shown) c.index.ensures) (0, 0) in
    ap (λ (e : ℕ × ℕ). Some e.1) read ∙ sym c.in-Some.ensures.2
