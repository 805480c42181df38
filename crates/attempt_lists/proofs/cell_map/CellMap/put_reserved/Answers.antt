use Rattle.std.proofs.Common.{◌≡◌, ℕ, Option, is_some, false, ap, sym, subst, ◌∙◌}
use Rattle.attempt_lists.specs.Cells.{Mapped, word_at, put, IsAscending}
use Rattle.attempt_lists.proofs.Order.{ascending-in_order, words_put, length_put, found_with_word}
use Rattle.attempt_lists.proofs.cell_map.CellMap.put_reserved.Goals as goal

-- a look finds no place where the cell has no word
pub put_at-self-inside-requires-clause-room : goal.put_at-self-inside-requires-clause-room
put_at-self-inside-requires-clause-room c = λ none.
    let found = found_with_word _ c.args.cell c.place-place.result c.once_law.ensures c.place-place.ensures in
    let absent : is_some (word_at c.args.self.now.entries c.args.cell) ≡ false = ap (λ (m : Mapped). is_some (word_at m.entries c.args.cell)) (sym c.self.view_is) ∙ sym found ∙ ap (λ (o : Option ℕ). is_some o) none in
    rw (ap (λ (m : Mapped). m.reserved) c.self.view_is) (c.requires.room absent)

pub returns-clause-words : goal.returns-clause-words
returns-clause-words c = λ q. words_put c.args.self.now.entries _ c.args.cell c.args.word (c.put_at-self-inside.ensures.entries ∙ ap (λ (m : Mapped). put m.entries c.args.cell c.args.word) c.self.view_is) q

pub returns-clause-len : goal.returns-clause-len
returns-clause-len c = length_put c.args.self.now.entries _ c.args.cell c.args.word (c.put_at-self-inside.ensures.entries ∙ ap (λ (m : Mapped). put m.entries c.args.cell c.args.word) c.self.view_is) (subst IsAscending (ap (λ (m : Mapped). m.entries) c.self.view_is) (ascending-in_order c.self.inside.list.entries))

pub returns-clause-reserved : goal.returns-clause-reserved
returns-clause-reserved c =
    let found = found_with_word _ c.args.cell c.place-place.result c.once_law.ensures c.place-place.ensures in
    let shown = ap (λ (m : Mapped). is_some (word_at m.entries c.args.cell)) (sym c.self.view_is) in
    rw (shown, ← found, ap (λ (m : Mapped). m.reserved) (sym c.self.view_is)) c.put_at-self-inside.ensures.reserved
