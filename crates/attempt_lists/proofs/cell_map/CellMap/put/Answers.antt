use Rattle.std.proofs.Common.{◌≡◌, true, is_some, ap, subst, ◌∙◌, arith}
use Rattle.attempt_lists.specs.Cells.{Mapped, word_at, put, in_order, IsAscending}
use Rattle.attempt_lists.proofs.Order.{ascending-in_order, words_put, length_put, found_with_word}
use Rattle.attempt_lists.proofs.cell_map.CellMap.put.Goals as goal

-- only a cell without a word wants room
pub returns-in_err-make_room-clause-overwrite_succeeds :
    goal.returns-in_err-make_room-clause-overwrite_succeeds
returns-in_err-make_room-clause-overwrite_succeeds c = λ some.
    let found = found_with_word _ c.args.cell c.place-place.result c.once_law.ensures c.place-place.ensures in
    let there : is_some c.place-place.result ≡ true = found ∙ ap (λ (m : Mapped). is_some (word_at m.entries c.args.cell)) c.self.view_is ∙ some in
    let succeeds = c.in_err-make_room.ensures.succeeds there in
    cc

-- the list that there is room for is the one that there was
pub invariant_of-self-2 : goal.invariant_of-self-2
invariant_of-self-2 c = c.put_at-self-inside.ensures.sorted (λ sorted. rw c.in_ok-make_room.ensures.entries (c.self.invariant sorted))

pub returns-clause-words : goal.returns-clause-words
returns-clause-words c = λ q. words_put c.args.self.now.entries _ c.args.cell c.args.word (c.put_at-self-inside.ensures.entries ∙ ap (λ l. put (in_order l) c.args.cell c.args.word) c.in_ok-make_room.ensures.entries ∙ ap (λ (m : Mapped). put m.entries c.args.cell c.args.word) c.self.view_is) q

pub returns-clause-len : goal.returns-clause-len
returns-clause-len c =
    let ascending : IsAscending c.args.self.now.entries = subst IsAscending (ap (λ (m : Mapped). m.entries) c.self.view_is) (ascending-in_order c.self.inside.list.entries) in
    let longer = length_put c.args.self.now.entries _ c.args.cell c.args.word (c.put_at-self-inside.ensures.entries ∙ ap (λ l. put (in_order l) c.args.cell c.args.word) c.in_ok-make_room.ensures.entries ∙ ap (λ (m : Mapped). put m.entries c.args.cell c.args.word) c.self.view_is) ascending in
    grind (arith, longer)
