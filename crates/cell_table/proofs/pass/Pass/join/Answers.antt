use Rattle.std.proofs.Common.{arith, ap, ◌∙◌, length}
use Rattle.cell_table.specs.Pass.{PassState, book_key}
use Rattle.cell_table.specs.Seats.{noted_books}
use Rattle.cell_table.proofs.Ledgers.{noted_length, noted_merge, merge_length}
use Rattle.cell_table.proofs.SplitJoin.{whole_pass, whole_tied, joined_of, joined_trail, idle_was, same_meaning, grows_left, grows_right}
use Rattle.cell_table.proofs.Passes.{grows_by}
use Rattle.cell_table.proofs.pass.Pass.join.Goals as goal

pub rejoin-requires-clause-table : goal.rejoin-requires-clause-table
rejoin-requires-clause-table g c = (ap (λ (z : PassState g.row.M.Denot g.row.M-Done.Denot). z.table) c.self.view_is ∙ c.requires.of.0.0, ap (λ (z : PassState g.row.M.Denot g.row.M-Done.Denot). z.table) c.other.view_is ∙ c.requires.of.1.0)

pub rejoin-requires-clause-empty : goal.rejoin-requires-clause-empty
rejoin-requires-clause-empty g c = (c.self.invariant.4, c.other.invariant.4)

pub rejoin-requires-clause-idle : goal.rejoin-requires-clause-idle
rejoin-requires-clause-idle g c = (idle_was _ _ c.self.view_is c.requires.idle.0, idle_was _ _ c.other.view_is c.requires.idle.1)

pub rejoin-requires-clause-acting : goal.rejoin-requires-clause-acting
rejoin-requires-clause-acting g c = c.self.invariant.0.acting

pub merge_ledgers-requires : goal.merge_ledgers-requires
merge_ledgers-requires g c = let a = ap (λ (z : PassState g.row.M.Denot g.row.M-Done.Denot). length z.books) c.self.view_is in let b = ap (λ (z : PassState g.row.M.Denot g.row.M-Done.Denot). length z.books) c.other.view_is in let d = noted_length c.self.inside.ledgers.items in let e = noted_length c.other.inside.ledgers.items in
    let r = ap (λ (z : PassState g.row.M.Denot g.row.M-Done.Denot). z.room) c.self.view_is in let l = c.requires.room in let k = c.self.invariant.2 in let f = c.self.inside.ledgers.ok in let h = c.other.inside.ledgers.ok in omega arith

pub overflow_add-self : goal.overflow_add-self
overflow_add-self g c = let a = c.self.invariant.0.legal.draws in let b = c.self.invariant.0.legal.few in let d = c.other.invariant.0.legal.draws in let e = c.other.invariant.0.legal.few in let f = c.self.invariant.1.draws in let h = c.other.invariant.1.draws in omega arith

pub invariant_of-self : goal.invariant_of-self
invariant_of-self g c = let idle = idle_was _ _ c.self.view_is c.requires.idle.0 in let same = same_meaning _ _ _ _ _ c.self.view_is c.other.view_is c.requires.of.0 c.requires.of.1 in let later = c.rejoin.ensures.later in (
  whole_pass g.M.Meaning.lawful g.M.Meaning.explains _ _ _ _ c.rejoin.result _ _ _ c.self.invariant.0 c.other.invariant.0 idle (let a = later.0 in let b = later.1 in omega arith) same.0 same.1 same.2 c.rejoin.ensures.view (ap noted_books c.merge_ledgers.ensures.items ∙ noted_merge c.other.inside.ledgers.items c.self.inside.ledgers.items) c.max-self-inside.ensures c.rejoin.ensures.legal,
  whole_tied c.self.inside.seat.me.0 c.other.inside.seat.me.0 _ _ _ _ _ _ _ c.rejoin.result c.self.invariant.1 c.other.invariant.1 c.rejoin.ensures.view,
  (let a = c.merge_ledgers.ensures.capacity in let b = c.self.invariant.2 in omega arith),
  c.self.invariant.3,
  c.rejoin.ensures.seat.1,
)

pub returns-clause-view : goal.returns-clause-view
returns-clause-view g c = (
  c.rejoin.result,
  joined_of _ _ _ _ _ _ c.rejoin.result _ _ _ c.self.view_is c.other.view_is c.rejoin.ensures.seat.0 c.rejoin.ensures.view (ap noted_books c.merge_ledgers.ensures.items ∙ noted_merge c.other.inside.ledgers.items c.self.inside.ledgers.items) c.max-self-inside.ensures,
  (let a = ap (λ (z : PassState g.row.M.Denot g.row.M-Done.Denot). z.view.known) c.self.view_is in let l = c.rejoin.ensures.later in let m = l.0 in omega arith),
  (let a = ap (λ (z : PassState g.row.M.Denot g.row.M-Done.Denot). z.view.known) c.other.view_is in let l = c.rejoin.ensures.later in let m = l.1 in omega arith),
  joined_trail _ _ _ _ _ c.rejoin.result c.self.view_is c.other.view_is c.rejoin.ensures.view,
)

pub returns-clause-books : goal.returns-clause-books
returns-clause-books g c =
    let joined = (returns-clause-view g c).1 in
    let merged = merge_length book_key c.args.other.books c.args.self.now.books in
    let now = ap (λ (z : PassState g.row.M.Denot g.row.M-Done.Denot). length z.books) joined in
    omega arith

pub returns-clause-grows : goal.returns-clause-grows
returns-clause-grows g c = let same = same_meaning _ _ _ _ _ c.self.view_is c.other.view_is c.requires.of.0 c.requires.of.1 in let later = c.rejoin.ensures.later in (
  grows_by _ _ _ _ c.self.view_is c.rejoin.ensures.view (grows_left c.self.inside.seat.me.0 c.other.inside.seat.me.0 c.rejoin.result (let a = later.0 in let b = later.1 in omega arith)),
  grows_by _ _ _ _ c.other.view_is c.rejoin.ensures.view (grows_right c.self.inside.seat.me.0 c.other.inside.seat.me.0 c.rejoin.result (let a = later.0 in let b = later.1 in omega arith) same.0 same.1 same.2),
)
