use Rattle.std.proofs.Common.{arith, ap, sym, ◌∙◌, List, length, subst, ◌≡◌, ◌-◌, [], ◌≤◌, Vec, Global, vec_capacity, vec_len}
use Rattle.cell_table.specs.declared.view.Book.{Book}
use Rattle.cell_table.specs.Pass.{PassState}
use Rattle.cell_table.specs.Seats.{noted_books, reserved_in, plan_of, Tied}
use Rattle.cell_table.specs.IsPass.{IsPass}
use Rattle.cell_table.specs.declared.entry.Ledger.{Ledger}
use Rattle.cell_table.proofs.Ledgers.{noted_length, noted_take, noted_drop}
use Rattle.cell_table.proofs.Sole.{books_length}
use Rattle.cell_table.proofs.SplitJoin.{share_fits, kept_pass, new_pass, kept_tied, new_tied, kept_of, new_of, new_belongs, idle_was, kept_reserved, split_share, grows_kept, grows_new}
use Rattle.cell_table.proofs.Passes.{grows_by}
use Rattle.cell_table.proofs.pass.Pass.split.Goals as goal

pub invariant_of-self : goal.invariant_of-self
invariant_of-self g c = subst (λ (z : Vec (Ledger g.row.M-Done.Denot) Global). IsPass g.M.Meaning.lawful g.M.Meaning.explains (record { view = c.self.inside.seat.me.0; table = c.self.inside.seat.table_id; books = noted_books z.items; seen = c.self.inside.seen; room = c.self.inside.room; reserved = reserved_in z.items; places = vec_capacity c.self.inside.held - vec_len c.self.inside.held; plan = plan_of c.self.inside.plan })
    × Tied c.self.inside.seat.me.0 c.self.inside.held.items c.self.inside.drawn c.self.inside.draws × (c.self.inside.room ≤ vec_capacity z) × (vec_len c.self.inside.held ≤ vec_capacity c.self.inside.held) × (c.self.inside.seat.me.1 ≡ [])) (sym c.in_err-ledgers.ensures.err) c.self.invariant

pub overflow_sub-kept : goal.overflow_sub-kept
overflow_sub-kept g c = let a = ap (λ (z : PassState g.row.M.Denot g.row.M-Done.Denot). length z.books) c.self.view_is in let b = noted_length c.self.inside.ledgers.items in let n = c.requires.n in let l = c.len.ensures in let k = c.self.inside.ledgers.ok in omega arith

pub overflow_mul-share : goal.overflow_mul-share
overflow_mul-share g c = let a = ap (λ (z : PassState g.row.M.Denot g.row.M-Done.Denot). length z.books) c.self.view_is in let b = noted_length c.self.inside.ledgers.items in let n = c.requires.n in let l = c.len.ensures in let m = c.len-2.ensures in let k = c.self.inside.ledgers.ok in
    let f = share_fits c.args.n c.len-2.result c.self.inside.draws (omega arith) (omega arith) in omega arith

pub overflow_sub-self : goal.overflow_sub-self
overflow_sub-self g c = let a = ap (λ (z : PassState g.row.M.Denot g.row.M-Done.Denot). length z.books) c.self.view_is in let b = noted_length c.self.inside.ledgers.items in let n = c.requires.n in let l = c.len.ensures in let m = c.len-2.ensures in let k = c.self.inside.ledgers.ok in
    share_fits c.args.n c.len-2.result c.self.inside.draws (omega arith) (omega arith)

pub cut-seat-requires-clause-callers : goal.cut-seat-requires-clause-callers
cut-seat-requires-clause-callers g c = let a = ap (λ (z : PassState g.row.M.Denot g.row.M-Done.Denot). length z.books) c.self.view_is in let b = noted_length c.self.inside.ledgers.items in let n = c.requires.n in let l = c.len.ensures in let m = c.len-2.ensures in let k = c.self.inside.ledgers.ok in let w = ap (λ (z : List (Book g.row.M-Done.Denot)). length z) c.self.invariant.0.books in let u = books_length (noted_books c.self.inside.ledgers.items) in (omega arith, omega arith)

pub cut-seat-requires-clause-draws : goal.cut-seat-requires-clause-draws
cut-seat-requires-clause-draws g c = let a = ap (λ (z : PassState g.row.M.Denot g.row.M-Done.Denot). length z.books) c.self.view_is in let b = noted_length c.self.inside.ledgers.items in let n = c.requires.n in let l = c.len.ensures in let m = c.len-2.ensures in let k = c.self.inside.ledgers.ok in let w = ap (λ (z : List (Book g.row.M-Done.Denot)). length z) c.self.invariant.0.books in let u = books_length (noted_books c.self.inside.ledgers.items) in let f = share_fits c.args.n c.len-2.result c.self.inside.draws (omega arith) (omega arith) in let d = c.self.invariant.1.draws in omega arith

pub invariant_of-self-2 : goal.invariant_of-self-2
invariant_of-self-2 g c = let a = ap (λ (z : PassState g.row.M.Denot g.row.M-Done.Denot). length z.books) c.self.view_is in let b = noted_length c.self.inside.ledgers.items in let n = c.requires.n in let l = c.len.ensures in let m = c.len-2.ensures in let k = c.self.inside.ledgers.ok in let w = ap (λ (z : List (Book g.row.M-Done.Denot)). length z) c.self.invariant.0.books in let u = books_length (noted_books c.self.inside.ledgers.items) in let idle = idle_was _ _ c.self.view_is c.requires.idle in (
  kept_pass g.M.Meaning.lawful g.M.Meaning.explains _ c.cut-seat.new.seat.me.0 _ (c.len.result - c.args.n) _ _ _ c.self.invariant.0 idle.0 (omega arith) (omega arith) c.cut-seat.ensures.old.1 (ap noted_books c.in_ok-ledgers.ensures.items ∙ noted_take (c.len.result - c.args.n) c.self.inside.ledgers.items),
  kept_tied c.self.inside.seat.me.0 c.cut-seat.new.seat.me.0 _ _ _ (c.len.result - c.args.n) _ c.self.invariant.1 c.cut-seat.ensures.old.1,
  (let x = c.split_off.ensures.capacity in let y = c.self.invariant.2 in omega arith),
  c.self.invariant.3,
  c.cut-seat.ensures.old.2 ∙ c.self.invariant.4,
)

pub invariant_of-result : goal.invariant_of-result
invariant_of-result g c = let a = ap (λ (z : PassState g.row.M.Denot g.row.M-Done.Denot). length z.books) c.self.view_is in let b = noted_length c.self.inside.ledgers.items in let n = c.requires.n in let l = c.len.ensures in let m = c.len-2.ensures in let k = c.self.inside.ledgers.ok in let w = ap (λ (z : List (Book g.row.M-Done.Denot)). length z) c.self.invariant.0.books in let u = books_length (noted_books c.self.inside.ledgers.items) in (
  new_pass g.M.Meaning.lawful g.M.Meaning.explains _ c.cut-seat.result.me.0 _ (c.len.result - c.args.n) _ _ _ _ _ c.self.invariant.0 (let f = share_fits c.args.n c.len-2.result c.self.inside.draws (omega arith) (omega arith) in let d = c.self.invariant.1.draws in omega arith) (omega arith) c.cut-seat.ensures.new.1 (ap noted_books c.in_ok-ledgers.ensures.tail ∙ noted_drop (c.len.result - c.args.n) c.self.inside.ledgers.items),
  new_tied c.self.inside.seat.me.0 c.cut-seat.result.me.0 _ (c.len.result - c.args.n) _ c.cut-seat.ensures.new.1 c.in_ok-held.ensures.items,
  (let x = c.in_ok-ledgers.ensures.tail_len in let y = c.in_ok-ledgers.ledgers.ok in omega arith),
  (let x = c.in_ok-held.ensures.len in omega arith),
  c.cut-seat.ensures.new.2,
)

pub returns-clause-kept : goal.returns-clause-kept
returns-clause-kept g c = let a = ap (λ (z : PassState g.row.M.Denot g.row.M-Done.Denot). length z.books) c.self.view_is in let b = noted_length c.self.inside.ledgers.items in let n = c.requires.n in let l = c.len.ensures in let m = c.len-2.ensures in let k = c.self.inside.ledgers.ok in let w = ap (λ (z : List (Book g.row.M-Done.Denot)). length z) c.self.invariant.0.books in let u = books_length (noted_books c.self.inside.ledgers.items) in kept_of _ _ c.cut-seat.new.seat.me.0 _ (c.len.result - c.args.n) c.args.n _ _ _ c.self.view_is c.cut-seat.ensures.old.0 c.cut-seat.ensures.old.1 (ap noted_books c.in_ok-ledgers.ensures.items ∙ noted_take (c.len.result - c.args.n) c.self.inside.ledgers.items) (omega arith) (split_share c.args.n _ _ _ _ c.self.invariant.1.draws (omega arith)) (kept_reserved (c.len.result - c.args.n) c.self.inside.ledgers.items _ (omega arith) c.in_ok-ledgers.ensures.items)

pub returns-clause-new : goal.returns-clause-new
returns-clause-new g c = let a = ap (λ (z : PassState g.row.M.Denot g.row.M-Done.Denot). length z.books) c.self.view_is in let b = noted_length c.self.inside.ledgers.items in let n = c.requires.n in let l = c.len.ensures in let m = c.len-2.ensures in let k = c.self.inside.ledgers.ok in let w = ap (λ (z : List (Book g.row.M-Done.Denot)). length z) c.self.invariant.0.books in let u = books_length (noted_books c.self.inside.ledgers.items) in (
  new_belongs _ _ _ c.cut-seat.result.me.0 _ (c.len.result - c.args.n) _ c.self.view_is c.cut-seat.ensures.new.1 c.cut-seat.ensures.new.0 c.requires.of,
  new_of _ _ c.cut-seat.result.me.0 _ (c.len.result - c.args.n) c.args.n _ _ _ _ c.self.view_is c.cut-seat.ensures.new.0 c.cut-seat.ensures.new.1 (ap noted_books c.in_ok-ledgers.ensures.tail ∙ noted_drop (c.len.result - c.args.n) c.self.inside.ledgers.items) (omega arith) (split_share c.args.n _ _ _ _ c.self.invariant.1.draws (omega arith)) (let x = c.in_ok-held.ensures.exact in let y = c.in_ok-held.ensures.len in omega arith),
)

pub returns-clause-grows : goal.returns-clause-grows
returns-clause-grows g c = (grows_by _ _ _ _ c.self.view_is c.cut-seat.ensures.old.1 (grows_kept _ _ _), grows_by _ _ _ _ c.self.view_is c.cut-seat.ensures.new.1 (grows_new _ _ _))
