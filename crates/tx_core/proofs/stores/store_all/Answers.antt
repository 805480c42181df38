use Rattle.std.proofs.Common.{◌≡◌, ℕ, ◌<◌, length, slice_index_or, ap, ◌∙◌, arith}
use Rattle.cell_table.specs.Pass.{MayPut, IsHeld}
use Rattle.attempt_lists.specs.Cells.{Entries, cell_at, word_of}
use Rattle.tx_core.specs.Stored.{last_writes}
use Rattle.tx_core.proofs.LateLocks.{cell_there}
use Rattle.tx_core.proofs.Storing.{written_once, last_note, storing_begins, storing_may_begin, storing_may, storing_step, storing_ends}
use Rattle.tx_core.proofs.stores.store_all.Goals as goal
use Rattle.tx_core.proofs.stores.store_all.Goals.{In-loop-index, After-last_write-cell}

pub plan-requires-clause-once : goal.plan-requires-clause-once
plan-requires-clause-once g c = written_once c.args.writes.items c.requires.ascending

pub put_value-requires-clause-cell : goal.put_value-requires-clause-cell
put_value-requires-clause-cell g c = rw c.as_slice-planned.ensures.value (cell_there (λ d. d < length c.args.table.now.opening) c.args.writes.items 0 c.requires.in_table c.requires.some)

pub put_value-requires-clause-planned : goal.put_value-requires-clause-planned
put_value-requires-clause-planned g c = storing_may_begin c.args.table.now c.args.pass.now _ c.plan.new.self _ _ c.plan.ensures c.requires.ascending c.requires.some (ap (λ (es : Entries). cell_at es 0) c.as_slice-planned.ensures.value) (ap (λ (es : Entries). word_of es 0) c.as_slice-planned.ensures.value) c.requires.held

-- the first store decides
pub loop-index-init : goal.loop-index-init
loop-index-init g c = storing_begins _ c.args.pass.now _ c.plan.new.self c.put_value.new.pass _ _ c.plan.ensures c.put_value.ensures.view c.put_value.ensures.of c.put_value.ensures.step (ap (λ (es : Entries). cell_at es 0) c.as_slice-planned.ensures.value)

-- the next value is found in the book
last : (g : _) (c : In-loop-index g) → last_writes c.loop-index.pass.books ≡ c.args.writes.items
last g c = ap last_writes c.loop-index.invariant.books ∙ last_note _ _ c.args.pass.now.books (rw c.legal_law.ensures.books c.legal_law.ensures.acting)

pub last_write-cell-requires : goal.last_write-cell-requires
last_write-cell-requires g c = rw (last g c, ← c.as_slice-planned.ensures.value) c.loop-index-test.true

pub put_value-requires-in-loop-index-clause-cell :
    goal.put_value-requires-in-loop-index-clause-cell
put_value-requires-in-loop-index-clause-cell g c =
    let lt : c.loop-index.index < length c.args.writes.items = omega (arith, c.loop-index-test.true, ap length c.as_slice-planned.ensures.value) in
    rw (c.last_write-cell.ensures, last g c.before.before) (cell_there (λ d. d < length c.args.table.now.opening) c.args.writes.items c.loop-index.index c.requires.in_table lt)

-- the next store may be made
may : (g : _) (c : After-last_write-cell g) → MayPut c.loop-index.pass c.last_write-cell.result.0 c.last_write-cell.result.1 c.loop-index.pass.plan × IsHeld c.loop-index.pass c.last_write-cell.result.0
may g c =
    let lt : c.loop-index.index < length c.args.writes.items = omega (arith, c.loop-index-test.true, ap length c.as_slice-planned.ensures.value) in
    let is : c.last_write-cell.result ≡ slice_index_or c.args.writes.items c.loop-index.index (0, 0) = c.last_write-cell.ensures ∙ ap (λ (es : Entries). slice_index_or es c.loop-index.index (0, 0)) (last g c.before) in
    storing_may c.args.table.now c.args.pass.now _ c.loop-index.index _ _ c.loop-index.pass c.loop-index.invariant c.requires.ascending lt (ap (λ (e : ℕ × ℕ). e.0) is) (ap (λ (e : ℕ × ℕ). e.1) is) c.requires.held

pub put_value-requires-in-loop-index-clause-held :
    goal.put_value-requires-in-loop-index-clause-held
put_value-requires-in-loop-index-clause-held g c = (may g c.before).1

pub put_value-requires-in-loop-index-clause-planned :
    goal.put_value-requires-in-loop-index-clause-planned
put_value-requires-in-loop-index-clause-planned g c = (may g c.before).0

pub loop-index-preserved : goal.loop-index-preserved
loop-index-preserved g c =
    let is : c.last_write-cell.result ≡ slice_index_or c.args.writes.items c.loop-index.index (0, 0) = c.last_write-cell.ensures ∙ ap (λ (es : Entries). slice_index_or es c.loop-index.index (0, 0)) (last g c.before.before.before) in
    storing_step c.args.table.now c.args.pass.now _ c.loop-index.index _ _ c.loop-index.pass c.put_value-in-loop-index.new.pass c.loop-index.invariant c.put_value-in-loop-index.ensures.view c.put_value-in-loop-index.ensures.of c.put_value-in-loop-index.ensures.step (ap (λ (e : ℕ × ℕ). e.0) is)

pub returns-clause-stores : goal.returns-clause-stores
returns-clause-stores g c = storing_ends _ _ _ c.loop-index.index c.loop-index.pass c.loop-index.invariant (omega (arith, c.loop-index-test.false, ap length c.as_slice-planned.ensures.value))
