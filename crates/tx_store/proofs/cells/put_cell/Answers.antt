use Rattle.std.proofs.Common.{◌≡◌, ℕ, set, refl, ap, ◌∙◌, subst, arith}
use Rattle.attempt_lists.specs.Parts.{waiting_of}
use Rattle.cell_table.specs.Cells.{after}
use Rattle.serial_terms.specs.declared.call.Call.TheVariants.{CellPut}
use Rattle.serial_terms.specs.declared.call.Reply.TheVariants.{Nothing}
use Rattle.store_layout.specs.Shapes.{the_cell}
use Rattle.store_parts.specs.Parts.{progress}
use Rattle.tx_core.specs.Facts.{holds_looks}
use Rattle.tx_store.specs.Calls.{in_child}
use Rattle.tx_store.proofs.CellCalls.{inside, goes_written}
use Rattle.tx_store.proofs.Telling.{on_call, on_refused}
use Rattle.tx_store.proofs.cells.put_cell.Goals as goal

pub returns-in-Ok-note_call : goal.returns-in-Ok-note_call
returns-in-Ok-note_call g c =
    let s = c.args.plan.now in let k = c.args.cell in let at = c.plain.result in let e = c.in-Ok.ensures in
    let old = c.args.tx.now in let made = c.write.new.self in
    on_call g.P.Keys.KeyTest.passes s (the_cell k) (λ d. d ≡ at) 0 0 (inside s k at c.requires.cell c.plain.ensures) (omega arith)
    (c.attempts_follow_law.ensures s) old made c.note_call.new.tx (CellPut k c.args.value) Nothing Nothing 0 c.requires.callable.open_now
    (holds_looks (λ d. d ≡ at) 0 old made _ e.looks) (goes_written s old made _ e.ok) tt
    (λ touches. (c.cell_calls_law.ensures s k c.requires.cell).put (progress old) (progress made) c.args.value (in_child old.state) touches
    (λ p. ap (λ a. waiting_of a.additions p) e.ok) (omega arith)
    (λ cells hold low.
    subst (λ (j : ℕ). after cells made.writes ≡ set (after cells old.writes) j c.args.value) c.plain.ensures
    (ap (λ a. after cells a.writes) e.ok ∙ c.laid_over_law.ensures.put cells at c.args.value)))
    refl c.in-Ok-note_call.ensures.ok

pub returns-in-Err-note_call : goal.returns-in-Err-note_call
returns-in-Err-note_call g c =
    let s = c.args.plan.now in let k = c.args.cell in let at = c.plain.result in let e = c.in-Ok.ensures in
    let old = c.args.tx.now in let made = c.write.new.self in
    on_refused g.P.Keys.KeyTest.passes s (the_cell k) (λ d. d ≡ at) 0 0 (inside s k at c.requires.cell c.plain.ensures) (omega arith)
    old made c.note_call.new.tx (holds_looks (λ d. d ≡ at) 0 old made _ e.looks) (goes_written s old made _ e.ok) c.in-Err-note_call.ensures.stopped
