use Rattle.std.proofs.Common.{◌≡◌, ℕ, List, length, get_or, refl, ap, sym, ◌∙◌, subst, arith}
use Rattle.cell_table.specs.Cells.{after}
use Rattle.serial_terms.specs.declared.call.Call.TheVariants.{CellGet}
use Rattle.serial_terms.specs.declared.call.Reply.TheVariants.{Value}
use Rattle.store_layout.specs.Shapes.{the_cell}
use Rattle.store_parts.specs.Parts.{progress}
use Rattle.tx_core.specs.Facts.{holds_looks}
use Rattle.tx_store.specs.Calls.{in_child}
use Rattle.tx_store.proofs.CellCalls.{inside, read_stays}
use Rattle.tx_store.proofs.Telling.{on_call, on_refused, goes_stays, waits_stays}
use Rattle.tx_store.proofs.cells.get_cell.Goals as goal

pub returns-in-Ok-note_call : goal.returns-in-Ok-note_call
returns-in-Ok-note_call g c =
    let s = c.args.plan.now in let k = c.args.cell in let at = c.plain.result in let e = c.in-Ok.ensures in
    let old = c.args.tx.now in let made = c.read.new.self in
    let stays = read_stays old made at c.in-Ok.value e.own e.seen_before e.observes in
    on_call g.P.Keys.KeyTest.passes s (the_cell k) (λ d. d ≡ at) 3 3 (inside s k at c.requires.cell c.plain.ensures) (omega arith)
    (c.attempts_follow_law.ensures s) old made c.note_call.new.tx (CellGet k) (Value c.in-Ok.value) (Value c.in-Ok.value) 0 c.requires.callable.open_now
    (holds_looks (λ d. d ≡ at) 3 old made _ e.looks) (goes_stays g.P.Keys.KeyTest.passes s old made stays.0) tt
    (λ touches. (c.cell_calls_law.ensures s k c.requires.cell).get (progress old) (progress made) c.in-Ok.value (in_child old.state) touches
    (waits_stays g.P.Keys.KeyTest.passes s old made stays.0)
    (λ cells hold low.
    let same : after cells made.writes ≡ after cells old.writes = ap (after cells) stays.1 in
    let reach = c.laid_over_law.ensures.sized cells in
    let shown = c.laid_over_law.ensures.shows at c.in-Ok.value e.value cells hold (omega (arith, low, c.plain.ensures, reach, ap length same)) in
    (subst (λ (j : ℕ). get_or (after cells old.writes) j 0 ≡ c.in-Ok.value) c.plain.ensures (ap (λ (z : List ℕ). get_or z at 0) (sym same) ∙ shown), same)))
    refl c.in-Ok-note_call.ensures.ok

pub returns-in-Err-note_call : goal.returns-in-Err-note_call
returns-in-Err-note_call g c =
    let s = c.args.plan.now in let k = c.args.cell in let at = c.plain.result in let e = c.in-Ok.ensures in
    let old = c.args.tx.now in let made = c.read.new.self in
    let stays = read_stays old made at c.in-Ok.value e.own e.seen_before e.observes in
    on_refused g.P.Keys.KeyTest.passes s (the_cell k) (λ d. d ≡ at) 3 3 (inside s k at c.requires.cell c.plain.ensures) (omega arith)
    old made c.note_call.new.tx (holds_looks (λ d. d ≡ at) 3 old made _ e.looks) (goes_stays g.P.Keys.KeyTest.passes s old made stays.0) c.in-Err-note_call.ensures.stopped
