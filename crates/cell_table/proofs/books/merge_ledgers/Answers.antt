use Rattle.std.proofs.Common.{arith, ap, sym, ◌∙◌, List}
use Rattle.cell_table.specs.Sorted.{merge_by}
use Rattle.cell_table.specs.Seats.{ledger_key}
use Rattle.cell_table.specs.declared.entry.Ledger.{Ledger}
use Rattle.cell_table.proofs.Ledgers.{merge_last}
use Rattle.cell_table.proofs.books.merge_ledgers.Goals as goal

pub loop-ledger-preserved : goal.loop-ledger-preserved
loop-ledger-preserved g c = let inv = c.loop-ledger.invariant in (
  ap (merge_by ledger_key c.pop.new.self.items) c.add_ledger.ensures.items ∙ (sym (merge_last ledger_key c.pop.new.self.items c.loop-ledger.ledgers.items c.in-Some.ledger) ∙ (ap (λ (z : List (Ledger g.row.D.Denot)). merge_by ledger_key z c.loop-ledger.ledgers.items) (sym c.in-Some.ensures.items) ∙ inv.0)),
  (let a = c.in-Some.ensures.len in let b = c.add_ledger.ensures.len in let d = c.add_ledger.ensures.capacity in let e = inv.1 in omega arith),
  c.add_ledger.ensures.capacity ∙ inv.2,
)
