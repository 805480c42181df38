use Rattle.std.proofs.Common.{◌≡◌, ◌≤◌, ◌<◌, ℕ, slice_index_or}
use Rattle.cell_table.specs.declared.entry.Ledger.{Ledger}
use Rattle.cell_table.proofs.books.place_of.Given as goal

abbrev pub invariant-loop-ledger : goal.invariant-loop-ledger
invariant-loop-ledger g l = (l.at ≡ l.ledger-index) × ((i : ℕ) (d : Ledger g.row.D.Denot) → i < l.ledger-index → (slice_index_or l.ledgers i d).caller ≤ l.caller)
