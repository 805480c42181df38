use Rattle.std.proofs.Common.{◌≡◌, ◌≤◌, ◌+◌, vec_len, vec_capacity}
use Rattle.cell_table.specs.Sorted.{merge_by}
use Rattle.cell_table.specs.Seats.{ledger_key}
use Rattle.cell_table.proofs.books.merge_ledgers.Given as goal

abbrev pub invariant-loop-ledger : goal.invariant-loop-ledger
invariant-loop-ledger g l = (merge_by ledger_key l.other.items l.ledgers.items ≡ merge_by ledger_key l.initial.other.items l.initial.ledgers.items) × (vec_len l.ledgers + vec_len l.other ≤ vec_capacity l.ledgers) × (vec_capacity l.ledgers ≡ vec_capacity l.initial.ledgers)

abbrev pub decreases-loop-ledger : goal.decreases-loop-ledger
decreases-loop-ledger g l = vec_len l.other
