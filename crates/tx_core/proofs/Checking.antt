-- A validation, one observation after another.
use Rattle.std.proofs.Common.{◌≡◌, ℕ, ◌+◌, ◌<◌, false, slice_index, inl, inr, sym, arith}
use Rattle.std.proofs.lemmas.Bool.{cases_lt}
use Rattle.cell_table.specs.Cells.{has}
use Rattle.cell_table.specs.Rule.{cells_of}
use Rattle.cell_table.specs.Steps.{Validated}
use Rattle.cell_table.specs.Pass.{TableState, PassState, IsPassOf, trail_of}
use Rattle.attempt_lists.specs.Cells.{cell_at}
use Rattle.attempt_lists.specs.Observed.{Observed}
use Rattle.tx_core.specs.Causes.{GrewBy}
use Rattle.tx_core.specs.Seen.{LooksOnly}
use Rattle.tx_core.specs.Facts.{looks_trans, grew_trans}

-- the first n observations are validated
pub record IsChecking {M D : Type 0} (table : TableState M) (start : PassState M D) (reads : Observed) (n : ℕ) (p : PassState M D) : Type 0 where
  pub of : IsPassOf table p
  pub looks : LooksOnly start p
  pub grew : GrewBy n (trail_of start) (trail_of p)
  pub checked : (j : ℕ) → j < n → has (cell_at reads.observations j) (cells_of start.view.held) ≡ false → Validated p.view (cell_at reads.observations j) (slice_index reads.versions j) start.view.known

module _ {M D : Type 0} (table : TableState M) (start : PassState M D) (reads : Observed) where
  pub checking_step : (n : ℕ) (p q : PassState M D) → IsChecking table start reads n p → IsPassOf table q → LooksOnly p q → GrewBy 1 (trail_of p) (trail_of q) → (has (cell_at reads.observations n) (cells_of p.view.held) ≡ false → Validated q.view (cell_at reads.observations n) (slice_index reads.versions n) p.view.known) → IsChecking table start reads (n + 1) q
  checking_step n p q g of looks grew now = record {
    of = of;
    looks = looks_trans start p q g.looks looks;
    grew = grew_trans n 1 (trail_of start) (trail_of p) (trail_of q) g.grew grew;
    checked = λ j lt free. elim (cases_lt j n) [
      | inl before ↦ looks.1.grows.validations _ (g.checked j before free)
      | inr at ↦ here j (omega arith) free
    ];
  }
    where
      here : (j : ℕ) → j ≡ n → has (cell_at reads.observations j) (cells_of start.view.held) ≡ false → Validated q.view (cell_at reads.observations j) (slice_index reads.versions j) start.view.known
      here j same free = rw (same, sym g.looks.1.known) (now (rw (g.looks.1.held, ← same) free))
