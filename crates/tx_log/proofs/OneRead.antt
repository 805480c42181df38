-- What is known of the cells of a log says what the log has.
use Rattle.std.proofs.Common.{◌≡◌, ℕ, ◌+◌, ◌<◌, List, arith}
use Rattle.cell_table.specs.Cells.{AllHold, after}
use Rattle.tx_core.specs.Tx.{Attempt}
use Rattle.tx_core.specs.Parts.{Shows}
use Rattle.tx_core.specs.Words.{length_after}
use Rattle.tx_log.specs.declared.part.LogPart.{LogPart}
use Rattle.tx_log.specs.Log.{IsLog, length_in, word_in}

module _ {M D : Type 0} (log : LogPart) where
  -- what is known of the end is the length
  pub length_shown : (a : Attempt M D) (n : ℕ) (cells : List ℕ) → Shows a log.end n → AllHold cells a.observations → IsLog log (after cells a.writes) → length_in log (after cells a.writes) ≡ n
  length_shown a n cells shows all is = shows cells all (omega (arith, is.in_table, length_after a.writes cells))

  pub word_shown : (a : Attempt M D) (i w : ℕ) (cells : List ℕ) → i < log.capacity → Shows a (log.end + 1 + i) w → AllHold cells a.observations → IsLog log (after cells a.writes) → word_in log (after cells a.writes) i ≡ w
  word_shown a i w cells lt shows all is = shows cells all (omega (arith, is.in_table, length_after a.writes cells))
