-- What a closed store hands out.
use Rattle.std.specs.Prelude.{List}
use Rattle.serial_terms.specs.declared.committed.Record.{Record}

-- the history of a store: its records in order
pub record HistoryView : Type 0 where
  pub records : List Record
