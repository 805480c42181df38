-- The records that lines begin with.
use Rattle.std.specs.Prelude.{ℕ, List, [], ◌∷◌, Option, Some, None}
use Rattle.serial_terms.specs.declared.call.Done.{Done}
use Rattle.serial_terms.specs.Entries.{Entry}
use Rattle.journal_terms.specs.Reading.{cut_at}
use Rattle.journal_terms.specs.Strict as read

abbrev pub onto : Option (Entry Done) → List (Entry Done) → List (Entry Done)
onto None es = []
onto (Some e) es = e ∷ es

-- the records of whole lines up to the first one that is none's
abbrev pub begun : List (List ℕ) → List (Entry Done)
begun [] = []
begun (line ∷ []) = []
begun (line ∷ next ∷ lines) = onto (read.read_record line) (begun (next ∷ lines))

unfoldable pub records_in : List ℕ → List (Entry Done)
records_in text = begun (cut_at 10 text)
