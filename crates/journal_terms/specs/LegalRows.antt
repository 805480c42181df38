-- A worked journal that a legal run may have written, and journals that are wrong in one point each, which none may.
use Rattle.std.specs.Prelude.{ℕ, List, [], ◌∷◌, Some, None}
use Rattle.serial_terms.specs.declared.call.Call.TheVariants.{Enqueue}
use Rattle.serial_terms.specs.declared.call.Reply.TheVariants.{Nothing}
use Rattle.serial_terms.specs.declared.call.Done.{Done}
use Rattle.serial_terms.specs.declared.sight.SightEnd.TheVariants.{Aborted, Full}
use Rattle.serial_terms.specs.Entries.{Entry}
use Rattle.serial_terms.specs.Serial.{outside}
use Rattle.serial_terms.specs.Sights.{Seen}
use Rattle.serial_terms.specs.Worked.{writes, reads, sight}
use Rattle.journal_terms.specs.Legal.{IsLegalJournal}
use Rattle.journal_terms.specs.Text.{Journal}
use Rattle.journal_terms.specs.Worked.{one_frame, committed_again}

abbrev pub IsIllegal : Journal → Type 0
IsIllegal j = IsLegalJournal j → ⊥

-- a journal of one task and no group with these records and sights
abbrev pub one_task : List (Entry Done) → List (Seen Done) → Journal
one_task records sights = record { tasks = 1; groups = 0; findings = 1; records = records; sights = Some sights }

abbrev pub of_sizes : ℕ → ℕ → ℕ → Journal
of_sizes n g f = record { tasks = n; groups = g; findings = f; records = []; sights = None }

pub record LegalJournals : Type 0 where
  pub whole_frame : IsLegalJournal one_frame
  -- a key at its map's capacity
  pub key_at_capacity : IsIllegal committed_again
  -- sizes: a task too many, more groups than tasks, no room for findings, too much of it
  pub many_tasks : IsIllegal (of_sizes 262145 0 1)
  pub many_groups : IsIllegal (of_sizes 1 2 1)
  pub no_findings : IsIllegal (of_sizes 1 0 0)
  pub many_findings : IsIllegal (of_sizes 1 0 1048577)
  -- a caller and a place out of range, a value that no cell keeps
  pub caller_too_great : IsIllegal (one_task (reads 16 0 0 [] ∷ []) [])
  pub place_too_great : IsIllegal (one_task (reads 0 0 1152921504606846976 [] ∷ []) [])
  pub value_too_great : IsIllegal (one_task (writes 0 0 1 (outside (Enqueue 0 18446744073709551615) Nothing ∷ []) ∷ []) [])
  -- the index of a record passed over, and a sight of a part that isn't there
  pub index_missing : IsIllegal (one_task (reads 0 1 0 [] ∷ []) [])
  pub third_part : IsIllegal (one_task [] (sight 0 0 0 (Full 2 0 1) [] ∷ []))
  -- places of sights that fall, and more records before a sight than its caller has
  pub place_falls : IsIllegal (one_task [] (sight 0 0 1 Aborted [] ∷ sight 0 0 0 Aborted [] ∷ []))
  pub after_too_many : IsIllegal (one_task [] (sight 0 1 0 Aborted [] ∷ []))
