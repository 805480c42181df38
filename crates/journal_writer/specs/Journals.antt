-- The journal of a run.
use Rattle.std.specs.Prelude.{List, Option, Some, None}
use Rattle.serial_terms.specs.declared.call.Done.{Done}
use Rattle.serial_terms.specs.declared.committed.Record.{Record}
use Rattle.serial_terms.specs.declared.sight.Sight.{Sight}
use Rattle.serial_terms.specs.Histories.{entries_of}
use Rattle.serial_terms.specs.Sights.{Seen, all_seen_of}
use Rattle.journal_terms.specs.Text.{Journal}
use Rattle.journal_writer.specs.declared.journal.Format.{Format}
use Rattle.journal_writer.specs.declared.journal.Format.TheVariants.{Records, Sights}
use Rattle.journal_writer.specs.declared.journal.Sizes.{Sizes}

-- the sights in version 2, and no word of them in version 1
abbrev pub sights_by : Format → List Sight → Option (List (Seen Done))
sights_by Records sights = None
sights_by Sights sights = Some (all_seen_of sights)

-- a run that was opened with these sizes, with its records and its sights
abbrev pub journal_of : Sizes → List Record → List Sight → Format → Journal
journal_of sizes records sights format = record {
  tasks = sizes.tasks;
  groups = sizes.groups;
  findings = sizes.findings;
  records = entries_of records;
  sights = sights_by format sights;
}
