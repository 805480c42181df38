-- What the text of a journal tells of the run.
use Rattle.std.specs.Prelude.{◌≡◌, ◌≢◌, List}
use Rattle.serial_terms.specs.declared.call.Done.{Done}
use Rattle.serial_terms.specs.declared.committed.Record.{Record}
use Rattle.serial_terms.specs.declared.sight.Sight.{Sight}
use Rattle.serial_terms.specs.Entries.{Entry, Each}
use Rattle.serial_terms.specs.Histories.{IsLegalHistory}
use Rattle.serial_terms.specs.Serial.{State}
use Rattle.serial_terms.specs.Sights.{Seen, AreSightsOf}
use Rattle.journal_terms.specs.Laws.{IsShort, HasShortReply, HasShortEnd, IsWritableJournal}
use Rattle.journal_terms.specs.Legal.{AreSizes, IsRecordIn, IsSightIn, IsLegalText, layout_of, start_of}
use Rattle.journal_terms.specs.Text.{Journal, journal_text, sights_in}
use Rattle.journal_writer.specs.declared.journal.Format.{Format}
use Rattle.journal_writer.specs.declared.journal.Format.TheVariants.{Records, Sights}
use Rattle.journal_writer.specs.declared.journal.Sizes.{Sizes}
use Rattle.journal_writer.specs.Journals.{journal_of}

-- the numbers fit in 64 bits, and each reply is of its call's kind
abbrev pub AreWritable : Sizes → List Record → List Sight → Type 0
AreWritable sizes records sights = IsWritableJournal (journal_of sizes records sights Sights)

module _ (sizes others : Sizes) (records further : List Record) (sights seen : List Sight) where
  -- the texts of two runs in a version are one
  abbrev pub HaveOneText : Format → Type 0
  HaveOneText format = journal_text (journal_of sizes records sights format) ≡ journal_text (journal_of others further seen format)

-- a text of version 1 tells the sizes and the records, and one of version 2 the sights, too
pub record TextsTell : Type 0 where
  pub by_records : (s t : Sizes) (rs es : List Record) (vs ws : List Sight) → AreWritable s rs vs → AreWritable t es ws
      → HaveOneText s t rs es vs ws Records → (s ≡ t) × (rs ≡ es)
  pub by_sights : (s t : Sizes) (rs es : List Record) (vs ws : List Sight) → AreWritable s rs vs → AreWritable t es ws
      → HaveOneText s t rs es vs ws Sights → (s ≡ t) × (rs ≡ es) × (vs ≡ ws)
  pub apart : (s t : Sizes) (rs es : List Record) (vs ws : List Sight)
      → journal_text (journal_of s rs vs Records) ≢ journal_text (journal_of t es ws Sights)

-- what the rules of a run leave open fits in 64 bits: the index of a record, what came before a sight and how it ended, and replies
abbrev pub HaveShortReplies : List Done → Type 0
HaveShortReplies = Each (λ d. HasShortReply d.reply)

pub record IsShortEntry (e : Entry Done) : Type 0 where
  pub index : IsShort e.index
  pub replies : HaveShortReplies e.dones

pub record IsShortSight (v : Seen Done) : Type 0 where
  pub after : IsShort v.after
  pub end : HasShortEnd v.end
  pub replies : HaveShortReplies v.dones

-- a run of these sizes: what its rules bound is in its ranges and all else fits in 64 bits, its records are a legal history from the
-- opening, and its sights are sights of that history
pub record IsLegalRunOf (j : Journal) : Type 0 where
  pub sizes : AreSizes j.tasks j.groups j.findings
  pub records : Each (IsRecordIn (layout_of j)) j.records
  pub sights : Each (IsSightIn (layout_of j)) (sights_in j.sights)
  pub short_records : Each IsShortEntry j.records
  pub short_sights : Each IsShortSight (sights_in j.sights)
  pub legal : (end : State) × IsLegalHistory (start_of j) j.records end
  pub seen : AreSightsOf 1 (start_of j) j.records (sights_in j.sights)

-- the texts of both versions are those of legal journals
abbrev pub LegalJournals : Type 0
LegalJournals = (s : Sizes) (rs : List Record) (vs : List Sight) (format : Format) → IsLegalRunOf (journal_of s rs vs Sights)
    → IsLegalText (journal_text (journal_of s rs vs format))
