-- The laws of the journal's text.
use Rattle.std.specs.Prelude.{◌≡◌, ◌↔◌, ℕ, ◌^◌, ◌<◌, List, Some}
use Rattle.serial_terms.specs.declared.call.Call.{Call}
use Rattle.serial_terms.specs.declared.call.Call.TheVariants.{MapGet, MapPut, MapRemove, MapPutIfAbsent, Enqueue, Dequeue, QueueLen, Take, Give, Append, AppendPlaced, LogRead, LogLen, CellGet, CellPut}
use Rattle.serial_terms.specs.declared.call.Reply.{Reply}
use Rattle.serial_terms.specs.declared.call.Reply.TheVariants.{Nothing, Absent, Value, Flag}
use Rattle.serial_terms.specs.declared.call.Done.{Done}
use Rattle.serial_terms.specs.declared.sight.SightEnd.{SightEnd}
use Rattle.serial_terms.specs.declared.sight.SightEnd.TheVariants.{Aborted, Refused, Full, Child}
use Rattle.serial_terms.specs.Entries.{Entry, Each}
use Rattle.serial_terms.specs.Kinds.{HasKind}
use Rattle.serial_terms.specs.Sights.{Seen}
use Rattle.journal_terms.specs.Text.{Journal, journal_text, sights_in}
use Rattle.journal_terms.specs.Reading.{read_journal}

-- the number fits in 64 bits
abbrev pub IsShort : ℕ → Type 0
IsShort n = n < 2 ^ 64

abbrev pub HasShortCall : Call → Type 0
HasShortCall (MapGet m k) = IsShort m × IsShort k
HasShortCall (MapPut m k v) = IsShort m × IsShort k × IsShort v
HasShortCall (MapRemove m k) = IsShort m × IsShort k
HasShortCall (MapPutIfAbsent m k v) = IsShort m × IsShort k × IsShort v
HasShortCall (Enqueue q v) = IsShort q × IsShort v
HasShortCall (Dequeue q) = IsShort q
HasShortCall (QueueLen q) = IsShort q
HasShortCall (Take p) = IsShort p
HasShortCall (Give p v) = IsShort p × IsShort v
HasShortCall (Append l v) = IsShort l × IsShort v
HasShortCall (AppendPlaced l v) = IsShort l × IsShort v
HasShortCall (LogRead l i) = IsShort l × IsShort i
HasShortCall (LogLen l) = IsShort l
HasShortCall (CellGet c) = IsShort c
HasShortCall (CellPut c v) = IsShort c × IsShort v

abbrev pub HasShortReply : Reply → Type 0
HasShortReply Nothing = Unit {0}
HasShortReply Absent = Unit {0}
HasShortReply (Value v) = IsShort v
HasShortReply (Flag b) = Unit {0}

-- the reply is of its call's kind, and the numbers fit
abbrev pub IsWritable : Done → Type 0
IsWritable d = HasKind d × HasShortCall d.call × HasShortReply d.reply

pub record IsWritableEntry (e : Entry Done) : Type 0 where
  pub caller : IsShort e.caller
  pub index : IsShort e.index
  pub place : IsShort e.place
  pub dones : Each IsWritable e.dones

abbrev pub HasShortEnd : SightEnd → Type 0
HasShortEnd Aborted = Unit {0}
HasShortEnd Refused = Unit {0}
HasShortEnd (Full part values adding) = IsShort part × IsShort values × IsShort adding
HasShortEnd Child = Unit {0}

pub record IsWritableSight (v : Seen Done) : Type 0 where
  pub caller : IsShort v.caller
  pub after : IsShort v.after
  pub place : IsShort v.place
  pub end : HasShortEnd v.end
  pub dones : Each IsWritable v.dones

pub record IsWritableJournal (j : Journal) : Type 0 where
  pub tasks : IsShort j.tasks
  pub groups : IsShort j.groups
  pub findings : IsShort j.findings
  pub records : Each IsWritableEntry j.records
  pub sights : Each IsWritableSight (sights_in j.sights)

-- the text is a journal's
abbrev pub IsJournalText : List ℕ → Type 0
IsJournalText text = (j : Journal) × IsWritableJournal j × (journal_text j ≡ text)

-- reading the text of a journal gives the journal
abbrev pub TextReadsBack : Type 0
TextReadsBack = (j : Journal) → IsWritableJournal j → read_journal (journal_text j) ≡ Some j

-- so one text is of one journal; as a journal of version 1 has no word of sights, its text tells the numbers and the records
abbrev pub OneTextOneJournal : Type 0
OneTextOneJournal = (j k : Journal) → IsWritableJournal j → IsWritableJournal k → journal_text j ≡ journal_text k → j ≡ k

-- so a text is a journal's exactly where the journal that it reads as can be written, and has this text
abbrev pub JournalTextsAreRead : Type 0
JournalTextsAreRead = (text : List ℕ) → IsJournalText text
    ↔ ((j : Journal) × (read_journal text ≡ Some j) × IsWritableJournal j × (journal_text j ≡ text))
