-- The journal of a legal run is a legal one.
use Rattle.std.proofs.Common.{ℕ, List, [], ◌∷◌, refl, arith}
use Rattle.serial_terms.specs.declared.call.Call.{Call}
use Rattle.serial_terms.specs.declared.call.Call.TheVariants.{MapGet, MapPut, MapRemove, MapPutIfAbsent, Enqueue, Dequeue, QueueLen, Take, Give, Append, AppendPlaced, LogRead, LogLen, CellGet, CellPut}
use Rattle.serial_terms.specs.declared.call.Done.{Done}
use Rattle.serial_terms.specs.declared.committed.Record.{Record}
use Rattle.serial_terms.specs.declared.sight.Sight.{Sight}
use Rattle.serial_terms.specs.Entries.{Entry, Each}
use Rattle.serial_terms.specs.Kinds.{HasKind}
use Rattle.serial_terms.specs.Laws.{RecordsKeepSizes, RepliesHaveKinds}
use Rattle.serial_terms.specs.Ranges.{IsCallOf, AreCallsOf, BelowCapacity}
use Rattle.serial_terms.specs.RunLayout.{layout_by}
use Rattle.serial_terms.specs.Sights.{Seen, IsConsistent}
use Rattle.journal_terms.specs.Laws.{HasShortCall, IsWritable, IsWritableEntry, IsWritableSight, IsWritableJournal}
use Rattle.journal_terms.specs.Legal.{IsRecordIn, IsSightIn, IsLegalJournal, layout_of, start_of}
use Rattle.journal_terms.specs.Text.{Journal, sights_in}
use Rattle.journal_writer.specs.declared.journal.Format.TheVariants.{Records, Sights}
use Rattle.journal_writer.specs.declared.journal.Sizes.{Sizes}
use Rattle.journal_writer.specs.Journals.{journal_of}
use Rattle.journal_writer.specs.Laws.{HaveShortReplies, IsShortEntry, IsShortSight, IsLegalRunOf, LegalJournals}

-- the numbers of a call of a run's layout fit in 64 bits
call_short : (n g f : ℕ) (c : Call) → IsCallOf BelowCapacity (layout_by n g f) c → HasShortCall c
unfolding layout_by
call_short n g f (MapGet m k) h = let there = h.there in let kept = h.kept in (omega arith, omega arith)
call_short n g f (MapPut m k v) h = let there = h.0.there in let kept = h.0.kept in let value = h.1 in (omega arith, omega arith, omega arith)
call_short n g f (MapRemove m k) h = let there = h.there in let kept = h.kept in (omega arith, omega arith)
call_short n g f (MapPutIfAbsent m k v) h = let there = h.0.there in let kept = h.0.kept in let value = h.1 in (omega arith, omega arith, omega arith)
call_short n g f (Enqueue q v) h = let there = h.0 in let value = h.1 in (omega arith, omega arith)
call_short n g f (Dequeue q) h = omega arith
call_short n g f (QueueLen q) h = omega arith
call_short n g f (Take p) h = omega arith
call_short n g f (Give p v) h = let there = h.0 in let value = h.1 in (omega arith, omega arith)
call_short n g f (Append l v) h = let there = h.0 in let value = h.1 in (omega arith, omega arith)
call_short n g f (AppendPlaced l v) h = let there = h.0 in let value = h.1 in (omega arith, omega arith)
call_short n g f (LogRead l i) h = let there = h.0 in let place = h.1 in (omega arith, omega arith)
call_short n g f (LogLen l) h = omega arith
call_short n g f (CellGet c) h = omega arith
call_short n g f (CellPut c v) h = let there = h.0 in let value = h.1 in (omega arith, omega arith)

module _ (j : Journal) where
  calls_writable : (ds : List Done) → AreCallsOf BelowCapacity (layout_of j) ds → HaveShortReplies ds → Each HasKind ds → Each IsWritable ds
  calls_writable [] calls replies kinds = tt
  calls_writable (d ∷ ds) calls replies kinds = ((kinds.0, call_short j.tasks j.groups j.findings d.call calls.0, replies.0), calls_writable ds calls.1 replies.1 kinds.1)

  records_writable : (es : List (Entry Done)) → Each (IsRecordIn (layout_of j)) es → Each IsShortEntry es → Each (λ e. Each HasKind e.dones) es → Each IsWritableEntry es
  records_writable [] within short kinds = tt
  records_writable (e ∷ es) within short kinds = (
    record {
      caller = let low = within.0.caller in omega arith;
      index = short.0.index;
      place = let low = within.0.place in omega arith;
      dones = calls_writable e.dones within.0.calls short.0.replies kinds.0;
    },
    records_writable es within.1 short.1 kinds.1,
  )

  sights_writable : RepliesHaveKinds → (vs : List (Seen Done)) → Each (IsSightIn (layout_of j)) vs → Each IsShortSight vs → Each (IsConsistent 1 (start_of j) j.records) vs → Each IsWritableSight vs
  sights_writable kinds [] within short consistent = tt
  sights_writable kinds (v ∷ vs) within short consistent = let seen = consistent.0 in (
    record {
      caller = let low = within.0.caller in omega arith;
      after = short.0.after;
      place = let low = within.0.place in omega arith;
      end = short.0.end;
      dones = calls_writable v.dones within.0.calls short.0.replies (kinds v.dones seen.0 seen.2.0 seen.2.1);
    },
    sights_writable kinds vs within.1 short.1 consistent.1,
  )

  writable : RecordsKeepSizes → RepliesHaveKinds → IsLegalRunOf j → IsWritableJournal j
  writable kept kinds run = let n = run.sizes.tasks in let g = run.sizes.groups in let f = run.sizes.findings.1 in record {
    tasks = omega arith;
    groups = omega arith;
    findings = omega arith;
    records = records_writable j.records run.records run.short_records (kept j.records (start_of j) run.legal.0 run.legal.1.run).kinds;
    sights = sights_writable kinds (sights_in j.sights) run.sights run.short_sights run.seen.consistent;
  }

  legal_by : IsWritableJournal j → IsLegalRunOf j → IsLegalJournal j
  legal_by w run = record { writable = w; sizes = run.sizes; records = run.records; sights = run.sights; legal = run.legal; seen = run.seen }

-- a run without its sights is one, too
without : (s : Sizes) (rs : List Record) (vs : List Sight) → IsLegalRunOf (journal_of s rs vs Sights) → IsLegalRunOf (journal_of s rs vs Records)
without s rs vs run = record {
  sizes = run.sizes;
  records = run.records;
  sights = tt;
  short_records = run.short_records;
  short_sights = tt;
  legal = run.legal;
  seen = record { order = tt; consistent = tt; after = tt; rising = tt };
}

pub legal : RecordsKeepSizes → RepliesHaveKinds → LegalJournals
legal kept kinds s rs vs Sights run = let j = journal_of s rs vs Sights in (j, legal_by j (writable j kept kinds run) run, refl)
legal kept kinds s rs vs Records run = let j = journal_of s rs vs Records in let less = without s rs vs run in (j, legal_by j (writable j kept kinds less) less, refl)
