-- With which further records and sights a legal journal stays legal.
use Rattle.std.proofs.Common.{◌≡◌, ℕ, ◌≤◌, List, [], ◌∷◌, ◌++◌, sym, subst, arith}
use Rattle.serial_terms.specs.declared.call.Call.{Call}
use Rattle.serial_terms.specs.declared.call.Call.TheVariants.{MapGet, MapPut, MapRemove, MapPutIfAbsent, Enqueue, Dequeue, QueueLen, Take, Give, Append, AppendPlaced, LogRead, LogLen, CellGet, CellPut}
use Rattle.serial_terms.specs.declared.call.Done.{Done}
use Rattle.serial_terms.specs.declared.sight.SightEnd.{SightEnd}
use Rattle.serial_terms.specs.declared.sight.SightEnd.TheVariants.{Aborted, Refused, Full, Child}
use Rattle.serial_terms.specs.Entries.{Entry, Each}
use Rattle.serial_terms.specs.Facts.{each_append}
use Rattle.serial_terms.specs.Histories.{IsLegalHistory}
use Rattle.serial_terms.specs.Ranges.{IsCallOf, AreCallsOf, BelowCapacity}
use Rattle.serial_terms.specs.RunLayout.{layout_by}
use Rattle.serial_terms.specs.Serial.{State}
use Rattle.serial_terms.specs.Sights.{Seen, AreSightsOf, IsSeenBefore, IsConsistent, IsAfterItsCallers}
use Rattle.journal_terms.specs.Growing.{with_record, with_sight, SuitsAsRecord, SuitsAsSight, WhatSuits}
use Rattle.journal_terms.specs.Laws.{IsWritable, IsWritableEntry, IsWritableSight, HasShortEnd}
use Rattle.journal_terms.specs.Legal.{IsRecordIn, IsSightIn, IsEndIn, IsLegalJournal, layout_of, start_of}
use Rattle.journal_terms.specs.Strict.{structure_of, IsSmall, IsReadable, HasSmallEnd}
use Rattle.journal_terms.specs.Text.{Journal, sights_in}
use Rattle.journal_terms.proofs.Histories.{each_back, ordered_more, ordered_last, histories_grow}

-- ---- records

module _ (j : Journal) (l : IsLegalJournal j) (none : sights_in j.sights ≡ []) (end : State) (h : IsLegalHistory (start_of j) j.records end) (e : Entry Done) where
  record_suits : IsLegalJournal (with_record j e) → SuitsAsRecord j end e
  record_suits g = let n = (histories_grow (start_of j) end j.records h e g.legal.0).0 g.legal.1 in record {
    writable = (each_back IsWritableEntry j.records (e ∷ []) g.writable.records).0;
    within = (each_back (IsRecordIn (layout_of j)) j.records (e ∷ []) g.records).0;
    next = n.0;
    run = (g.legal.0, n.1);
  }

  suits_as_record : SuitsAsRecord j end e → IsLegalJournal (with_record j e)
  suits_as_record s = record {
    writable = record {
      tasks = l.writable.tasks;
      groups = l.writable.groups;
      findings = l.writable.findings;
      records = each_append IsWritableEntry j.records (e ∷ []) l.writable.records (s.writable, tt);
      sights = l.writable.sights;
    };
    sizes = l.sizes;
    records = each_append (IsRecordIn (layout_of j)) j.records (e ∷ []) l.records (s.within, tt);
    sights = l.sights;
    legal = (s.run.0, (histories_grow (start_of j) end j.records h e s.run.0).1 (s.next, s.run.1));
    seen = subst (AreSightsOf 1 (start_of j) (j.records ++ e ∷ [])) (sym none) (record { order = tt; consistent = tt; after = tt; rising = tt });
  }

-- ---- sights

abbrev Rises : Seen Done → Seen Done → Type 0
Rises w v = w.caller ≡ v.caller → w.after ≤ v.after

module _ (j : Journal) (l : IsLegalJournal j) (v : Seen Done) where
  abbrev vs : List (Seen Done)
  vs = sights_in j.sights

  sight_suits : IsLegalJournal (with_sight j v) → SuitsAsSight j v
  sight_suits g = record {
    writable = (each_back IsWritableSight vs (v ∷ []) g.writable.sights).0;
    within = (each_back (IsSightIn (layout_of j)) vs (v ∷ []) g.sights).0;
    order = ordered_last IsSeenBefore vs v g.seen.order;
    rising = ordered_last Rises vs v g.seen.rising;
    consistent = (each_back (IsConsistent 1 (start_of j) j.records) vs (v ∷ []) g.seen.consistent).0;
    after = (each_back (IsAfterItsCallers j.records) vs (v ∷ []) g.seen.after).0;
  }

  suits_as_sight : SuitsAsSight j v → IsLegalJournal (with_sight j v)
  suits_as_sight s = record {
    writable = record {
      tasks = l.writable.tasks;
      groups = l.writable.groups;
      findings = l.writable.findings;
      records = l.writable.records;
      sights = each_append IsWritableSight vs (v ∷ []) l.writable.sights (s.writable, tt);
    };
    sizes = l.sizes;
    records = l.records;
    sights = each_append (IsSightIn (layout_of j)) vs (v ∷ []) l.sights (s.within, tt);
    legal = l.legal;
    seen = record {
      order = ordered_more IsSeenBefore vs v l.seen.order s.order;
      consistent = each_append (IsConsistent 1 (start_of j) j.records) vs (v ∷ []) l.seen.consistent (s.consistent, tt);
      after = each_append (IsAfterItsCallers j.records) vs (v ∷ []) l.seen.after (s.after, tt);
      rising = ordered_more Rises vs v l.seen.rising s.rising;
    };
  }

-- ---- structures that are there have small numbers

structure_small : (n g f : ℕ) (c : Call) → IsCallOf BelowCapacity (layout_by n g f) c → IsSmall (structure_of c)
unfolding layout_by
structure_small n g f (MapGet m k) h = let there = h.there in omega arith
structure_small n g f (MapPut m k v) h = let there = h.0.there in omega arith
structure_small n g f (MapRemove m k) h = let there = h.there in omega arith
structure_small n g f (MapPutIfAbsent m k v) h = let there = h.0.there in omega arith
structure_small n g f (Enqueue q v) h = let there = h.0 in omega arith
structure_small n g f (Dequeue q) h = omega arith
structure_small n g f (QueueLen q) h = omega arith
structure_small n g f (Take p) h = omega arith
structure_small n g f (Give p v) h = let there = h.0 in omega arith
structure_small n g f (Append q v) h = let there = h.0 in omega arith
structure_small n g f (AppendPlaced q v) h = let there = h.0 in omega arith
structure_small n g f (LogRead q i) h = let there = h.0 in omega arith
structure_small n g f (LogLen q) h = omega arith
structure_small n g f (CellGet c) h = omega arith
structure_small n g f (CellPut c v) h = let there = h.0 in omega arith

calls_readable : (n g f : ℕ) (ds : List Done) → Each IsWritable ds → AreCallsOf BelowCapacity (layout_by n g f) ds → Each IsReadable ds
calls_readable n g f [] w h = tt
calls_readable n g f (d ∷ ds) w h = ((w.0, structure_small n g f d.call h.0), calls_readable n g f ds w.1 h.1)

end_small : (n g f : ℕ) (e : SightEnd) → HasShortEnd e → IsEndIn (layout_by n g f) e → HasSmallEnd e
unfolding layout_by
end_small n g f Aborted s h = tt
end_small n g f Refused s h = tt
end_small n g f (Full part values adding) s h = (omega arith, s.1, s.2)
end_small n g f Child s h = tt

pub what_suits : WhatSuits
what_suits = record {
  records = λ j l none end h e. (record_suits j l none end h e, suits_as_record j l none end h e);
  sights = λ j l v. (sight_suits j l v, suits_as_sight j l v);
  records_readable = λ j end e s. record { caller = let low = s.within.caller in omega arith; index = s.writable.index; place = s.writable.place; dones = calls_readable j.tasks j.groups j.findings e.dones s.writable.dones s.within.calls };
  sights_readable = λ j v s. record { caller = let low = s.within.caller in omega arith; after = s.writable.after; place = s.writable.place; end = end_small j.tasks j.groups j.findings v.end s.writable.end s.within.end; dones = calls_readable j.tasks j.groups j.findings v.dones s.writable.dones s.within.calls };
}
