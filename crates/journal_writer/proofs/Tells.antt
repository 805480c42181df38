-- What a journal's text tells.
use Rattle.std.proofs.Common.{◌≡◌, ℕ, List, [], ◌∷◌, get_or, Some, refl, ◌∙◌, ap, arith}
use Rattle.serial_terms.specs.declared.call.Done.{Done}
use Rattle.serial_terms.specs.declared.committed.Record.{Record}
use Rattle.serial_terms.specs.declared.sight.Sight.{Sight}
use Rattle.serial_terms.specs.Entries.{Entry}
use Rattle.serial_terms.specs.Histories.{entry_of, entries_of}
use Rattle.serial_terms.specs.Sights.{Seen, seen_of, all_seen_of}
use Rattle.journal_terms.specs.Laws.{IsWritableJournal, OneTextOneJournal}
use Rattle.journal_terms.specs.Text.{Journal}
use Rattle.journal_writer.specs.declared.journal.Format.TheVariants.{Records, Sights}
use Rattle.journal_writer.specs.declared.journal.Sizes.{Sizes}
use Rattle.journal_writer.specs.Journals.{journal_of}
use Rattle.journal_writer.specs.Laws.{AreWritable, TextsTell}

abbrev record_by : Entry Done → Record
record_by e = record { caller = e.caller; index = e.index; place = e.place; writer = e.writer; dones = e.dones }

records_same : (rs es : List Record) → entries_of rs ≡ entries_of es → rs ≡ es
records_same [] [] are = refl
records_same [] (e ∷ es) are = absurd (cc)
records_same (r ∷ rs) [] are = absurd (cc)
records_same (r ∷ rs) (e ∷ es) are =
    let first : entry_of r ≡ entry_of e = cc in
    let others : entries_of rs ≡ entries_of es = cc in
    let here : r ≡ e = ap record_by first in
    ap (λ (x : Record). x ∷ rs) here ∙ ap (λ (l : List Record). e ∷ l) (records_same rs es others)

abbrev sight_by : Seen Done → Sight
sight_by v = record { caller = v.caller; after = v.after; place = v.place; end = v.end; dones = v.dones }

sights_same : (vs ws : List Sight) → all_seen_of vs ≡ all_seen_of ws → vs ≡ ws
sights_same [] [] are = refl
sights_same [] (w ∷ ws) are = absurd (cc)
sights_same (v ∷ vs) [] are = absurd (cc)
sights_same (v ∷ vs) (w ∷ ws) are =
    let first : seen_of v ≡ seen_of w = cc in
    let others : all_seen_of vs ≡ all_seen_of ws = cc in
    let here : v ≡ w = ap sight_by first in
    ap (λ (x : Sight). x ∷ vs) here ∙ ap (λ (l : List Sight). w ∷ l) (sights_same vs ws others)

-- a journal of version 1 can be written where that of version 2 can
without : (s : Sizes) (rs : List Record) (vs : List Sight) → AreWritable s rs vs → IsWritableJournal (journal_of s rs vs Records)
without s rs vs w = record { tasks = w.tasks; groups = w.groups; findings = w.findings; records = w.records; sights = tt }

abbrev sizes_of : Journal → Sizes
sizes_of j = record { tasks = j.tasks; groups = j.groups; findings = j.findings }

some_same : (vs ws : List (Seen Done)) → Some vs ≡ Some ws → vs ≡ ws
some_same vs ws are = cc

pub tells : OneTextOneJournal → TextsTell
tells law = record {
  by_records = λ s t rs es vs ws w x one.
      let same : journal_of s rs vs Records ≡ journal_of t es ws Records = law (journal_of s rs vs Records) (journal_of t es ws Records) (without s rs vs w) (without t es ws x) one in
      (ap sizes_of same, records_same rs es (ap (λ (j : Journal). j.records) same));
  by_sights = λ s t rs es vs ws w x one.
      let same : journal_of s rs vs Sights ≡ journal_of t es ws Sights = law (journal_of s rs vs Sights) (journal_of t es ws Sights) w x one in
      (ap sizes_of same, records_same rs es (ap (λ (j : Journal). j.records) same), sights_same vs ws (some_same (all_seen_of vs) (all_seen_of ws) (ap (λ (j : Journal). j.sights) same)));
  apart = λ s t rs es vs ws one.
      let digit : 49 ≡ 50 = ap (λ (l : List ℕ). get_or l 8 0) one in
      omega (arith, digit);
}
