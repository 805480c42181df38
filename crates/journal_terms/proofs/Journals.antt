-- A journal's text reads back as the journal.
use Rattle.std.specs.Prelude.{Option}
use Rattle.std.proofs.lemmas.Bool.{cond-false}
use Rattle.std.proofs.Common.{append_assoc, ◌≡◌, ℕ, false, List, [], ◌∷◌, ◌++◌, map, sym, refl, ap, ◌∙◌, Some, None, codes, decimal}
use Rattle.serial_terms.specs.declared.call.Done.{Done}
use Rattle.serial_terms.specs.Entries.{Entry, Each}
use Rattle.serial_terms.specs.Sights.{Seen}
use Rattle.journal_terms.specs.Text.{Journal, journal_text, line_feed, record_text, sight_text, title, sights_in, open_text, journal_lines}
use Rattle.journal_terms.specs.Reading.{cut_at, read_record, is_record_line, with_record, without_records, read_records, with_sight, read_first, read_second, read_open, read_lines, read_journal}
use Rattle.journal_terms.specs.Laws.{IsWritableEntry, IsWritableSight, IsWritableJournal, IsJournalText, TextReadsBack, OneTextOneJournal, JournalTextsAreRead}
use Rattle.journal_terms.proofs.Cutting.{Lacks, cut_lines, lacks_join, lacks_plain}
use Rattle.journal_terms.proofs.Words.{IsWord, plain_word, decimal_word, number_back}
use Rattle.journal_terms.proofs.Heads.{head_words, head_feeds}
use Rattle.journal_terms.proofs.Records.{record_back, record_feeds, sight_back, sight_feeds}

-- behind the records stand lines of which the first one is no record's
abbrev pub BeginsOther : List (List ℕ) → Type 0
BeginsOther [] = Unit {0}
BeginsOther (line ∷ lines) = is_record_line line ≡ false

module _ {A : Type 0} (read_tail : List (List ℕ) → Option A) (tail : List (List ℕ)) (a : A) where
  tail_back : BeginsOther tail → read_tail tail ≡ Some a → read_records read_tail tail ≡ Some ([], a)
  tail_back o e = by_case tail o e
    where
      by_case : (lines : List (List ℕ)) → BeginsOther lines → read_tail lines ≡ Some a → read_records read_tail lines ≡ Some ([], a)
      by_case [] p q = ap without_records q
      by_case (line ∷ lines) p q = cond-false (is_record_line line) (with_record (read_record line) (read_records read_tail lines)) (without_records (read_tail (line ∷ lines))) p ∙ ap without_records q

  records_back : BeginsOther tail → read_tail tail ≡ Some a → (es : List (Entry Done)) → Each IsWritableEntry es → read_records read_tail (map record_text es ++ tail) ≡ Some (es, a)
  records_back o q [] w = tail_back o q
  records_back o q (e ∷ es) w = λ i. with_record (record_back e w.0 i) (records_back o q es w.1 i)

-- what stands behind the records, and its reader
abbrev behind : Option (List (Seen Done)) → List (List ℕ)
behind ss = map sight_text (sights_in ss) ++ codes "end" ∷ []

abbrev read_behind : Option (List (Seen Done)) → List (List ℕ) → Option (Option (List (Seen Done)))
read_behind None = read_first
read_behind (Some vs) = read_second

sights_back : (vs : List (Seen Done)) → Each IsWritableSight vs → read_second ((map sight_text vs ++ codes "end" ∷ []) ++ [] ∷ []) ≡ Some (Some vs)
sights_back [] w = refl
sights_back (v ∷ vs) w = λ i. with_sight (sight_back v w.0 i) (sights_back vs w.1 i)

behind_back : (ss : Option (List (Seen Done))) → Each IsWritableSight (sights_in ss) → read_behind ss (behind ss ++ [] ∷ []) ≡ Some ss
behind_back None w = refl
behind_back (Some vs) w = sights_back vs w

begins_other : (ss : Option (List (Seen Done))) → BeginsOther (behind ss ++ [] ∷ [])
begins_other None = refl
begins_other (Some []) = refl
begins_other (Some (v ∷ vs)) = refl

title_back : (ss : Option (List (Seen Done))) (opened : List ℕ) (lines : List (List ℕ)) → read_lines (title ss ∷ opened ∷ lines) ≡ read_open (cut_at 32 opened) (read_records (read_behind ss) lines)
title_back None opened lines = refl
title_back (Some vs) opened lines = refl

abbrev open_words : Journal → List (List ℕ)
open_words j = decimal j.tasks ∷ decimal j.groups ∷ decimal j.findings ∷ []

open_are : (j : Journal) → IsWritableJournal j → Each IsWord (codes "open" ∷ open_words j)
open_are j w = (plain_word (codes "open") refl, (decimal_word j.tasks w.tasks, (decimal_word j.groups w.groups, (decimal_word j.findings w.findings, tt))))

-- ---- no line has a line feed in it

sights_lack : (vs : List (Seen Done)) → Each IsWritableSight vs → Each (Lacks line_feed) (map sight_text vs ++ codes "end" ∷ [])
sights_lack [] w = (lacks_plain line_feed refl (codes "end") refl, tt)
sights_lack (v ∷ vs) w = (sight_feeds v w.0, sights_lack vs w.1)

records_lack : (es : List (Entry Done)) → Each IsWritableEntry es → (tail : List (List ℕ)) → Each (Lacks line_feed) tail → Each (Lacks line_feed) (map record_text es ++ tail)
records_lack [] w tail t = t
records_lack (e ∷ es) w tail t = (record_feeds e w.0, records_lack es w.1 tail t)

title_lacks : (ss : Option (List (Seen Done))) → Lacks line_feed (title ss)
title_lacks None = lacks_join line_feed 32 refl (codes "journal" ∷ codes "1" ∷ []) (lacks_plain line_feed refl (codes "journal") refl, (lacks_plain line_feed refl (codes "1") refl, tt))
title_lacks (Some vs) = lacks_join line_feed 32 refl (codes "journal" ∷ codes "2" ∷ []) (lacks_plain line_feed refl (codes "journal") refl, (lacks_plain line_feed refl (codes "2") refl, tt))

pub lines_lack : (j : Journal) → IsWritableJournal j → Each (Lacks line_feed) (journal_lines j)
lines_lack j w = (title_lacks j.sights, (head_feeds (codes "open") (open_words j) (open_are j w), records_lack j.records w.records (behind j.sights) (sights_lack (sights_in j.sights) w.sights)))

-- ---- the whole

pub reads_back : TextReadsBack
reads_back j w = let back : read_records (read_behind j.sights) ((map record_text j.records ++ behind j.sights) ++ [] ∷ []) ≡ Some (j.records, j.sights)
    = ap (read_records (read_behind j.sights)) (append_assoc (map record_text j.records) (behind j.sights) ([] ∷ []))
    ∙ records_back (read_behind j.sights) (behind j.sights ++ [] ∷ []) j.sights (begins_other j.sights) (behind_back j.sights w.sights) j.records w.records in
    ap read_lines (cut_lines (journal_lines j) (lines_lack j w)) ∙ (title_back j.sights (open_text j) ((map record_text j.records ++ behind j.sights) ++ [] ∷ [])
    ∙ ((λ i. read_open (head_words (codes "open") (open_words j) (open_are j w) i) (back i))
    ∙ (λ i. Some record { tasks = number_back j.tasks w.tasks i; groups = number_back j.groups w.groups i; findings = number_back j.findings w.findings i; records = j.records; sights = j.sights })))

pub one_text : OneTextOneJournal
one_text j k w x e = let same : Some j ≡ Some k = sym (reads_back j w) ∙ (ap read_journal e ∙ reads_back k x) in cc

pub are_read : JournalTextsAreRead
are_read text = ((λ t. (t.0, ap read_journal (sym t.2) ∙ reads_back t.0 t.1, t.1, t.2)), (λ t. (t.0, t.2, t.3)))

-- a text that reads as a journal with another text, or as none, is no journal's
pub other_text : (text : List ℕ) (j : Journal) → read_journal text ≡ Some j → (journal_text j ≡ text → ⊥) → IsJournalText text → ⊥
other_text text j r n t = let e : Some t.0 ≡ Some j = sym (ap read_journal (sym t.2) ∙ reads_back t.0 t.1) ∙ r in let same : t.0 ≡ j = cc in n (ap journal_text (sym same) ∙ t.2)

pub not_read : (text : List ℕ) → read_journal text ≡ None → IsJournalText text → ⊥
not_read text r t = let e : Some t.0 ≡ None = sym (ap read_journal (sym t.2) ∙ reads_back t.0 t.1) ∙ r in absurd (cc)
