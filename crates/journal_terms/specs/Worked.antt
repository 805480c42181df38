-- Worked journals: the runs of one worker on a whole frame, and on a datagram of two fragments of which the last comes
-- first, in version 1; the run of two callers of whom one commits again, in version 2; and journals with each form of each call and
-- of each sight.
use Rattle.std.specs.Prelude.{◌≡◌, ℕ, true, false, List, [], ◌∷◌, Some, None, codes}
use Rattle.serial_terms.specs.declared.call.Call.TheVariants.{MapGet, MapPut, MapRemove, MapPutIfAbsent, Enqueue, Dequeue, QueueLen, Take, Give, Append, AppendPlaced, LogRead, LogLen, CellGet, CellPut}
use Rattle.serial_terms.specs.declared.call.Reply.TheVariants.{Nothing, Absent, Value, Flag}
use Rattle.serial_terms.specs.Serial.{outside, in_child}
use Rattle.serial_terms.specs.declared.sight.SightEnd.TheVariants.{Aborted, Refused, Full, Child}
use Rattle.serial_terms.specs.Worked.{writes, reads, sight, one_frame_records, two_fragments_records}
use Rattle.journal_terms.specs.Reading.{read_journal}
use Rattle.journal_terms.specs.Text.{Journal, journal_text, lines_text}
use Rattle.journal_terms.specs.Laws.{IsWritableJournal, IsJournalText}

abbrev pub one_frame : Journal
one_frame = record { tasks = 1; groups = 0; findings = 65536; records = one_frame_records; sights = None }

abbrev pub one_frame_lines : List (List ℕ)
one_frame_lines =
    codes "journal 1" ∷
    codes "open 1 0 65536" ∷
    codes "t 0 r 0 0: deq 0 -" ∷
    codes "t 1 w 0 1: take 0 0; +enq 0 0" ∷
    codes "t 2 w 0 2: deq 0 0; +appat 0 8 0" ∷
    codes "t 2 r 0 3: deq 0 -" ∷
    codes "t 2 r 0 4: take 0 -" ∷
    codes "t 2 r 0 5: deq 0 -" ∷
    codes "t 2 r 0 6: take 0 -" ∷
    codes "end" ∷ []

abbrev pub two_fragments : Journal
two_fragments = record { tasks = 2; groups = 1; findings = 65536; records = two_fragments_records; sights = None }

abbrev pub two_fragments_lines : List (List ℕ)
two_fragments_lines =
    codes "journal 1" ∷
    codes "open 2 1 65536" ∷
    codes "t 0 r 0 0: deq 0 -" ∷
    codes "t 1 w 0 1: take 0 0; +get 0 0 -; +put 0 0 262156" ∷
    codes "t 1 r 0 2: deq 0 -" ∷
    codes "t 2 w 0 3: take 0 1; +get 0 0 262156; +put 0 0 4295753740; +put 1 1 0; +enq 0 1" ∷
    codes "t 3 w 0 4: deq 0 1; get 0 0 4295753740; remove 0 0; get 1 1 0; remove 1 1; get 1 0 -; +appat 0 6 0" ∷
    codes "t 3 r 0 5: deq 0 -" ∷
    codes "t 3 r 0 6: take 0 -" ∷
    codes "t 3 r 0 7: deq 0 -" ∷
    codes "t 3 r 0 8: take 0 -" ∷
    codes "end" ∷ []

abbrev pub each_call : Journal
each_call = record {
  tasks = 0;
  groups = 0;
  findings = 1;
  records =
      reads 15 0 0 [] ∷
      writes 0 12 7 (outside (MapGet 1 2) (Value 3) ∷ outside (MapGet 1 2) Absent ∷ outside (MapPut 1 2 3) Nothing ∷ outside (MapRemove 1 2) Nothing ∷ outside (MapPutIfAbsent 1 2 3) (Value 4) ∷ outside (MapPutIfAbsent 1 2 3) Absent ∷ []) ∷
      writes 0 13 8 (outside (Enqueue 1 2) Nothing ∷ outside (Dequeue 1) (Value 2) ∷ outside (Dequeue 1) Absent ∷ outside (QueueLen 1) (Value 2) ∷ outside (Take 1) (Value 2) ∷ outside (Take 1) Absent ∷ outside (Give 1 2) (Flag true) ∷ outside (Give 1 2) (Flag false) ∷ []) ∷
      writes 0 14 9 (in_child (Append 1 2) Nothing ∷ in_child (AppendPlaced 1 2) (Value 3) ∷ outside (LogRead 1 2) (Value 3) ∷ outside (LogRead 1 2) Absent ∷ outside (LogLen 1) (Value 2) ∷ outside (CellGet 1) (Value 18446744073709551615) ∷ outside (CellPut 1 2) Nothing ∷ []) ∷ [];
  sights = None;
}

abbrev pub each_call_lines : List (List ℕ)
each_call_lines =
    codes "journal 1" ∷
    codes "open 0 0 1" ∷
    codes "t 0 r 15 0:" ∷
    codes "t 7 w 0 12: get 1 2 3; get 1 2 -; put 1 2 3; remove 1 2; putnew 1 2 3 4; putnew 1 2 3 -" ∷
    codes "t 8 w 0 13: enq 1 2; deq 1 2; deq 1 -; qlen 1 2; take 1 2; take 1 -; give 1 2 yes; give 1 2 no" ∷
    codes "t 9 w 0 14: +app 1 2; +appat 1 2 3; read 1 2 3; read 1 2 -; llen 1 2; cget 1 18446744073709551615; cput 1 2" ∷
    codes "end" ∷ []

abbrev pub committed_again : Journal
committed_again = record {
  tasks = 0;
  groups = 0;
  findings = 1;
  records = writes 1 0 1 (outside (MapPut 0 7 70) Nothing ∷ []) ∷ writes 0 0 3 (outside (MapGet 0 7) (Value 70) ∷ outside (MapPut 0 8 80) Nothing ∷ []) ∷ [];
  sights = Some (sight 0 0 0 Refused (outside (MapGet 0 7) Absent ∷ outside (MapPut 0 8 80) Nothing ∷ []) ∷ []);
}

abbrev pub committed_again_lines : List (List ℕ)
committed_again_lines =
    codes "journal 2" ∷
    codes "open 0 0 1" ∷
    codes "t 1 w 1 0: put 0 7 70" ∷
    codes "t 3 w 0 0: get 0 7 70; put 0 8 80" ∷
    codes "s 0 c 0 0: get 0 7 -; put 0 8 80" ∷
    codes "end" ∷ []

abbrev pub each_sight : Journal
each_sight = record {
  tasks = 0;
  groups = 0;
  findings = 1;
  records = [];
  sights = Some (sight 2 3 4 Aborted [] ∷ sight 2 3 4 Refused [] ∷ sight 2 3 4 (Full 5 6 7) (outside (Append 0 2) Nothing ∷ []) ∷ sight 15 0 4 Child (in_child (Take 0) Absent ∷ []) ∷ []);
}

abbrev pub each_sight_lines : List (List ℕ)
each_sight_lines =
    codes "journal 2" ∷
    codes "open 0 0 1" ∷
    codes "s 4 a 2 3:" ∷
    codes "s 4 c 2 3:" ∷
    codes "s 4 f 5 6 7 2 3: app 0 2" ∷
    codes "s 4 k 15 0: +take 0 -" ∷
    codes "end" ∷ []

-- the texts of the worked journals are these lines, and the laws speak of those with each call and each sight
pub record WorkedJournals : Type 0 where
  pub whole_frame : journal_text one_frame ≡ lines_text one_frame_lines
  pub fragments : journal_text two_fragments ≡ lines_text two_fragments_lines
  pub calls : journal_text each_call ≡ lines_text each_call_lines
  pub writable : IsWritableJournal each_call
  pub again : journal_text committed_again ≡ lines_text committed_again_lines
  pub sights : journal_text each_sight ≡ lines_text each_sight_lines
  pub sights_writable : IsWritableJournal each_sight

-- texts that are no journal's: some that the reading takes for one all the same, and some that it doesn't
abbrev pub empty : ℕ → Journal
empty tasks = record { tasks = tasks; groups = 0; findings = 7; records = []; sights = None }

abbrev pub with_zero : List ℕ
with_zero = lines_text (codes "journal 1" ∷ codes "open 01 0 7" ∷ codes "end" ∷ [])

abbrev pub with_letter : List ℕ
with_letter = lines_text (codes "journal 1" ∷ codes "open 0 0 7" ∷ codes "t 0 read 0 0:" ∷ codes "end" ∷ [])

abbrev pub with_answer : List ℕ
with_answer = lines_text (codes "journal 1" ∷ codes "open 0 0 7" ∷ codes "t 0 r 0 0: give 0 1 maybe" ∷ codes "end" ∷ [])

abbrev pub with_end_word : List ℕ
with_end_word = lines_text (codes "journal 2" ∷ codes "open 0 0 7" ∷ codes "s 0 child 0 0:" ∷ codes "end" ∷ [])

pub record WrongJournals : Type 0 where
  pub zero_read : read_journal with_zero ≡ Some (empty 1)
  pub zero : IsJournalText with_zero → ⊥
  pub letter_read : read_journal with_letter ≡ Some record { tasks = 0; groups = 0; findings = 7; records = reads 0 0 0 [] ∷ []; sights = None }
  pub letter : IsJournalText with_letter → ⊥
  pub answer_read : read_journal with_answer ≡ Some record { tasks = 0; groups = 0; findings = 7; records = reads 0 0 0 (outside (Give 0 1) (Flag false) ∷ []) ∷ []; sights = None }
  pub answer : IsJournalText with_answer → ⊥
  pub no_end : IsJournalText (lines_text (codes "journal 1" ∷ codes "open 0 0 7" ∷ [])) → ⊥
  pub behind_end : IsJournalText (lines_text (codes "journal 1" ∷ codes "open 0 0 7" ∷ codes "end" ∷ codes "end" ∷ [])) → ⊥
  pub end_word_read : read_journal with_end_word ≡ Some record { tasks = 0; groups = 0; findings = 7; records = []; sights = Some (sight 0 0 0 Child [] ∷ []) }
  pub end_word : IsJournalText with_end_word → ⊥
  pub sight_in_first : IsJournalText (lines_text (codes "journal 1" ∷ codes "open 0 0 7" ∷ codes "s 0 a 0 0:" ∷ codes "end" ∷ [])) → ⊥
  pub record_behind_sight : IsJournalText (lines_text (codes "journal 2" ∷ codes "open 0 0 7" ∷ codes "s 0 a 0 0:" ∷ codes "t 0 r 0 0:" ∷ codes "end" ∷ [])) → ⊥
  pub full_alone : IsJournalText (lines_text (codes "journal 2" ∷ codes "open 0 0 7" ∷ codes "s 0 f 1 2 0 0:" ∷ codes "end" ∷ [])) → ⊥
  pub other_version : IsJournalText (lines_text (codes "journal 3" ∷ codes "open 0 0 7" ∷ codes "end" ∷ [])) → ⊥
  pub two_spaces : IsJournalText (lines_text (codes "journal 1" ∷ codes "open 0 0  7" ∷ codes "end" ∷ [])) → ⊥
