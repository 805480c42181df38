-- The journal of a run as a text: version 1 has the committed records, version 2 the sights behind them, too.
use Rattle.std.specs.Prelude.{ℕ, Bool, true, false, List, [], ◌∷◌, ◌++◌, map, Option, Some, None, codes, decimal}
use Rattle.std.specs.List.{join_with_byte}
use Rattle.serial_terms.specs.declared.call.Call.{Call}
use Rattle.serial_terms.specs.declared.call.Call.TheVariants.{MapGet, MapPut, MapRemove, MapPutIfAbsent, Enqueue, Dequeue, QueueLen, Take, Give, Append, AppendPlaced, LogRead, LogLen, CellGet, CellPut}
use Rattle.serial_terms.specs.declared.call.Reply.{Reply}
use Rattle.serial_terms.specs.declared.call.Reply.TheVariants.{Nothing, Absent, Value, Flag}
use Rattle.serial_terms.specs.declared.call.Done.{Done}
use Rattle.serial_terms.specs.declared.sight.SightEnd.{SightEnd}
use Rattle.serial_terms.specs.declared.sight.SightEnd.TheVariants.{Aborted, Refused, Full, Child}
use Rattle.serial_terms.specs.Entries.{Entry}
use Rattle.serial_terms.specs.Sights.{Seen}

-- the numbers of tasks and groups that the run was opened with, the capacity of its log, the committed records in order, and the
-- sights in order; a journal of version 1 has no word of sights
pub record Journal : Type 0 where
  pub tasks : ℕ
  pub groups : ℕ
  pub findings : ℕ
  pub records : List (Entry Done)
  pub sights : Option (List (Seen Done))

abbrev pub space : ℕ
space = 32

abbrev pub line_feed : ℕ
line_feed = 10

abbrev pub colon : ℕ
colon = 58

abbrev pub semicolon : ℕ
semicolon = 59

-- a reply as a word; a call that has no answer has no word for it
abbrev pub reply_word : Reply → List ℕ
reply_word Nothing = []
reply_word Absent = codes "-"
reply_word (Value v) = decimal v
reply_word (Flag true) = codes "yes"
reply_word (Flag false) = codes "no"

abbrev pub call_name : Call → List ℕ
call_name (MapGet m k) = codes "get"
call_name (MapPut m k v) = codes "put"
call_name (MapRemove m k) = codes "remove"
call_name (MapPutIfAbsent m k v) = codes "putnew"
call_name (Enqueue q v) = codes "enq"
call_name (Dequeue q) = codes "deq"
call_name (QueueLen q) = codes "qlen"
call_name (Take p) = codes "take"
call_name (Give p v) = codes "give"
call_name (Append l v) = codes "app"
call_name (AppendPlaced l v) = codes "appat"
call_name (LogRead l i) = codes "read"
call_name (LogLen l) = codes "llen"
call_name (CellGet c) = codes "cget"
call_name (CellPut c v) = codes "cput"

-- what stands after a call's name: its numbers, and its reply where it has one
abbrev pub call_words : Call → Reply → List (List ℕ)
call_words (MapGet m k) r = decimal m ∷ decimal k ∷ reply_word r ∷ []
call_words (MapPut m k v) r = decimal m ∷ decimal k ∷ decimal v ∷ []
call_words (MapRemove m k) r = decimal m ∷ decimal k ∷ []
call_words (MapPutIfAbsent m k v) r = decimal m ∷ decimal k ∷ decimal v ∷ reply_word r ∷ []
call_words (Enqueue q v) r = decimal q ∷ decimal v ∷ []
call_words (Dequeue q) r = decimal q ∷ reply_word r ∷ []
call_words (QueueLen q) r = decimal q ∷ reply_word r ∷ []
call_words (Take p) r = decimal p ∷ reply_word r ∷ []
call_words (Give p v) r = decimal p ∷ decimal v ∷ reply_word r ∷ []
call_words (Append l v) r = decimal l ∷ decimal v ∷ []
call_words (AppendPlaced l v) r = decimal l ∷ decimal v ∷ reply_word r ∷ []
call_words (LogRead l i) r = decimal l ∷ decimal i ∷ reply_word r ∷ []
call_words (LogLen l) r = decimal l ∷ reply_word r ∷ []
call_words (CellGet c) r = decimal c ∷ reply_word r ∷ []
call_words (CellPut c v) r = decimal c ∷ decimal v ∷ []

-- a plus before a call that was made while a child was open
abbrev pub mark : Bool → List ℕ
mark true = codes "+"
mark false = []

-- a call with its reply; one space between two words
abbrev pub done_text : Done → List ℕ
done_text d = join_with_byte space ((mark d.child ++ call_name d.call) ∷ call_words d.call d.reply)

-- the calls of a record, a space before each and a semicolon between two
abbrev pub calls_text : List Done → List ℕ
calls_text dones = join_with_byte semicolon (map (λ d. space ∷ done_text d) dones)

abbrev pub writer_word : Bool → List ℕ
writer_word true = codes "w"
writer_word false = codes "r"

-- a record: its place, whether it is a writer's, its caller and index, and after a colon its calls
abbrev pub record_text : Entry Done → List ℕ
record_text e = join_with_byte space (codes "t" ∷ decimal e.place ∷ writer_word e.writer ∷ decimal e.caller ∷ decimal e.index ∷ []) ++ colon ∷ calls_text e.dones

-- how a sight ended; a refusal for want of capacity with its part, the part's length and how many were to be added
abbrev pub end_words : SightEnd → List (List ℕ)
end_words Aborted = codes "a" ∷ []
end_words Refused = codes "c" ∷ []
end_words (Full part values adding) = codes "f" ∷ decimal part ∷ decimal values ∷ decimal adding ∷ []
end_words Child = codes "k" ∷ []

-- a sight: its place, how it ended, its caller and how many records that had before, and after a colon its calls
abbrev pub sight_text : Seen Done → List ℕ
sight_text v = join_with_byte space (codes "s" ∷ decimal v.place ∷ (end_words v.end ++ decimal v.caller ∷ decimal v.after ∷ [])) ++ colon ∷ calls_text v.dones

abbrev pub title : Option (List (Seen Done)) → List ℕ
title None = codes "journal 1"
title (Some vs) = codes "journal 2"

abbrev pub sights_in : Option (List (Seen Done)) → List (Seen Done)
sights_in None = []
sights_in (Some vs) = vs

abbrev pub sizes_text : ℕ → ℕ → ℕ → List ℕ
sizes_text tasks groups findings = join_with_byte space (codes "open" ∷ decimal tasks ∷ decimal groups ∷ decimal findings ∷ [])

abbrev pub open_text : Journal → List ℕ
open_text j = sizes_text j.tasks j.groups j.findings

abbrev pub journal_lines : Journal → List (List ℕ)
journal_lines j = title j.sights ∷ open_text j ∷ (map record_text j.records ++ (map sight_text (sights_in j.sights) ++ codes "end" ∷ []))

-- all lines but the last
abbrev pub begun_lines : Journal → List (List ℕ)
begun_lines j = title j.sights ∷ open_text j ∷ (map record_text j.records ++ map sight_text (sights_in j.sights))

-- each line with a line feed behind it
abbrev pub lines_text : List (List ℕ) → List ℕ
lines_text [] = []
lines_text (line ∷ lines) = line ++ line_feed ∷ lines_text lines

abbrev pub journal_text : Journal → List ℕ
journal_text j = lines_text (journal_lines j)
