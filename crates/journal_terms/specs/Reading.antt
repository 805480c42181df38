-- A reading of the journal's text: lines are cut at line feeds, a record at its colon, its calls at semicolons, and words at spaces.
--
-- It gives each journal back from its text, and is lenient about texts that are no journal's: a word where a number stands is taken for
-- one whatever its bytes are and however many zeros it begins with, each word but `yes` says that an item wasn't added, each but
-- `w` that a record is read-only, and each but `a` and `c` that a child was dropped. So whether a text is a journal's is said by
-- the text of the journal that was read (Laws.antt).
use Rattle.std.specs.Prelude.{ℕ, Bool, true, false, ◌==◌, ◌&&◌, if◌then◌else◌, List, [], ◌∷◌, Option, Some, None, codes}
use Rattle.std.specs.Str.{bytes_eq}
use Rattle.std.specs.Str.Parse.{digits_value}
use Rattle.std.specs.List.{slice_split}
use Rattle.serial_terms.specs.declared.call.Call.{Call}
use Rattle.serial_terms.specs.declared.call.Call.TheVariants.{MapGet, MapPut, MapRemove, MapPutIfAbsent, Enqueue, Dequeue, QueueLen, Take, Give, Append, AppendPlaced, LogRead, LogLen, CellGet, CellPut}
use Rattle.serial_terms.specs.declared.call.Reply.{Reply}
use Rattle.serial_terms.specs.declared.call.Reply.TheVariants.{Nothing, Absent, Value, Flag}
use Rattle.serial_terms.specs.declared.call.Done.{Done}
use Rattle.serial_terms.specs.declared.sight.SightEnd.{SightEnd}
use Rattle.serial_terms.specs.declared.sight.SightEnd.TheVariants.{Aborted, Refused, Full, Child}
use Rattle.serial_terms.specs.Entries.{Entry}
use Rattle.serial_terms.specs.Sights.{Seen}
use Rattle.journal_terms.specs.Text.{Journal, space, line_feed, colon, semicolon}

abbrev pub cut_at : ℕ → List ℕ → List (List ℕ)
cut_at c bytes = slice_split (λ b. b == c) bytes

abbrev pub number : List ℕ → ℕ
number word = digits_value 10 word

abbrev pub value_or_absent : List ℕ → Reply
value_or_absent word = if bytes_eq word (codes "-") then Absent else Value (number word)

-- the call of this name with these words behind it, and its reply
abbrev pub read_two : List ℕ → List ℕ → List ℕ → Option (Call × Reply)
read_two name a b = if bytes_eq name (codes "remove") then Some (MapRemove (number a) (number b), Nothing)
    else if bytes_eq name (codes "enq") then Some (Enqueue (number a) (number b), Nothing)
    else if bytes_eq name (codes "deq") then Some (Dequeue (number a), value_or_absent b)
    else if bytes_eq name (codes "qlen") then Some (QueueLen (number a), Value (number b))
    else if bytes_eq name (codes "take") then Some (Take (number a), value_or_absent b)
    else if bytes_eq name (codes "app") then Some (Append (number a) (number b), Nothing)
    else if bytes_eq name (codes "llen") then Some (LogLen (number a), Value (number b))
    else if bytes_eq name (codes "cget") then Some (CellGet (number a), Value (number b))
    else if bytes_eq name (codes "cput") then Some (CellPut (number a) (number b), Nothing)
    else None

abbrev pub read_three : List ℕ → List ℕ → List ℕ → List ℕ → Option (Call × Reply)
read_three name a b c = if bytes_eq name (codes "get") then Some (MapGet (number a) (number b), value_or_absent c)
    else if bytes_eq name (codes "put") then Some (MapPut (number a) (number b) (number c), Nothing)
    else if bytes_eq name (codes "give") then Some (Give (number a) (number b), Flag (bytes_eq c (codes "yes")))
    else if bytes_eq name (codes "appat") then Some (AppendPlaced (number a) (number b), Value (number c))
    else if bytes_eq name (codes "read") then Some (LogRead (number a) (number b), value_or_absent c)
    else None

abbrev pub read_four : List ℕ → List ℕ → List ℕ → List ℕ → List ℕ → Option (Call × Reply)
read_four name a b c d = if bytes_eq name (codes "putnew") then Some (MapPutIfAbsent (number a) (number b) (number c), value_or_absent d) else None

abbrev pub read_call : List ℕ → List (List ℕ) → Option (Call × Reply)
read_call name (a ∷ b ∷ []) = read_two name a b
read_call name (a ∷ b ∷ c ∷ []) = read_three name a b c
read_call name (a ∷ b ∷ c ∷ d ∷ []) = read_four name a b c d
read_call name _ = None

abbrev pub as_done : Bool → Option (Call × Reply) → Option Done
as_done child None = None
as_done child (Some p) = Some record { call = p.0; reply = p.1; child = child }

-- a plus before the name says that the call was made while a child was open
abbrev pub read_marked : List ℕ → List (List ℕ) → Option Done
read_marked [] words = None
read_marked (b ∷ bs) words = if b == 43 then as_done true (read_call bs words) else as_done false (read_call (b ∷ bs) words)

-- the words of a call, before which stands a space
abbrev pub read_done : List (List ℕ) → Option Done
read_done ([] ∷ name ∷ words) = read_marked name words
read_done _ = None

abbrev pub also : {A : Type 0} → Option A → Option (List A) → Option (List A)
also (Some x) (Some xs) = Some (x ∷ xs)
also _ _ = None

abbrev pub read_dones : List (List ℕ) → Option (List Done)
read_dones [] = Some []
read_dones (piece ∷ pieces) = also (read_done (cut_at space piece)) (read_dones pieces)

-- what stands after a record's colon: nothing where it has no calls
abbrev pub read_calls : List ℕ → Option (List Done)
read_calls [] = Some []
read_calls (b ∷ bs) = read_dones (cut_at semicolon (b ∷ bs))

abbrev pub read_head : List (List ℕ) → Option (List Done) → Option (Entry Done)
read_head (t ∷ place ∷ writer ∷ caller ∷ index ∷ []) (Some dones) = if bytes_eq t (codes "t") then Some record { caller = number caller; index = number index; place = number place; writer = bytes_eq writer (codes "w"); dones = dones } else None
read_head _ _ = None

abbrev pub read_parts : List (List ℕ) → Option (Entry Done)
read_parts (head ∷ calls ∷ []) = read_head (cut_at space head) (read_calls calls)
read_parts _ = None

abbrev pub read_record : List ℕ → Option (Entry Done)
read_record line = read_parts (cut_at colon line)

-- a record's line is one that begins with the letter t
abbrev pub is_record_line : List ℕ → Bool
is_record_line [] = false
is_record_line (b ∷ bs) = b == 116

-- ---- records, and what a reader of the lines behind them gives

module _ {A : Type 0} where
  abbrev pub with_record : Option (Entry Done) → Option (List (Entry Done) × A) → Option (List (Entry Done) × A)
  with_record (Some e) (Some p) = Some (e ∷ p.0, p.1)
  with_record _ _ = None

  abbrev pub without_records : Option A → Option (List (Entry Done) × A)
  without_records (Some a) = Some ([], a)
  without_records None = None

  abbrev pub read_records : (List (List ℕ) → Option A) → List (List ℕ) → Option (List (Entry Done) × A)
  read_records read_tail [] = without_records (read_tail [])
  read_records read_tail (line ∷ lines) = if is_record_line line then with_record (read_record line) (read_records read_tail lines) else without_records (read_tail (line ∷ lines))

-- ---- sights

abbrev pub ended : List ℕ → SightEnd
ended word = if bytes_eq word (codes "a") then Aborted else if bytes_eq word (codes "c") then Refused else Child

abbrev pub read_sight_head : List (List ℕ) → Option (List Done) → Option (Seen Done)
read_sight_head (s ∷ place ∷ end ∷ caller ∷ after ∷ []) (Some dones) = if bytes_eq s (codes "s") then Some record { caller = number caller; after = number after; place = number place; end = ended end; dones = dones } else None
read_sight_head (s ∷ place ∷ end ∷ part ∷ values ∷ adding ∷ caller ∷ after ∷ []) (Some dones) = if bytes_eq s (codes "s") && bytes_eq end (codes "f") then Some record { caller = number caller; after = number after; place = number place; end = Full (number part) (number values) (number adding); dones = dones } else None
read_sight_head _ _ = None

abbrev pub read_sight_parts : List (List ℕ) → Option (Seen Done)
read_sight_parts (head ∷ calls ∷ []) = read_sight_head (cut_at space head) (read_calls calls)
read_sight_parts _ = None

abbrev pub read_sight : List ℕ → Option (Seen Done)
read_sight line = read_sight_parts (cut_at colon line)

-- a sight's line is one that begins with the letter s
abbrev pub is_sight_line : List ℕ → Bool
is_sight_line [] = false
is_sight_line (b ∷ bs) = b == 115

abbrev pub with_sight : Option (Seen Done) → Option (Option (List (Seen Done))) → Option (Option (List (Seen Done)))
with_sight (Some v) (Some (Some vs)) = Some (Some (v ∷ vs))
with_sight _ _ = None

-- the line `end` stands behind the records and sights, and nothing behind it
abbrev pub is_end : List (List ℕ) → Bool
is_end (line ∷ [] ∷ []) = bytes_eq line (codes "end")
is_end _ = false

-- what stands behind the records in version 1, and in version 2
abbrev pub read_first : List (List ℕ) → Option (Option (List (Seen Done)))
read_first lines = if is_end lines then Some None else None

abbrev pub read_second : List (List ℕ) → Option (Option (List (Seen Done)))
read_second [] = None
read_second (line ∷ lines) = if is_sight_line line then with_sight (read_sight line) (read_second lines) else if is_end (line ∷ lines) then Some (Some []) else None

-- ---- the journal

abbrev pub read_open : List (List ℕ) → Option (List (Entry Done) × Option (List (Seen Done))) → Option Journal
read_open (o ∷ tasks ∷ groups ∷ findings ∷ []) (Some read) = if bytes_eq o (codes "open") then Some record { tasks = number tasks; groups = number groups; findings = number findings; records = read.0; sights = read.1 } else None
read_open _ _ = None

abbrev pub read_lines : List (List ℕ) → Option Journal
read_lines (title ∷ head ∷ lines) = if bytes_eq title (codes "journal 1") then read_open (cut_at space head) (read_records read_first lines)
    else if bytes_eq title (codes "journal 2") then read_open (cut_at space head) (read_records read_second lines)
    else None
read_lines _ = None

abbrev pub read_journal : List ℕ → Option Journal
read_journal text = read_lines (cut_at line_feed text)
