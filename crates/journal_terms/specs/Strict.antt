-- A strict reading of a journal's lines: a line is read as an opening, a record or a sight exactly where it is that one's text, and
-- its structures and callers have numbers below 2^32.
use Rattle.std.specs.Prelude.{ℕ, ◌+◌, ◌-◌, ◌*◌, ◌^◌, ◌<◌, ◌≡◌, ◌↔◌, Bool, true, false, ◌&&◌, not, ◌==◌, nat_lt, nat_le, if◌then◌else◌, List, [], ◌∷◌, length, slice_index, Option, Some, None, codes}
use Rattle.std.specs.List.{list_all}
use Rattle.std.specs.Str.{bytes_eq}
use Rattle.serial_terms.specs.declared.call.Call.{Call}
use Rattle.serial_terms.specs.declared.call.Call.TheVariants.{MapGet, MapPut, MapRemove, MapPutIfAbsent, Enqueue, Dequeue, QueueLen, Take, Give, Append, AppendPlaced, LogRead, LogLen, CellGet, CellPut}
use Rattle.serial_terms.specs.declared.call.Reply.{Reply}
use Rattle.serial_terms.specs.declared.call.Reply.TheVariants.{Nothing, Absent, Value, Flag}
use Rattle.serial_terms.specs.declared.call.Done.{Done}
use Rattle.serial_terms.specs.declared.sight.SightEnd.{SightEnd}
use Rattle.serial_terms.specs.declared.sight.SightEnd.TheVariants.{Aborted, Refused, Full, Child}
use Rattle.serial_terms.specs.Entries.{Entry, Each}
use Rattle.serial_terms.specs.Sights.{Seen}
use Rattle.journal_terms.specs.Laws.{IsShort, IsWritable}
use Rattle.journal_terms.specs.Reading.{cut_at}
use Rattle.journal_terms.specs.Text.{space, colon, semicolon, sizes_text, record_text, sight_text}

-- what several readers gave together, where each of them gave something
module _ {A B C : Type 0} where
  abbrev pub both : Option A → Option B → (A → B → C) → Option C
  both (Some a) (Some b) f = Some (f a b)
  both _ _ f = None

module _ {A B C D : Type 0} where
  abbrev pub all_three : Option A → Option B → Option C → (A → B → C → D) → Option D
  all_three (Some a) (Some b) (Some c) f = Some (f a b c)
  all_three _ _ _ f = None

module _ {A B C D E : Type 0} where
  abbrev pub all_four : Option A → Option B → Option C → Option D → (A → B → C → D → E) → Option E
  all_four (Some a) (Some b) (Some c) (Some d) f = Some (f a b c d)
  all_four _ _ _ _ f = None

-- what stands behind a cut, in pieces
abbrev pub pieces : ℕ → Option (List ℕ) → List (List ℕ)
pieces c None = []
pieces c (Some bytes) = cut_at c bytes

-- ---- numbers and replies

-- the number of the digits behind those that gave n
abbrev pub read_on : ℕ → List ℕ → ℕ
read_on n [] = n
read_on n (c ∷ cs) = read_on (10 * n + (c - 48)) cs

abbrev pub is_digit : ℕ → Bool
is_digit c = nat_le 48 c && nat_le c 57

-- digits, with no zero in front of others
unfoldable pub is_number : List ℕ → Bool
is_number word = nat_lt 0 (length word) && not (nat_lt 1 (length word) && slice_index word 0 == 48) && list_all is_digit word

-- the number below the bound that the word is
unfoldable pub number_below : ℕ → List ℕ → Option ℕ
number_below bound word = if is_number word && nat_lt (read_on 0 word) bound then Some (read_on 0 word) else None

-- any number, and one of a structure or a caller
abbrev pub number : List ℕ → Option ℕ
number word = number_below (2 ^ 64) word

abbrev pub small : List ℕ → Option ℕ
small word = number_below (2 ^ 32) word

abbrev pub as_value : Option ℕ → Option Reply
as_value None = None
as_value (Some n) = Some (Value n)

abbrev pub value : List ℕ → Option Reply
value word = as_value (number word)

abbrev pub value_or_absent : List ℕ → Option Reply
value_or_absent word = if bytes_eq word (codes "-") then Some Absent else value word

abbrev pub flag : List ℕ → Option Reply
flag word = if bytes_eq word (codes "yes") then Some (Flag true) else if bytes_eq word (codes "no") then Some (Flag false) else None

-- ---- calls: by their name, and by how many words stand behind it

unfoldable pub read_two : List ℕ → List ℕ → List ℕ → Option (Call × Reply)
read_two name a b =
    if bytes_eq name (codes "deq") then both (small a) (value_or_absent b) (λ q r. (Dequeue q, r))
    else if bytes_eq name (codes "take") then both (small a) (value_or_absent b) (λ p r. (Take p, r))
    else if bytes_eq name (codes "enq") then both (small a) (number b) (λ q v. (Enqueue q v, Nothing))
    else if bytes_eq name (codes "remove") then both (small a) (number b) (λ m k. (MapRemove m k, Nothing))
    else if bytes_eq name (codes "app") then both (small a) (number b) (λ l v. (Append l v, Nothing))
    else if bytes_eq name (codes "qlen") then both (small a) (value b) (λ q r. (QueueLen q, r))
    else if bytes_eq name (codes "llen") then both (small a) (value b) (λ l r. (LogLen l, r))
    else if bytes_eq name (codes "cget") then both (small a) (value b) (λ c r. (CellGet c, r))
    else if bytes_eq name (codes "cput") then both (small a) (number b) (λ c v. (CellPut c v, Nothing))
    else None

unfoldable pub read_three : List ℕ → List ℕ → List ℕ → List ℕ → Option (Call × Reply)
read_three name a b c =
    if bytes_eq name (codes "get") then all_three (small a) (number b) (value_or_absent c) (λ m k r. (MapGet m k, r))
    else if bytes_eq name (codes "put") then all_three (small a) (number b) (number c) (λ m k v. (MapPut m k v, Nothing))
    else if bytes_eq name (codes "appat") then all_three (small a) (number b) (value c) (λ l v r. (AppendPlaced l v, r))
    else if bytes_eq name (codes "give") then all_three (small a) (number b) (flag c) (λ p v r. (Give p v, r))
    else if bytes_eq name (codes "read") then all_three (small a) (number b) (value_or_absent c) (λ l i r. (LogRead l i, r))
    else None

unfoldable pub read_four : List ℕ → List ℕ → List ℕ → List ℕ → List ℕ → Option (Call × Reply)
read_four name a b c d = if bytes_eq name (codes "putnew") then all_four (small a) (number b) (number c) (value_or_absent d) (λ m k v r. (MapPutIfAbsent m k v, r)) else None

abbrev pub read_call : List ℕ → List (List ℕ) → Option (Call × Reply)
read_call name (a ∷ b ∷ []) = read_two name a b
read_call name (a ∷ b ∷ c ∷ []) = read_three name a b c
read_call name (a ∷ b ∷ c ∷ d ∷ []) = read_four name a b c d
read_call name _ = None

abbrev pub read_words : List (List ℕ) → Option (Call × Reply)
read_words [] = None
read_words (name ∷ words) = read_call name words

abbrev pub as_done : Bool → Option (Call × Reply) → Option Done
as_done child None = None
as_done child (Some p) = Some record { call = p.0; reply = p.1; child = child }

-- a plus says that the call was made in a child
abbrev pub read_marked : List ℕ → Option Done
read_marked [] = None
read_marked (b ∷ bs) = if b == 43 then as_done true (read_words (cut_at space bs)) else as_done false (read_words (cut_at space (b ∷ bs)))

-- a space stands before each call
unfoldable pub read_piece : List ℕ → Option Done
read_piece [] = None
read_piece (b ∷ bs) = if b == 32 then read_marked bs else None

abbrev pub read_pieces : List (List ℕ) → Option (List Done)
read_pieces [] = Some []
read_pieces (p ∷ ps) = both (read_piece p) (read_pieces ps) (λ d ds. d ∷ ds)

-- the calls behind the colon of a line
abbrev pub read_calls : List ℕ → Option (List Done)
read_calls [] = Some []
read_calls (b ∷ bs) = read_pieces (cut_at semicolon (b ∷ bs))

-- ---- lines

abbrev pub letter : List ℕ → Option Bool
letter word = if bytes_eq word (codes "w") then Some true else if bytes_eq word (codes "r") then Some false else None

-- a record without its calls
pub record RecordHead : Type 0 where
  pub place : ℕ
  pub writer : Bool
  pub caller : ℕ
  pub index : ℕ

unfoldable pub read_record_head : List (List ℕ) → Option RecordHead
read_record_head (t ∷ place ∷ writer ∷ caller ∷ index ∷ []) = if bytes_eq t (codes "t")
    then all_four (number place) (letter writer) (small caller) (number index) (λ p w c n. record { place = p; writer = w; caller = c; index = n })
    else None
read_record_head _ = None

abbrev pub record_with : RecordHead → List Done → Entry Done
record_with h dones = record { caller = h.caller; index = h.index; place = h.place; writer = h.writer; dones = dones }

abbrev pub read_record_parts : List (List ℕ) → Option (Entry Done)
read_record_parts (head ∷ calls ∷ []) = both (read_record_head (cut_at space head)) (read_calls calls) record_with
read_record_parts _ = None

unfoldable pub read_record : List ℕ → Option (Entry Done)
read_record line = read_record_parts (cut_at colon line)

-- a sight without its calls
pub record SightHead : Type 0 where
  pub place : ℕ
  pub end : SightEnd
  pub caller : ℕ
  pub after : ℕ

-- how a sight ended that has one word for it
abbrev pub read_end : List ℕ → Option SightEnd
read_end word = if bytes_eq word (codes "a") then Some Aborted else if bytes_eq word (codes "c") then Some Refused else if bytes_eq word (codes "k") then Some Child else None

unfoldable pub read_sight_head : List (List ℕ) → Option SightHead
read_sight_head (s ∷ place ∷ end ∷ caller ∷ after ∷ []) = if bytes_eq s (codes "s")
    then all_four (number place) (read_end end) (small caller) (number after) (λ p e c n. record { place = p; end = e; caller = c; after = n })
    else None
read_sight_head (s ∷ place ∷ end ∷ part ∷ values ∷ adding ∷ caller ∷ after ∷ []) = if bytes_eq s (codes "s") && bytes_eq end (codes "f")
    then all_four (number place) (all_three (small part) (number values) (number adding) Full) (small caller) (number after) (λ p e c n. record { place = p; end = e; caller = c; after = n })
    else None
read_sight_head _ = None

abbrev pub sight_with : SightHead → List Done → Seen Done
sight_with h dones = record { caller = h.caller; after = h.after; place = h.place; end = h.end; dones = dones }

abbrev pub read_sight_parts : List (List ℕ) → Option (Seen Done)
read_sight_parts (head ∷ calls ∷ []) = both (read_sight_head (cut_at space head)) (read_calls calls) sight_with
read_sight_parts _ = None

unfoldable pub read_sight : List ℕ → Option (Seen Done)
read_sight line = read_sight_parts (cut_at colon line)

-- the numbers of tasks, groups and findings
abbrev pub read_sizes : List (List ℕ) → Option (ℕ × ℕ × ℕ)
read_sizes (o ∷ tasks ∷ groups ∷ findings ∷ []) = if bytes_eq o (codes "open") then all_three (number tasks) (number groups) (number findings) (λ n g f. (n, g, f)) else None
read_sizes _ = None

unfoldable pub read_open : List ℕ → Option (ℕ × ℕ × ℕ)
read_open line = read_sizes (cut_at space line)

-- ---- what is read

abbrev pub structure_of : Call → ℕ
structure_of (MapGet m k) = m
structure_of (MapPut m k v) = m
structure_of (MapRemove m k) = m
structure_of (MapPutIfAbsent m k v) = m
structure_of (Enqueue q v) = q
structure_of (Dequeue q) = q
structure_of (QueueLen q) = q
structure_of (Take p) = p
structure_of (Give p v) = p
structure_of (Append l v) = l
structure_of (AppendPlaced l v) = l
structure_of (LogRead l i) = l
structure_of (LogLen l) = l
structure_of (CellGet c) = c
structure_of (CellPut c v) = c

abbrev pub IsSmall : ℕ → Type 0
IsSmall n = n < 2 ^ 32

abbrev pub IsReadable : Done → Type 0
IsReadable d = IsWritable d × IsSmall (structure_of d.call)

pub record IsReadableRecord (e : Entry Done) : Type 0 where
  pub caller : IsSmall e.caller
  pub index : IsShort e.index
  pub place : IsShort e.place
  pub dones : Each IsReadable e.dones

abbrev pub HasSmallEnd : SightEnd → Type 0
HasSmallEnd Aborted = Unit {0}
HasSmallEnd Refused = Unit {0}
HasSmallEnd (Full part values adding) = IsSmall part × IsShort values × IsShort adding
HasSmallEnd Child = Unit {0}

pub record IsReadableSight (v : Seen Done) : Type 0 where
  pub caller : IsSmall v.caller
  pub after : IsShort v.after
  pub place : IsShort v.place
  pub end : HasSmallEnd v.end
  pub dones : Each IsReadable v.dones

-- each line is read as what it is the text of, and as nothing else
pub record LinesAreRead : Type 0 where
  pub opening : (line : List ℕ) (n g f : ℕ) → (read_open line ≡ Some (n, g, f)) ↔ (IsShort n × IsShort g × IsShort f × (sizes_text n g f ≡ line))
  pub records : (line : List ℕ) (e : Entry Done) → (read_record line ≡ Some e) ↔ (IsReadableRecord e × (record_text e ≡ line))
  pub sights : (line : List ℕ) (v : Seen Done) → (read_sight line ≡ Some v) ↔ (IsReadableSight v × (sight_text v ≡ line))
