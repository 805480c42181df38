-- The grammar as functions, for whoever reads a line from its front; a law says that they give what the grammar's words say.
use Rattle.std.specs.Prelude.{ℕ, zero, suc, ◌+◌, ◌-◌, ◌*◌, Bool, true, false, ◌&&◌, ◌||◌, not, ◌==◌, nat_lt, nat_le, List, [], ◌∷◌, length, slice_index, Option, Some, None, if◌then◌else◌, codes}
use Rattle.std.specs.List.{list_all}
use Rattle.std.specs.Str.{bytes_eq}
use Rattle.std.specs.Option.{option_map}
use Rattle.rule_terms.specs.Rule.{Pattern, Rule}
use Rattle.rule_terms.specs.Words.{is_blank, are_blanks, is_word_end}
use Rattle.rule_terms.specs.PatternText.{is_plain}
use Rattle.rule_terms.specs.Grammar.{is_digit, is_name}

infixl 10 ◌>>=◌
abbrev pub ◌>>=◌ : {A B : Type 0} → Option A → (A → Option B) → Option B
(Some x) >>= f = f x
None >>= f = None

-- the bytes less the blanks in front
unfoldable pub behind_blanks : List ℕ → List ℕ
behind_blanks [] = []
behind_blanks (b ∷ bytes) = if is_blank b then behind_blanks bytes else b ∷ bytes

-- the bytes before the first blank, and the rest
unfoldable pub until_blank : List ℕ → List ℕ × List ℕ
until_blank [] = ([], [])
until_blank (b ∷ bytes) = if is_blank b then ([], b ∷ bytes) else (b ∷ (until_blank bytes).0, (until_blank bytes).1)

-- the first word and what is behind it; no bytes where there is none
unfoldable pub first_word : List ℕ → List ℕ × List ℕ
first_word bytes = until_blank (behind_blanks bytes)

-- what is behind the first word, where that is this one
unfoldable pub behind_word : List ℕ → List ℕ → Option (List ℕ)
behind_word word bytes = if bytes_eq (first_word bytes).0 word then Some (first_word bytes).1 else None

-- the number of at most 65535 that the digits give behind those that gave n
unfoldable pub digits_from : ℕ → List ℕ → Option ℕ
digits_from n [] = Some n
digits_from n (c ∷ cs) = if is_digit c && nat_le (10 * n + (c - 48)) 65535 then digits_from (10 * n + (c - 48)) cs else None

-- the number from 0 to 65535 in decimal digits, with no zero in front of others
unfoldable pub number_of : List ℕ → Option ℕ
number_of cs = if (length cs == 0) || (nat_lt 1 (length cs) && (slice_index cs 0 == 48)) then None else digits_from 0 cs

-- the number that is the first word of the rest, where there is a rest, and what is behind it
abbrev pub number_if : Option (List ℕ) → List ℕ → Option (Option ℕ × List ℕ)
number_if None bytes = Some (None, bytes)
number_if (Some rest) bytes = do
  n ← number_of (first_word rest).0
  Some (Some n, (first_word rest).1)

-- the number behind this word, where the word stands here, and what is behind it
unfoldable pub read_number : List ℕ → List ℕ → Option (Option ℕ × List ℕ)
read_number word bytes = number_if (behind_word word bytes) bytes

-- whether this word stands here, and what is behind it
unfoldable pub read_flag : List ℕ → List ℕ → Bool × List ℕ
read_flag word bytes = if bytes_eq (first_word bytes).0 word then (true, (first_word bytes).1) else (false, bytes)

-- the protocol that a word names
unfoldable pub protocol_of : List ℕ → Option (Option ℕ)
protocol_of word =
    if bytes_eq word (codes "any") then Some None
    else if bytes_eq word (codes "icmp") then Some (Some 1)
    else if bytes_eq word (codes "tcp") then Some (Some 6)
    else if bytes_eq word (codes "udp") then Some (Some 17)
    else (do
      n ← number_of word
      if nat_le n 255 then Some (Some n) else None)

-- the value of a hexadecimal digit
abbrev pub hex_value : ℕ → Option ℕ
hex_value c =
    if nat_le 48 c && nat_le c 57 then Some (c - 48)
    else if nat_le 65 c && nat_le c 70 then Some (c - 55)
    else if nat_le 97 c && nat_le c 102 then Some (c - 87)
    else None

-- where a reader of a pattern's text stands: outside of bars; between bars, behind a pair or before the first one; behind
-- the first digit of a pair, with its value
pub data Spot : Type 0 where
  outside : Spot
  between : Bool → Spot
  half : ℕ → Spot

-- where the reader stands behind a further byte of the text, and the byte that it gives, if it gives one
abbrev pub spot_after : Spot → ℕ → Option (Spot × Option ℕ)
spot_after outside c = if c == 124 then Some (between false, None) else if is_plain c then Some (outside, Some c) else None
spot_after (between paired) c =
    if c == 124 then (if paired then Some (outside, None) else None)
    else if c == 32 then Some (between paired, None)
    else (do
      value ← hex_value c
      Some (half value, None))
spot_after (half high) c = do
  low ← hex_value c
  Some (between true, Some (16 * high + low))

abbrev pub onto_bytes : Option ℕ → List ℕ → List ℕ
onto_bytes None bytes = bytes
onto_bytes (Some b) bytes = b ∷ bytes

-- the bytes that the rest of a pattern's text gives
unfoldable pub text_bytes : Spot → List ℕ → Option (List ℕ)
text_bytes outside [] = Some []
text_bytes (between paired) [] = None
text_bytes (half high) [] = None
text_bytes spot (c ∷ text) = do
  step ← spot_after spot c
  bytes ← text_bytes step.0 text
  Some (onto_bytes step.1 bytes)

-- the 1 to 64 bytes that a pattern's text gives
unfoldable pub pattern_bytes : List ℕ → Option (List ℕ)
pattern_bytes text = do
  bytes ← text_bytes outside text
  if nat_le 1 (length bytes) && nat_le (length bytes) 64 then Some bytes else None

-- the bytes before the first quotation mark, and those behind it
unfoldable pub until_quote : List ℕ → Option (List ℕ × List ℕ)
until_quote [] = None
until_quote (b ∷ bytes) = if b == 34 then Some ([], bytes) else option_map (λ found. (b ∷ found.0, found.1)) (until_quote bytes)

-- the text between the quotation mark that stands first and the next one, which a word's end follows
abbrev pub quoted_at : List ℕ → Option (List ℕ × List ℕ)
quoted_at [] = None
quoted_at (b ∷ bytes) = if b == 34 then (do
  found ← until_quote bytes
  if is_word_end found.1 then Some found else None) else None

-- the text between the quotation marks of the first word, and what is behind the word
unfoldable pub read_quoted : List ℕ → Option (List ℕ × List ℕ)
read_quoted bytes = quoted_at (behind_blanks bytes)

-- the pattern that stands here, and what is behind it
unfoldable pub read_has : List ℕ → Option (Pattern × List ℕ)
read_has bytes = do
  rest ← behind_word (codes "has") bytes
  text ← read_quoted rest
  found ← pattern_bytes text.0
  from ← read_number (codes "from") (read_flag (codes "nocase") text.1).1
  to ← read_number (codes "to") from.1
  Some (record { bytes = found; nocase = (read_flag (codes "nocase") text.1).0; from = from.0; to = to.0 }, to.1)

-- the patterns from here up to the line's end, of which there are at most n
unfoldable pub read_others : ℕ → List ℕ → Option (List Pattern)
read_others zero bytes = if are_blanks bytes then Some [] else None
read_others (suc n) bytes = if are_blanks bytes then Some [] else (do
  pattern ← read_has bytes
  others ← read_others n pattern.1
  Some (pattern.0 ∷ others))

-- the ports of a rule: the source port and the destination port, where they are given, and what is behind them
unfoldable pub read_ports : List ℕ → Option (Option ℕ × Option ℕ × List ℕ)
read_ports bytes = do
  source ← read_number (codes "sport") bytes
  destination ← read_number (codes "dport") source.1
  Some (source.0, destination.0, destination.1)

-- what stands before the patterns of a rule, and the rest of its line
pub record Head : Type 0 where
  pub name : List ℕ
  pub protocol : Option ℕ
  pub source_port : Option ℕ
  pub destination_port : Option ℕ
  pub rest : List ℕ

unfoldable pub read_head : List ℕ → Option Head
read_head line = do
  named ← behind_word (codes "rule") line
  rest ← behind_word (codes "proto") (first_word named).1
  protocol ← protocol_of (first_word rest).0
  ports ← read_ports (first_word rest).1
  if is_name (first_word named).0
      then Some (record { name = (first_word named).0; protocol = protocol; source_port = ports.0; destination_port = ports.1; rest = ports.2 })
      else None

-- the rule of this front
unfoldable pub read_patterns : Head → Option Rule
read_patterns head = do
  first ← read_has head.rest
  others ← read_others 7 first.1
  Some (record { name = head.name; protocol = head.protocol; source_port = head.source_port; destination_port = head.destination_port; first = first.0; others = others })

-- the rule that a line is
unfoldable pub read_rule : List ℕ → Option Rule
read_rule line = read_head line >>= read_patterns
