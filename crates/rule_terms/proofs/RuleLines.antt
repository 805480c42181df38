-- A line reads as a rule exactly where its words are the rule.
use Rattle.std.proofs.Common.{◌≡◌, ℕ, zero, suc, ◌+◌, ◌≤◌, Bool, true, false, eqb, List, [], ◌∷◌, ◌++◌, Option, Some, None, length, refl, sym, ◌∙◌, ap, arith, append_assoc, inl, inr, subst}
use Rattle.std.specs.Prelude.{◌⊎◌, ◌&&◌, not, nat_le, IfSome, if◌then◌else◌, codes}
use Rattle.std.specs.List.{list_all}
use Rattle.std.specs.Str.{bytes_eq}
use Rattle.std.specs.Fmt.{decimal}
use Rattle.std.proofs.lemmas.Slice.Eq.{bytes_eq-Decides}
use Rattle.std.proofs.lemmas.Bool.{eqb-true, and_parts, and_from, cases_Bool, leb-true, le-leb, false_from_ne_true}
use Rattle.rule_terms.specs.Rule.{Pattern, Rule}
use Rattle.rule_terms.specs.Words.{is_blank, are_blanks, is_word_end, BeginsWithWord, AreWords}
use Rattle.rule_terms.specs.PatternText.{IsPatternText}
use Rattle.rule_terms.specs.Grammar.{is_digit, is_name_byte, is_name, NamesProtocol, number_words, IsShort, nocase_words, quoted, has_words, AreHas, AreHasWords, AreRuleWords, IsRuleLine}
use Rattle.rule_terms.specs.Reader.{◌>>=◌, first_word, behind_word, digits_from, number_of, number_if, read_number, read_flag, protocol_of, pattern_bytes, read_quoted, read_has, read_others, read_ports, Head, read_head, read_patterns, read_rule}
use Rattle.rule_terms.proofs.Tokens.{if_some, bind_some, is_no_blank, IsWord, first_of, first_of_none, first_back, behind_of, behind_back, BeginOtherwise, is_other, behind_other, HasNoQuote, quoted_of, quoted_back}
use Rattle.rule_terms.proofs.Decimals.{decimal_reads, number_back, decimal_word}
use Rattle.rule_terms.proofs.PatternTexts.{pattern_of, pattern_back, text_no_quote}

abbrev Words : Type 0
Words = List (List ℕ)

cases_Option : {A : Type 0} (o : Option A) → (o ≡ None) ⊎ ((x : A) × (o ≡ Some x))
cases_Option None = inl refl
cases_Option (Some x) = inr (x, refl)

-- the rest of a line is these words, and what was read before it is this
abbrev ReadsTo : {A : Type 0} → Option (A × List ℕ) → A → Words → Type 0
ReadsTo {A = A} read x words = (rest : List ℕ) × (read ≡ Some (x, rest)) × AreWords rest words

-- numbers

number_reads : (key line : List ℕ) (n : Option ℕ) (words : Words) → IsWord key → IsShort n → AreWords line (number_words key n ++ words) → BeginOtherwise key words → ReadsTo (read_number key line) n words
unfolding read_number
number_reads key line None words is short are other = (line, rw (behind_other key line words are other), are)
number_reads key line (Some n) words is short are other =
    let named : behind_word key line ≡ Some are.0 = behind_of key line are.0 is are.1 in
    let digits : first_word are.0 ≡ (decimal n, are.2.0) = first_of are.0 (decimal n) are.2.0 (decimal_word n (omega (arith, short))) are.2.1 in
    (are.2.0, rw (named, digits, decimal_reads n short), are.2.2)

abbrev IsBefore : List ℕ → Words → List ℕ → Type 0
IsBefore line front rest = (words : Words) → AreWords rest words → AreWords line (front ++ words)

number_then : (key line rest : List ℕ) (n : ℕ) → behind_word key line ≡ Some rest → number_of (first_word rest).0 ≡ Some n → (n ≤ 65535) × IsBefore line (key ∷ decimal n ∷ []) (first_word rest).1
number_then key line rest n named is_number =
    let number = number_back (first_word rest).0 n is_number in
    let begins : BeginsWithWord rest (decimal n) (first_word rest).1 = subst (λ (w : List ℕ). BeginsWithWord rest w (first_word rest).1) number.1 (first_back rest).0 in
    (number.0, λ words are. (rest, behind_back key line rest named, ((first_word rest).1, begins, are)))

number_is_back : (key line : List ℕ) (found : Option ℕ × List ℕ) → read_number key line ≡ Some found → IsShort found.0 × IsBefore line (number_words key found.0) found.1
unfolding read_number
number_is_back key line found is = elim (cases_Option (behind_word key line)) [
  | inl none ↦
      let unread : Option ℕ × List ℕ = (None, line) in
      let same : unread ≡ found = cc (rw none at is) in
      subst (λ (f : Option ℕ × List ℕ). IsShort f.0 × IsBefore line (number_words key f.0) f.1) same (tt, λ words are. are)
  | inr (rest, named) ↦
      let n = bind_some (number_of (first_word rest).0) _ found (rw named at is) in
      let read : Option ℕ × List ℕ = (Some n.0, (first_word rest).1) in
      let same : read ≡ found = cc n.2 in
      subst (λ (f : Option ℕ × List ℕ). IsShort f.0 × IsBefore line (number_words key f.0) f.1) same (number_then key line rest n.0 named n.1)
]

-- the word that says that case doesn't count

flag_reads : (line : List ℕ) (b : Bool) (words : Words) → AreWords line (nocase_words b ++ words) → BeginOtherwise (codes "nocase") words
    → (rest : List ℕ) × (read_flag (codes "nocase") line ≡ (b, rest)) × AreWords rest words
unfolding read_flag
flag_reads line false words are other = (line, rw (is_other (codes "nocase") line words are other), are)
flag_reads line true words are other =
    let first : first_word line ≡ (codes "nocase", are.0) = first_of line (codes "nocase") are.0 refl are.1 in
    (are.0, rw first, are.2)

abbrev flag_of : Bool → List ℕ → Bool × List ℕ
flag_of t line = if t then (true, (first_word line).1) else (false, line)

flag_if : (line : List ℕ) (t : Bool) → bytes_eq (first_word line).0 (codes "nocase") ≡ t → (words : Words) → AreWords (flag_of t line).1 words → AreWords line (nocase_words (flag_of t line).0 ++ words)
flag_if line false off words are = are
flag_if line true on words are =
    let same : (first_word line).0 ≡ codes "nocase" = (bytes_eq-Decides (first_word line).0 (codes "nocase")).0 on in
    ((first_word line).1, subst (λ (w : List ℕ). BeginsWithWord line w (first_word line).1) same (first_back line).0, are)

flag_back : (line : List ℕ) → IsBefore line (nocase_words (read_flag (codes "nocase") line).0) (read_flag (codes "nocase") line).1
unfolding read_flag
flag_back line words are = flag_if line (bytes_eq (first_word line).0 (codes "nocase")) refl words are

-- patterns

-- no further words, or HAS
abbrev BeginAsHas : Words → Type 0
BeginAsHas words = (words ≡ []) ⊎ ((tail : Words) × (words ≡ codes "has" ∷ tail))

otherwise : (key : List ℕ) (words : Words) → bytes_eq [] key ≡ false → bytes_eq (codes "has") key ≡ false → BeginAsHas words → BeginOtherwise key words
otherwise key words none has (inl is) = subst (λ (ws : Words). BeginOtherwise key ws) (sym is) none
otherwise key words none has (inr (tail, is)) = subst (λ (ws : Words). BeginOtherwise key ws) (sym is) (refl, has)

no_to : (words : Words) → BeginAsHas words → BeginOtherwise (codes "to") words
no_to words begin = otherwise (codes "to") words refl refl begin

no_from : (to : Option ℕ) (words : Words) → BeginAsHas words → BeginOtherwise (codes "from") (number_words (codes "to") to ++ words)
no_from None words begin = otherwise (codes "from") words refl refl begin
no_from (Some n) words begin = (refl, refl)

no_nocase : (from to : Option ℕ) (words : Words) → BeginAsHas words → BeginOtherwise (codes "nocase") (number_words (codes "from") from ++ (number_words (codes "to") to ++ words))
no_nocase None None words begin = otherwise (codes "nocase") words refl refl begin
no_nocase None (Some n) words begin = (refl, refl)
no_nocase (Some m) to words begin = (refl, refl)

has_begin : (words : Words) (pattern : Pattern) (further : Words) → AreHas words pattern further → BeginAsHas words
has_begin words pattern further are = inr (_, are.split)

further_begin : (words : Words) (patterns : List Pattern) → AreHasWords words patterns → BeginAsHas words
further_begin words [] are = inl are
further_begin words (pattern ∷ patterns) are = has_begin words pattern are.0 are.1

has_reads : (line : List ℕ) (words : Words) (pattern : Pattern) (further : Words) → AreHas words pattern further → BeginAsHas further → AreWords line words → ReadsTo (read_has line) pattern further
unfolding read_has
has_reads line words pattern further has begin are =
    let tos : Words = number_words (codes "to") pattern.to ++ further in
    let froms : Words = number_words (codes "from") pattern.from ++ tos in
    let cases : Words = nocase_words pattern.nocase ++ froms in
    let whole : AreWords line (codes "has" ∷ quoted has.text ∷ cases) = subst (λ (ws : Words). AreWords line ws) has.split are in
    let named : behind_word (codes "has") line ≡ Some whole.0 = behind_of (codes "has") line whole.0 refl whole.1 in
    let text : read_quoted whole.0 ≡ Some (has.text, whole.2.0) = quoted_of whole.0 has.text whole.2.0 (text_no_quote has.text pattern.bytes has.gives) whole.2.1 in
    let bytes : pattern_bytes has.text ≡ Some pattern.bytes = pattern_of has.text pattern.bytes has.gives in
    let flag = flag_reads whole.2.0 pattern.nocase froms whole.2.2 (no_nocase pattern.from pattern.to further begin) in
    let from = number_reads (codes "from") flag.0 pattern.from tos refl has.from flag.2 (no_from pattern.to further begin) in
    let to = number_reads (codes "to") from.0 pattern.to further refl has.to from.2 (no_to further begin) in
    (to.0, rw (named, text, bytes, flag.1, from.1, to.1), to.2)

has_back : (line : List ℕ) (found : Pattern × List ℕ) → read_has line ≡ Some found → (words : Words) → AreWords found.1 words → (front : Words) × AreHas front found.0 words × AreWords line front
unfolding read_has
has_back line found is =
    let named = bind_some (behind_word (codes "has") line) _ found is in
    let text = bind_some (read_quoted named.0) _ found named.2 in
    let bytes = bind_some (pattern_bytes text.0.0) _ found text.2 in
    let from = bind_some (read_number (codes "from") (read_flag (codes "nocase") text.0.1).1) _ found bytes.2 in
    let to = bind_some (read_number (codes "to") from.0.1) _ found from.2 in
    let read : Pattern × List ℕ = (record { bytes = bytes.0; nocase = (read_flag (codes "nocase") text.0.1).0; from = from.0.0; to = to.0.0 }, to.0.1) in
    let same : read ≡ found = cc to.2 in
    let from_back = number_is_back (codes "from") (read_flag (codes "nocase") text.0.1).1 from.0 from.1 in
    let to_back = number_is_back (codes "to") from.0.1 to.0 to.1 in
    let back : (words : Words) → AreWords read.1 words → (front : Words) × AreHas front read.0 words × AreWords line front = λ words are. (
      has_words text.0.0 read.0 words,
      record {
        text = text.0.0;
        gives = pattern_back text.0.0 bytes.0 bytes.1;
        from = from_back.0;
        to = to_back.0;
        split = refl;
      },
      (
        named.0,
        behind_back (codes "has") line named.0 named.1,
        (
          text.0.1,
          quoted_back named.0 text.0 text.1,
          flag_back text.0.1 _ (from_back.1 _ (to_back.1 words are)),
        ),
      ),
    ) in
    subst (λ (f : Pattern × List ℕ). (words : Words) → AreWords f.1 words → (front : Words) × AreHas front f.0 words × AreWords line front) same back

not_blank : (line word : List ℕ) (words : Words) → IsWord word → AreWords line (word ∷ words) → are_blanks line ≡ false
not_blank line word words is are = false_from_ne_true (are_blanks line) (λ blanks.
    let found : List ℕ × List ℕ = (word, are.0) in
    let none : List ℕ × List ℕ = ([], []) in
    let same : none ≡ found = sym (first_of_none line blanks) ∙ first_of line word are.0 is are.1 in
    subst IsWord (sym (ap (λ (t : List ℕ × List ℕ). t.0) same)) is)

has_not_blank : (line : List ℕ) (words : Words) (pattern : Pattern) (further : Words) → AreHas words pattern further → AreWords line words → are_blanks line ≡ false
has_not_blank line words pattern further has are =
    let whole : AreWords line (has_words has.text pattern further) = subst (λ (ws : Words). AreWords line ws) has.split are in
    not_blank line (codes "has") (quoted has.text ∷ (nocase_words pattern.nocase ++ (number_words (codes "from") pattern.from ++ (number_words (codes "to") pattern.to ++ further)))) refl whole

others_reads : (n : ℕ) (line : List ℕ) (words : Words) (patterns : List Pattern) → AreHasWords words patterns → length patterns ≤ n → AreWords line words → read_others n line ≡ Some patterns
unfolding read_others
others_reads zero line words [] has few are =
    let blanks : are_blanks line ≡ true = subst (λ (ws : Words). AreWords line ws) has are in
    rw blanks
others_reads (suc n) line words [] has few are =
    let blanks : are_blanks line ≡ true = subst (λ (ws : Words). AreWords line ws) has are in
    rw blanks
others_reads zero line words (pattern ∷ patterns) has few are = absurd (omega (arith, few))
others_reads (suc n) line words (pattern ∷ patterns) has few are =
    let off : are_blanks line ≡ false = has_not_blank line words pattern has.0 has.1 are in
    let first = has_reads line words pattern has.0 has.1 (further_begin has.0 patterns has.2) are in
    let rest : read_others n first.0 ≡ Some patterns = others_reads n first.0 has.0 patterns has.2 (omega (arith, few)) first.2 in
    rw (off, first.1, rest)

abbrev ReadBack : ℕ → List ℕ → List Pattern → Type 0
ReadBack n line patterns = (words : Words) × AreHasWords words patterns × AreWords line words × (length patterns ≤ n)

none_back : (n : ℕ) (line : List ℕ) (patterns : List Pattern) → are_blanks line ≡ true → [] ≡ patterns → ReadBack n line patterns
none_back n line patterns blanks is = subst (λ (ps : List Pattern). ReadBack n line ps) is ([], refl, blanks, omega arith)

others_back : (n : ℕ) (line : List ℕ) (patterns : List Pattern) → read_others n line ≡ Some patterns → ReadBack n line patterns
unfolding read_others
others_back zero line patterns is =
    let both = if_some (are_blanks line) [] patterns is in
    none_back zero line patterns both.0 both.1
others_back (suc n) line patterns is = elim (cases_Bool (are_blanks line)) [
  | inl blanks ↦ none_back (suc n) line patterns blanks (cc (rw blanks at is))
  | inr some ↦
      let first = bind_some (read_has line) _ patterns (rw some at is) in
      let rest = bind_some (read_others n first.0.1) _ patterns first.2 in
      let same : first.0.0 ∷ rest.0 ≡ patterns = cc rest.2 in
      let later = others_back n first.0.1 rest.0 rest.1 in
      let here = has_back line first.0 first.1 later.0 later.2 in
      subst (λ (ps : List Pattern). ReadBack (suc n) line ps) same (here.0, (later.0, here.1, later.1), here.2, omega (arith, later.3))
]

-- protocols

-- digits aren't a word that is no number
no_number : (n : ℕ) (word : List ℕ) → n ≤ 65535 → number_of word ≡ None → bytes_eq (decimal n) word ≡ false
no_number n word fits none = false_from_ne_true (bytes_eq (decimal n) word) (λ same. cc (none, decimal_reads n fits, ap number_of ((bytes_eq-Decides (decimal n) word).0 same)))

abbrev AreNoNumbers : Type 0
AreNoNumbers = (number_of (codes "any") ≡ None) × (number_of (codes "icmp") ≡ None) × (number_of (codes "tcp") ≡ None) × (number_of (codes "udp") ≡ None)

are_no_numbers : AreNoNumbers
unfolding number_of digits_from
are_no_numbers = (refl, refl, refl, refl)

protocol_reads : (word : List ℕ) (p : Option ℕ) → NamesProtocol word p → protocol_of word ≡ Some p
unfolding protocol_of
protocol_reads word None is = ap protocol_of is
protocol_reads word (Some n) (inl icmp) = ap protocol_of icmp.0 ∙ ap (λ (k : ℕ). Some (Some k)) (sym icmp.1)
protocol_reads word (Some n) (inr (inl tcp)) = ap protocol_of tcp.0 ∙ ap (λ (k : ℕ). Some (Some k)) (sym tcp.1)
protocol_reads word (Some n) (inr (inr (inl udp))) = ap protocol_of udp.0 ∙ ap (λ (k : ℕ). Some (Some k)) (sym udp.1)
protocol_reads word (Some n) (inr (inr (inr number))) =
    let fits : n ≤ 65535 = omega (arith, number.1) in
    let not_a : bytes_eq (decimal n) (codes "any") ≡ false = no_number n (codes "any") fits are_no_numbers.0 in
    let not_i : bytes_eq (decimal n) (codes "icmp") ≡ false = no_number n (codes "icmp") fits are_no_numbers.1 in
    let not_t : bytes_eq (decimal n) (codes "tcp") ≡ false = no_number n (codes "tcp") fits are_no_numbers.2 in
    let not_u : bytes_eq (decimal n) (codes "udp") ≡ false = no_number n (codes "udp") fits are_no_numbers.3 in
    ap protocol_of number.0 ∙ rw (not_a, not_i, not_t, not_u, decimal_reads n fits, le-leb n 255 number.1)

abbrev Named : List ℕ → Option ℕ → Type 0
Named word p = NamesProtocol word p

pick : (word name : List ℕ) (x p : Option ℕ) (rest : Option (Option ℕ)) → (word ≡ name → Named word x) → (rest ≡ Some p → Named word p) → (if bytes_eq word name then Some x else rest) ≡ Some p → Named word p
pick word name x p rest here later is = by_test (bytes_eq word name) refl is
  where
    by_test : (t : Bool) → bytes_eq word name ≡ t → (if t then Some x else rest) ≡ Some p → Named word p
    by_test true same is =
        let x_is : x ≡ p = cc is in
        subst (λ (q : Option ℕ). Named word q) x_is (here ((bytes_eq-Decides word name).0 same))
    by_test false other is = later is

number_named : (word : List ℕ) (p : Option ℕ) → (number_of word >>= (λ (n : ℕ). if nat_le n 255 then Some (Some n) else None)) ≡ Some p → Named word p
number_named word p is =
    let n = bind_some (number_of word) _ p is in
    let both = if_some (nat_le n.0 255) (Some n.0) p n.2 in
    let number = number_back word n.0 n.1 in
    subst (λ (q : Option ℕ). Named word q) both.1 (inr (inr (inr (number.1, leb-true n.0 255 both.0))))

protocol_back : (word : List ℕ) (p : Option ℕ) → protocol_of word ≡ Some p → NamesProtocol word p
unfolding protocol_of
protocol_back word p is =
    pick word (codes "any") None p _ (λ same. same)
    (pick word (codes "icmp") (Some 1) p _ (λ same. inl (same, refl))
    (pick word (codes "tcp") (Some 6) p _ (λ same. inr (inl (same, refl)))
    (pick word (codes "udp") (Some 17) p _ (λ same. inr (inr (inl (same, refl)))) (number_named word p)))) is

protocol_word : (word : List ℕ) (p : Option ℕ) → NamesProtocol word p → IsWord word
protocol_word word None is = subst IsWord (sym is) refl
protocol_word word (Some n) (inl icmp) = subst IsWord (sym icmp.0) refl
protocol_word word (Some n) (inr (inl tcp)) = subst IsWord (sym tcp.0) refl
protocol_word word (Some n) (inr (inr (inl udp))) = subst IsWord (sym udp.0) refl
protocol_word word (Some n) (inr (inr (inr number))) = subst IsWord (sym number.0) (decimal_word n (omega (arith, number.1)))

-- names

name_byte_no_blank : (b : ℕ) → is_name_byte b ≡ true → is_no_blank b ≡ true
name_byte_no_blank b may = elim (cases_Bool (is_blank b)) [
  | inl blank ↦ elim (cases_Bool (eqb b 32)) [
    | inl space ↦
        let wrong : false ≡ true = subst (λ (c : ℕ). is_name_byte c ≡ true) (eqb-true b 32 space) may in
        absurd (cc wrong)
    | inr no_space ↦
        let tab : eqb b 9 ≡ true = (rw no_space at blank) in
        let wrong : false ≡ true = subst (λ (c : ℕ). is_name_byte c ≡ true) (eqb-true b 9 tab) may in
        absurd (cc wrong)
  ]
  | inr off ↦ ap not off
]

name_bytes : (name : List ℕ) → list_all is_name_byte name ≡ true → list_all is_no_blank name ≡ true
name_bytes [] all = refl
name_bytes (b ∷ name) all =
    let parts = and_parts (is_name_byte b) (list_all is_name_byte name) all in
    and_from _ _ (name_byte_no_blank b parts.0) (name_bytes name parts.1)

name_word : (name : List ℕ) → is_name name ≡ true → IsWord name
unfolding is_name
name_word [] is = absurd (cc is)
name_word (b ∷ name) is = name_bytes (b ∷ name) (and_parts (nat_le 1 (length (b ∷ name)) && nat_le (length (b ∷ name)) 32) (list_all is_name_byte (b ∷ name)) is).1

-- ports

no_dport : (words : Words) → BeginAsHas words → BeginOtherwise (codes "dport") words
no_dport words begin = otherwise (codes "dport") words refl refl begin

no_sport : (port : Option ℕ) (words : Words) → BeginAsHas words → BeginOtherwise (codes "sport") (number_words (codes "dport") port ++ words)
no_sport None words begin = otherwise (codes "sport") words refl refl begin
no_sport (Some n) words begin = (refl, refl)

ports_read : (line : List ℕ) (source destination : Option ℕ) (words : Words) → IsShort source → IsShort destination → BeginAsHas words
    → AreWords line (number_words (codes "sport") source ++ (number_words (codes "dport") destination ++ words)) → (rest : List ℕ) × (read_ports line ≡ Some (source, destination, rest)) × AreWords rest words
unfolding read_ports
ports_read line source destination words is_source is_destination begin are =
    let first = number_reads (codes "sport") line source (number_words (codes "dport") destination ++ words) refl is_source are (no_sport destination words begin) in
    let second = number_reads (codes "dport") first.0 destination words refl is_destination first.2 (no_dport words begin) in
    (second.0, rw (first.1, second.1), second.2)

record ArePorts (line : List ℕ) (found : Option ℕ × Option ℕ × List ℕ) : Type 0 where
  source : IsShort found.0
  destination : IsShort found.1
  before : (words : Words) → AreWords found.2 words → AreWords line (number_words (codes "sport") found.0 ++ (number_words (codes "dport") found.1 ++ words))

ports_back : (line : List ℕ) (found : Option ℕ × Option ℕ × List ℕ) → read_ports line ≡ Some found → ArePorts line found
unfolding read_ports
ports_back line found is =
    let source = bind_some (read_number (codes "sport") line) _ found is in
    let destination = bind_some (read_number (codes "dport") source.0.1) _ found source.2 in
    let read : Option ℕ × Option ℕ × List ℕ = (source.0.0, destination.0.0, destination.0.1) in
    let same : read ≡ found = cc destination.2 in
    let one = number_is_back (codes "sport") line source.0 source.1 in
    let two = number_is_back (codes "dport") source.0.1 destination.0 destination.1 in
    subst (λ (f : Option ℕ × Option ℕ × List ℕ). ArePorts line f) same (record { source = one.0; destination = two.0; before = λ words are. one.1 _ (two.1 words are) })

-- rules

read_of : (line : List ℕ) (rule : Rule) → IsRuleLine line rule → read_rule line ≡ Some rule
unfolding read_rule read_head read_patterns
read_of line rule is =
    let are = is.are in
    let ports : Words = number_words (codes "sport") rule.source_port ++ (number_words (codes "dport") rule.destination_port ++ are.has) in
    let whole : AreWords line (codes "rule" ∷ rule.name ∷ codes "proto" ∷ are.protocol ∷ ports) = subst (λ (ws : Words). AreWords line ws) are.split is.split in
    let rule_word : behind_word (codes "rule") line ≡ Some whole.0 = behind_of (codes "rule") line whole.0 refl whole.1 in
    let name : first_word whole.0 ≡ (rule.name, whole.2.0) = first_of whole.0 rule.name whole.2.0 (name_word rule.name are.named) whole.2.1 in
    let proto : behind_word (codes "proto") whole.2.0 ≡ Some whole.2.2.0 = behind_of (codes "proto") whole.2.0 whole.2.2.0 refl whole.2.2.1 in
    let protocol : first_word whole.2.2.0 ≡ (are.protocol, whole.2.2.2.0) = first_of whole.2.2.0 are.protocol whole.2.2.2.0 (protocol_word are.protocol rule.protocol are.names) whole.2.2.2.1 in
    let found = ports_read whole.2.2.2.0 rule.source_port rule.destination_port are.has are.source are.destination (has_begin are.has rule.first are.further are.first) whole.2.2.2.2 in
    let first = has_reads found.0 are.has rule.first are.further are.first (further_begin are.further rule.others are.others) found.2 in
    let others : read_others 7 first.0 ≡ Some rule.others = others_reads 7 first.0 are.further rule.others are.others are.few first.2 in
    rw (rule_word, name, proto, protocol, protocol_reads are.protocol rule.protocol are.names, found.1, are.named, first.1, others)

some_is : {A : Type 0} (x y : A) → Some x ≡ Some y → x ≡ y
some_is x y is = cc is

-- the words of a rule before its patterns
abbrev head_words : Head → List ℕ → Words → Words
head_words head protocol words =
    codes "rule" ∷ head.name ∷ codes "proto" ∷ protocol ∷ (number_words (codes "sport") head.source_port ++ (number_words (codes "dport") head.destination_port ++ words))

record IsHeadOf (line : List ℕ) (head : Head) : Type 0 where
  protocol : List ℕ
  named : is_name head.name ≡ true
  names : NamesProtocol protocol head.protocol
  source : IsShort head.source_port
  destination : IsShort head.destination_port
  before : (words : Words) → AreWords head.rest words → AreWords line (head_words head protocol words)

head_back : (line : List ℕ) (head : Head) → read_head line ≡ Some head → IsHeadOf line head
unfolding read_head
head_back line head is =
    let named = bind_some (behind_word (codes "rule") line) _ head is in
    let rest = bind_some (behind_word (codes "proto") (first_word named.0).1) _ head named.2 in
    let protocol = bind_some (protocol_of (first_word rest.0).0) _ head rest.2 in
    let ports = bind_some (read_ports (first_word rest.0).1) _ head protocol.2 in
    let name : List ℕ = (first_word named.0).0 in
    let made : Head = record { name = name; protocol = protocol.0; source_port = ports.0.0; destination_port = ports.0.1; rest = ports.0.2 } in
    let both = if_some (is_name name) made head ports.2 in
    let ports_are = ports_back (first_word rest.0).1 ports.0 ports.1 in
    subst (λ (h : Head). IsHeadOf line h) both.1 (record {
      protocol = (first_word rest.0).0;
      named = both.0;
      names = protocol_back (first_word rest.0).0 protocol.0 protocol.1;
      source = ports_are.source;
      destination = ports_are.destination;
      before = λ words are.
          let ports_words : Words = number_words (codes "sport") ports.0.0 ++ (number_words (codes "dport") ports.0.1 ++ words) in
          let behind_proto : AreWords rest.0 ((first_word rest.0).0 ∷ ports_words) = ((first_word rest.0).1, (first_back rest.0).0, ports_are.before words are) in
          let behind_name : AreWords (first_word named.0).1 (codes "proto" ∷ (first_word rest.0).0 ∷ ports_words) = (rest.0, behind_back (codes "proto") (first_word named.0).1 rest.0 rest.1, behind_proto) in
          let behind_rule : AreWords named.0 (name ∷ codes "proto" ∷ (first_word rest.0).0 ∷ ports_words) = ((first_word named.0).1, (first_back named.0).0, behind_name) in
          (named.0, behind_back (codes "rule") line named.0 named.1, behind_rule);
    })

read_back : (line : List ℕ) (rule : Rule) → read_rule line ≡ Some rule → IsRuleLine line rule
unfolding read_rule read_patterns
read_back line rule is =
    let front = bind_some (read_head line) read_patterns rule is in
    let head : Head = front.0 in
    let first = bind_some (read_has head.rest) _ rule front.2 in
    let others = bind_some (read_others 7 first.0.1) _ rule first.2 in
    let read : Rule = record { name = head.name; protocol = head.protocol; source_port = head.source_port; destination_port = head.destination_port; first = first.0.0; others = others.0 } in
    let is_read : read ≡ rule = some_is read rule others.2 in
    let head_is = head_back line head front.1 in
    let others_are = others_back 7 first.0.1 others.0 others.1 in
    let first_is = has_back head.rest first.0 first.1 others_are.0 others_are.2 in
    let words_are : AreRuleWords (head_words head head_is.protocol first_is.0) read = record {
      protocol = head_is.protocol;
      has = first_is.0;
      further = others_are.0;
      split = refl;
      named = head_is.named;
      names = head_is.names;
      source = head_is.source;
      destination = head_is.destination;
      first = first_is.1;
      others = others_are.1;
      few = others_are.3;
    } in
    subst (λ (r : Rule). IsRuleLine line r) is_read (record { words = head_words head head_is.protocol first_is.0; split = head_is.before first_is.0 first_is.2; are = words_are })

pub written : (line : List ℕ) (rule : Rule) → ((read_rule line ≡ Some rule) → IsRuleLine line rule) × (IsRuleLine line rule → (read_rule line ≡ Some rule))
written line rule = (read_back line rule, read_of line rule)
