-- Words of a line, taken off and put back.
use Rattle.std.proofs.Common.{◌≡◌, ℕ, suc, ◌+◌, ◌-◌, ◌≤◌, Bool, true, false, eqb, List, [], ◌∷◌, ◌++◌, length, Option, Some, None, refl, sym, ◌∙◌, ap, arith, subst, append_assoc}
use Rattle.std.specs.Prelude.{◌&&◌, not, if◌then◌else◌, nat_le}
use Rattle.std.specs.List.{list_all}
use Rattle.std.specs.Option.{option_map}
use Rattle.std.specs.Str.{bytes_eq}
use Rattle.std.proofs.lemmas.Slice.Eq.{bytes_eq-Decides}
use Rattle.std.proofs.lemmas.List.{append-nil}
use Rattle.std.proofs.lemmas.Bool.{eqb-true, false_from_ne_true, and_parts, and_from, cond-true, cond-false}
use Rattle.rule_terms.specs.Words.{is_blank, are_blanks, is_word_end, BeginsWithWord, AreWords}
use Rattle.rule_terms.specs.Reader.{behind_blanks, until_blank, first_word, behind_word, until_quote, read_quoted, quoted_at, read_flag, ◌>>=◌}
use Rattle.rule_terms.specs.Grammar.{quoted}

pub if_some : {A : Type 0} (t : Bool) (x y : A) → (if t then Some x else None) ≡ Some y → (t ≡ true) × (x ≡ y)
if_some true x y is = (refl, cc is)
if_some false x y is = absurd (cc is)

pub bind_some : {A B : Type 0} (m : Option A) (f : A → Option B) (y : B) → (m >>= f) ≡ Some y → (x : A) × (m ≡ Some x) × (f x ≡ Some y)
bind_some None f y is = absurd (cc is)
bind_some (Some x) f y is = (x, refl, is)

abbrev pub is_no_blank : ℕ → Bool
is_no_blank b = not (is_blank b)

-- no byte of these is a blank
abbrev pub HasNoBlank : List ℕ → Type 0
HasNoBlank word = list_all is_no_blank word ≡ true

-- a word: some bytes, and no blank
abbrev pub IsWord : List ℕ → Type 0
IsWord [] = ⊥
IsWord (b ∷ bytes) = list_all is_no_blank (b ∷ bytes) ≡ true

not_true : (b : Bool) → not b ≡ true → b ≡ false
not_true true is = absurd (cc is)
not_true false is = refl

-- blanks in front of a rest

pub behind_gap : (gap rest : List ℕ) → are_blanks gap ≡ true → behind_blanks (gap ++ rest) ≡ behind_blanks rest
unfolding behind_blanks
behind_gap [] rest blanks = refl
behind_gap (b ∷ gap) rest blanks =
    let parts = and_parts (is_blank b) (are_blanks gap) blanks in
    rw parts.0 (behind_gap gap rest parts.1)

pub behind_all : (bytes : List ℕ) → are_blanks bytes ≡ true → behind_blanks bytes ≡ []
unfolding behind_blanks
behind_all bytes blanks = ap behind_blanks (sym (append-nil bytes)) ∙ behind_gap bytes [] blanks

at_word : (word rest : List ℕ) → IsWord word → behind_blanks (word ++ rest) ≡ word ++ rest
unfolding behind_blanks
at_word [] rest is = absurd is
at_word (b ∷ word) rest is =
    let off : is_blank b ≡ false = not_true _ (and_parts (is_no_blank b) (list_all is_no_blank word) is).0 in
    rw off

-- what blanks in front were cut off
abbrev pub HasGap : List ℕ → Type 0
HasGap bytes = (gap : List ℕ) × (are_blanks gap ≡ true) × (bytes ≡ gap ++ behind_blanks bytes)

gap_if : (b : ℕ) (bytes : List ℕ) (t : Bool) → is_blank b ≡ t → HasGap bytes → (gap : List ℕ) × (are_blanks gap ≡ true) × (b ∷ bytes ≡ gap ++ (if t then behind_blanks bytes else b ∷ bytes))
gap_if b bytes true is later = (b ∷ later.0, and_from _ _ is later.1, ap (λ (l : List ℕ). b ∷ l) later.2)
gap_if b bytes false is later = ([], refl, refl)

pub has_gap : (bytes : List ℕ) → HasGap bytes
unfolding behind_blanks
has_gap [] = ([], refl, refl)
has_gap (b ∷ bytes) = gap_if b bytes (is_blank b) refl (has_gap bytes)

-- the bytes up to a blank

until_end : (rest : List ℕ) → is_word_end rest ≡ true → until_blank rest ≡ ([], rest)
unfolding until_blank
until_end [] ends = refl
until_end (b ∷ rest) ends = rw ends

abbrev onto : ℕ → List ℕ × List ℕ → List ℕ × List ℕ
onto b found = (b ∷ found.0, found.1)

until_of : (word rest : List ℕ) → HasNoBlank word → is_word_end rest ≡ true → until_blank (word ++ rest) ≡ (word, rest)
unfolding until_blank
until_of [] rest none ends = until_end rest ends
until_of (b ∷ word) rest none ends =
    let parts = and_parts (is_no_blank b) (list_all is_no_blank word) none in
    let off : is_blank b ≡ false = not_true _ parts.0 in
    rw off (ap (onto b) (until_of word rest parts.1 ends))

-- what the bytes up to a blank are
pub record IsRun (bytes word rest : List ℕ) : Type 0 where
  pub split : bytes ≡ word ++ rest
  pub ends : is_word_end rest ≡ true
  pub none : HasNoBlank word

run_if : (b : ℕ) (bytes : List ℕ) (found : List ℕ × List ℕ) (t : Bool) → is_blank b ≡ t → IsRun bytes found.0 found.1 →
    IsRun (b ∷ bytes) (if t then ([], b ∷ bytes) else onto b found).0 (if t then ([], b ∷ bytes) else onto b found).1
run_if b bytes found true is later = record { split = refl; ends = is; none = refl }
run_if b bytes found false is later = record { split = ap (λ (l : List ℕ). b ∷ l) later.split; ends = later.ends; none = and_from _ _ (ap not is) later.none }

run : (bytes : List ℕ) → IsRun bytes (until_blank bytes).0 (until_blank bytes).1
unfolding until_blank
run [] = record { split = refl; ends = refl; none = refl }
run (b ∷ bytes) = run_if b bytes (until_blank bytes) (is_blank b) refl (run bytes)

-- the first word of a line

pub first_of : (line word rest : List ℕ) → IsWord word → BeginsWithWord line word rest → first_word line ≡ (word, rest)
unfolding first_word
first_of line [] rest is begins = absurd is
first_of line (b ∷ word) rest is begins =
    ap first_word begins.split ∙ ap until_blank (behind_gap begins.gap ((b ∷ word) ++ rest) begins.blanks ∙ at_word (b ∷ word) rest is)
    ∙ until_of (b ∷ word) rest is begins.ends

pub first_of_none : (line : List ℕ) → are_blanks line ≡ true → first_word line ≡ ([], [])
unfolding first_word until_blank
first_of_none line blanks = ap until_blank (behind_all line blanks)

pub first_back : (line : List ℕ) → BeginsWithWord line (first_word line).0 (first_word line).1 × HasNoBlank (first_word line).0
unfolding first_word
first_back line =
    let gap = has_gap line in
    let found = run (behind_blanks line) in
    let begins : BeginsWithWord line (until_blank (behind_blanks line)).0 (until_blank (behind_blanks line)).1 =
    record { gap = gap.0; blanks = gap.1; split = gap.2 ∙ ap (λ (l : List ℕ). gap.0 ++ l) found.split; ends = found.ends } in
    (begins, found.none)

-- a word that is asked for

pub behind_of : (word line rest : List ℕ) → IsWord word → BeginsWithWord line word rest → behind_word word line ≡ Some rest
unfolding behind_word
behind_of word line rest is begins =
    let first : first_word line ≡ (word, rest) = first_of line word rest is begins in
    rw (first, (bytes_eq-Decides word word).1 refl)

pub behind_back : (word line rest : List ℕ) → behind_word word line ≡ Some rest → BeginsWithWord line word rest
unfolding behind_word
behind_back word line rest is =
    let both = if_some (bytes_eq (first_word line).0 word) (first_word line).1 rest is in
    let same : (first_word line).0 ≡ word = (bytes_eq-Decides (first_word line).0 word).0 both.0 in
    subst (λ (r : List ℕ). BeginsWithWord line word r) both.1 (subst (λ (w : List ℕ). BeginsWithWord line w (first_word line).1) same (first_back line).0)

-- the words are none, or the first of them isn't this one
abbrev pub BeginOtherwise : List ℕ → List (List ℕ) → Type 0
BeginOtherwise word [] = bytes_eq [] word ≡ false
BeginOtherwise word (other ∷ words) = IsWord other × (bytes_eq other word ≡ false)

pub is_other : (word line : List ℕ) (words : List (List ℕ)) → AreWords line words → BeginOtherwise word words → bytes_eq (first_word line).0 word ≡ false
is_other word line [] are other = ap (λ (w : List ℕ × List ℕ). bytes_eq w.0 word) (first_of_none line are) ∙ other
is_other word line (first ∷ words) are other = ap (λ (w : List ℕ × List ℕ). bytes_eq w.0 word) (first_of line first are.0 other.0 are.1) ∙ other.1

pub behind_other : (word line : List ℕ) (words : List (List ℕ)) → AreWords line words → BeginOtherwise word words → behind_word word line ≡ None
unfolding behind_word
behind_other word line words are other = rw (is_other word line words are other)

-- texts in quotation marks

abbrev pub is_no_quote : ℕ → Bool
is_no_quote b = not (eqb b 34)

-- no byte of these is a quotation mark
abbrev pub HasNoQuote : List ℕ → Type 0
HasNoQuote text = list_all is_no_quote text ≡ true

quote_of : (text rest : List ℕ) → HasNoQuote text → until_quote (text ++ 34 ∷ rest) ≡ Some (text, rest)
unfolding until_quote
quote_of [] rest none = refl
quote_of (b ∷ text) rest none =
    let parts = and_parts (is_no_quote b) (list_all is_no_quote text) none in
    let off : eqb b 34 ≡ false = not_true _ parts.0 in
    rw off (ap (option_map (onto b)) (quote_of text rest parts.1))

abbrev taken_off : List ℕ → List ℕ → Option (List ℕ × List ℕ)
taken_off text rest = Some (text, rest)

quote_step : (b : ℕ) (bytes text rest : List ℕ) (o : Option (List ℕ × List ℕ)) → ((v : List ℕ) → o ≡ taken_off v rest → bytes ≡ v ++ 34 ∷ rest) → option_map (onto b) o ≡ taken_off text rest → b ∷ bytes ≡ text ++ 34 ∷ rest
quote_step b bytes text rest None later is = absurd (cc is)
quote_step b bytes text rest (Some p) later is =
    let taken : List ℕ × List ℕ = (text, rest) in
    let same : onto b p ≡ taken = cc is in
    let front : b ∷ p.0 ≡ text = ap (λ (t : List ℕ × List ℕ). t.0) same in
    let behind_it : p.1 ≡ rest = ap (λ (t : List ℕ × List ℕ). t.1) same in
    ap (λ (l : List ℕ). b ∷ l) (later p.0 (ap (λ (r : List ℕ). taken_off p.0 r) behind_it)) ∙ ap (λ (l : List ℕ). l ++ 34 ∷ rest) front

quote_if : (b : ℕ) (bytes text rest : List ℕ) (t : Bool) → eqb b 34 ≡ t → ((v : List ℕ) → until_quote bytes ≡ taken_off v rest → bytes ≡ v ++ 34 ∷ rest) → (if t then taken_off [] bytes else option_map (onto b) (until_quote bytes)) ≡ taken_off text rest → b ∷ bytes ≡ text ++ 34 ∷ rest
quote_if b bytes text rest true quote later is =
    let none : List ℕ × List ℕ = ([], bytes) in
    let taken : List ℕ × List ℕ = (text, rest) in
    let pairs : none ≡ taken = cc is in
    let empty : [] ≡ text = ap (λ (t : List ℕ × List ℕ). t.0) pairs in
    let rest_is : bytes ≡ rest = ap (λ (t : List ℕ × List ℕ). t.1) pairs in
    let same : b ≡ 34 = eqb-true b 34 quote in
    ap (λ (c : ℕ). c ∷ bytes) same ∙ ap (λ (l : List ℕ). 34 ∷ l) rest_is ∙ ap (λ (l : List ℕ). l ++ 34 ∷ rest) empty
quote_if b bytes text rest false other later is = quote_step b bytes text rest (until_quote bytes) later is

quote_back : (bytes text rest : List ℕ) → until_quote bytes ≡ taken_off text rest → bytes ≡ text ++ 34 ∷ rest
unfolding until_quote
quote_back [] text rest is = absurd (cc is)
quote_back (b ∷ bytes) text rest is = quote_if b bytes text rest (eqb b 34) refl (λ v before. quote_back bytes v rest before) is

-- a text in quotation marks as the first word

pub quoted_of : (line text rest : List ℕ) → HasNoQuote text → BeginsWithWord line (quoted text) rest → read_quoted line ≡ Some (text, rest)
unfolding read_quoted behind_blanks
quoted_of line text rest none begins =
    let cut : behind_blanks line ≡ 34 ∷ ((text ++ 34 ∷ []) ++ rest) = ap behind_blanks begins.split ∙ behind_gap begins.gap (quoted text ++ rest) begins.blanks in
    let found : until_quote ((text ++ 34 ∷ []) ++ rest) ≡ Some (text, rest) = ap until_quote (append_assoc text (34 ∷ []) rest) ∙ quote_of text rest none in
    ap quoted_at cut ∙ rw (found, begins.ends)

quoted_if : (b : ℕ) (bytes : List ℕ) (t : Bool) (found : List ℕ × List ℕ) → eqb b 34 ≡ t → (if t then (until_quote bytes >>= (λ (f : List ℕ × List ℕ). if is_word_end f.1 then Some f else None)) else None) ≡ Some found
    → (b ∷ bytes ≡ quoted found.0 ++ found.1) × (is_word_end found.1 ≡ true)
quoted_if b bytes false found off is = absurd (cc is)
quoted_if b bytes true found on is =
    let cut = bind_some (until_quote bytes) _ found is in
    let both = if_some (is_word_end cut.0.1) cut.0 found cut.2 in
    let back : bytes ≡ cut.0.0 ++ 34 ∷ cut.0.1 = quote_back bytes cut.0.0 cut.0.1 cut.1 in
    let same : b ≡ 34 = eqb-true b 34 on in
    let whole : b ∷ bytes ≡ quoted cut.0.0 ++ cut.0.1 = ap (λ (c : ℕ). c ∷ bytes) same ∙ ap (λ (l : List ℕ). 34 ∷ l) (back ∙ sym (append_assoc cut.0.0 (34 ∷ []) cut.0.1)) in
    subst (λ (f : List ℕ × List ℕ). (b ∷ bytes ≡ quoted f.0 ++ f.1) × (is_word_end f.1 ≡ true)) both.1 (whole, both.0)

quoted_at_back : (bytes : List ℕ) (found : List ℕ × List ℕ) → quoted_at bytes ≡ Some found → (bytes ≡ quoted found.0 ++ found.1) × (is_word_end found.1 ≡ true)
quoted_at_back [] found is = absurd (cc is)
quoted_at_back (b ∷ bytes) found is = quoted_if b bytes (eqb b 34) found refl is

pub quoted_back : (line : List ℕ) (found : List ℕ × List ℕ) → read_quoted line ≡ Some found → BeginsWithWord line (quoted found.0) found.1
unfolding read_quoted
quoted_back line found is =
    let gap = has_gap line in
    let at = quoted_at_back (behind_blanks line) found is in
    record { gap = gap.0; blanks = gap.1; split = gap.2 ∙ ap (λ (l : List ℕ). gap.0 ++ l) at.0; ends = at.1 }
