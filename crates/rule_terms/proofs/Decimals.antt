-- Decimal digits and the number that they are.
use Rattle.std.proofs.Common.{◌≡◌, ℕ, zero, suc, ◌+◌, ◌-◌, ◌*◌, ◌/◌, ◌%◌, ◌^◌, ◌<◌, ◌≤◌, Bool, true, false, eqb, List, [], ◌∷◌, ◌++◌, length, get_or, Option, Some, None, refl, sym, ◌∙◌, ap, arith, append_assoc, inl, inr, subst}
use Rattle.std.specs.Prelude.{nat_le, nat_lt, ◌&&◌, ◌||◌, if◌then◌else◌}
use Rattle.std.specs.Fmt.{decimal}
use Rattle.std.proofs.lemmas.Fmt.{decimal_by_steps, decimal_digit, decimal_step, first_decimal, decimal_nonempty}
use Rattle.std.proofs.lemmas.Bool.{leb-true, ltb-true, eqb-true, le-leb, lt-ltb, ne_eqb, eq-eqb, and_from, and_parts, or_from, or_parts, false_from_ne_true, cases_Bool, cases_eq, cond-true, cond-false}
use Rattle.std.proofs.lemmas.List.{append-nil}
use Rattle.std.specs.List.{list_all}
use Rattle.rule_terms.proofs.Tokens.{IsWord, is_no_blank}
use Rattle.rule_terms.specs.Grammar.{is_digit}
use Rattle.rule_terms.specs.Words.{is_blank}
use Rattle.rule_terms.specs.Reader.{digits_from, number_of}

-- a digit goes on with the number
digit_next : (n d : ℕ) (cs : List ℕ) → d < 10 → 10 * n + d ≤ 65535 → digits_from n ((48 + d) ∷ cs) ≡ digits_from (10 * n + d) cs
unfolding digits_from
digit_next n d cs small fits =
    let back : 48 + d - 48 ≡ d = omega arith in
    let digit : is_digit (48 + d) ≡ true = and_from _ _ (le-leb 48 (48 + d) (omega arith)) (le-leb (48 + d) 57 (omega arith)) in
    let fits' : nat_le (10 * n + (48 + d - 48)) 65535 ≡ true = le-leb _ _ (omega arith) in
    cond-true (is_digit (48 + d) && nat_le (10 * n + (48 + d - 48)) 65535) _ _ (and_from _ _ digit fits') ∙ ap (λ (k : ℕ). digits_from (10 * n + k) cs) back

abbrev ReadsOn : ℕ → List ℕ → Type 0
ReadsOn n ds = n ≤ 65535 → (cs : List ℕ) → digits_from 0 (ds ++ cs) ≡ digits_from n cs

reads_one : (n : ℕ) → n < 10 → ReadsOn n ((48 + n) ∷ [])
reads_one n small fits cs = digit_next 0 n cs small (omega arith) ∙ ap (λ (k : ℕ). digits_from k cs) (omega arith)

reads_more : (n : ℕ) (ds : List ℕ) → 10 ≤ n → ReadsOn (n / 10) ds → ReadsOn n (ds ++ (48 + n % 10) ∷ [])
reads_more n ds large before fits cs =
    ap (λ (l : List ℕ). digits_from 0 l) (append_assoc ds ((48 + n % 10) ∷ []) cs) ∙ before (omega arith) ((48 + n % 10) ∷ cs)
    ∙ digit_next (n / 10) (n % 10) cs (omega arith) (omega arith) ∙ ap (λ (k : ℕ). digits_from k cs) (omega arith)

no_zero_in_front : (n : ℕ) → n < 2 ^ 64 → (length (decimal n) ≡ 0 → ⊥) × (1 < length (decimal n) → get_or (decimal n) 0 0 ≡ 48 → ⊥)
no_zero_in_front zero fits = (λ none. absurd (omega (arith, ap length (decimal_digit 0 (omega arith)))), λ long first. absurd (omega (arith, ap length (decimal_digit 0 (omega arith)))))
no_zero_in_front (suc n) fits = (λ none. absurd (omega (arith, decimal_nonempty (suc n) fits)), λ long first. absurd (omega (arith, first_decimal (suc n) (omega arith) fits)))

pub decimal_reads : (n : ℕ) → n ≤ 65535 → number_of (decimal n) ≡ Some n
unfolding number_of digits_from
decimal_reads n fits =
    let zero_rule = no_zero_in_front n (omega arith) in
    let some : eqb (length (decimal n)) 0 ≡ false = ne_eqb _ _ zero_rule.0 in
    let front : nat_lt 1 (length (decimal n)) && eqb (get_or (decimal n) 0 0) 48 ≡ false = false_from_ne_true _ (λ both.
    let parts = and_parts (nat_lt 1 (length (decimal n))) (eqb (get_or (decimal n) 0 0) 48) both in
    zero_rule.1 (ltb-true 1 (length (decimal n)) parts.0) (eqb-true (get_or (decimal n) 0 0) 48 parts.1)) in
    let reads : digits_from 0 (decimal n ++ []) ≡ Some n = decimal_by_steps ReadsOn reads_one reads_more n (omega arith) fits [] in
    cond-false (eqb (length (decimal n)) 0 || (nat_lt 1 (length (decimal n)) && eqb (get_or (decimal n) 0 0) 48)) None (digits_from 0 (decimal n)) (or_from _ _ some front)
    ∙ ap (λ (l : List ℕ). digits_from 0 l) (sym (append-nil (decimal n))) ∙ reads

-- the digits behind a number that isn't 0 are those of the whole number
goes_on : (n v : ℕ) (cs : List ℕ) → 0 < n → n ≤ 65535 → digits_from n cs ≡ Some v → (v ≤ 65535) × (decimal v ≡ decimal n ++ cs)
unfolding digits_from
goes_on n v [] some fits is =
    let same : n ≡ v = cc is in
    (omega arith, ap decimal (sym same) ∙ sym (append-nil (decimal n)))
goes_on n v (c ∷ cs) some fits is =
    let t : Bool = is_digit c && nat_le (10 * n + (c - 48)) 65535 in
    elim (cases_Bool t) [
      | inl good ↦ (
          let parts = and_parts (is_digit c) (nat_le (10 * n + (c - 48)) 65535) good in
          let digit = and_parts (nat_le 48 c) (nat_le c 57) parts.0 in
          let low : 48 ≤ c = leb-true 48 c digit.0 in
          let high : c ≤ 57 = leb-true c 57 digit.1 in
          let next_fits : 10 * n + (c - 48) ≤ 65535 = leb-true _ _ parts.1 in
          let next : digits_from (10 * n + (c - 48)) cs ≡ Some v = sym (cond-true t (digits_from (10 * n + (c - 48)) cs) None good) ∙ is in
          let later = goes_on (10 * n + (c - 48)) v cs (omega arith) next_fits next in
          let step = decimal_step (10 * n + (c - 48)) (omega arith) (omega arith) in
          let front : (10 * n + (c - 48)) / 10 ≡ n = omega arith in
          let last : 48 + (10 * n + (c - 48)) % 10 ≡ c = omega arith in
          (later.0, later.1 ∙ ap (λ (l : List ℕ). l ++ cs) (step ∙ ap (λ (k : ℕ). decimal k ++ (48 + (10 * n + (c - 48)) % 10) ∷ []) front ∙ ap (λ (d : ℕ). decimal n ++ d ∷ []) last) ∙ append_assoc (decimal n) (c ∷ []) cs)
          )
      | inr bad ↦ absurd (cc (is, cond-false t (digits_from (10 * n + (c - 48)) cs) None bad))
    ]

if_not : (t : Bool) (o : Option ℕ) (n : ℕ) → (if t then None else o) ≡ Some n → (t ≡ false) × (o ≡ Some n)
if_not true o n is = absurd (cc is)
if_not false o n is = (refl, is)

if_so : (t : Bool) (o : Option ℕ) (n : ℕ) → (if t then o else None) ≡ Some n → (t ≡ true) × (o ≡ Some n)
if_so true o n is = (refl, is)
if_so false o n is = absurd (cc is)

-- a zero stands alone
alone : (c : ℕ) (cs : List ℕ) → c ≡ 48 → nat_lt 1 (length (c ∷ cs)) && eqb c 48 ≡ false → cs ≡ []
alone c [] zero_digit off = refl
alone c (d ∷ cs) zero_digit off =
    let both : nat_lt 1 (length (c ∷ d ∷ cs)) && eqb c 48 ≡ true = and_from _ _ (lt-ltb 1 _ (omega arith)) (eq-eqb c 48 zero_digit) in
    absurd (cc (off, both))

first_digit : (c n : ℕ) (cs : List ℕ) → 48 ≤ c → c ≤ 57 → digits_from (10 * 0 + (c - 48)) cs ≡ Some n → nat_lt 1 (length (c ∷ cs)) && eqb c 48 ≡ false → (n ≤ 65535) × (c ∷ cs ≡ decimal n)
unfolding digits_from
first_digit c n cs low high is off =
    elim (cases_eq c 48) [
      | inl zero_digit ↦ (
          let none : cs ≡ [] = alone c cs zero_digit off in
          let value : digits_from (10 * 0 + (c - 48)) [] ≡ Some n = subst (λ (l : List ℕ). digits_from (10 * 0 + (c - 48)) l ≡ Some n) none is in
          let same : 10 * 0 + (c - 48) ≡ n = cc value in
          let here : 48 + n ≡ c = omega arith in
          (omega arith, ap (λ (l : List ℕ). c ∷ l) none ∙ ap (λ (d : ℕ). d ∷ []) (sym here) ∙ sym (decimal_digit n (omega arith)))
          )
      | inr other ↦ (
          let later = goes_on (10 * 0 + (c - 48)) n cs (omega (arith, other)) (omega arith) is in
          let here : 48 + (10 * 0 + (c - 48)) ≡ c = omega arith in
          (later.0, ap (λ (d : ℕ). d ∷ cs) (sym here) ∙ ap (λ (l : List ℕ). l ++ cs) (sym (decimal_digit (10 * 0 + (c - 48)) (omega arith))) ∙ sym later.1)
          )
    ]

pub number_back : (cs : List ℕ) (n : ℕ) → number_of cs ≡ Some n → (n ≤ 65535) × (cs ≡ decimal n)
unfolding number_of digits_from
number_back [] n is = absurd (cc is)
number_back (c ∷ cs) n is =
    let outer = if_not (eqb (length (c ∷ cs)) 0 || (nat_lt 1 (length (c ∷ cs)) && eqb c 48)) (digits_from 0 (c ∷ cs)) n is in
    let off = (or_parts (eqb (length (c ∷ cs)) 0) (nat_lt 1 (length (c ∷ cs)) && eqb c 48) outer.0).1 in
    let inner = if_so (is_digit c && nat_le (10 * 0 + (c - 48)) 65535) (digits_from (10 * 0 + (c - 48)) cs) n outer.1 in
    let parts = and_parts (is_digit c) (nat_le (10 * 0 + (c - 48)) 65535) inner.0 in
    let digit = and_parts (nat_le 48 c) (nat_le c 57) parts.0 in
    first_digit c n cs (leb-true 48 c digit.0) (leb-true c 57 digit.1) inner.1 off

digit_no_blank : (k : ℕ) → is_no_blank (48 + k) ≡ true
digit_no_blank k =
    let space : eqb (48 + k) 32 ≡ false = ne_eqb (48 + k) 32 (λ e. absurd (omega arith)) in
    let tab : eqb (48 + k) 9 ≡ false = ne_eqb (48 + k) 9 (λ e. absurd (omega arith)) in
    rw (space, tab)

word_more : (ds : List ℕ) (d : ℕ) → IsWord ds → is_no_blank d ≡ true → IsWord (ds ++ d ∷ [])
word_more [] d word last = absurd word
word_more (c ∷ ds) d word last = all_more (c ∷ ds) word
  where
    all_more : (cs : List ℕ) → list_all is_no_blank cs ≡ true → list_all is_no_blank (cs ++ d ∷ []) ≡ true
    all_more [] all = and_from _ _ last refl
    all_more (b ∷ cs) all =
        let parts = and_parts (is_no_blank b) (list_all is_no_blank cs) all in
        and_from _ _ parts.0 (all_more cs parts.1)

pub decimal_word : (n : ℕ) → n < 2 ^ 64 → IsWord (decimal n)
decimal_word n fits = decimal_by_steps (λ (k : ℕ) (ds : List ℕ). IsWord ds) (λ k small. and_from _ _ (digit_no_blank k) refl) (λ k ds large before. word_more ds (48 + k % 10) before (digit_no_blank (k % 10))) n fits
