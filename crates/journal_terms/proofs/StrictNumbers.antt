-- A word is read as a number exactly where it is that number's, and as a reply exactly where it is that reply's.
use Rattle.std.specs.Prelude.{not, nat_lt, ◌&&◌}
use Rattle.std.specs.List.{list_all}
use Rattle.std.specs.Str.{bytes_eq}
use Rattle.std.proofs.Common.{◌≡◌, ℕ, zero, suc, ◌^◌, ◌<◌, ◌≤◌, ◌⊎◌, inl, inr, Bool, true, false, eqb, cond, List, length, get_or, sym, refl, ap, ◌∙◌, subst, Option, Some, None, arith, rules, codes, decimal}
use Rattle.std.proofs.lemmas.Bool.{ltb-true, eqb-true, lt-ltb, eq-eqb, and_from, and_parts, false_from_ne_true, cases_eq, cond-true, cond-false}
use Rattle.std.proofs.lemmas.Fmt.{digits_decimal, digits_value-decimal, decimal-digits_value, decimal_digit, decimal_nonempty, first_decimal, decimal_is_IsNumeral}
use Rattle.std.proofs.lemmas.Slice.Eq.{bytes_eq-Decides}
use Rattle.std.proofs.lemmas.Str.Parse.{IsNumeralModel, numerals_by_fold}
use Rattle.serial_terms.specs.declared.call.Reply.{Reply}
use Rattle.serial_terms.specs.declared.call.Reply.TheVariants.{Nothing, Absent, Value, Flag}
use Rattle.serial_terms.specs.Kinds.{IsValue, IsValueOrAbsent, IsFlag}
use Rattle.journal_terms.specs.Text.{reply_word}
use Rattle.journal_terms.specs.Laws.{HasShortReply}
use Rattle.journal_terms.specs.Strict.{read_on, is_digit, is_number, number_below, number, as_value, value, value_or_absent, flag}
use Rattle.journal_terms.proofs.Cutting.{lacks_digits}
use Rattle.journal_terms.proofs.Words.{not_dash}

own : IsNumeralModel (λ ds. list_all is_digit ds ≡ true) (read_on 0)
own = numerals_by_fold _ (search rules) read_on (search rules)

-- ---- choices

module _ {A : Type 0} where
  pub if_so : (t : Bool) (x : Option A) (z : A) → cond t x None ≡ Some z → (t ≡ true) × (x ≡ Some z)
  if_so true x z e = (refl, e)
  if_so false x z e = absurd (cc e)

  pub if_cases : (t : Bool) (x y : Option A) (z : A) → cond t x y ≡ Some z → ((t ≡ true) × (x ≡ Some z)) ⊎ ((t ≡ false) × (y ≡ Some z))
  if_cases true x y z e = inl (refl, e)
  if_cases false x y z e = inr (refl, e)

pub is_word : (w name : List ℕ) → bytes_eq w name ≡ true → name ≡ w
is_word w name e = sym ((bytes_eq-Decides w name).0 e)

not_so : (b : Bool) → b ≡ false → not b ≡ true
not_so b e = ap not e

so_not : (b : Bool) → not b ≡ true → b ≡ false
so_not true e = absurd (cc e)
so_not false e = refl

-- ---- numbers

no_zero_in_front : (n : ℕ) → n < 2 ^ 64 → 1 < length (decimal n) → get_or (decimal n) 0 0 ≡ 48 → ⊥
no_zero_in_front zero fits long first = absurd (omega (arith, ap length (decimal_digit 0 (omega arith))))
no_zero_in_front (suc n) fits long first = absurd (omega (arith, first_decimal (suc n) (omega arith) fits))

pub number_back : (bound n : ℕ) → n < bound → bound ≤ 2 ^ 64 → number_below bound (decimal n) ≡ Some n
unfolding number_below is_number
number_back bound n small large = let fits : n < 2 ^ 64 = omega arith in
    let w : List ℕ = decimal n in
    let v : read_on 0 w ≡ n = digits_value-decimal own n fits in
    let some : nat_lt 0 (length w) ≡ true = lt-ltb 0 (length w) (decimal_nonempty n fits) in
    let front : nat_lt 1 (length w) && eqb (get_or w 0 0) 48 ≡ false = false_from_ne_true _ (λ both.
    let parts = and_parts (nat_lt 1 (length w)) (eqb (get_or w 0 0) 48) both in
    no_zero_in_front n fits (ltb-true 1 (length w) parts.0) (eqb-true (get_or w 0 0) 48 parts.1)) in
    let good = and_from _ _ (and_from _ _ some (not_so _ front)) (digits_decimal own n fits) in
    let below : nat_lt (read_on 0 w) bound ≡ true = lt-ltb (read_on 0 w) bound (omega arith) in
    cond-true _ (Some (read_on 0 w)) None (and_from _ _ good below) ∙ ap Some v

pub number_is : (bound : ℕ) (w : List ℕ) (n : ℕ) → bound ≤ 2 ^ 64 → number_below bound w ≡ Some n → (n < bound) × (decimal n ≡ w)
unfolding number_below is_number
number_is bound w n large e = let t : Bool = nat_lt 0 (length w) && not (nat_lt 1 (length w) && eqb (get_or w 0 0) 48) && list_all is_digit w && nat_lt (read_on 0 w) bound in
    let outer : (t ≡ true) × (Some (read_on 0 w) ≡ Some n) = if_so t (Some (read_on 0 w)) n e in
    let same : read_on 0 w ≡ n = cc (outer.1) in
    let parts = and_parts (nat_lt 0 (length w) && not (nat_lt 1 (length w) && eqb (get_or w 0 0) 48) && list_all is_digit w) (nat_lt (read_on 0 w) bound) outer.0 in
    let inner = and_parts (nat_lt 0 (length w) && not (nat_lt 1 (length w) && eqb (get_or w 0 0) 48)) (list_all is_digit w) parts.0 in
    let front = and_parts (nat_lt 0 (length w)) (not (nat_lt 1 (length w) && eqb (get_or w 0 0) 48)) inner.0 in
    let some : 0 < length w = ltb-true 0 (length w) front.0 in
    let low : read_on 0 w < bound = ltb-true (read_on 0 w) bound parts.1 in
    let alone : get_or w 0 0 ≡ 48 → length w ≡ 1 = λ first. elim (cases_eq (length w) 1) [
      | inl one ↦ one
      | inr more ↦ (let both : nat_lt 1 (length w) && eqb (get_or w 0 0) 48 ≡ true = and_from _ _ (lt-ltb 1 (length w) (omega (arith, more))) (eq-eqb (get_or w 0 0) 48 first) in
          absurd (cc (both, so_not _ front.1)))
    ] in
    (omega arith, ap decimal (sym same) ∙ decimal-digits_value own w inner.1 some alone (omega arith))

-- ---- replies

pub as_value_is : (o : Option ℕ) (r : Reply) → as_value o ≡ Some r → (n : ℕ) × (o ≡ Some n) × (Value n ≡ r)
as_value_is None r e = absurd (cc e)
as_value_is (Some n) r e = (n, refl, cc e)

pub record IsReplyOf (Kind : Reply → Type 0) (w : List ℕ) (r : Reply) : Type 0 where
  pub word : reply_word r ≡ w
  pub kind : Kind r
  pub short : HasShortReply r

pub value_is : (w : List ℕ) (r : Reply) → value w ≡ Some r → IsReplyOf IsValue w r
value_is w r e = let a = as_value_is (number w) r e in let n = number_is (2 ^ 64) w a.0 (omega arith) a.1 in
    subst (IsReplyOf IsValue w) a.2 (record { word = n.1; kind = tt; short = n.0 })

widened : (w : List ℕ) (r : Reply) → IsReplyOf IsValue w r → IsReplyOf IsValueOrAbsent w r
widened w (Value v) h = record { word = h.word; kind = tt; short = h.short }
widened w Nothing h = absurd h.kind
widened w Absent h = absurd h.kind
widened w (Flag b) h = absurd h.kind

pub value_or_absent_is : (w : List ℕ) (r : Reply) → value_or_absent w ≡ Some r → IsReplyOf IsValueOrAbsent w r
value_or_absent_is w r e = elim (if_cases (bytes_eq w (codes "-")) (Some Absent) (value w) r e) [
  | inl h ↦ (let same : Absent ≡ r = cc (h.1) in subst (IsReplyOf IsValueOrAbsent w) same (record { word = is_word w (codes "-") h.0; kind = tt; short = tt }))
  | inr h ↦ widened w r (value_is w r h.1)
]

pub flag_is : (w : List ℕ) (r : Reply) → flag w ≡ Some r → IsReplyOf IsFlag w r
flag_is w r e = elim (if_cases (bytes_eq w (codes "yes")) (Some (Flag true)) (cond (bytes_eq w (codes "no")) (Some (Flag false)) None) r e) [
  | inl h ↦ (let same : Flag true ≡ r = cc (h.1) in subst (IsReplyOf IsFlag w) same (record { word = is_word w (codes "yes") h.0; kind = tt; short = tt }))
  | inr h ↦ (let k = if_so (bytes_eq w (codes "no")) (Some (Flag false)) r h.1 in
      let same : Flag false ≡ r = cc (k.1) in subst (IsReplyOf IsFlag w) same (record { word = is_word w (codes "no") k.0; kind = tt; short = tt }))
]

pub value_back : (r : Reply) → IsValue r → HasShortReply r → value (reply_word r) ≡ Some r
value_back Nothing k s = absurd k
value_back Absent k s = absurd k
value_back (Value v) k s = ap as_value (number_back (2 ^ 64) v s (omega arith))
value_back (Flag b) k s = absurd k

pub value_or_absent_back : (r : Reply) → IsValueOrAbsent r → HasShortReply r → value_or_absent (reply_word r) ≡ Some r
value_or_absent_back Nothing k s = absurd k
value_or_absent_back Absent k s = refl
value_or_absent_back (Value v) k s = let n = decimal_is_IsNumeral v s in
    cond-false (bytes_eq (decimal v) (codes "-")) (Some Absent) (value (decimal v)) (not_dash (decimal v) n.0.0 (lacks_digits 45 (λ l. omega arith) (decimal v) n.0.1)) ∙ ap as_value (number_back (2 ^ 64) v s (omega arith))
value_or_absent_back (Flag b) k s = absurd k

pub flag_back : (r : Reply) → IsFlag r → flag (reply_word r) ≡ Some r
flag_back Nothing k = absurd k
flag_back Absent k = absurd k
flag_back (Value v) k = absurd k
flag_back (Flag true) k = refl
flag_back (Flag false) k = refl
