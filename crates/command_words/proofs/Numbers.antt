-- Words that are the decimal digits of numbers.
use Rattle.std.proofs.Common.{◌≡◌, ◌⊎◌, inl, inr, ℕ, ◌<◌, ◌≤◌, ◌^◌, Bool, true, false, List, Some, None, Result, Ok, refl, sym, ◌∙◌, ap, arith}
use Rattle.std.specs.Prelude.{◌&&◌, nat_le, if◌then◌else◌}
use Rattle.std.specs.Fmt.{decimal}
use Rattle.std.specs.Str.{bytes_eq}
use Rattle.std.specs.Str.Parse.{digits_value, ParsesUnsigned}
use Rattle.std.proofs.lemmas.Bool.Decides.{nat_tests}
use Rattle.std.proofs.lemmas.Fmt.{decimal_is_IsNumeral, parse-decimal}
use Rattle.std.proofs.lemmas.Slice.Eq.{bytes_eq-Decides}
use Rattle.command_words.specs.Words.{number_in}

-- the digits of one number are parsed as it
pub parsed : {E : Type 0} (number : ℕ) (word : List ℕ) (r : Result ℕ E) → number < 2 ^ 64 → word ≡ decimal number → ParsesUnsigned 64 10 word r → r ≡ Ok number
parsed number word r small is parses = parse-decimal 64 number word r small (omega (arith, small)) is parses

module _ (least most number : ℕ) (word : List ℕ) (small : number < 2 ^ 64) (is : word ≡ decimal number) where
  value : digits_value 10 word ≡ number
  value = ap (digits_value 10) is ∙ (decimal_is_IsNumeral number (omega (arith, small))).1

  pub number_in_is : number_in least most word ≡ (if nat_le least number && nat_le number most then Some number else None)
  unfolding number_in
  number_in_is =
      let same : bytes_eq word (decimal (digits_value 10 word)) ≡ true = (bytes_eq-Decides word (decimal (digits_value 10 word))).1 (is ∙ sym (ap decimal value)) in
      ap (λ (b : Bool). if b && (nat_le least (digits_value 10 word) && nat_le (digits_value 10 word) most) then Some (digits_value 10 word) else None) same
      ∙ ap (λ (n : ℕ). if nat_le least n && nat_le n most then Some n else None) value

  pub number_in_some : least ≤ number → number ≤ most → Some number ≡ number_in least most word
  number_in_some above below =
      let a : nat_le least number ≡ true = grind (arith, nat_tests) in
      let b : nat_le number most ≡ true = grind (arith, nat_tests) in
      sym (number_in_is ∙ rw a (rw b refl))

  pub number_in_out : (number < least) ⊎ (most < number) → None ≡ number_in least most word
  number_in_out (inl below) =
      let a : nat_le least number ≡ false = grind (arith, nat_tests) in
      sym (number_in_is ∙ rw a refl)
  number_in_out (inr above) =
      let b : nat_le number most ≡ false = grind (arith, nat_tests) in
      sym (number_in_is ∙ neither (nat_le least number) b)
    where
      neither : (a : Bool) → nat_le number most ≡ false → (if a && nat_le number most then Some number else None) ≡ None
      neither true b = rw b refl
      neither false b = refl

-- a word that is no number's digits is none from the least to the most
pub number_in_none : (least most : ℕ) (word : List ℕ) → most < 2 ^ 64 → ((number : ℕ) → number < 2 ^ 64 → word ≡ decimal number → ⊥) → None ≡ number_in least most word
unfolding number_in
number_in_none least most word fits none = sym (by_case (bytes_eq word (decimal number)) refl (nat_le least number) (nat_le number most) refl)
  where
    number : ℕ
    number = digits_value 10 word

    by_case : (written : Bool) → bytes_eq word (decimal number) ≡ written → (above below : Bool) → nat_le number most ≡ below → (if written && (above && below) then Some number else None) ≡ None
    by_case false other above below reach = refl
    by_case true here false below reach = refl
    by_case true here true false reach = refl
    by_case true here true true reach =
        let is : word ≡ decimal number = (bytes_eq-Decides word (decimal number)).0 here in
        let small : number ≤ most = grind (arith, nat_tests) in
        absurd (none number (omega (arith, small, fits)) is)
