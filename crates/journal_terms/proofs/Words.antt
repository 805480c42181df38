-- Which bytes the words of a journal lack, and what a number's word reads as.
use Rattle.std.proofs.Common.{◌≡◌, ℕ, ◌<◌, Bool, true, false, cond, eqb, List, [], ◌∷◌, length, refl, ap, ◌∙◌, arith, codes, decimal}
use Rattle.std.specs.Str.{bytes_eq}
use Rattle.std.proofs.lemmas.Fmt.{decimal_is_IsNumeral}
use Rattle.std.proofs.lemmas.List.Elements.{All-head}
use Rattle.serial_terms.specs.declared.call.Reply.{Reply}
use Rattle.serial_terms.specs.declared.call.Reply.TheVariants.{Nothing, Absent, Value, Flag}
use Rattle.serial_terms.specs.Kinds.{IsValue, IsValueOrAbsent, IsFlag}
use Rattle.journal_terms.specs.Text.{reply_word}
use Rattle.journal_terms.specs.Reading.{number, value_or_absent}
use Rattle.journal_terms.specs.Laws.{IsShort, HasShortReply}
use Rattle.journal_terms.proofs.Cutting.{Lacks, plain, lacks_plain, lacks_digits}

-- a word has no separator in it
pub record IsWord (w : List ℕ) : Type 0 where
  pub feeds : Lacks 10 w
  pub spaces : Lacks 32 w
  pub colons : Lacks 58 w
  pub semicolons : Lacks 59 w

pub plain_word : (w : List ℕ) → plain w ≡ true → IsWord w
plain_word w p = record { feeds = lacks_plain 10 refl w p; spaces = lacks_plain 32 refl w p; colons = lacks_plain 58 refl w p; semicolons = lacks_plain 59 refl w p }

pub decimal_word : (n : ℕ) → IsShort n → IsWord (decimal n)
decimal_word n l = let d = (decimal_is_IsNumeral n l).0.1 in record {
  feeds = lacks_digits 10 (λ l. omega arith) (decimal n) d;
  spaces = lacks_digits 32 (λ l. omega arith) (decimal n) d;
  colons = lacks_digits 58 (λ l. omega arith) (decimal n) d;
  semicolons = lacks_digits 59 (λ l. omega arith) (decimal n) d;
}

pub number_back : (n : ℕ) → IsShort n → number (decimal n) ≡ n
number_back n l = (decimal_is_IsNumeral n l).1

-- a word of digits isn't the word of an absent reply
pub not_dash : (w : List ℕ) → 0 < length w → Lacks 45 w → bytes_eq w (codes "-") ≡ false
not_dash [] l d = absurd (omega arith)
not_dash (x ∷ xs) l d = let e = All-head (λ y. eqb y 45 ≡ false) x xs d in rw e

pub reply_is_word : (r : Reply) → HasShortReply r → IsWord (reply_word r)
reply_is_word Nothing s = plain_word [] refl
reply_is_word Absent s = plain_word (codes "-") refl
reply_is_word (Value v) s = decimal_word v s
reply_is_word (Flag true) s = plain_word (codes "yes") refl
reply_is_word (Flag false) s = plain_word (codes "no") refl

pub value_or_absent_back : (r : Reply) → IsValueOrAbsent r → HasShortReply r → value_or_absent (reply_word r) ≡ r
value_or_absent_back Nothing k s = absurd k
value_or_absent_back Absent k s = refl
value_or_absent_back (Value v) k s = let n = decimal_is_IsNumeral v s in let no = not_dash (decimal v) n.0.0 (lacks_digits 45 (λ l. omega arith) (decimal v) n.0.1) in
    ap (λ (z : Bool). cond z Absent (Value (number (decimal v)))) no ∙ ap Value n.1
value_or_absent_back (Flag b) k s = absurd k

pub value_back : (r : Reply) → IsValue r → HasShortReply r → Value (number (reply_word r)) ≡ r
value_back Nothing k s = absurd k
value_back Absent k s = absurd k
value_back (Value v) k s = ap Value (number_back v s)
value_back (Flag b) k s = absurd k

pub flag_back : (r : Reply) → IsFlag r → Flag (bytes_eq (reply_word r) (codes "yes")) ≡ r
flag_back Nothing k = absurd k
flag_back Absent k = absurd k
flag_back (Value v) k = absurd k
flag_back (Flag true) k = refl
flag_back (Flag false) k = refl
