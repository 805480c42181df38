-- A until_quote ends at the first blank, a quoted text at the first quotation mark.
use Rattle.std.specs.Prelude.{if◌then◌else◌}
use Rattle.rule_terms.specs.RuleText.{is_skipped}
use Rattle.std.proofs.Common.{◌≡◌, ℕ, zero, suc, ◌<◌, Bool, sym, ◌∙◌, true, false, eqb, List, [], ◌∷◌, length, get_or, take, drop, Some, None, refl, ap, arith}
use Rattle.std.specs.Option.{option_map}
use Rattle.std.proofs.lemmas.Bool.{false_from_ne_true}
use Rattle.rule_terms.specs.Reader.{until_quote, until_blank, behind_blanks}
use Rattle.rule_terms.specs.Words.{is_blank}
use Rattle.memchr.specs.Find.{is_byte2}
use Rattle.std.proofs.Math.Seq.{drop-cons}

pub quote_at : (bytes : List ℕ) (i : ℕ) → i < length bytes → ((k : ℕ) → k < i → eqb (get_or bytes k 0) 34 ≡ true → ⊥) → eqb (get_or bytes i 0) 34 ≡ true → until_quote bytes ≡ Some (take i bytes, drop (suc i) bytes)
unfolding until_quote
quote_at [] i within before here = absurd (omega arith)
quote_at (b ∷ bytes) zero within before here = rw here
quote_at (b ∷ bytes) (suc i) within before here =
    let off : eqb b 34 ≡ false = false_from_ne_true (eqb b 34) (before 0 (omega arith)) in
    let rest : until_quote bytes ≡ Some (take i bytes, drop (suc i) bytes) = quote_at bytes i (omega arith) (λ k lt. before (suc k) (omega arith)) here in
    rw off (ap (option_map (λ (w : List ℕ × List ℕ). (b ∷ w.0, w.1))) rest)

pub quote_none : (bytes : List ℕ) → ((k : ℕ) → k < length bytes → eqb (get_or bytes k 0) 34 ≡ true → ⊥) → until_quote bytes ≡ None
unfolding until_quote
quote_none [] nowhere = refl
quote_none (b ∷ bytes) nowhere =
    let off : eqb b 34 ≡ false = false_from_ne_true (eqb b 34) (nowhere 0 (omega arith)) in
    rw off (ap (option_map (λ (w : List ℕ × List ℕ). (b ∷ w.0, w.1))) (quote_none bytes (λ k lt. nowhere (suc k) (omega arith))))

pub blank_next : (bytes : List ℕ) (i : ℕ) → i < length bytes → is_blank (get_or bytes i 0) ≡ true → behind_blanks (drop (suc i) bytes) ≡ behind_blanks (drop i bytes)
unfolding behind_blanks
blank_next bytes i within blank = rw (drop-cons bytes i 0, blank)

pub blank_off : (bytes : List ℕ) (i : ℕ) → i < length bytes → is_blank (get_or bytes i 0) ≡ false → behind_blanks (drop i bytes) ≡ drop i bytes
unfolding behind_blanks
blank_off bytes i within off = rw (drop-cons bytes i 0, off)

pub blank_at : (bytes : List ℕ) (i : ℕ) → i < length bytes → ((k : ℕ) → k < i → is_blank (get_or bytes k 0) ≡ true → ⊥) → is_blank (get_or bytes i 0) ≡ true → until_blank bytes ≡ (take i bytes, drop i bytes)
unfolding until_blank
blank_at [] i within before here = absurd (omega arith)
blank_at (b ∷ bytes) zero within before here = rw here
blank_at (b ∷ bytes) (suc i) within before here =
    let off : is_blank b ≡ false = false_from_ne_true (is_blank b) (before 0 (omega arith)) in
    let rest : until_blank bytes ≡ (take i bytes, drop i bytes) = blank_at bytes i (omega arith) (λ k lt. before (suc k) (omega arith)) here in
    rw off (ap (λ (w : List ℕ × List ℕ). (b ∷ w.0, w.1)) rest)

pub blank_none : (bytes : List ℕ) → ((k : ℕ) → k < length bytes → is_blank (get_or bytes k 0) ≡ true → ⊥) → until_blank bytes ≡ (bytes, [])
unfolding until_blank
blank_none [] nowhere = refl
blank_none (b ∷ bytes) nowhere =
    let off : is_blank b ≡ false = false_from_ne_true (is_blank b) (nowhere 0 (omega arith)) in
    rw off (ap (λ (w : List ℕ × List ℕ). (b ∷ w.0, w.1)) (blank_none bytes (λ k lt. nowhere (suc k) (omega arith))))

-- lines that are skipped

abbrev skips : List ℕ → Bool
skips [] = true
skips (b ∷ rest) = eqb b 35

skipped_by : (line : List ℕ) → is_skipped line ≡ skips (behind_blanks line)
unfolding is_skipped behind_blanks
skipped_by [] = refl
skipped_by (b ∷ line) = by_case (is_blank b) (skipped_by line)
  where
    by_case : (t : Bool) → is_skipped line ≡ skips (behind_blanks line) → (if t then is_skipped line else eqb b 35) ≡ skips (if t then behind_blanks line else b ∷ line)
    by_case true later = later
    by_case false later = refl

pub skip_none : (line rest : List ℕ) → rest ≡ behind_blanks line → length rest ≡ 0 → is_skipped line ≡ true
skip_none line [] is none = skipped_by line ∙ ap skips (sym is)
skip_none line (b ∷ rest) is none = absurd (omega arith)

pub skip_some : (line rest : List ℕ) → rest ≡ behind_blanks line → (length rest ≡ 0 → ⊥) → is_skipped line ≡ eqb (get_or rest 0 0) 35
skip_some line [] is some = absurd (some refl)
skip_some line (b ∷ rest) is some = skipped_by line ∙ ap skips (sym is)
