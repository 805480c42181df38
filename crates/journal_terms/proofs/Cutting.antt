-- A token, and then its separator: what a cut at a byte gives.
use Rattle.std.proofs.Common.{◌≡◌, ℕ, ◌<◌, Bool, true, false, cond, eqb, List, [], ◌∷◌, ◌++◌, sym, refl, ap, ◌∙◌, subst, eq-eqb, ne_eqb, All}
use Rattle.std.specs.List.{join_with_byte}
use Rattle.std.specs.Str.Parse.{AllDigits}
use Rattle.std.specs.Char.{digit_value}
use Rattle.std.proofs.lemmas.List.Splits.{slice_split_none, slice_split_at}
use Rattle.std.proofs.lemmas.List.Elements.{All-nil, All-cons, All-append}
use Rattle.serial_terms.specs.Entries.{Each}
use Rattle.journal_terms.specs.Text.{lines_text, line_feed}
use Rattle.journal_terms.specs.Reading.{cut_at}

-- the byte c isn't among the bytes
abbrev pub Lacks : ℕ → List ℕ → Type 0
Lacks c w = All (λ x. eqb x c ≡ false) w

-- a token that lacks the separator, and then the separator: the cut gives the token, and the pieces of the rest
pub cut_first : (c : ℕ) (w rest : List ℕ) → Lacks c w → cut_at c (w ++ c ∷ rest) ≡ w ∷ cut_at c rest
cut_first c w rest l = slice_split_at (λ b. eqb b c) w c rest l (eq-eqb c c refl)

pub cut_last : (c : ℕ) (w : List ℕ) → Lacks c w → cut_at c w ≡ w ∷ []
cut_last c w l = slice_split_none (λ b. eqb b c) w l

pub cut_join : (c : ℕ) (w : List ℕ) (ws : List (List ℕ)) → Each (Lacks c) (w ∷ ws) → cut_at c (join_with_byte c (w ∷ ws)) ≡ w ∷ ws
cut_join c w [] l = cut_last c w l.0
cut_join c w (v ∷ vs) l = cut_first c w (join_with_byte c (v ∷ vs)) l.0 ∙ ap (λ (z : List (List ℕ)). w ∷ z) (cut_join c v vs l.1)

pub cut_lines : (ls : List (List ℕ)) → Each (Lacks line_feed) ls → cut_at line_feed (lines_text ls) ≡ ls ++ [] ∷ []
cut_lines [] l = refl
cut_lines (w ∷ ws) l = cut_first line_feed w (lines_text ws) l.0 ∙ ap (λ (z : List (List ℕ)). w ∷ z) (cut_lines ws l.1)

-- tokens that lack a byte, joined by another one, lack it
pub lacks_join : (c s : ℕ) → eqb s c ≡ false → (ws : List (List ℕ)) → Each (Lacks c) ws → Lacks c (join_with_byte s ws)
lacks_join c s ne [] l = All-nil (λ x. eqb x c ≡ false)
lacks_join c s ne (w ∷ []) l = l.0
lacks_join c s ne (w ∷ v ∷ vs) l = All-append (λ x. eqb x c ≡ false) w (s ∷ join_with_byte s (v ∷ vs)) l.0 (All-cons (λ x. eqb x c ≡ false) s (join_with_byte s (v ∷ vs)) ne (lacks_join c s ne (v ∷ vs) l.1))

-- digits lack each byte that is none
pub lacks_digits : (c : ℕ) → (digit_value c < 10 → ⊥) → (w : List ℕ) → AllDigits 10 w → Lacks c w
lacks_digits c apart [] d = All-nil (λ x. eqb x c ≡ false)
lacks_digits c apart (x ∷ xs) d = All-cons (λ x. eqb x c ≡ false) x xs (ne_eqb x c (λ e. apart (subst (λ (z : ℕ). digit_value z < 10) e d.0))) (lacks_digits c apart xs d.1)

-- a byte of no separator, decided by computation
abbrev pub plain_byte : ℕ → Bool
plain_byte x = cond (eqb x 10) false (cond (eqb x 32) false (cond (eqb x 58) false (cond (eqb x 59) false true)))

abbrev pub plain : List ℕ → Bool
plain [] = true
plain (x ∷ xs) = cond (plain_byte x) (plain xs) false

plain_head : (x : ℕ) (xs : List ℕ) → plain (x ∷ xs) ≡ true → (b : Bool) → plain_byte x ≡ b → (b ≡ true) × (plain xs ≡ true)
plain_head x xs p true e = (refl, sym (ap (λ (z : Bool). cond z (plain xs) false) e) ∙ p)
plain_head x xs p false e = let bad : false ≡ true = sym (ap (λ (z : Bool). cond z (plain xs) false) e) ∙ p in absurd (cc)

pub lacks_plain : (c : ℕ) → plain_byte c ≡ false → (w : List ℕ) → plain w ≡ true → Lacks c w
lacks_plain c sep [] p = All-nil (λ x. eqb x c ≡ false)
lacks_plain c sep (x ∷ xs) p = let h = plain_head x xs p (plain_byte x) refl in
    All-cons (λ x. eqb x c ≡ false) x xs (ne_eqb x c (λ e. let bad : true ≡ false = sym h.0 ∙ (ap plain_byte e ∙ sep) in absurd (cc))) (lacks_plain c sep xs h.1)
