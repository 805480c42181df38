-- The first bad line of a text is one, and a legal journal's text has none.
use Rattle.std.proofs.Common.{append_assoc, ◌≡◌, ℕ, zero, suc, ◌-◌, ◌<◌, ◌≤◌, inl, inr, List, [], ◌∷◌, ◌++◌, length, take, drop, sym, refl, ap, ◌∙◌, subst, arith}
use Rattle.std.proofs.lemmas.Bool.{cases_eq}
use Rattle.std.proofs.lemmas.List.{take-append-drop, take-append-le, length-append}
use Rattle.journal_terms.specs.Text.{Journal, journal_text, journal_lines}
use Rattle.journal_terms.specs.Legal.{IsLegalText, BeginsLegal, IsLegalJournal, lines_of, IsFirstBadLine, FirstBadLines}
use Rattle.journal_terms.proofs.Cutting.{cut_lines}
use Rattle.journal_terms.proofs.Journals.{lines_lack}

-- the beginnings of lines that begin a legal journal begin one
pub begins_shorter : (xs ys : List (List ℕ)) → BeginsLegal (xs ++ ys) → BeginsLegal xs
begins_shorter xs ys b = (b.0, b.1, (ys ++ b.2.0, b.2.1 ∙ append_assoc xs ys b.2.0))

take_shorter : (m n : ℕ) (xs : List (List ℕ)) → m ≤ n → (ys : List (List ℕ)) × (take n xs ≡ take m xs ++ ys)
take_shorter zero n xs l = (take n xs, refl)
take_shorter (suc m) zero xs l = absurd (omega arith)
take_shorter (suc m) (suc n) [] l = ([], refl)
take_shorter (suc m) (suc n) (x ∷ xs) l = let r = take_shorter m n xs (omega arith) in (r.0, ap (λ (z : List (List ℕ)). x ∷ z) r.1)

-- no line below the first bad one is bad
not_below : (text : List ℕ) (m n : ℕ) → IsFirstBadLine text m → IsFirstBadLine text n → m < n → ⊥
not_below text m n b c l = let r = take_shorter m (n - 1) (lines_of text) (omega arith) in
    b.bad (omega arith) (begins_shorter (take m (lines_of text)) r.0 (subst BeginsLegal r.1 c.before))

pub legal_lines : (j : Journal) → IsLegalJournal j → lines_of (journal_text j) ≡ journal_lines j ++ [] ∷ []
legal_lines j l = cut_lines (journal_lines j) (lines_lack j l.writable)

takes_begin : (j : Journal) → IsLegalJournal j → (n : ℕ) → n ≤ length (journal_lines j) → BeginsLegal (take n (journal_lines j ++ [] ∷ []))
takes_begin j l n h = subst BeginsLegal (sym (take-append-le n (journal_lines j) ([] ∷ []) h)) (j, l, (drop n (journal_lines j), sym (take-append-drop n (journal_lines j))))

ended_bad : (text : List ℕ) (n : ℕ) → IsLegalText text → IsFirstBadLine text n → n < length (lines_of text) → ⊥
ended_bad text n t b l = let lines : lines_of text ≡ journal_lines t.0 ++ [] ∷ [] = ap lines_of (sym t.2) ∙ legal_lines t.0 t.1 in
    let size = ap length lines ∙ length-append (journal_lines t.0) ([] ∷ []) in
    b.bad l (subst (λ (z : List (List ℕ)). BeginsLegal (take n z)) (sym lines) (takes_begin t.0 t.1 n (omega arith)))

none_bad : (text : List ℕ) (n : ℕ) → IsLegalText text → IsFirstBadLine text n → ⊥
none_bad text n t b = elim (cases_eq n (length (lines_of text))) [
  | inl last ↦ b.short last t
  | inr other ↦ ended_bad text n t b (let there = b.there.1 in omega (arith, other))
]

pub first_bad_lines : FirstBadLines
first_bad_lines = record {
  one = λ text m n b c. let below = not_below text m n b c in let above = not_below text n m c b in omega arith;
  none = none_bad;
}
