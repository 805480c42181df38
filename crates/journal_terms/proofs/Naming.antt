-- The line that is named as the first bad one.
use Rattle.std.proofs.Common.{append_assoc, append-nil, ◌≡◌, ℕ, ◌+◌, ◌-◌, ◌<◌, List, [], ◌∷◌, ◌++◌, length, take, sym, refl, ap, ◌∙◌, subst, arith, codes}
use Rattle.std.specs.List.{join_with_byte}
use Rattle.std.proofs.lemmas.List.{length-append}
use Rattle.std.proofs.lemmas.List.Splits.{join_with_byte-slice_split}
use Rattle.std.proofs.Math.Seq.{take-append_seam}
use Rattle.journal_terms.specs.Text.{journal_lines, lines_text}
use Rattle.journal_terms.specs.Legal.{IsLegalText, BeginsLegal, lines_of, IsFirstBadLine}
use Rattle.journal_terms.specs.Naming.{LinesAreNamed}
use Rattle.journal_terms.proofs.Beginnings.{legal_lines}
use Rattle.journal_terms.proofs.Grown.{journals_grow, whole_lines}

abbrev Lines : Type 0
Lines = List (List ℕ)

snoc_parts : (xs ys : Lines) (x y : List ℕ) → xs ++ x ∷ [] ≡ ys ++ y ∷ [] → (xs ≡ ys) × (x ≡ y)
snoc_parts [] [] x y e = let same : x ≡ y = cc e in (refl, same)
snoc_parts [] (b ∷ []) x y e = absurd (cc e)
snoc_parts [] (b ∷ c ∷ bs) x y e = absurd (cc e)
snoc_parts (a ∷ []) [] x y e = absurd (cc e)
snoc_parts (a ∷ c ∷ cs) [] x y e = absurd (cc e)
snoc_parts (a ∷ cs) (b ∷ bs) x y e =
    let first : a ≡ b = cc e in
    let others : cs ++ x ∷ [] ≡ bs ++ y ∷ [] = cc e in
    let h = snoc_parts cs bs x y others in
    ((λ i. first i ∷ h.0 i), h.1)

take_before : (before behind : Lines) → take (length before + 1 - 1) (before ++ behind) ≡ before
take_before before behind = let e : length before + 1 - 1 ≡ length before = omega arith in ap (λ (n : ℕ). take n (before ++ behind)) e ∙ take-append_seam before behind

take_with : (before behind : Lines) (line : List ℕ) → take (length before + 1) (before ++ line ∷ behind) ≡ before ++ line ∷ []
take_with before behind line = let e : length before + 1 ≡ length (before ++ line ∷ []) = sym (length-append before (line ∷ [])) in
    (λ i. take (e i) (sym (append_assoc before (line ∷ []) behind) i)) ∙ take-append_seam (before ++ line ∷ []) behind

wrong_line : (text : List ℕ) (before : Lines) (line next : List ℕ) (behind : Lines) → lines_of text ≡ before ++ line ∷ next ∷ behind
    → BeginsLegal before → (BeginsLegal (before ++ line ∷ []) → ⊥) → IsFirstBadLine text (length before + 1)
wrong_line text before line next behind e begun bad = let size = ap length e ∙ length-append before (line ∷ next ∷ behind) in record {
  there = (omega arith, omega (arith, size));
  before = subst BeginsLegal (sym (ap (λ (z : Lines). take (length before + 1 - 1) z) e ∙ take_before before (line ∷ next ∷ behind))) begun;
  bad = λ low b. bad (subst BeginsLegal (ap (λ (z : Lines). take (length before + 1) z) e ∙ take_with before (next ∷ behind) line) b);
  short = λ at t. let more : length before + 1 < length (lines_of text) = omega (arith, size) in omega (arith, at, more);
}

last_line : (text : List ℕ) (before : Lines) (last : List ℕ) → lines_of text ≡ before ++ last ∷ [] → BeginsLegal before → (IsLegalText text → ⊥) → IsFirstBadLine text (length before + 1)
last_line text before last e begun short = let size = ap length e ∙ length-append before (last ∷ []) in record {
  there = (omega arith, omega (arith, size));
  before = subst BeginsLegal (sym (ap (λ (z : Lines). take (length before + 1 - 1) z) e ∙ take_before before (last ∷ []))) begun;
  bad = λ low b. let here : length (lines_of text) ≡ length before + 1 = size in omega (arith, low, here);
  short = λ at t. short t;
}

ended : (text : List ℕ) (before : Lines) (last : List ℕ) → lines_of text ≡ before ++ last ∷ [] → (t : IsLegalText text) → (journal_lines t.0 ≡ before) × ([] ≡ last)
ended text before last e t = snoc_parts (journal_lines t.0) before [] last (sym (legal_lines t.0 t.1) ∙ (ap lines_of t.2 ∙ e))

joined_lines : (ls : Lines) → join_with_byte 10 (ls ++ [] ∷ []) ≡ lines_text ls
joined_lines [] = refl
joined_lines (l ∷ []) = refl
joined_lines (l ∷ m ∷ ls) = ap (λ (z : List ℕ). l ++ 10 ∷ z) (joined_lines (m ∷ ls))

pub lines_are_named : LinesAreNamed
lines_are_named = record {
  wrong = wrong_line;
  short = λ text before last e begun none. last_line text before last e begun (λ t. none t.0 t.1 (ended text before last e t).0);
  behind = λ text j last e l apart. last_line text (journal_lines j) last e (j, l, ([], sym (append-nil (journal_lines j)))) (λ t. apart (sym (ended text (journal_lines j) last e t).1));
  whole = λ text j e. sym (joined_lines (journal_lines j)) ∙ (ap (join_with_byte 10) (sym e) ∙ join_with_byte-slice_split 10 text);
  last = whole_lines;
  unended = λ j k l m e. journals_grow.over k m (codes "end") (subst BeginsLegal (whole_lines j ∙ ap (λ (z : Lines). z ++ codes "end" ∷ []) (sym e)) (journals_grow.whole j l));
}
