-- The held cells, as they follow from the order in which they were locked.
use Rattle.std.proofs.Common.{◌≡◌, ◌≢◌, ℕ, ◌+◌, eqb, ltb, Bool, true, false, cond, List, [], ◌∷◌, ◌++◌, length, fold, is_some, if◌then◌else◌, inl, inr, refl, sym, ap, ◌∙◌, arith}
use Rattle.std.proofs.lemmas.Bool.Decides.{nat_tests}
use Rattle.std.proofs.lemmas.List.Sums.{fold-append}
use Rattle.cell_table.specs.Cells.{has}
use Rattle.cell_table.specs.Sorted.{Among, insert_by}
use Rattle.cell_table.specs.Rule.{cells_of, without}
use Rattle.cell_table.specs.Steps.{cell_key}
use Rattle.attempt_lists.specs.Cells.{Entries, word_at}
use Rattle.tx_core.specs.Children.{held_of}
use Rattle.tx_core.specs.Facts.{length_insert}

pub has_insert : (c cell u : ℕ) (held : List (ℕ × ℕ)) → has c (cells_of (insert_by cell_key (cell, u) held)) ≡ (if eqb cell c then true else has c (cells_of held))
has_insert c cell u [] = refl
has_insert c cell u (t ∷ ts) = at (ltb cell t.0) (eqb t.0 c) (eqb cell c) (has_insert c cell u ts)
  where
    at : (below same here : Bool) → has c (cells_of (insert_by cell_key (cell, u) ts)) ≡ (if eqb cell c then true else has c (cells_of ts)) → has c (cells_of (cond below ((cell, u) ∷ t ∷ ts) (t ∷ insert_by cell_key (cell, u) ts))) ≡ (if eqb cell c then true else has c (cells_of (t ∷ ts)))
    at true same here rest = refl
    at false same here rest = grind (arith, nat_tests, rest)

-- one more cell was locked
pub held_of_more : (es : Entries) (e : ℕ × ℕ) → held_of (es ++ e ∷ []) ≡ insert_by cell_key e (held_of es)
held_of_more es e = fold-append (λ (held : List (ℕ × ℕ)) (f : ℕ × ℕ). insert_by cell_key f held) [] es (e ∷ [])

abbrev held_from : List (ℕ × ℕ) → Entries → List (ℕ × ℕ)
held_from held es = fold (λ h e. insert_by cell_key e h) held es

has_held_from : (es : Entries) (held : List (ℕ × ℕ)) (c : ℕ) → has c (cells_of (held_from held es)) ≡ (if is_some (word_at es c) then true else has c (cells_of held))
has_held_from [] held c = refl
has_held_from (e ∷ es) held c =
    let rest = has_held_from es (insert_by cell_key e held) c in
    let first = has_insert c e.0 e.1 held in
    grind (arith, nat_tests, rest, first)

-- a cell is held where it was locked
pub has_held_of : (es : Entries) (c : ℕ) → has c (cells_of (held_of es)) ≡ is_some (word_at es c)
has_held_of es c = has_held_from es [] c ∙ at (is_some (word_at es c))
  where
    at : (b : Bool) → (if b then true else false) ≡ b
    at true = refl
    at false = refl

length_held_from : (es : Entries) (held : List (ℕ × ℕ)) → length (held_from held es) ≡ length held + length es
length_held_from [] held = omega arith
length_held_from (e ∷ es) held = omega (arith, length_held_from es (insert_by cell_key e held), length_insert e held)

pub length_held_of : (es : Entries) → length (held_of es) ≡ length es
length_held_of es = omega (arith, length_held_from es [])

pub has_without : (c d : ℕ) (held : List (ℕ × ℕ)) → has c (cells_of (without d held)) ≡ (if eqb d c then false else has c (cells_of held))
has_without c d [] = grind (arith, nat_tests)
has_without c d (t ∷ ts) = grind (arith, nat_tests, has_without c d ts)

without_absent : (c : ℕ) (held : List (ℕ × ℕ)) → has c (cells_of held) ≡ false → without c held ≡ held
without_absent c [] gone = refl
without_absent c (t ∷ ts) gone = grind (arith, nat_tests, gone, without_absent c ts (grind (arith, nat_tests, gone)))

-- the cell that was locked last is given back
pub without_insert : (e : ℕ × ℕ) (held : List (ℕ × ℕ)) → has e.0 (cells_of held) ≡ false → without e.0 (insert_by cell_key e held) ≡ held
without_insert e [] gone = grind (arith, nat_tests)
without_insert e (t ∷ ts) gone = at (ltb e.0 t.0) (without_insert e ts (grind (arith, nat_tests, gone)))
  where
    at : (below : Bool) → without e.0 (insert_by cell_key e ts) ≡ ts → without e.0 (cond below (e ∷ t ∷ ts) (t ∷ insert_by cell_key e ts)) ≡ t ∷ ts
    at true rest = let same = without_absent e.0 (t ∷ ts) gone in grind (arith, nat_tests, same)
    at false rest = grind (arith, nat_tests, gone, rest)

pub among_without : (t : ℕ × ℕ) (c : ℕ) (held : List (ℕ × ℕ)) → t.0 ≢ c → Among t held → Among t (without c held)
among_without t c [] apart h = h
among_without t c (k ∷ ks) apart h = at (eqb k.0 c) (λ is. grind (arith, nat_tests, is)) h (λ g. among_without t c ks apart g)
  where
    at : (b : Bool) → (b ≡ true → k.0 ≡ c) → Among t (k ∷ ks) → (Among t ks → Among t (without c ks)) → Among t (cond b (without c ks) (k ∷ without c ks))
    at true same (inl is) rest = absurd (apart (ap (λ (x : ℕ × ℕ). x.0) (sym is) ∙ same refl))
    at true same (inr g) rest = rest g
    at false same (inl is) rest = inl is
    at false same (inr g) rest = inr (rest g)
