-- Where bytes are cut, and what is read where there are more pieces than are wanted.
use Rattle.std.proofs.Common.{◌≡◌, ℕ, zero, suc, ◌+◌, ◌*◌, ◌-◌, ◌<◌, ◌≤◌, true, false, Bool, eqb, cond, List, [], ◌∷◌, length, get_or, take, drop, refl, ap, ◌∙◌, ◌^◌, sym, Option, Some, None, arith}
use Rattle.std.specs.Prelude.{nat_lt, ◌&&◌, codes}
use Rattle.std.specs.Str.{bytes_eq}
use Rattle.std.specs.List.{onto_first}
use Rattle.std.proofs.Math.Seq.{drop-cons}
use Rattle.std.proofs.lemmas.Bool.{false_from_ne_true, cond-false, ltb-true, and_parts}
use Rattle.std.proofs.lemmas.Slice.Eq.{bytes_eq-Decides}
use Rattle.std.proofs.lemmas.List.Splits.{slice_split-cons_yes, slice_split-cons_no}
use Rattle.journal_terms.specs.Reading.{cut_at}
use Rattle.serial_terms.specs.declared.sight.SightEnd.{SightEnd}
use Rattle.journal_terms.specs.Strict.{read_on, number, small, all_four, read_call, read_sizes, read_record_head, SightHead, read_sight_head}
use Rattle.history_audit.specs.Heads.{are_two}

pub cut_found : (c : ℕ) (bytes : List ℕ) (i : ℕ) → i < length bytes → ((k : ℕ) → k < i → eqb (get_or bytes k 0) c ≡ true → ⊥) → eqb (get_or bytes i 0) c ≡ true → cut_at c bytes ≡ take i bytes ∷ cut_at c (drop (suc i) bytes)
cut_found c [] i within before here = absurd (omega arith)
cut_found c (b ∷ bytes) zero within before here = slice_split-cons_yes (λ x. eqb x c) b bytes here
cut_found c (b ∷ bytes) (suc i) within before here =
    slice_split-cons_no (λ x. eqb x c) b bytes (false_from_ne_true (eqb b c) (before 0 (omega arith)))
    ∙ ap (onto_first b) (cut_found c bytes i (omega arith) (λ k lt. before (suc k) (omega arith)) here)

pub cut_nowhere : (c : ℕ) (bytes : List ℕ) → ((k : ℕ) → k < length bytes → eqb (get_or bytes k 0) c ≡ true → ⊥) → cut_at c bytes ≡ bytes ∷ []
cut_nowhere c [] nowhere = refl
cut_nowhere c (b ∷ bytes) nowhere =
    slice_split-cons_no (λ x. eqb x c) b bytes (false_from_ne_true (eqb b c) (nowhere 0 (omega arith)))
    ∙ ap (onto_first b) (cut_nowhere c bytes (λ k lt. nowhere (suc k) (omega arith)))

-- there is always a first piece
pub record HasPiece (ps : List (List ℕ)) : Type 0 where
  pub first : List ℕ
  pub others : List (List ℕ)
  pub parts : ps ≡ first ∷ others

onto : (b : ℕ) (ps : List (List ℕ)) → HasPiece (onto_first b ps)
onto b [] = record { first = b ∷ []; others = []; parts = refl }
onto b (p ∷ ps) = record { first = b ∷ p; others = ps; parts = refl }

pub cut_some : (c : ℕ) (bytes : List ℕ) → HasPiece (cut_at c bytes)
cut_some c [] = record { first = []; others = []; parts = refl }
cut_some c (b ∷ bytes) = by_case (eqb b c)
  where
    by_case : (t : Bool) → HasPiece (cond t ([] ∷ cut_at c bytes) (onto_first b (cut_at c bytes)))
    by_case true = record { first = []; others = cut_at c bytes; parts = refl }
    by_case false = onto b (cut_at c bytes)

pub read_on_more : (n : ℕ) (cs : List ℕ) → n ≤ read_on n cs
read_on_more n [] = omega arith
read_on_more n (c ∷ cs) = let more = read_on_more (10 * n + (c - 48)) cs in omega arith

-- the digits from a place on give a number that is too great
pub too_great : (xs : List ℕ) (i n : ℕ) → i < length xs → read_on n (drop i xs) ≡ read_on 0 xs → 2 ^ 64 ≤ 10 * n + (get_or xs i 0 - 48)
    → None ≡ cond (nat_lt (read_on 0 xs) (2 ^ 64)) (Some (read_on 0 xs)) None
too_great xs i n within read large =
    let next : ℕ = 10 * n + (get_or xs i 0 - 48) in
    let here : read_on n (drop i xs) ≡ read_on next (drop (suc i) xs) = ap (read_on n) (drop-cons xs i 0 within) in
    let more : next ≤ read_on next (drop (suc i) xs) = read_on_more next (drop (suc i) xs) in
    sym (cond-false (nat_lt (read_on 0 xs) (2 ^ 64)) (Some (read_on 0 xs)) None (false_from_ne_true _ (λ below. let low : read_on 0 xs < 2 ^ 64 = ltb-true (read_on 0 xs) (2 ^ 64) below in omega arith)))

-- ---- one piece too many

pub five_words : (name a b c d r : List ℕ) → read_call name (a ∷ b ∷ c ∷ d ∷ cut_at 32 r) ≡ None
five_words name a b c d r = let p = cut_some 32 r in ap (λ (z : List (List ℕ)). read_call name (a ∷ b ∷ c ∷ d ∷ z)) p.parts

pub three_pieces : (a b r : List ℕ) → are_two (a ∷ b ∷ cut_at 58 r) ≡ false
three_pieces a b r = let p = cut_some 58 r in ap (λ (z : List (List ℕ)). are_two (a ∷ b ∷ z)) p.parts

pub five_sizes : (a b c d r : List ℕ) → read_sizes (a ∷ b ∷ c ∷ d ∷ cut_at 32 r) ≡ None
five_sizes a b c d r = let p = cut_some 32 r in ap (λ (z : List (List ℕ)). read_sizes (a ∷ b ∷ c ∷ d ∷ z)) p.parts

pub six_words : (a b c d e r : List ℕ) → read_record_head (a ∷ b ∷ c ∷ d ∷ e ∷ cut_at 32 r) ≡ None
unfolding read_record_head
six_words a b c d e r = let p = cut_some 32 r in ap (λ (z : List (List ℕ)). read_record_head (a ∷ b ∷ c ∷ d ∷ e ∷ z)) p.parts

pub no_full_head : (s p e c n r : List ℕ) → bytes_eq e (codes "f") ≡ false → read_sight_head (s ∷ p ∷ e ∷ c ∷ n ∷ cut_at 32 r) ≡ None
unfolding read_sight_head
no_full_head s p e c n r other = let piece = cut_some 32 r in ap (λ (z : List (List ℕ)). read_sight_head (s ∷ p ∷ e ∷ c ∷ n ∷ z)) piece.parts ∙ by_length piece.first piece.others
  where
    by_length : (x : List ℕ) (xs : List (List ℕ)) → read_sight_head (s ∷ p ∷ e ∷ c ∷ n ∷ x ∷ xs) ≡ None
    by_length x [] = refl
    by_length x (y ∷ []) = refl
    by_length x (y ∷ z ∷ []) = cond-false (bytes_eq s (codes "s") && bytes_eq e (codes "f")) _ None (false_from_ne_true _ (λ both. let h = and_parts (bytes_eq s (codes "s")) (bytes_eq e (codes "f")) both in let bad : true ≡ false = sym h.1 ∙ other in absurd (cc bad)))
    by_length x (y ∷ z ∷ w ∷ ws) = refl

abbrev no_end : Option SightEnd
no_end = None

pub no_letter_head : (s p e c n : List ℕ) → bytes_eq e (codes "f") ≡ true → read_sight_head (s ∷ p ∷ e ∷ c ∷ n ∷ []) ≡ None
unfolding read_sight_head
no_letter_head s p e c n is = let word : e ≡ codes "f" = (bytes_eq-Decides e (codes "f")).0 is in
    ap (λ (z : List ℕ). read_sight_head (s ∷ p ∷ z ∷ c ∷ n ∷ [])) word ∙ by_title (bytes_eq s (codes "s")) (number p)
  where
    by_title : (t : Bool) (o : Option ℕ) → cond t (all_four {E = SightHead} o no_end (small c) (number n) (λ p e c n. record { place = p; end = e; caller = c; after = n })) None ≡ None
    by_title true None = refl
    by_title true (Some x) = refl
    by_title false o = refl

pub nine_words : (a b c d e f g h r : List ℕ) → read_sight_head (a ∷ b ∷ c ∷ d ∷ e ∷ f ∷ g ∷ h ∷ cut_at 32 r) ≡ None
unfolding read_sight_head
nine_words a b c d e f g h r = let p = cut_some 32 r in ap (λ (z : List (List ℕ)). read_sight_head (a ∷ b ∷ c ∷ d ∷ e ∷ f ∷ g ∷ h ∷ z)) p.parts
