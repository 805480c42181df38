-- The records that lines begin with, and those that wait.
use Rattle.std.proofs.Common.{◌≡◌, ℕ, zero, suc, ◌<◌, ◌≤◌, List, [], ◌∷◌, ◌++◌, length, drop, get_or, refl, sym, ap, ◌∙◌, subst, arith, Option, Some, None, append_assoc, append-nil}
use Rattle.serial_terms.specs.declared.call.Done.{Done}
use Rattle.serial_terms.specs.Entries.{Entry}
use Rattle.journal_terms.specs.Reading.{cut_at}
use Rattle.journal_terms.specs.Strict as read
use Rattle.history_audit.specs.Begun.{begun, onto, records_in}
use Rattle.history_audit.proofs.Cuts.{HasPiece, cut_some}

begun_some : (line : List ℕ) (ps : List (List ℕ)) → HasPiece ps → begun (line ∷ ps) ≡ onto (read.read_record line) (begun ps)
begun_some line ps p = subst (λ (z : List (List ℕ)). begun (line ∷ z) ≡ onto (read.read_record line) (begun z)) (sym p.parts) refl

pub records_next : (text line behind : List ℕ) → cut_at 10 text ≡ line ∷ cut_at 10 behind → records_in text ≡ onto (read.read_record line) (records_in behind)
unfolding records_in
records_next text line behind e = ap begun e ∙ begun_some line (cut_at 10 behind) (cut_some 10 behind)

pub records_short : (text line : List ℕ) → cut_at 10 text ≡ line ∷ [] → records_in text ≡ []
unfolding records_in
records_short text line e = ap begun e

-- the first of the others stands at the place behind those that are dropped
pub record StandsAt (es : List (Entry Done)) (n : ℕ) (e : Entry Done) (others : List (Entry Done)) : Type 0 where
  pub within : n < length es
  pub here : get_or es n e ≡ e
  pub behind : drop (suc n) es ≡ others

pub stands_at : (es : List (Entry Done)) (n : ℕ) (e : Entry Done) (others : List (Entry Done)) → drop n es ≡ e ∷ others → StandsAt es n e others
stands_at [] zero e others h = absurd (cc h)
stands_at [] (suc n) e others h = absurd (cc h)
stands_at (x ∷ xs) zero e others h = let here : x ≡ e = cc in let behind : xs ≡ others = cc in record { within = omega arith; here = here; behind = behind }
stands_at (x ∷ xs) (suc n) e others h = let r = stands_at xs n e others h in record { within = let l = r.within in omega (arith, l); here = r.here; behind = r.behind }

pub none_left : (es : List (Entry Done)) (n : ℕ) → drop n es ≡ [] → length es ≤ n
none_left [] n h = omega arith
none_left (x ∷ xs) zero h = absurd (cc h)
none_left (x ∷ xs) (suc n) h = let l = none_left xs n h in omega (arith, l)

pub records_more : (lines rest line behind : List ℕ) (es : List (Entry Done)) (e : Entry Done) → records_in lines ≡ es ++ records_in rest → cut_at 10 rest ≡ line ∷ cut_at 10 behind → read.read_record line ≡ Some e
    → records_in lines ≡ (es ++ e ∷ []) ++ records_in behind
records_more lines rest line behind es e all cutting found =
    let next : records_in rest ≡ e ∷ records_in behind = records_next rest line behind cutting ∙ ap (λ (o : Option (Entry Done)). onto o (records_in behind)) found in
    all ∙ (ap (λ (z : List (Entry Done)). es ++ z) next ∙ sym (append_assoc es (e ∷ []) (records_in behind)))

none_found : (o : Option (Entry Done)) → ((e : Entry Done) → o ≡ Some e → ⊥) → o ≡ None
none_found None h = refl
none_found (Some e) h = absurd (h e refl)

pub records_end : (lines rest line behind : List ℕ) (es : List (Entry Done)) → records_in lines ≡ es ++ records_in rest → cut_at 10 rest ≡ line ∷ cut_at 10 behind → ((e : Entry Done) → read.read_record line ≡ Some e → ⊥)
    → records_in lines ≡ es
records_end lines rest line behind es all cutting none =
    let last : records_in rest ≡ [] = records_next rest line behind cutting ∙ ap (λ (o : Option (Entry Done)). onto o (records_in behind)) (none_found (read.read_record line) none) in
    all ∙ (ap (λ (z : List (Entry Done)). es ++ z) last ∙ append-nil es)
