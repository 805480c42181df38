-- The patterns of a rule that are read so far.
use Rattle.std.proofs.Common.{◌≡◌, ℕ, zero, suc, true, false, List, [], ◌∷◌, ◌++◌, Option, Some, None, refl, sym, ◌∙◌, ap, append_assoc}
use Rattle.std.specs.Option.{option_map}
use Rattle.std.proofs.lemmas.List.{append-nil}
use Rattle.rule_terms.specs.Rule.{Pattern}
use Rattle.rule_terms.specs.Words.{are_blanks}
use Rattle.rule_terms.specs.Reader.{◌>>=◌, read_has, read_others}

abbrev onto : List Pattern → Option (List Pattern) → Option (List Pattern)
onto items more = option_map (λ (later : List Pattern). items ++ later) more

at_end : (n : ℕ) (rest : List ℕ) → are_blanks rest ≡ true → read_others n rest ≡ Some []
unfolding read_others
at_end zero rest blanks = rw blanks
at_end (suc n) rest blanks = rw blanks

pub others_done : (items : List Pattern) (n : ℕ) (rest : List ℕ) (whole : Option (List Pattern)) → onto items (read_others n rest) ≡ whole → are_blanks rest ≡ true → Some items ≡ whole
others_done items n rest whole before blanks = ap Some (sym (append-nil items)) ∙ ap (onto items) (sym (at_end n rest blanks)) ∙ before

more_if : (items : List Pattern) (p : Pattern) (o : Option (List Pattern)) → onto (items ++ p ∷ []) o ≡ onto items (option_map (λ (later : List Pattern). p ∷ later) o)
more_if items p None = refl
more_if items p (Some later) = ap Some (append_assoc items (p ∷ []) later)

next : (n : ℕ) (rest behind : List ℕ) (p : Pattern) → are_blanks rest ≡ false → Some (p, behind) ≡ read_has rest → read_others (suc n) rest ≡ option_map (λ (later : List Pattern). p ∷ later) (read_others n behind)
unfolding read_others
next n rest behind p some has = rw (some, ← has) (same (read_others n behind))
  where
    same : (o : Option (List Pattern)) → (o >>= (λ (later : List Pattern). Some (p ∷ later))) ≡ option_map (λ (later : List Pattern). p ∷ later) o
    same None = refl
    same (Some later) = refl

pub others_more : (items new : List Pattern) (n m : ℕ) (rest behind : List ℕ) (p : Pattern) (whole : Option (List Pattern))
    → onto items (read_others n rest) ≡ whole → n ≡ suc m → are_blanks rest ≡ false → Some (p, behind) ≡ read_has rest → new ≡ items ++ p ∷ [] → onto new (read_others m behind) ≡ whole
others_more items new n m rest behind p whole before size some has added =
    ap (λ (l : List Pattern). onto l (read_others m behind)) added ∙ more_if items p (read_others m behind)
    ∙ ap (onto items) (sym (ap (λ (k : ℕ). read_others k rest) size ∙ next m rest behind p some has)) ∙ before
