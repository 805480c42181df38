-- A line that is written in three pieces, one behind the other.
use Rattle.std.proofs.Common.{◌≡◌, List, ℕ, ◌++◌, Option, Some, sym, ◌∙◌, ap, append_assoc, subst}
use Rattle.std.specs.Prelude.{Result, Ok, Err, OnErr}
use Rattle.byte_ends.specs.Told.{Grows, GrowsByPrefix}

-- what holds anyway holds at an error
pub always : {T E Q : Type 0} (r : Result T E) → Q → OnErr r Q
always (Ok x) q = tt
always (Err e) q = q

prefix_then : (before now : Option (List ℕ)) (a c : List ℕ) → GrowsByPrefix before now a → GrowsByPrefix before now (a ++ c)
prefix_then before now a c part = record {
  sent = part.sent;
  unsent = part.unsent ++ c;
  split = sym (append_assoc part.sent part.unsent c) ∙ ap (λ (l : List ℕ). l ++ c) part.split;
  grows = part.grows;
}

grows_then : (before mid now : Option (List ℕ)) (a c : List ℕ) → Grows before mid a → Grows mid now c → Grows before now (a ++ c)
grows_then before mid now a c first second = λ bytes told. second (bytes ++ a) (first bytes told) ∙ ap Some (append_assoc bytes a c)

grows_then_prefix : (before mid now : Option (List ℕ)) (a c : List ℕ) → Grows before mid a → GrowsByPrefix mid now c → GrowsByPrefix before now (a ++ c)
grows_then_prefix before mid now a c first part = record {
  sent = a ++ part.sent;
  unsent = part.unsent;
  split = append_assoc a part.sent part.unsent ∙ ap (λ (l : List ℕ). a ++ l) part.split;
  grows = λ bytes told. part.grows (bytes ++ a) (first bytes told) ∙ ap Some (append_assoc bytes a part.sent);
}

module _ (line front detail back : List ℕ) (parts : front ++ detail ++ back ≡ line) where
  pub whole : (before one two now : Option (List ℕ)) → Grows before one front → Grows one two detail → Grows two now back → Grows before now line
  whole before one two now first second third =
      subst (λ (l : List ℕ). Grows before now l) parts (grows_then before two now (front ++ detail) back (grows_then before one two front detail first second) third)

  pub fails_first : (before now : Option (List ℕ)) → GrowsByPrefix before now front → GrowsByPrefix before now line
  fails_first before now first =
      subst (λ (l : List ℕ). GrowsByPrefix before now l) parts (prefix_then before now (front ++ detail) back (prefix_then before now front detail first))

  pub fails_second : (before one now : Option (List ℕ)) → Grows before one front → GrowsByPrefix one now detail → GrowsByPrefix before now line
  fails_second before one now first second =
      subst (λ (l : List ℕ). GrowsByPrefix before now l) parts (prefix_then before now (front ++ detail) back (grows_then_prefix before one now front detail first second))

  pub fails_third : (before one two now : Option (List ℕ)) → Grows before one front → Grows one two detail → GrowsByPrefix two now back → GrowsByPrefix before now line
  fails_third before one two now first second third =
      subst (λ (l : List ℕ). GrowsByPrefix before now l) parts (grows_then_prefix before two now (front ++ detail) back (grows_then before one two front detail first second) third)
