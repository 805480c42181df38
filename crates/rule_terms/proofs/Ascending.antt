-- Findings are of rules that are there, and in their order.
use Rattle.std.proofs.Common.{ℕ, zero, suc, ◌+◌, ◌<◌, ◌≤◌, Bool, true, false, List, [], ◌∷◌, ◌++◌, length, get_or, Option, Some, None, arith}
use Rattle.std.specs.Prelude.{if◌then◌else◌, IfSome, All, AllPairs}
use Rattle.std.proofs.lemmas.List.Elements.{All-nil, All-cons}
use Rattle.capture_terms.specs.declared.datagram.Header.{Header}
use Rattle.rule_terms.specs.Rule.{Pattern, Rule}
use Rattle.std.specs.Prelude.{◌&&◌}
use Rattle.std.specs.List.{list_all}
use Rattle.rule_terms.specs.Match.{is_for, is_there, place_of, IsLeastPlace, finding_of, numbered, findings_from}
use Rattle.rule_terms.proofs.Least.{least_place}

-- the finding of an earlier rule
abbrev pub IsEarlier : ℕ × ℕ → ℕ × ℕ → Type 0
IsEarlier f later = f.0 < later.0

-- a finding of the rules from `first` up to and without `end`, in a payload of `size` bytes
pub record IsBetween (first end size : ℕ) (f : ℕ × ℕ) : Type 0 where
  pub low : first ≤ f.0
  pub high : f.0 < end
  pub place : f.1 ≤ size

-- the findings are of these rules, and in their order
pub record AreInOrder (first end size : ℕ) (found : List (ℕ × ℕ)) : Type 0 where
  pub ascend : AllPairs IsEarlier found
  pub each : All (IsBetween first end size) found

pairs_cons : (f : ℕ × ℕ) (found : List (ℕ × ℕ)) → All (IsEarlier f) found → AllPairs IsEarlier found → AllPairs IsEarlier (f ∷ found)
pairs_cons f found here there zero zero d before within = absurd (omega arith)
pairs_cons f found here there zero (suc j) d before within = here j d (omega arith)
pairs_cons f found here there (suc i) zero d before within = absurd (omega arith)
pairs_cons f found here there (suc i) (suc j) d before within = there i j d (omega arith) (omega arith)

lower : (n end size : ℕ) (f : ℕ × ℕ) → IsBetween (n + 1) end size f → IsBetween n end size f
lower n end size f is = record { low = omega (arith, is.low); high = is.high; place = is.place }

in_order_cons : (n end size : ℕ) (r : Option ℕ) (found : List (ℕ × ℕ)) → n < end → IfSome r (λ place. place ≤ size) → AreInOrder (n + 1) end size found → AreInOrder n end size (numbered n r ++ found)
in_order_cons n end size None found there fits later = record { ascend = later.ascend; each = λ k d within. lower n end size (get_or found k d) (later.each k d within) }
in_order_cons n end size (Some place) found there fits later = record {
  ascend = pairs_cons (n, place) found (λ k d within. let is : IsBetween (n + 1) end size (get_or found k d) = later.each k d within in omega (arith, is.low)) later.ascend;
  each = All-cons (IsBetween n end size) (n, place) found (record { low = omega arith; high = there; place = fits })
      (λ k d within. lower n end size (get_or found k d) (later.each k d within));
}

least_fits : (pattern : Pattern) (payload : List ℕ) (r : Option ℕ) → IsLeastPlace pattern payload r → IfSome r (λ place. place ≤ length payload)
least_fits pattern payload None least = tt
least_fits pattern payload (Some place) least = omega (arith, least.0.fits)

finding_if : (t : Bool) (size : ℕ) (r : Option ℕ) → IfSome r (λ place. place ≤ size) → IfSome (if t then r else None) (λ place. place ≤ size)
finding_if true size r fits = fits
finding_if false size r fits = tt

pub finding_fits : (rule : Rule) (header : Header) (payload : List ℕ) → IfSome (finding_of rule header payload) (λ place. place ≤ length payload)
unfolding finding_of
finding_fits rule header payload =
    finding_if (is_for rule header payload && list_all (is_there payload) rule.others) (length payload) (place_of rule.first payload) (least_fits rule.first payload (place_of rule.first payload) (least_place rule.first payload))

pub in_order : (n end : ℕ) (rules : List Rule) (header : Header) (payload : List ℕ) → n + length rules ≤ end → AreInOrder n end (length payload) (findings_from n rules header payload)
unfolding findings_from
in_order n end [] header payload few = record { ascend = λ i j d before within. absurd (omega arith); each = All-nil _ }
in_order n end (rule ∷ rules) header payload few =
    in_order_cons n end (length payload) (finding_of rule header payload) (findings_from (n + 1) rules header payload) (omega arith) (finding_fits rule header payload) (in_order (n + 1) end rules header payload (omega arith))
