-- The place that is reported is the least one.
use Rattle.std.proofs.Common.{◌≡◌, ℕ, zero, suc, ◌+◌, ◌<◌, ◌≤◌, Bool, true, false, List, length, Option, Some, None, refl, sym, ap, arith, subst, inl, inr}
use Rattle.std.specs.Prelude.{MatchOption, IfSome, ◌&&◌, nat_le}
use Rattle.std.specs.Str.{bytes_eq}
use Rattle.std.proofs.lemmas.Slice.Eq.{bytes_eq-Decides}
use Rattle.std.proofs.lemmas.Bool.{and_parts, and_from, leb-true, le-leb, cases_lt}
use Rattle.rule_terms.specs.Rule.{Pattern}
use Rattle.rule_terms.specs.Match.{compared, bytes_at, is_from, is_to, stands_at, least_below, or_else, place_of, StandsAt, NoneBelow, IsLeastPlace}

-- no number below the end passes the test
abbrev NonePasses : (ℕ → Bool) → ℕ → Type 0
NonePasses test end = (k : ℕ) → k < end → test k ≡ true → ⊥

abbrev IsLeastBelow : (ℕ → Bool) → ℕ → Option ℕ → Type 0
IsLeastBelow test n r = MatchOption r (NonePasses test n) (λ p. (p < n) × (test p ≡ true) × NonePasses test p)

one_more : (test : ℕ → Bool) (n : ℕ) (r : Option ℕ) (b : Bool) → test n ≡ b → IsLeastBelow test n r → IsLeastBelow test (suc n) (or_else r b n)
one_more test n (Some p) b is least = (omega (arith, least.0), least.1, least.2)
one_more test n None true is none = (omega arith, is, none)
one_more test n None false is none = λ k below passes. elim (cases_lt k n) [
  | inl lt ↦ none k lt passes
  | inr ge ↦
      let here : k ≡ n = omega arith in
      cc (ap test here)
]

least_is : (test : ℕ → Bool) (n : ℕ) → IsLeastBelow test n (least_below test n)
unfolding least_below
least_is test zero = λ k below passes. absurd (omega arith)
least_is test (suc n) = one_more test n (least_below test n) (test n) refl (least_is test n)

from_so : (from : Option ℕ) (place : ℕ) → is_from from place ≡ true → IfSome from (λ low. low ≤ place)
from_so None place is = tt
from_so (Some low) place is = leb-true low place is

from_test : (from : Option ℕ) (place : ℕ) → IfSome from (λ low. low ≤ place) → is_from from place ≡ true
from_test None place is = refl
from_test (Some low) place is = le-leb low place is

to_so : (to : Option ℕ) (end : ℕ) → is_to to end ≡ true → IfSome to (λ high. end ≤ high)
to_so None end is = tt
to_so (Some high) end is = leb-true end high is

to_test : (to : Option ℕ) (end : ℕ) → IfSome to (λ high. end ≤ high) → is_to to end ≡ true
to_test None end is = refl
to_test (Some high) end is = le-leb end high is

pub stands : (pattern : Pattern) (payload : List ℕ) (place : ℕ) → stands_at pattern payload place ≡ true → StandsAt pattern payload place
unfolding stands_at
stands pattern payload place is =
    let a = and_parts (is_from pattern.from place && is_to pattern.to (place + length pattern.bytes) && nat_le (place + length pattern.bytes) (length payload)) _ is in
    let b = and_parts (is_from pattern.from place && is_to pattern.to (place + length pattern.bytes)) _ a.0 in
    let c = and_parts (is_from pattern.from place) _ b.0 in
    record {
      from = from_so pattern.from place c.0;
      to = to_so pattern.to _ c.1;
      fits = leb-true _ _ b.1;
      same = (bytes_eq-Decides (compared pattern.nocase (bytes_at pattern payload place)) (compared pattern.nocase pattern.bytes)).0 a.1;
    }

pub stands_test : (pattern : Pattern) (payload : List ℕ) (place : ℕ) → StandsAt pattern payload place → stands_at pattern payload place ≡ true
unfolding stands_at
stands_test pattern payload place is =
    let from : is_from pattern.from place ≡ true = from_test pattern.from place is.from in
    let to : is_to pattern.to (place + length pattern.bytes) ≡ true = to_test pattern.to _ is.to in
    let fits : nat_le (place + length pattern.bytes) (length payload) ≡ true = le-leb _ _ is.fits in
    let same : bytes_eq (compared pattern.nocase (bytes_at pattern payload place)) (compared pattern.nocase pattern.bytes) ≡ true = (bytes_eq-Decides _ _).1 is.same in
    and_from _ _ (and_from _ _ (and_from _ _ from to) fits) same

place_from : (pattern : Pattern) (payload : List ℕ) (r : Option ℕ) → IsLeastBelow (stands_at pattern payload) (length payload + 1) r → IsLeastPlace pattern payload r
place_from pattern payload None none = λ place is. none place (omega (arith, is.fits)) (stands_test pattern payload place is)
place_from pattern payload (Some p) least = (stands pattern payload p least.1, λ place below is. least.2 place below (stands_test pattern payload place is))

pub least_place : (pattern : Pattern) (payload : List ℕ) → IsLeastPlace pattern payload (place_of pattern payload)
unfolding place_of
least_place pattern payload = place_from pattern payload _ (least_is (stands_at pattern payload) (length payload + 1))
