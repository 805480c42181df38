-- The place of a group in a list, and one group more.
use Rattle.std.proofs.Common.{◌≡◌, ℕ, ◌+◌, ◌<◌, ◌≤◌, Bool, true, false, List, [], ◌∷◌, ◌++◌, Option, None, Some, refl, sym, ◌∙◌, ap, arith, length, length-append}
use Rattle.std.specs.Prelude.{position, nat_lt, ◌&&◌, ◌||◌}
use Rattle.std.specs.List.{list_any, position_or_len, IsDistinct}
use Rattle.std.specs.Ordering.{ordering_then, is_eq}
use Rattle.std.specs.declared.cmp.Ordering.{Ordering}
use Rattle.std.specs.Cmp.{IsEquivalence, tied_then, unsigned_tied}
use Rattle.std.proofs.lemmas.Bool.Decides.{nat_tests}
use Rattle.std.proofs.lemmas.List.Folds.{list_any_none}
use Rattle.std.proofs.lemmas.List.Sums.{position_or_len_is, fails_before_first}
use Rattle.std.proofs.lemmas.List.Quantifiers.{position-Some}
use Rattle.std.proofs.lemmas.Map.Keys.{IsDistinct-push}
use Rattle.std.proofs.Math.ListN.{get_or-append}
use Rattle.std.proofs.Math.Seq.{get_or-append_seam}
use Rattle.capture_terms.specs.declared.datagram.Header.{Header}
use Rattle.capture_terms.specs.declared.plan.Group.{Group}
use Rattle.capture_terms.specs.Generations.{is_same_header}
use Rattle.capture_terms.specs.Kept.{is_same_group}
use Rattle.ipv4_fragments.specs.Generations.{header_cmp}
use Rattle.ipv4_fragments.proofs.Clashes.{any_push}
use Rattle.ipv4_fragments.proofs.KeptGroups.{none_at, any_at, same_group, same_itself, same_swapped, numbered}

-- groups are the same where neither comes before the other
pub tied : (a b : Ordering) (p q : Bool) → is_eq a ≡ p → is_eq b ≡ q → is_eq (ordering_then a b) ≡ (p && q)
tied a b p q first second = sym (tied_then a b) ∙ ap (λ (x : Bool). x && is_eq b) first ∙ ap (λ (x : Bool). p && x) second

pub same_headers : (g h : Header) → is_eq (header_cmp g h) ≡ is_same_header g h
same_headers g h = tied _ _ _ _ (unsigned_tied g.source h.source) (tied _ _ _ _ (unsigned_tied g.destination h.destination) (unsigned_tied g.protocol h.protocol))

pub same_equivalent : IsEquivalence is_same_group
same_equivalent = record {
  refl = same_itself;
  symm = λ g h. by_case g h (is_same_group g h) refl;
  congr = λ g h i same. ap (λ (k : Group). is_same_group k i) (same_group g h same);
}
  where
    by_case : (g h : Group) (b : Bool) → is_same_group g h ≡ b → is_same_group g h ≡ is_same_group h g
    by_case g h false other = other ∙ sym (same_swapped g h other)
    by_case g h true same = ap (λ (k : Group). is_same_group k h) (same_group g h same) ∙ ap (λ (k : Group). is_same_group h k) (sym (same_group g h same))

-- the first place that passes, where there is one
module _ {X : Type 0} (p : X → Bool) where
  pub any_placed : (xs : List X) (n : ℕ) (d : X) → position p xs ≡ Some n → list_any p xs ≡ true
  any_placed xs n d at = let found = position-Some p xs n d at in any_at p xs n d found.0 found.1

  pub none_placed : (xs : List X) → position p xs ≡ None → list_any p xs ≡ false
  none_placed xs none = by_case (nat_lt (position_or_len p xs) (length xs)) refl
    where
      by_case : (b : Bool) → nat_lt (position_or_len p xs) (length xs) ≡ b → list_any p xs ≡ false
      by_case true before = let some : position p xs ≡ Some (position_or_len p xs) = rw before refl in absurd (cc)
      by_case false past = list_any_none p xs (λ k d lt. fails_before_first p xs k d (grind (arith, nat_tests)))

  pub placed_none : (xs : List X) (d : X) → list_any p xs ≡ false → position p xs ≡ None
  placed_none xs d none = by_case (position p xs) refl
    where
      by_case : (o : Option ℕ) → position p xs ≡ o → o ≡ None
      by_case None at = refl
      by_case (Some n) at = let any : list_any p xs ≡ true = any_placed xs n d at in absurd (cc)

  pub first_none : (xs : List X) (d : X) → list_any p xs ≡ false → position_or_len p xs ≡ length xs
  first_none xs d none = position_or_len_is p xs (length xs) d (omega arith) (λ k lt. none_at p xs none k d lt) (λ past. absurd (omega arith))

  pub placed_last : (xs : List X) (y : X) → list_any p xs ≡ false → p y ≡ true → position p (xs ++ y ∷ []) ≡ Some (length xs)
  placed_last xs y none here =
      let longer : length (xs ++ y ∷ []) ≡ length xs + 1 = simp length-append in
      let last : position_or_len p (xs ++ y ∷ []) ≡ length xs = position_or_len_is p (xs ++ y ∷ []) (length xs) y (omega arith)
      (λ k lt. ap p (get_or-append xs (y ∷ []) y k lt) ∙ none_at p xs none k y lt)
      (λ _. ap p (get_or-append_seam xs y [] y) ∙ here) in
      let inside : nat_lt (length xs) (length (xs ++ y ∷ [])) ≡ true = grind (arith, nat_tests) in
      rw last (rw inside refl)

module _ (q : Group) where
  pub placed_before : (xs : List Group) (y : Group) → is_same_group q y ≡ false → position (is_same_group q) (xs ++ y ∷ []) ≡ position (is_same_group q) xs
  placed_before xs y away = by_case (position (is_same_group q) xs) refl
    where
      by_case : (o : Option ℕ) → position (is_same_group q) xs ≡ o → position (is_same_group q) (xs ++ y ∷ []) ≡ o
      by_case None at =
          let none : list_any (is_same_group q) xs ≡ false = none_placed (is_same_group q) xs at in
          placed_none (is_same_group q) (xs ++ y ∷ []) y (any_push (is_same_group q) xs y ∙ ap (λ (b : Bool). b || is_same_group q y) none ∙ away)
      by_case (Some n) at =
          let found = position-Some (is_same_group q) xs n y at in
          numbered (is_same_group q) xs (y ∷ []) n y found.0 found.1 found.2

-- the place is behind the list exactly where nothing in it passes
module _ (groups : List Group) (g : Group) (place : ℕ) (is : place ≡ position_or_len (is_same_group g) groups) where
  pub place_known : place < length groups → list_any (is_same_group g) groups ≡ true
  place_known below =
      let before : nat_lt (position_or_len (is_same_group g) groups) (length groups) ≡ true = grind (arith, nat_tests) in
      let some : position (is_same_group g) groups ≡ Some (position_or_len (is_same_group g) groups) = rw before refl in
      any_placed (is_same_group g) groups (position_or_len (is_same_group g) groups) g some

  pub place_new : length groups ≤ place → list_any (is_same_group g) groups ≡ false
  place_new past = list_any_none (is_same_group g) groups (λ k d lt. fails_before_first (is_same_group g) groups k d (omega (arith, is, past, lt)))

-- the first place is that which the position tells
pub placed_or_len : {X : Type 0} (p : X → Bool) (xs : List X) (n : ℕ) → position p xs ≡ Some n → n ≡ position_or_len p xs
placed_or_len p xs n at = by_case (nat_lt (position_or_len p xs) (length xs)) refl
  where
    by_case : (b : Bool) → nat_lt (position_or_len p xs) (length xs) ≡ b → n ≡ position_or_len p xs
    by_case true before = let some : position p xs ≡ Some (position_or_len p xs) = rw before refl in cc
    by_case false past = let none : position p xs ≡ None = rw past refl in absurd (cc)

-- one group more, which is none of those before, leaves each of them different
pub distinct_more : (groups : List Group) (g : Group) → IsDistinct is_same_group groups → list_any (is_same_group g) groups ≡ false → IsDistinct is_same_group (groups ++ g ∷ [])
distinct_more groups g differ none = IsDistinct-push same_equivalent groups g differ none

pub distinct_none : IsDistinct is_same_group []
unfolding IsDistinct
distinct_none = tt
