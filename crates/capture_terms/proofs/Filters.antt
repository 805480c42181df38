-- Elements of a list and of its filter.
use Rattle.std.proofs.Common.{◌≡◌, ℕ, zero, suc, ◌<◌, Bool, true, false, List, [], ◌∷◌, Some, refl, sym, ◌∙◌, ap, arith, length, get_or}
use Rattle.std.specs.Prelude.{All, Contains, slice_get, filter, ◌||◌}
use Rattle.std.specs.List.{list_any}
use Rattle.std.proofs.lemmas.List.{get_or_default}
use Rattle.std.proofs.lemmas.List.Elements.{All-contains}

pub contains_at : {X : Type 0} (xs : List X) (k : ℕ) (d : X) → k < length xs → Contains xs (get_or xs k d)
contains_at xs k d lt = (k, lt, get_or_default xs k (get_or xs k d) d lt)

pub contains_get : {X : Type 0} (xs : List X) (i : ℕ) (x : X) → slice_get xs i ≡ Some x → Contains xs x
contains_get [] i x at = absurd (cc)
contains_get (y ∷ xs) zero x at = let same : y ≡ x = cc in (0, omega arith, same)
contains_get (y ∷ xs) (suc i) x at = let rest = contains_get xs i x at in (suc rest.0, omega (arith, rest.1), rest.2)

pub only_one : {X : Type 0} (x y : X) → Contains (x ∷ []) y → x ≡ y
only_one x y (zero, lt, is) = is
only_one x y (suc k, lt, is) = absurd (omega arith)

pub contains_filter : {X : Type 0} (p : X → Bool) (xs : List X) (i : ℕ) (x : X) → slice_get xs i ≡ Some x → p x ≡ true → Contains (filter p xs) x
contains_filter p [] i x at passes = absurd (cc)
contains_filter {X} p (y ∷ xs) zero x at passes =
    let same : y ≡ x = cc in
    rw (ap p same ∙ passes) (0, omega arith, same)
contains_filter {X} p (y ∷ xs) (suc i) x at passes = by_case (p y) refl (contains_filter p xs i x at passes)
  where
    by_case : (b : Bool) → p y ≡ b → Contains (filter p xs) x → Contains (filter p (y ∷ xs)) x
    by_case true here among = rw here (suc among.0, omega (arith, among.1), among.2)
    by_case false away among = rw away among

pub filter_contains : {X : Type 0} (p : X → Bool) (xs : List X) (x : X) → Contains (filter p xs) x → (i : ℕ) × (slice_get xs i ≡ Some x) × (p x ≡ true)
filter_contains p [] x among = absurd (omega (arith, among.1))
filter_contains {X} p (y ∷ xs) x among = by_case (p y) refl among (filter_contains p xs x)
  where
    first : (k : ℕ) → k < length (y ∷ filter p xs) → get_or (y ∷ filter p xs) k x ≡ x → p y ≡ true → (Contains (filter p xs) x → (i : ℕ) × (slice_get xs i ≡ Some x) × (p x ≡ true)) → (i : ℕ) × (slice_get (y ∷ xs) i ≡ Some x) × (p x ≡ true)
    first zero lt is here rest = (0, ap Some is, ap p (sym is) ∙ here)
    first (suc k) lt is here rest = let found = rest (k, omega arith, is) in (suc found.0, found.1, found.2)

    by_case : (b : Bool) → p y ≡ b → Contains (filter p (y ∷ xs)) x → (Contains (filter p xs) x → (i : ℕ) × (slice_get xs i ≡ Some x) × (p x ≡ true)) → (i : ℕ) × (slice_get (y ∷ xs) i ≡ Some x) × (p x ≡ true)
    by_case true here among rest =
        let inside : Contains (y ∷ filter p xs) x = (rw here at among) in
        first inside.0 inside.1 inside.2 here rest
    by_case false away among rest =
        let inside : Contains (filter p xs) x = (rw away at among) in
        let found = rest inside in
        (suc found.0, found.1, found.2)

pub all_filter : {X : Type 0} (P : X → Type 0) (p : X → Bool) (xs : List X) → All P xs → All P (filter p xs)
all_filter P p xs all = λ k d lt.
    let found = filter_contains p xs (get_or (filter p xs) k d) (contains_at (filter p xs) k d lt) in
    All-contains P xs (get_or (filter p xs) k d) all (contains_get xs found.0 (get_or (filter p xs) k d) found.1)

pub all_pass : {X : Type 0} (p : X → Bool) (xs : List X) → All (λ x. p x ≡ true) (filter p xs)
all_pass p xs = λ k d lt. (filter_contains p xs (get_or (filter p xs) k d) (contains_at (filter p xs) k d lt)).2

pub any_found : {X : Type 0} (p : X → Bool) (xs : List X) → list_any p xs ≡ true → (x : X) × Contains xs x × (p x ≡ true)
any_found p [] found = absurd (cc)
any_found p (y ∷ xs) found = by_case (p y) refl found (any_found p xs)
  where
    by_case : (b : Bool) → p y ≡ b → (p y || list_any p xs) ≡ true → (list_any p xs ≡ true → (x : _) × Contains xs x × (p x ≡ true)) → (x : _) × Contains (y ∷ xs) x × (p x ≡ true)
    by_case true here found rest = (y, (0, omega arith, refl), here)
    by_case false away found rest =
        let tail : list_any p xs ≡ true = (rw away at found) in
        let it = rest tail in
        (it.0, (suc it.1.0, omega (arith, it.1.1), it.1.2), it.2)
