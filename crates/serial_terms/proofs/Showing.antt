-- Tests that show a given list of records to be a history.
use Rattle.std.proofs.Common.{◌≡◌, ◌≢◌, ℕ, ◌<◌, Bool, true, false, not, ◌&&◌, ◌||◌, eqb, ltb, List, [], ◌∷◌, ◌⊎◌, inl, inr, ⊎_elim, sym, refl, arith}
use Rattle.std.proofs.lemmas.Bool.Decides.{nat_tests}
use Rattle.serial_terms.specs.Entries.{Entry, Each, Precedes, PrecedesThere, IsInOrder, OneWriterAPlace}
use Rattle.serial_terms.proofs.Basics.{true_or_false}

both_true : (a b : Bool) → (a && b) ≡ true → (a ≡ true) × (b ≡ true)
both_true true b e = (refl, e)
both_true false b e = absurd (cc)

one_true : (a b : Bool) → (a || b) ≡ true → (a ≡ true) ⊎ (b ≡ true)
one_true true b e = inl refl
one_true false b e = inr e

less_true : (a b : ℕ) → ltb a b ≡ true → a < b
less_true a b e = grind (arith, nat_tests)

same_true : (a b : ℕ) → eqb a b ≡ true → a ≡ b
same_true a b e = grind (arith, nat_tests)

not_true : (a : Bool) → not a ≡ true → a ≡ false
not_true true e = absurd (cc)
not_true false e = refl

abbrev same_flag : Bool → Bool → Bool
same_flag true b = b
same_flag false b = not b

flags_same : (a b : Bool) → same_flag a b ≡ true → a ≡ b
flags_same true b e = sym e
flags_same false b e = sym (not_true b e)

module _ {D : Type 0} where
  abbrev precedes_there : Entry D → Entry D → Bool
  precedes_there a b = (a.writer && not b.writer) || (same_flag a.writer b.writer && (ltb a.caller b.caller || (eqb a.caller b.caller && ltb a.index b.index)))

  abbrev precedes : Entry D → Entry D → Bool
  precedes a b = ltb a.place b.place || (eqb a.place b.place && precedes_there a b)

  there : (a b : Entry D) → precedes_there a b ≡ true → PrecedesThere a b
  there a b e = ⊎_elim
      (λ x. let y = both_true a.writer (not b.writer) x in inl (y.0, not_true b.writer y.1))
      (λ x. let y = both_true (same_flag a.writer b.writer) _ x in inr (
        flags_same a.writer b.writer y.0,
        ⊎_elim
            (λ z. inl (less_true a.caller b.caller z))
            (λ z. let v = both_true (eqb a.caller b.caller) (ltb a.index b.index) z in inr (same_true a.caller b.caller v.0, less_true a.index b.index v.1))
            (one_true (ltb a.caller b.caller) _ y.1),
      ))
      (one_true (a.writer && not b.writer) _ e)

  shown : (a b : Entry D) → precedes a b ≡ true → Precedes a b
  shown a b e = ⊎_elim
      (λ x. inl (less_true a.place b.place x))
      (λ x. let y = both_true (eqb a.place b.place) (precedes_there a b) x in inr (same_true a.place b.place y.0, there a b y.1))
      (one_true (ltb a.place b.place) _ e)

  abbrev each_test : (Entry D → Bool) → List (Entry D) → Bool
  each_test f [] = true
  each_test f (e ∷ es) = f e && each_test f es

  each_shown : (P : Entry D → Type 0) (f : Entry D → Bool) → ((e : Entry D) → f e ≡ true → P e) → (es : List (Entry D)) → each_test f es ≡ true → Each P es
  each_shown P f h [] e = tt
  each_shown P f h (x ∷ xs) e = let y = both_true (f x) (each_test f xs) e in (h x y.0, each_shown P f h xs y.1)

  abbrev pub order_test : List (Entry D) → Bool
  order_test [] = true
  order_test (e ∷ es) = each_test (precedes e) es && order_test es

  pub in_order : (es : List (Entry D)) → order_test es ≡ true → IsInOrder es
  in_order [] e = tt
  in_order (x ∷ xs) e = let y = both_true (each_test (precedes x) xs) (order_test xs) e in (each_shown (Precedes x) (precedes x) (shown x) xs y.0, in_order xs y.1)

  abbrev apart : Entry D → Entry D → Bool
  apart a b = not (a.writer && (b.writer && eqb a.place b.place))

  abbrev Apart : Entry D → Entry D → Type 0
  Apart a b = a.writer ≡ true → b.writer ≡ true → a.place ≢ b.place

  apart_shown : (a b : Entry D) → apart a b ≡ true → Apart a b
  apart_shown a b e x y z = true_or_false (a.writer && (b.writer && eqb a.place b.place)) ((λ i. x i && (y i && same z i))) (not_true (a.writer && (b.writer && eqb a.place b.place)) e)
    where
      same : a.place ≡ b.place → eqb a.place b.place ≡ true
      same q = grind (arith, nat_tests)

  abbrev pub apart_test : List (Entry D) → Bool
  apart_test [] = true
  apart_test (e ∷ es) = each_test (apart e) es && apart_test es

  pub all_apart : (es : List (Entry D)) → apart_test es ≡ true → OneWriterAPlace es
  all_apart [] e = tt
  all_apart (x ∷ xs) e = let y = both_true (each_test (apart x) xs) (apart_test xs) e in (each_shown (Apart x) (apart x) (apart_shown x) xs y.0, all_apart xs y.1)
