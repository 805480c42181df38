-- The order of sights.
use Rattle.std.proofs.Common.{◌≡◌, ◌≢◌, ℕ, ◌≤◌, eqb, List, [], ◌∷◌, inl, inr, ⊎_elim, sym, refl, ap, ◌∙◌, subst, arith, eq-eqb, ne_eqb}
use mathlib.Core.Logic.{dite}
use native.Mathlib.Decide.{ℕ_discrete}
use Rattle.serial_terms.specs.Entries.{OrderedBy, IsIn}
use Rattle.serial_terms.specs.Laws.{SightOrderIsUnique}
use Rattle.serial_terms.specs.Sights.{Seen, IsSeenBefore, seen_by}
use Rattle.std.proofs.lemmas.Bool.{cond-true, cond-false}
use Rattle.serial_terms.proofs.Basics.{in_each}

module _ {D : Type 0} where
  own : (k : ℕ) (v : Seen D) (vs : List (Seen D)) → v.caller ≡ k → seen_by k (v ∷ vs) ≡ v ∷ seen_by k vs
  own k v vs q = cond-true (eqb v.caller k) (v ∷ seen_by k vs) (seen_by k vs) (eq-eqb v.caller k q)

  other : (k : ℕ) (v : Seen D) (vs : List (Seen D)) → v.caller ≢ k → seen_by k (v ∷ vs) ≡ seen_by k vs
  other k v vs q = cond-false (eqb v.caller k) (v ∷ seen_by k vs) (seen_by k vs) (ne_eqb v.caller k q)

  from_seen : (k : ℕ) (x : Seen D) (vs : List (Seen D)) → IsIn x (seen_by k vs) → IsIn x vs
  from_seen k x [] i = absurd i
  from_seen k x (v ∷ vs) i = dite (ℕ_discrete v.caller k)
      (λ q. ⊎_elim (λ y. inl y) (λ j. inr (from_seen k x vs j)) (subst (IsIn x) (own k v vs q) i))
      (λ q. inr (from_seen k x vs (subst (IsIn x) (other k v vs q) i)))

  -- the first of a list in order is at no later place than another of it, and at the same place is of no greater caller
  first_low : (x v : Seen D) (vs : List (Seen D)) → OrderedBy IsSeenBefore (v ∷ vs) → IsIn x (v ∷ vs) → (v.place ≤ x.place) × (v.place ≡ x.place → v.caller ≤ x.caller)
  first_low x v vs o i = ⊎_elim
      (λ y. let a = ap (λ (z : Seen D). z.place) y in let b = ap (λ (z : Seen D). z.caller) y in (omega arith, λ e. omega arith))
      (λ j. ⊎_elim (λ l. (omega arith, λ e. absurd (omega arith))) (λ p. let a = p.0 in let b = p.1 in (omega arith, λ e. b)) (in_each (IsSeenBefore v) x vs j o.0))
      i

  pub unique : (xs ys : List (Seen D)) → OrderedBy IsSeenBefore xs → OrderedBy IsSeenBefore ys → ((k : ℕ) → seen_by k xs ≡ seen_by k ys) → xs ≡ ys
  unique [] [] o q s = refl
  unique [] (y ∷ ys) o q s = let e : [] ≡ y ∷ seen_by y.caller ys = s y.caller ∙ own y.caller y ys refl in absurd (cc)
  unique (x ∷ xs) [] o q s = let e : x ∷ seen_by x.caller xs ≡ [] = sym (own x.caller x xs refl) ∙ s x.caller in absurd (cc)
  unique (x ∷ xs) (y ∷ ys) o q s =
      let there : IsIn x (y ∷ ys) = from_seen x.caller x (y ∷ ys) (subst (IsIn x) (sym (own x.caller x xs refl) ∙ s x.caller) (inl refl)) in
      let back : IsIn y (x ∷ xs) = from_seen y.caller y (x ∷ xs) (subst (IsIn y) (sym (own y.caller y ys refl) ∙ sym (s y.caller)) (inl refl)) in
      let a = first_low x y ys q there in let b = first_low y x xs o back in
      let al = a.0 in let bl = b.0 in let place : y.place ≡ x.place = omega arith in
      let ac = a.1 place in let bc = b.1 (sym place) in let caller : y.caller ≡ x.caller = omega arith in
      let heads : x ∷ seen_by x.caller xs ≡ y ∷ seen_by x.caller ys = sym (own x.caller x xs refl) ∙ (s x.caller ∙ own x.caller y ys caller) in
      let same : x ≡ y = cc in let tails : seen_by x.caller xs ≡ seen_by x.caller ys = cc in
      let rest : xs ≡ ys = unique xs ys o.1 q.1 (λ k. dite (ℕ_discrete x.caller k)
      (λ e. subst (λ (z : ℕ). seen_by z xs ≡ seen_by z ys) e tails)
      (λ e. sym (other k x xs e) ∙ (s k ∙ other k y ys (λ z. e (sym caller ∙ z))))) in
      (λ i. same i ∷ rest i)

pub sights_unique : SightOrderIsUnique
sights_unique own xs ys a b = unique xs ys a.order b.order (λ k. a.each k ∙ sym (b.each k))
