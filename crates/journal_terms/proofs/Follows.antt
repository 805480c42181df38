-- A further sight, from what the sights before it come to and from the records up to its place.
use Rattle.std.proofs.Common.{◌≡◌, ℕ, zero, suc, ◌+◌, ◌<◌, ◌≤◌, ◌⊎◌, inl, inr, Bool, true, false, cond, eqb, List, [], ◌∷◌, length, sym, refl, ap, ◌∙◌, subst, arith, max}
use Rattle.std.specs.Prelude.{nat_le}
use Rattle.std.proofs.lemmas.Bool.{cond-true, cond-false, eqb-true, eq-eqb, false_from_ne_true, leb-true, le-leb}
use Rattle.serial_terms.specs.declared.call.Done.{Done}
use Rattle.serial_terms.specs.Entries.{Entry, Each, OrderedBy, Precedes, IsInOrder, by_caller, up_to, IsCountedFrom}
use Rattle.serial_terms.specs.Sights.{Seen, IsSeenBefore, IsAfterItsCallers}
use Rattle.journal_terms.specs.Text.{sights_in}
use Rattle.journal_terms.specs.Naming.{latest, IsNotBelow, most_after, SightsFollow}

-- ---- the order of sights

seen_on : (a b c : Seen Done) → IsSeenBefore a b → IsSeenBefore b c → IsSeenBefore a c
seen_on a b c (inl p) (inl q) = inl (omega arith)
seen_on a b c (inl p) (inr q) = let e = q.0 in inl (omega arith)
seen_on a b c (inr p) (inl q) = let e = p.0 in inl (omega arith)
seen_on a b c (inr p) (inr q) = inr (p.0 ∙ q.0, let l = p.1 in let m = q.1 in omega arith)

zero_or_more : (n : ℕ) (k : ℕ) → (0 < n) ⊎ ((0 ≡ n) × (0 ≤ k))
zero_or_more zero k = inr (refl, omega arith)
zero_or_more (suc n) k = inl (omega arith)

behind_all : (vs : List (Seen Done)) (v : Seen Done) → OrderedBy IsSeenBefore vs → IsNotBelow (latest vs) v → Each (λ w. IsSeenBefore w v) vs
behind_all [] v o b = tt
behind_all (w ∷ []) v o b = (b, tt)
behind_all (w ∷ x ∷ xs) v o b = let rest = behind_all (x ∷ xs) v o.1 b in (seen_on w x v o.0.0 rest.0, rest)

behind_last : (vs : List (Seen Done)) (v : Seen Done) → Each (λ w. IsSeenBefore w v) vs → IsNotBelow (latest vs) v
behind_last [] v e = zero_or_more v.place v.caller
behind_last (w ∷ []) v e = e.0
behind_last (w ∷ x ∷ xs) v e = behind_last (x ∷ xs) v e.1

-- ---- records before the sights of one caller

rising_all : (vs : List (Seen Done)) (v : Seen Done) → most_after v.caller vs ≤ v.after → Each (λ w. w.caller ≡ v.caller → w.after ≤ v.after) vs
rising_all [] v h = tt
rising_all (w ∷ ws) v h = by_case (eqb w.caller v.caller) refl (rising_all ws v)
  where
    by_case : (t : Bool) → eqb w.caller v.caller ≡ t → (most_after v.caller ws ≤ v.after → Each (λ w. w.caller ≡ v.caller → w.after ≤ v.after) ws)
        → Each (λ w. w.caller ≡ v.caller → w.after ≤ v.after) (w ∷ ws)
    by_case true e more = let l : max w.after (most_after v.caller ws) ≤ v.after = subst (λ (n : ℕ). n ≤ v.after) (cond-true (eqb w.caller v.caller) _ _ e) h in
        ((λ s. omega arith), more (omega arith))
    by_case false e more = let l : most_after v.caller ws ≤ v.after = subst (λ (n : ℕ). n ≤ v.after) (cond-false (eqb w.caller v.caller) _ _ e) h in
        ((λ s. let bad : true ≡ false = sym (eq-eqb w.caller v.caller s) ∙ e in absurd (cc bad)), more l)

rising_most : (vs : List (Seen Done)) (v : Seen Done) → Each (λ w. w.caller ≡ v.caller → w.after ≤ v.after) vs → most_after v.caller vs ≤ v.after
rising_most [] v h = omega arith
rising_most (w ∷ ws) v h = by_case (eqb w.caller v.caller) refl (rising_most ws v h.1)
  where
    by_case : (t : Bool) → eqb w.caller v.caller ≡ t → most_after v.caller ws ≤ v.after → most_after v.caller (w ∷ ws) ≤ v.after
    by_case true e more = let l : w.after ≤ v.after = h.0 (eqb-true w.caller v.caller e) in subst (λ (n : ℕ). n ≤ v.after) (sym (cond-true (eqb w.caller v.caller) _ _ e)) (omega arith)
    by_case false e more = subst (λ (n : ℕ). n ≤ v.after) (sym (cond-false (eqb w.caller v.caller) _ _ e)) more

-- ---- the records of a caller up to a place

abbrev PlacesRise : List (Entry Done) → Type 0
PlacesRise = OrderedBy (λ a b. a.place ≤ b.place)

-- one list cut by two tests is the same in either order
own_up_to : (k p : ℕ) (es : List (Entry Done)) → by_caller k (up_to p es) ≡ up_to p (by_caller k es)
own_up_to k p [] = refl
own_up_to k p (e ∷ es) = by_case (eqb e.caller k) (nat_le e.place p) refl refl (own_up_to k p es)
  where
    by_case : (t u : Bool) → eqb e.caller k ≡ t → nat_le e.place p ≡ u → by_caller k (up_to p es) ≡ up_to p (by_caller k es) → by_caller k (up_to p (e ∷ es)) ≡ up_to p (by_caller k (e ∷ es))
    by_case true true a b h = rw (b, a) (rw b (ap (λ (z : List (Entry Done)). e ∷ z) h))
    by_case true false a b h = rw (b, a) (rw b h)
    by_case false true a b h = rw (b, a) h
    by_case false false a b h = rw (b, a) h

rises_one : (a b : Entry Done) → Precedes a b → a.place ≤ b.place
rises_one a b (inl l) = omega arith
rises_one a b (inr e) = let same = e.0 in omega arith

rises_each : (a : Entry Done) (k : ℕ) (es : List (Entry Done)) → Each (Precedes a) es → Each (λ b. a.place ≤ b.place) (by_caller k es)
rises_each a k [] h = tt
rises_each a k (e ∷ es) h = by_case (eqb e.caller k) (rises_each a k es h.1)
  where
    by_case : (t : Bool) → Each (λ b. a.place ≤ b.place) (by_caller k es) → Each (λ b. a.place ≤ b.place) (cond t (e ∷ by_caller k es) (by_caller k es))
    by_case true r = (rises_one a e h.0, r)
    by_case false r = r

rises : (k : ℕ) (es : List (Entry Done)) → IsInOrder es → PlacesRise (by_caller k es)
rises k [] o = tt
rises k (e ∷ es) o = by_case (eqb e.caller k) (rises k es o.1)
  where
    by_case : (t : Bool) → PlacesRise (by_caller k es) → PlacesRise (cond t (e ∷ by_caller k es) (by_caller k es))
    by_case true r = (rises_each e k es o.0, r)
    by_case false r = r

none_up_to : (p q : ℕ) (hs : List (Entry Done)) → p < q → Each (λ b. q ≤ b.place) hs → up_to p hs ≡ []
none_up_to p q [] l h = refl
none_up_to p q (e ∷ es) l h = let over : q ≤ e.place = h.0 in
    cond-false (nat_le e.place p) _ _ (false_from_ne_true _ (λ t. let low : e.place ≤ p = leb-true e.place p t in omega arith)) ∙ none_up_to p q es l h.1

length_up_to : (p : ℕ) (hs : List (Entry Done)) → length (up_to p hs) ≤ length hs
length_up_to p [] = omega arith
length_up_to p (e ∷ es) = by_case (nat_le e.place p) (length_up_to p es)
  where
    by_case : (t : Bool) → length (up_to p es) ≤ length es → length (cond t (e ∷ up_to p es) (up_to p es)) ≤ length (e ∷ es)
    by_case true h = omega (arith, h)
    by_case false h = omega (arith, h)

abbrev IsPlaced : ℕ → ℕ → List (Entry Done) → Type 0
IsPlaced n p = Each (λ e. e.index + 1 ≡ n → e.place ≤ p)

none_indexed : (m n p : ℕ) (hs : List (Entry Done)) → IsCountedFrom m hs → n ≤ m → IsPlaced n p hs
none_indexed m n p [] c l = tt
none_indexed m n p (e ∷ es) c l = let at = c.0 in ((λ s. absurd (omega arith)), none_indexed (m + 1) n p es c.1 (omega arith))

placed_from : (m n p : ℕ) (hs : List (Entry Done)) → IsCountedFrom m hs → PlacesRise hs → n ≤ m + length (up_to p hs) → IsPlaced n p hs
placed_from m n p [] c r l = tt
placed_from m n p (e ∷ es) c r l = by_case (nat_le e.place p) refl (placed_from (m + 1) n p es c.1 r.1)
  where
    by_case : (t : Bool) → nat_le e.place p ≡ t → (n ≤ m + 1 + length (up_to p es) → IsPlaced n p es) → IsPlaced n p (e ∷ es)
    by_case true b more = let low : e.place ≤ p = leb-true e.place p b in
        let size : n ≤ m + length (e ∷ up_to p es) = subst (λ (z : List (Entry Done)). n ≤ m + length z) (cond-true (nat_le e.place p) (e ∷ up_to p es) (up_to p es) b) l in
        ((λ s. low), more (omega (arith, size)))
    by_case false b more =
        let high : p < e.place = omega (arith, (λ (q : e.place ≤ p). let bad : true ≡ false = sym (le-leb e.place p q) ∙ b in absurd {A = ⊥} (cc bad))) in
        let none : up_to p (e ∷ es) ≡ [] = cond-false (nat_le e.place p) (e ∷ up_to p es) (up_to p es) b ∙ none_up_to p e.place es high r.0 in
        let size : n ≤ m + 0 = subst (λ (z : List (Entry Done)). n ≤ m + length z) none l in
        none_indexed m n p (e ∷ es) c (omega (arith, size))

reached : (m n p q : ℕ) (hs : List (Entry Done)) → IsCountedFrom m hs → p < q → Each (λ b. q ≤ b.place) hs → IsPlaced n p hs → m < n → n ≤ m + length hs → ⊥
reached m n p q [] c l h f a b = omega arith
reached m n p q (e ∷ es) c l h f a b = by_case (eqb (m + 1) n) refl (reached (m + 1) n p q es c.1 l h.1 f.1)
  where
    by_case : (t : Bool) → eqb (m + 1) n ≡ t → (m + 1 < n → n ≤ m + 1 + length es → ⊥) → ⊥
    by_case true g more = let same : m + 1 ≡ n = eqb-true (m + 1) n g in
        let at : e.index ≡ m = c.0 in
        let low : e.place ≤ p = f.0 (omega arith) in
        let high : q ≤ e.place = h.0 in omega arith
    by_case false g more = let other : m + 1 ≡ n → ⊥ = λ s. let bad : true ≡ false = sym (eq-eqb (m + 1) n s) ∙ g in absurd (cc bad) in
        let size : n ≤ m + length (e ∷ es) = b in
        more (omega (arith, other)) (omega (arith, size))

counted_from : (m n p : ℕ) (hs : List (Entry Done)) → IsCountedFrom m hs → PlacesRise hs → n ≤ m + length hs → IsPlaced n p hs → n ≤ m + length (up_to p hs)
counted_from m n p [] c r l f = l
counted_from m n p (e ∷ es) c r l f = by_case (nat_le e.place p) refl (counted_from (m + 1) n p es c.1 r.1)
  where
    by_case : (t : Bool) → nat_le e.place p ≡ t → (n ≤ m + 1 + length es → IsPlaced n p es → n ≤ m + 1 + length (up_to p es)) → n ≤ m + length (up_to p (e ∷ es))
    by_case true b more = let size : n ≤ m + length (e ∷ es) = l in
        let there : n ≤ m + 1 + length (up_to p es) = more (omega (arith, size)) f.1 in
        subst (λ (z : List (Entry Done)). n ≤ m + length z) (sym (cond-true (nat_le e.place p) (e ∷ up_to p es) (up_to p es) b)) (omega (arith, there))
    by_case false b more =
        let high : p < e.place = omega (arith, (λ (q : e.place ≤ p). let bad : true ≡ false = sym (le-leb e.place p q) ∙ b in absurd {A = ⊥} (cc bad))) in
        let none : up_to p (e ∷ es) ≡ [] = cond-false (nat_le e.place p) (e ∷ up_to p es) (up_to p es) b ∙ none_up_to p e.place es high r.0 in
        let few : n ≤ m = omega (arith, (λ (a : m < n). reached m n p e.place (e ∷ es) c high (omega arith, r.0) f a l)) in
        subst (λ (z : List (Entry Done)). n ≤ m + length z) (sym none) (omega (arith, few))

own_after : (es : List (Entry Done)) (v : Seen Done) → IsInOrder es → ((k : ℕ) → IsCountedFrom 0 (by_caller k es))
    → IsAfterItsCallers es v → v.after ≤ length (by_caller v.caller (up_to v.place es))
own_after es v o c a = let there : v.after ≤ 0 + length (up_to v.place (by_caller v.caller es)) = counted_from 0 v.after v.place (by_caller v.caller es) (c v.caller) (rises v.caller es o) (omega (arith, a.counted)) a.placed in
    subst (λ (z : List (Entry Done)). v.after ≤ length z) (sym (own_up_to v.caller v.place es)) (omega (arith, there))

own_before : (es : List (Entry Done)) (v : Seen Done) → IsInOrder es → ((k : ℕ) → IsCountedFrom 0 (by_caller k es))
    → v.after ≤ length (by_caller v.caller (up_to v.place es)) → IsAfterItsCallers es v
own_before es v o c a = let there : v.after ≤ length (up_to v.place (by_caller v.caller es)) = subst (λ (z : List (Entry Done)). v.after ≤ length z) (own_up_to v.caller v.place es) a in
    record {
      counted = omega (arith, there, length_up_to v.place (by_caller v.caller es));
      placed = placed_from 0 v.after v.place (by_caller v.caller es) (c v.caller) (rises v.caller es o) (omega (arith, there));
    }

pub sights_follow : SightsFollow
sights_follow j l v = (
  (λ s. record {
    writable = s.writable;
    within = s.within;
    order = behind_last (sights_in j.sights) v s.order;
    rising = rising_most (sights_in j.sights) v s.rising;
    consistent = s.consistent;
    after = own_after j.records v l.legal.1.order l.legal.1.counted s.after;
  }),
  (λ s. record {
    writable = s.writable;
    within = s.within;
    order = behind_all (sights_in j.sights) v l.seen.order s.order;
    rising = rising_all (sights_in j.sights) v s.rising;
    consistent = s.consistent;
    after = own_before j.records v l.legal.1.order l.legal.1.counted s.after;
  }),
)
