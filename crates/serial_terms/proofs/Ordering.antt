-- Records in the order of a history.
use Rattle.std.proofs.Common.{◌≡◌, ◌≢◌, ℕ, zero, suc, ◌<◌, ◌≤◌, true, false, List, [], ◌∷◌, ◌++◌, ◌⊎◌, inl, inr, ⊎_elim, sym, refl, ap, ◌∙◌, subst, arith}
use Rattle.std.specs.Prelude.{Option, Some, None, option_to_list}
use Rattle.std.proofs.lemmas.Bool.Decides.{nat_tests}
use mathlib.Core.Logic.{dite}
use native.Mathlib.Decide.{ℕ_discrete}
use Rattle.serial_terms.specs.Entries.{Entry, Each, OrderedBy, IsIn, Precedes, StandsBefore, IsInOrder, up_to, OneWriterAPlace, merged, IsWriterAt, IsReaderAt, AreOfTheirPlaces}
use Rattle.std.proofs.lemmas.List.{append-nil}
use Rattle.serial_terms.specs.Facts.{each_append}
use Rattle.serial_terms.proofs.Basics.{each_map, each_all, in_each, true_or_false}

later : (k n j i : ℕ) → (k < j) ⊎ ((k ≡ j) × (n < i)) → (j < k) ⊎ ((j ≡ k) × (i < n)) → ⊥
later k n j i f g = ⊎_elim (λ a. ⊎_elim (λ b. omega arith) (λ b. let x = b.0 in omega arith) g) (λ a. let x = a.0 in let y = a.1 in ⊎_elim (λ b. omega arith) (λ b. let z = b.1 in omega arith) g) f

module _ {D : Type 0} where
  -- no two records precede one another
  pub one_way : (a b : Entry D) → Precedes a b → Precedes b a → ⊥
  one_way a b f g = ⊎_elim
      (λ l. ⊎_elim (λ m. omega arith) (λ y. let e = y.0 in omega arith) g)
      (λ x. let e = x.0 in ⊎_elim (λ m. omega arith)
      (λ y. ⊎_elim
      (λ p. ⊎_elim (λ q. true_or_false a.writer p.0 q.1) (λ q. true_or_false b.writer (q.0 ∙ p.0) p.1) y.1)
      (λ p. ⊎_elim (λ q. true_or_false a.writer (p.0 ∙ q.0) q.1) (λ q. later a.caller a.index b.caller b.index p.1 q.1) y.1)
      x.1)
      g)
      f

  pub unique : (xs ys : List (Entry D)) → IsInOrder xs → IsInOrder ys → ((x : Entry D) → IsIn x xs → IsIn x ys) → ((x : Entry D) → IsIn x ys → IsIn x xs) → xs ≡ ys
  unique [] [] a b f g = refl
  unique [] (y ∷ ys) a b f g = absurd (g y (inl refl))
  unique (x ∷ xs) [] a b f g = absurd (f x (inl refl))
  unique (x ∷ xs) (y ∷ ys) a b f g =
      let same : x ≡ y = ⊎_elim (λ e. sym e) (λ i. ⊎_elim (λ e. e) (λ j. absurd (one_way x y (in_each (Precedes x) y xs j a.0) (in_each (Precedes y) x ys i b.0))) (g y (inl refl))) (f x (inl refl)) in
      let rest : xs ≡ ys = unique xs ys a.1 b.1
      (λ z i. ⊎_elim (λ e. let l : Precedes x z = in_each (Precedes x) z xs i a.0 in let m : x ≡ z = same ∙ e in absurd (let c : Precedes z z = subst (λ (w : Entry D). Precedes w z) m l in one_way z z c c)) (λ j. j) (f z (inr i)))
      (λ z i. ⊎_elim (λ e. let l : Precedes y z = in_each (Precedes y) z ys i b.0 in let m : y ≡ z = sym same ∙ e in absurd (let c : Precedes z z = subst (λ (w : Entry D). Precedes w z) m l in one_way z z c c)) (λ j. j) (g z (inr i))) in
      (λ i. same i ∷ rest i)

  -- ---- up to a place

  pub up_to_all : (t : ℕ) (es : List (Entry D)) → Each (λ e. e.place ≤ t) es → up_to t es ≡ es
  up_to_all t [] a = refl
  up_to_all t (e ∷ es) a = let i = up_to_all t es a.1 in let l = a.0 in grind (arith, nat_tests)

  pub up_to_none : (t : ℕ) (es : List (Entry D)) → Each (λ e. t < e.place) es → up_to t es ≡ []
  up_to_none t [] a = refl
  up_to_none t (e ∷ es) a = let i = up_to_none t es a.1 in let l = a.0 in grind (arith, nat_tests)

  pub up_to_append : (t : ℕ) (xs ys : List (Entry D)) → up_to t (xs ++ ys) ≡ up_to t xs ++ up_to t ys
  up_to_append t [] ys = refl
  up_to_append t (x ∷ xs) ys = let i = up_to_append t xs ys in grind (arith, nat_tests)

  pub precedes_low : (a b : Entry D) → Precedes a b → a.place ≤ b.place
  precedes_low a b p = ⊎_elim (λ l. omega arith) (λ e. let x = e.0 in omega arith) p

  pub stands_low : (a b : Entry D) → StandsBefore a b → a.place ≤ b.place
  stands_low a b p = ⊎_elim (λ l. omega arith) (λ e. let x = e.0 in omega arith) p

  -- the order of a history is that by place
  pub stands : (a b : Entry D) → Precedes a b → StandsBefore a b
  stands a b p = ⊎_elim (λ l. inl l) (λ e. inr (e.0, ⊎_elim (λ w. inl w) (λ x. inr (x.0, ⊎_elim (λ l. omega arith) (λ y. let c = y.0 in omega arith) x.1)) e.1)) p

  up_to_cons : (t : ℕ) (e : Entry D) (es : List (Entry D)) → e.place ≤ t → up_to t (e ∷ es) ≡ e ∷ up_to t es
  up_to_cons t e es l = grind (arith, nat_tests)

  -- in a list whose places never fall the records up to a place are its beginning
  pub up_to_begins : (R : Entry D → Entry D → Type 0) → ((a b : Entry D) → R a b → a.place ≤ b.place) → (t : ℕ) (es : List (Entry D)) → OrderedBy R es → (rest : List (Entry D)) × (es ≡ up_to t es ++ rest) × Each (λ x. t < x.place) rest
  up_to_begins R low t [] a = ([], refl, tt)
  up_to_begins R low t (e ∷ es) a = ⊎_elim
      (λ l. let r = up_to_begins R low t es a.1 in (r.0, ap (λ (z : List (Entry D)). e ∷ z) r.1 ∙ ap (λ (z : List (Entry D)). z ++ r.0) (sym (up_to_cons t e es l)), r.2))
      (λ l. let above : Each (λ x. t < x.place) (e ∷ es) = (l, each_map (R e) (λ x. t < x.place) (λ x p. let q = low e x p in omega arith) es a.0) in
      (e ∷ es, ap (λ (z : List (Entry D)). z ++ (e ∷ es)) (sym (up_to_none t (e ∷ es) above)), above))
      (le_or_above e.place t)
    where
      le_or_above : (x y : ℕ) → (x ≤ y) ⊎ (y < x)
      le_or_above x y = grind arith

  -- ---- merged place by place

  pub order_append : (R : Entry D → Entry D → Type 0) (xs ys : List (Entry D)) → OrderedBy R xs → OrderedBy R ys → Each (λ x. Each (R x) ys) xs → OrderedBy R (xs ++ ys)
  order_append R [] ys a b c = b
  order_append R (x ∷ xs) ys a b c = (each_append (R x) xs ys a.0 c.0, order_append R xs ys a.1 b c.1)

  module _ (R : Entry D → Entry D → Type 0) (below : (a b : Entry D) → a.place < b.place → R a b) (behind : (a b : Entry D) → a.place ≡ b.place → a.writer ≡ true → b.writer ≡ false → R a b)
      (writer : ℕ → Option (Entry D)) (readers : ℕ → List (Entry D)) (own : AreOfTheirPlaces R writer readers) where
    here_placed : (p : ℕ) → Each (λ e. e.place ≡ p) (option_to_list (writer p) ++ readers p)
    here_placed p = each_append (λ e. e.place ≡ p) (option_to_list (writer p)) (readers p) (each_map (IsWriterAt p) (λ e. e.place ≡ p) (λ e a. a.0) _ (own.of_writers p)) (each_map (IsReaderAt p) (λ e. e.place ≡ p) (λ e a. a.0) _ (own.of_readers p))

    pub merged_below : (p : ℕ) → Each (λ e. e.place ≤ p) (merged writer readers p)
    merged_below zero = each_map (IsReaderAt 0) (λ e. e.place ≤ 0) (λ e a. let q = a.0 in omega arith) (readers 0) (own.of_readers 0)
    merged_below (suc p) = each_append (λ e. e.place ≤ suc p) (merged writer readers p) _ (each_map (λ e. e.place ≤ p) (λ e. e.place ≤ suc p) (λ e q. omega arith) (merged writer readers p) (merged_below p)) (each_map (λ e. e.place ≡ suc p) (λ e. e.place ≤ suc p) (λ e q. omega arith) _ (here_placed (suc p)))

    one_order : (o : Option (Entry D)) → OrderedBy R (option_to_list o)
    one_order (Some e) = (tt, tt)
    one_order None = tt

    here_order : (p : ℕ) → OrderedBy R (option_to_list (writer p) ++ readers p)
    here_order p = order_append R (option_to_list (writer p)) (readers p) (one_order (writer p)) (own.ordered p)
        (each_map (IsWriterAt p) (λ x. Each (R x) (readers p)) (λ x a. each_map (IsReaderAt p) (R x) (λ y b. behind x y (a.0 ∙ sym b.0) a.1 b.1) (readers p) (own.of_readers p)) _ (own.of_writers p))

    pub merged_order : (p : ℕ) → OrderedBy R (merged writer readers p)
    merged_order zero = own.ordered 0
    merged_order (suc p) = order_append R (merged writer readers p) (option_to_list (writer (suc p)) ++ readers (suc p)) (merged_order p) (here_order (suc p))
        (each_map (λ e. e.place ≤ p) (λ x. Each (R x) (option_to_list (writer (suc p)) ++ readers (suc p))) (λ x l. each_map (λ e. e.place ≡ suc p) (R x) (λ y e. below x y (omega arith)) _ (here_placed (suc p))) _ (merged_below p))

    -- ---- one writer a place

    abbrev Apart : Entry D → Entry D → Type 0
    Apart e x = e.writer ≡ true → x.writer ≡ true → e.place ≢ x.place

    apart_append : (xs ys : List (Entry D)) → OneWriterAPlace xs → OneWriterAPlace ys → Each (λ x. Each (Apart x) ys) xs → OneWriterAPlace (xs ++ ys)
    apart_append [] ys a b c = b
    apart_append (x ∷ xs) ys a b c = (each_append (Apart x) xs ys a.0 c.0, apart_append xs ys a.1 b c.1)

    readers_apart : (p : ℕ) (es : List (Entry D)) → Each (IsReaderAt p) es → OneWriterAPlace es
    readers_apart p [] a = tt
    readers_apart p (e ∷ es) a = (each_all (Apart e) es (λ x w y. absurd (true_or_false e.writer w a.0.1)), readers_apart p es a.1)

    one_apart : (o : Option (Entry D)) → OneWriterAPlace (option_to_list o)
    one_apart (Some e) = (tt, tt)
    one_apart None = tt

    here_apart : (p : ℕ) → OneWriterAPlace (option_to_list (writer p) ++ readers p)
    here_apart p = apart_append (option_to_list (writer p)) (readers p) (one_apart (writer p)) (readers_apart p (readers p) (own.of_readers p))
        (each_all (λ x. Each (Apart x) (readers p)) _ (λ x. each_map (IsReaderAt p) (Apart x) (λ y b w z. absurd (true_or_false y.writer z b.1)) (readers p) (own.of_readers p)))

    pub merged_apart : (p : ℕ) → OneWriterAPlace (merged writer readers p)
    merged_apart zero = readers_apart 0 (readers 0) (own.of_readers 0)
    merged_apart (suc p) = apart_append (merged writer readers p) (option_to_list (writer (suc p)) ++ readers (suc p)) (merged_apart p) (here_apart (suc p))
        (each_map (λ e. e.place ≤ p) (λ x. Each (Apart x) (option_to_list (writer (suc p)) ++ readers (suc p))) (λ x l. each_map (λ e. e.place ≡ suc p) (Apart x) (λ y e w z q. omega arith) _ (here_placed (suc p))) _ (merged_below p))

    -- no writer is at place 0
    pub merged_placed : (p : ℕ) → Each (λ e. e.writer ≡ true → 0 < e.place) (merged writer readers p)
    merged_placed zero = each_map (IsReaderAt 0) (λ e. e.writer ≡ true → 0 < e.place) (λ e a w. absurd (true_or_false e.writer w a.1)) (readers 0) (own.of_readers 0)
    merged_placed (suc p) = each_append (λ e. e.writer ≡ true → 0 < e.place) (merged writer readers p) _ (merged_placed p) (each_map (λ e. e.place ≡ suc p) (λ e. e.writer ≡ true → 0 < e.place) (λ e q w. omega arith) _ (here_placed (suc p)))

    -- up to an earlier place they are those merged so far
    pub up_to_merged : (t p : ℕ) → t ≤ p → up_to t (merged writer readers p) ≡ merged writer readers t
    up_to_merged t zero l = let e : t ≡ 0 = omega arith in subst (λ (z : ℕ). up_to z (readers 0) ≡ merged writer readers z) (sym e) (up_to_all 0 (readers 0) (merged_below 0))
    up_to_merged t (suc p) l = dite (ℕ_discrete t (suc p))
        (λ e. subst (λ (z : ℕ). up_to z (merged writer readers (suc p)) ≡ merged writer readers z) (sym e) (up_to_all (suc p) (merged writer readers (suc p)) (merged_below (suc p))))
        (λ ne. up_to_append t (merged writer readers p) (option_to_list (writer (suc p)) ++ readers (suc p))
        ∙ (ap (λ (z : List (Entry D)). up_to t (merged writer readers p) ++ z) (up_to_none t (option_to_list (writer (suc p)) ++ readers (suc p)) (each_map (λ e. e.place ≡ suc p) (λ e. t < e.place) (λ e q. omega arith) _ (here_placed (suc p))))
        ∙ (append-nil (up_to t (merged writer readers p)) ∙ up_to_merged t p (omega arith))))
