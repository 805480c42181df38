-- Keys with their values, in any order and in key order.
use Rattle.std.proofs.Common.{◌≡◌, ◌≢◌, ℕ, zero, suc, ◌+◌, ◌<◌, ◌≤◌, Bool, true, cond, eqb, List, [], ◌∷◌, ◌++◌, length, get_or, refl, ap, sym, ◌∙◌, subst, arith, ne_eqb}
use Rattle.std.proofs.lemmas.Bool.Decides.{nat_tests}
use Rattle.std.proofs.lemmas.List.{append-nil}
use Rattle.std.proofs.lemmas.List.Sums.{sum_by-cons}
use Rattle.std.proofs.lemmas.List.Sorted.{sum_by-IsPermutation}
use Rattle.std.specs.Prelude.{Option, Some, None, option_to_list, slice_index}
use Rattle.std.specs.List.{sum_by}
use Rattle.std.specs.List.Sorted.{IsPermutation, IsNonDecreasingBy}
use mathlib.Core.Logic.{dite}
use native.Mathlib.Decide.{ℕ_discrete}
use Rattle.key_directory.specs.Directory.{KeyListView, key_held, key_in}
use Rattle.key_directory.specs.Words.{capacity_of, word_number}
use Rattle.serial_terms.specs.Entries.{Each}
use Rattle.serial_terms.specs.Renaming.{value_at}
use Rattle.serial_terms.specs.Stores as contents
use Rattle.store_contents.proofs.Words.{word_there}
use Rattle.store_contents.specs.Contents.{position_below, KeysAreApart, AreByKey}
use Rattle.store_contents.specs.Places.{words_at, AreOfMap, AreGathered, weight, mark, word_by, pair_in}
use Rattle.store_layout.specs.declared.place.Place.{Place}
use Rattle.store_layout.specs.States.{value_in}

pub eqb_same : (k : ℕ) → eqb k k ≡ true
eqb_same k = grind (arith, nat_tests)

-- ---- the position of a key

module _ (keys : KeyListView) (map : ℕ) where
  abbrev pub word : ℕ → ℕ
  word n = slice_index keys.words (word_number keys.capacities map n)

  pub position_there : (key n p : ℕ) → position_below keys map key n ≡ Some p → (p < n) × (word p ≡ suc key)
  position_there key zero p e = absurd (cc)
  position_there key (suc n) p e = dite (ℕ_discrete (word n) (suc key))
      (λ same. let here : position_below keys map key (suc n) ≡ Some n = ap (λ (b : Bool). cond b (Some n) (position_below keys map key n)) (ap (λ (w : ℕ). eqb w (suc key)) same ∙ eqb_same (suc key)) in
      let is : Some n ≡ Some p = sym here ∙ e in let at : n ≡ p = cc in (omega arith, subst (λ (z : ℕ). word z ≡ suc key) at same))
      (λ other. let here : position_below keys map key (suc n) ≡ position_below keys map key n = ap (λ (b : Bool). cond b (Some n) (position_below keys map key n)) (ne_eqb (word n) (suc key) other) in
      let before = position_there key n p (sym here ∙ e) in let low = before.0 in (omega arith, before.1))

  held : (n key : ℕ) → word n ≡ suc key → key_held keys map n ≡ Some key
  held n key is = ap key_in is

  -- a key that stands at a position stood at none before it
  first_there : KeysAreApart keys → map < length keys.capacities → (key n : ℕ) → n < capacity_of keys.capacities map → word n ≡ suc key → position_below keys map key n ≡ None
  first_there apart region key n less is = from (position_below keys map key n) refl
    where
      from : (o : Option ℕ) → position_below keys map key n ≡ o → o ≡ None
      from None e = refl
      from (Some p) e =
          let before = position_there key n p e in let low = before.0 in
          let same : p ≡ n = apart map key p n (region, omega arith) (region, less) (held p key before.1) (held n key is) in
          absurd (omega arith)

  position_here : (key n : ℕ) → word n ≡ suc key → position_below keys map key (suc n) ≡ Some n
  position_here key n is = ap (λ (b : Bool). cond b (Some n) (position_below keys map key n)) (ap (λ (w : ℕ). eqb w (suc key)) is ∙ eqb_same (suc key))

  position_past : (key n : ℕ) → word n ≢ suc key → position_below keys map key (suc n) ≡ position_below keys map key n
  position_past key n other = ap (λ (b : Bool). cond b (Some n) (position_below keys map key n)) (ne_eqb (word n) (suc key) other)

-- ---- sums

sum_added : (f : ℕ × ℕ → ℕ) (xs : List (ℕ × ℕ)) (x : ℕ × ℕ) → sum_by f (xs ++ x ∷ []) ≡ sum_by f xs + f x
sum_added f [] x = omega (arith, sum_by-cons f x [])
sum_added f (y ∷ ys) x = omega (arith, sum_by-cons f y (ys ++ x ∷ []), sum_by-cons f y ys, sum_added f ys x)

mark_below : (key : ℕ) (p : ℕ × ℕ) → mark key p ≤ weight key p
mark_below key p = grind (arith, nat_tests)

marks_below : (key : ℕ) (xs : List (ℕ × ℕ)) → sum_by (mark key) xs ≤ sum_by (weight key) xs
marks_below key [] = omega arith
marks_below key (x ∷ xs) = omega (arith, sum_by-cons (mark key) x xs, sum_by-cons (weight key) x xs, mark_below key x, marks_below key xs)

weight_own : (key value : ℕ) → (weight key (key, value) ≡ suc value) × (mark key (key, value) ≡ 1)
weight_own key value = (
  ap (λ (b : Bool). cond b (suc value) 0) (eqb_same key),
  ap (λ (b : Bool). cond b 1 0) (eqb_same key),
)

weight_other : (key : ℕ) (p : ℕ × ℕ) → p.0 ≢ key → (weight key p ≡ 0) × (mark key p ≡ 0)
weight_other key p other = (
  ap (λ (b : Bool). cond b (suc p.1) 0) (ne_eqb p.0 key other),
  ap (λ (b : Bool). cond b 1 0) (ne_eqb p.0 key other),
)

unmarked : (key : ℕ) (xs : List (ℕ × ℕ)) → sum_by (mark key) xs ≡ 0 → sum_by (weight key) xs ≡ 0
unmarked key [] none = omega arith
unmarked key (x ∷ xs) none =
    let own = sum_by-cons (mark key) x xs in let all = sum_by-cons (weight key) x xs in
    dite (ℕ_discrete x.0 key)
    (λ same. let m : mark key x ≡ 1 = ap (λ (b : Bool). cond b 1 0) (ap (λ (z : ℕ). eqb z key) same ∙ eqb_same key) in absurd (omega arith))
    (λ other. let w = (weight_other key x other).0 in let rest = unmarked key xs (omega arith) in omega arith)

-- ---- the loop over the positions

module _ (keys : KeyListView) (map first : ℕ) (cells : List ℕ) where
  abbrev at : ℕ → ℕ
  at position = get_or cells (first + position) 0

  pub gathered_none : AreGathered keys map first cells 0 []
  gathered_none = record { sum = λ key. refl; one = λ key. omega arith }

  same_pairs : (n : ℕ) (pairs : List (ℕ × ℕ)) → ((key : ℕ) → word_by at (position_below keys map key (suc n)) ≡ word_by at (position_below keys map key n))
      → AreGathered keys map first cells n pairs → AreGathered keys map first cells (suc n) pairs
  same_pairs n pairs same g = record { sum = λ key. g.sum key ∙ sym (same key); one = g.one }

  -- a key stands at the position n
  keyed : KeysAreApart keys → map < length keys.capacities → (n : ℕ) → n < capacity_of keys.capacities map → (pairs : List (ℕ × ℕ)) → AreGathered keys map first cells n pairs
      → (held : ℕ) → word keys map n ≡ suc held → (value : ℕ) → at n ≡ value → AreGathered keys map first cells (suc n) (pairs ++ option_to_list (pair_in (Some held) (value_in value)))
  keyed apart region n less pairs g held is zero none =
      subst (AreGathered keys map first cells (suc n)) (sym (append-nil pairs)) (same_pairs n pairs same g)
    where
      same : (key : ℕ) → word_by at (position_below keys map key (suc n)) ≡ word_by at (position_below keys map key n)
      same key = dite (ℕ_discrete held key)
          (λ own. let here : word keys map n ≡ suc key = is ∙ ap (λ (z : ℕ). suc z) own in
          ap (word_by at) (position_here keys map key n here) ∙ (none ∙ sym (ap (word_by at) (first_there keys map apart region key n less here))))
          (λ other. ap (word_by at) (position_past keys map key n (λ e. let f : suc held ≡ suc key = sym is ∙ e in other (omega arith))))
  keyed apart region n less pairs g held is (suc value) some = record {
    sum = λ key. dite (ℕ_discrete held key) (λ own. (own_sum key own).0) (λ other. (other_sum key other).0);
    one = λ key. dite (ℕ_discrete held key) (λ own. (own_sum key own).1) (λ other. (other_sum key other).1);
  }
    where
      own_sum : (key : ℕ) → held ≡ key → (sum_by (weight key) (pairs ++ (held, value) ∷ []) ≡ word_by at (position_below keys map key (suc n))) × (sum_by (mark key) (pairs ++ (held, value) ∷ []) ≤ 1)
      own_sum key own =
          let here : word keys map n ≡ suc key = is ∙ ap (λ (z : ℕ). suc z) own in
          let before : sum_by (weight key) pairs ≡ 0 = g.sum key ∙ ap (word_by at) (first_there keys map apart region key n less here) in
          let now : word_by at (position_below keys map key (suc n)) ≡ suc value = ap (word_by at) (position_here keys map key n here) ∙ some in
          let w : weight key (held, value) ≡ suc value = ap (λ (b : Bool). cond b (suc value) 0) (ap (λ (z : ℕ). eqb z key) own ∙ eqb_same key) in
          let m : mark key (held, value) ≡ 1 = ap (λ (b : Bool). cond b 1 0) (ap (λ (z : ℕ). eqb z key) own ∙ eqb_same key) in
          let low = marks_below key pairs in let a = sum_added (weight key) pairs (held, value) in let b = sum_added (mark key) pairs (held, value) in
          (omega arith, omega arith)

      other_sum : (key : ℕ) → held ≢ key → (sum_by (weight key) (pairs ++ (held, value) ∷ []) ≡ word_by at (position_below keys map key (suc n))) × (sum_by (mark key) (pairs ++ (held, value) ∷ []) ≤ 1)
      other_sum key other =
          let past = ap (word_by at) (position_past keys map key n (λ e. let f : suc held ≡ suc key = sym is ∙ e in other (omega arith))) in
          let z = weight_other key (held, value) other in let w = z.0 in let m = z.1 in let before = g.sum key in let low = g.one key in
          let a = sum_added (weight key) pairs (held, value) in let b = sum_added (mark key) pairs (held, value) in
          (omega arith, omega arith)

  pub gathered_more : KeysAreApart keys → map < length keys.capacities → (n : ℕ) → n < capacity_of keys.capacities map → (pairs new : List (ℕ × ℕ)) → AreGathered keys map first cells n pairs
      → new ≡ pairs ++ option_to_list (pair_in (key_held keys map n) (value_in (at n))) → AreGathered keys map first cells (n + 1) new
  gathered_more apart region n less pairs new g added =
      let e : suc n ≡ n + 1 = omega arith in
      subst (λ (z : ℕ). AreGathered keys map first cells z new) e (subst (AreGathered keys map first cells (suc n)) (sym added) (from (word keys map n) refl))
    where
      from : (w : ℕ) → word keys map n ≡ w → AreGathered keys map first cells (suc n) (pairs ++ option_to_list (pair_in (key_in (word keys map n)) (value_in (at n))))
      from zero free = subst (λ (z : ℕ). AreGathered keys map first cells (suc n) (pairs ++ option_to_list (pair_in (key_in z) (value_in (at n))))) (sym free)
          (subst (AreGathered keys map first cells (suc n)) (sym (append-nil pairs)) (same_pairs n pairs (λ key. ap (word_by at) (position_past keys map key n (λ e. let f : 0 ≡ suc key = sym free ∙ e in omega arith))) g))
      from (suc key) is = subst (λ (z : ℕ). AreGathered keys map first cells (suc n) (pairs ++ option_to_list (pair_in (key_in z) (value_in (at n))))) (sym is)
          (keyed apart region n less pairs g key is (at n) refl)

pub more_pairs : (keys : KeyListView) (map first : ℕ) (cells : List ℕ) (n : ℕ) (pairs new : List (ℕ × ℕ)) (key : Option ℕ) (value : ℕ) → KeysAreApart keys → map < length keys.capacities
    → n < capacity_of keys.capacities map → AreGathered keys map first cells n pairs → key ≡ key_held keys map n → value ≡ get_or cells (first + n) 0
    → new ≡ pairs ++ option_to_list (pair_in key (value_in value)) → AreGathered keys map first cells (n + 1) new
more_pairs keys map first cells n pairs new key value apart region less g held is added =
    gathered_more keys map first cells apart region n less pairs new g (added ∙ (λ i. pairs ++ option_to_list (pair_in (held i) (value_in (is i)))))

-- ---- pairs of which no two have one key

value_here : (key : ℕ) (x : ℕ × ℕ) (xs : List (ℕ × ℕ)) → x.0 ≡ key → contents.value_in (x ∷ xs) key ≡ Some x.1
value_here key x xs same = ap (λ (b : Bool). cond b (Some x.1) (contents.value_in xs key)) (ap (λ (z : ℕ). eqb z key) same ∙ eqb_same key)

value_behind : (key : ℕ) (x : ℕ × ℕ) (xs : List (ℕ × ℕ)) → x.0 ≢ key → contents.value_in (x ∷ xs) key ≡ contents.value_in xs key
value_behind key x xs other = ap (λ (b : Bool). cond b (Some x.1) (contents.value_in xs key)) (ne_eqb x.0 key other)

value_summed : (key : ℕ) (xs : List (ℕ × ℕ)) → sum_by (mark key) xs ≤ 1 → contents.value_in xs key ≡ value_in (sum_by (weight key) xs)
value_summed key [] one = refl
value_summed key (x ∷ xs) one =
    let marks = sum_by-cons (mark key) x xs in let weights = sum_by-cons (weight key) x xs in
    dite (ℕ_discrete x.0 key)
    (λ same. let m : mark key x ≡ 1 = ap (λ (b : Bool). cond b 1 0) (ap (λ (z : ℕ). eqb z key) same ∙ eqb_same key) in
    let w : weight key x ≡ suc x.1 = ap (λ (b : Bool). cond b (suc x.1) 0) (ap (λ (z : ℕ). eqb z key) same ∙ eqb_same key) in
    let rest = unmarked key xs (omega arith) in let all : sum_by (weight key) (x ∷ xs) ≡ suc x.1 = omega arith in
    value_here key x xs same ∙ sym (ap value_in all))
    (λ other. let z = weight_other key x other in let m = z.1 in let w = z.0 in let all : sum_by (weight key) (x ∷ xs) ≡ sum_by (weight key) xs = omega arith in
    value_behind key x xs other ∙ (value_summed key xs (omega arith) ∙ sym (ap value_in all)))

by_word : (f : ℕ → ℕ) (o : Option ℕ) → value_in (word_by f o) ≡ value_at (λ p. value_in (f p)) o
by_word f None = refl
by_word f (Some p) = refl

-- the words of the place at positions that are there
at_words : (keys : KeyListView) (map key : ℕ) (f g : ℕ → ℕ) (n : ℕ) → ((p : ℕ) → p < n → f p ≡ g p) → word_by f (position_below keys map key n) ≡ word_by g (position_below keys map key n)
at_words keys map key f g n same = from (position_below keys map key n) refl
  where
    from : (o : Option ℕ) → position_below keys map key n ≡ o → word_by f o ≡ word_by g o
    from None e = refl
    from (Some p) e = same p (position_there keys map key n p e).0

unseen : (key : ℕ) (xs : List (ℕ × ℕ)) → sum_by (mark key) xs ≡ 0 → (low : ℕ) → Each (λ y. low ≤ y.0) xs → low ≡ key → Each (λ y. low < y.0) xs
unseen key [] none low a is = tt
unseen key (x ∷ xs) none low a is =
    let marks = sum_by-cons (mark key) x xs in let l = a.0 in
    dite (ℕ_discrete x.0 key)
    (λ same. let m : mark key x ≡ 1 = ap (λ (b : Bool). cond b 1 0) (ap (λ (z : ℕ). eqb z key) same ∙ eqb_same key) in absurd (omega arith))
    (λ other. (strict l (λ e. other (sym e ∙ is)), unseen key xs (omega arith) low a.1 is))
  where
    strict : {a b : ℕ} → a ≤ b → (a ≡ b → ⊥) → a < b
    strict {a} {b} l ne = dite (ℕ_discrete a b) (λ e. absurd (ne e)) (λ d. grind (arith, nat_tests))

each_above : (x : ℕ × ℕ) (xs : List (ℕ × ℕ)) → ((j : ℕ) → j < length xs → x.0 ≤ (get_or xs j (0, 0)).0) → Each (λ y. x.0 ≤ y.0) xs
each_above x [] f = tt
each_above x (y ∷ ys) f = (f 0 (omega arith), each_above x ys (λ j less. f (suc j) (omega arith)))

by_key : (xs : List (ℕ × ℕ)) → IsNonDecreasingBy (λ p. p.0) xs → ((key : ℕ) → sum_by (mark key) xs ≤ 1) → AreByKey xs
by_key [] rises one = tt
by_key (x ∷ xs) rises one =
    let marks = sum_by-cons (mark x.0) x xs in let own = one x.0 in let m : mark x.0 x ≡ 1 = ap (λ (b : Bool). cond b 1 0) (eqb_same x.0) in (
      unseen x.0 xs (omega arith) x.0 (each_above x xs (λ j less. rises 0 (suc j) (0, 0) (omega arith) (omega arith))) refl,
      by_key xs (λ i j d le less. rises (suc i) (suc j) d (omega arith) (omega arith))
          (λ key. let all = sum_by-cons (mark key) x xs in let o = one key in omega arith),
    )

pub sorted_map : (keys : KeyListView) (map : ℕ) (p : Place) (cells : List ℕ) (pairs sorted : List (ℕ × ℕ)) → p.capacity ≡ capacity_of keys.capacities map
    → AreGathered keys map p.first cells p.capacity pairs → IsPermutation pairs sorted → IsNonDecreasingBy (λ x. x.0) sorted → AreOfMap cells keys map p sorted
sorted_map keys map p cells pairs sorted capacity g moved rises =
    let one : (key : ℕ) → sum_by (mark key) sorted ≤ 1 = λ key. let o = g.one key in let s = sum_by-IsPermutation (mark key) pairs sorted moved in omega arith in
    record {
      order = by_key sorted rises one;
      values = λ key. value_summed key sorted (one key)
          ∙ (ap value_in (sum_by-IsPermutation (weight key) pairs sorted moved ∙ (g.sum key ∙ at_words keys map key (λ position. get_or cells (p.first + position) 0) (λ position. get_or (words_at p.first p.capacity cells) position 0) p.capacity (λ position less. sym (word_there p.first p.capacity position cells less))))
          ∙ (by_word (λ position. get_or (words_at p.first p.capacity cells) position 0) (position_below keys map key p.capacity)
          ∙ ap (λ (n : ℕ). value_at (λ position. value_in (get_or (words_at p.first p.capacity cells) position 0)) (position_below keys map key n)) capacity));
    }
