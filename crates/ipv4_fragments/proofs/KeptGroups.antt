-- Only the kept fragments of its own group matter to a fragment.
use Rattle.std.proofs.Common.{◌≡◌, ℕ, zero, suc, ◌+◌, ◌<◌, Bool, true, false, List, [], ◌∷◌, ◌++◌, Some, refl, sym, ◌∙◌, ap, inl, inr, subst, arith, length, get_or, length-append}
use Rattle.std.specs.Prelude.{fold, ◌||◌, if◌then◌else◌, position, nat_lt, not}
use Rattle.std.specs.List.{list_any}
use Rattle.std.proofs.lemmas.Bool.{cases_Bool, cases_eq, cases_lt}
use Rattle.std.proofs.Math.ListN.{get_or-append, set, length-set}
use Rattle.std.proofs.lemmas.List.{get_or_default, get_or-set_same, get_or-set_other}
use Rattle.std.proofs.lemmas.Map.Made.{AllPairs-from_IsDistinct}
use Rattle.std.specs.Bool.{Decides}
use Rattle.std.specs.List.{IsDistinct, position_or_len}
use Rattle.std.proofs.lemmas.List.Sums.{position_or_len_is, passes_at_first, fails_before_first}
use Rattle.std.proofs.lemmas.List.Folds.{list_any_none}
use Rattle.std.proofs.Math.Seq.{get_or-append_seam}
use Rattle.std.proofs.lemmas.Bool.Decides.{nat_tests}
use Rattle.std.proofs.lemmas.List.Sums.{fold_push}
use Rattle.capture_terms.specs.declared.datagram.Piece.{Piece}
use Rattle.capture_terms.specs.declared.plan.Group.{Group}
use Rattle.capture_terms.specs.Kept.{group_of, is_same_group, clash, cannot_both_stand}
use Rattle.capture_terms.specs.Plan.{groups_among, with_group_of, group_number}
use Rattle.ipv4_fragments.specs.Groups.{of_group, Follows}
use Rattle.ipv4_fragments.specs.Ranges.{Agrees}
use Rattle.ipv4_fragments.specs.declared.groups.Groups.{Groups}
use Rattle.ipv4_fragments.specs.declared.ranges.Ranges.{Ranges}
use Rattle.ipv4_fragments.proofs.Clashes.{any_push}

-- a clash is one within the group
pub any_in_group : (f : Piece) (kept : List Piece) → list_any (clash f) kept ≡ list_any (cannot_both_stand f) (of_group (group_of f) kept)
unfolding clash
any_in_group f [] = refl
any_in_group f (g ∷ kept) = elim (cases_Bool (is_same_group (group_of f) (group_of g))) [
  | inl same ↦ rw same (ap (λ (b : Bool). cannot_both_stand f g || b) (any_in_group f kept))
  | inr other ↦ rw other (any_in_group f kept)
]

-- a group grows by its own fragments
pub group_more : (group : Group) (f : Piece) (kept : List Piece) → is_same_group group (group_of f) ≡ true → of_group group (kept ++ f ∷ []) ≡ of_group group kept ++ f ∷ []
group_more group f [] same = rw same
group_more group f (g ∷ kept) same = elim (cases_Bool (is_same_group group (group_of g))) [
  | inl here ↦ rw here (ap (λ (l : List Piece). g ∷ l) (group_more group f kept same))
  | inr away ↦ rw away (group_more group f kept same)
]

pub group_stays : (group : Group) (f : Piece) (kept : List Piece) → is_same_group group (group_of f) ≡ false → of_group group (kept ++ f ∷ []) ≡ of_group group kept
group_stays group f [] other = rw other
group_stays group f (g ∷ kept) other = elim (cases_Bool (is_same_group group (group_of g))) [
  | inl here ↦ rw here (ap (λ (l : List Piece). g ∷ l) (group_stays group f kept other))
  | inr away ↦ rw away (group_stays group f kept other)
]

group_with : (s d p i n : ℕ) → Group
group_with s d p i n = record { header = record { source = s; destination = d; protocol = p }; id = i; generation = n }

pub same_group : (g h : Group) → is_same_group g h ≡ true → g ≡ h
unfolding group_with
same_group g h same =
    let source : g.header.source ≡ h.header.source = grind (arith, nat_tests) in
    let destination : g.header.destination ≡ h.header.destination = grind (arith, nat_tests) in
    let protocol : g.header.protocol ≡ h.header.protocol = grind (arith, nat_tests) in
    let id : g.id ≡ h.id = grind (arith, nat_tests) in
    let generation : g.generation ≡ h.generation = grind (arith, nat_tests) in
    ap (λ (n : ℕ). group_with n g.header.destination g.header.protocol g.id g.generation) source
    ∙ ap (λ (n : ℕ). group_with h.header.source n g.header.protocol g.id g.generation) destination
    ∙ ap (λ (n : ℕ). group_with h.header.source h.header.destination n g.id g.generation) protocol
    ∙ ap (λ (n : ℕ). group_with h.header.source h.header.destination h.header.protocol n g.generation) id
    ∙ ap (λ (n : ℕ). group_with h.header.source h.header.destination h.header.protocol h.id n) generation

pub same_itself : (g : Group) → is_same_group g g ≡ true
same_itself g = grind (arith, nat_tests)

or_false_at : (b : Bool) → b ≡ (b || false)
or_false_at true = refl
or_false_at false = refl

or_assoc : (a b c : Bool) → ((a || b) || c) ≡ (a || (b || c))
or_assoc true b c = refl
or_assoc false b c = refl

-- the groups of fragments hold the groups that are there before and those of the fragments
known_step : (g : Group) (before : List Group) (f : Piece) → list_any (is_same_group g) (with_group_of before f) ≡ (list_any (is_same_group g) before || is_same_group g (group_of f))
known_step g before f = by_case (list_any (is_same_group (group_of f)) before) refl
  where
    by_case : (b : Bool) → list_any (is_same_group (group_of f)) before ≡ b → list_any (is_same_group g) (if b then before else before ++ group_of f ∷ []) ≡ (list_any (is_same_group g) before || is_same_group g (group_of f))
    by_case false new = any_push (is_same_group g) before (group_of f)
    by_case true old = by_group (is_same_group g (group_of f)) refl
      where
        by_group : (b : Bool) → is_same_group g (group_of f) ≡ b → list_any (is_same_group g) before ≡ (list_any (is_same_group g) before || b)
        by_group false other = or_false_at (list_any (is_same_group g) before)
        by_group true same = let there : list_any (is_same_group g) before ≡ true = ap (λ (h : Group). list_any (is_same_group h) before) (same_group g (group_of f) same) ∙ old in rw there

known_all : (g : Group) (before : List Group) (pieces : List Piece) → list_any (is_same_group g) (fold with_group_of before pieces) ≡ (list_any (is_same_group g) before || list_any (λ (p : Piece). is_same_group g (group_of p)) pieces)
known_all g before [] = or_false_at (list_any (is_same_group g) before)
known_all g before (f ∷ pieces) =
    known_all g (with_group_of before f) pieces
    ∙ ap (λ (b : Bool). b || list_any (λ (p : Piece). is_same_group g (group_of p)) pieces) (known_step g before f)
    ∙ or_assoc (list_any (is_same_group g) before) (is_same_group g (group_of f)) (list_any (λ (p : Piece). is_same_group g (group_of p)) pieces)

none_of_group : (g : Group) (pieces : List Piece) → list_any (λ (p : Piece). is_same_group g (group_of p)) pieces ≡ false → of_group g pieces ≡ []
none_of_group g [] none = refl
none_of_group g (f ∷ pieces) none = by_case (is_same_group g (group_of f)) refl (none_of_group g pieces)
  where
    by_case : (b : Bool) → is_same_group g (group_of f) ≡ b → (list_any (λ (p : Piece). is_same_group g (group_of p)) pieces ≡ false → of_group g pieces ≡ []) → (if b then f ∷ of_group g pieces else of_group g pieces) ≡ []
    by_case true here rest = let clashing : true ≡ false = sym (ap (λ (b : Bool). b || list_any (λ (p : Piece). is_same_group g (group_of p)) pieces) here) ∙ none in absurd (cc)
    by_case false away rest = rest (sym (ap (λ (b : Bool). b || list_any (λ (p : Piece). is_same_group g (group_of p)) pieces) away) ∙ none)

-- a group that isn't known has no kept fragment
pub unknown_group : (g : Group) (kept : List Piece) → list_any (is_same_group g) (groups_among kept) ≡ false → of_group g kept ≡ []
unknown_group g kept unknown = none_of_group g kept (sym (known_all g [] kept) ∙ unknown)

-- the groups with one more fragment
pub groups_more : (kept : List Piece) (f : Piece) → groups_among (kept ++ f ∷ []) ≡ with_group_of (groups_among kept) f
groups_more kept f = fold_push with_group_of [] kept f

pub none_at : {X : Type 0} (p : X → Bool) (xs : List X) → list_any p xs ≡ false → (k : ℕ) (d : X) → k < length xs → p (get_or xs k d) ≡ false
none_at p [] none k d within = absurd (omega arith)
none_at p (x ∷ xs) none zero d within = first_fails (p x) (list_any p xs) none
  where
    first_fails : (a b : Bool) → (a || b) ≡ false → a ≡ false
    first_fails true b none = none
    first_fails false b none = refl
none_at p (x ∷ xs) none (suc k) d within = none_at p xs (rest_fails (p x) (list_any p xs) none) k d (omega arith)
  where
    rest_fails : (a b : Bool) → (a || b) ≡ false → b ≡ false
    rest_fails true b none = absurd (cc)
    rest_fails false b none = none

pub any_at : {X : Type 0} (p : X → Bool) (xs : List X) (k : ℕ) (d : X) → k < length xs → p (get_or xs k d) ≡ true → list_any p xs ≡ true
any_at p [] k d within passes = absurd (omega arith)
any_at p (x ∷ xs) zero d within passes = rw passes
any_at p (x ∷ xs) (suc k) d within passes = or_true (p x) (list_any p xs) (any_at p xs k d (omega arith) passes)
  where
    or_true : (a b : Bool) → b ≡ true → (a || b) ≡ true
    or_true true b is = refl
    or_true false b is = is

pub same_swapped : (g h : Group) → is_same_group g h ≡ false → is_same_group h g ≡ false
same_swapped g h other = by_case (is_same_group h g) refl
  where
    by_case : (b : Bool) → is_same_group h g ≡ b → b ≡ false
    by_case false _ = refl
    by_case true same = sym (same_itself h) ∙ ap (λ (k : Group). is_same_group k h) (same_group h g same) ∙ other

agrees_at : (r q : Ranges) (ks ls : List Piece) → r ≡ q → ks ≡ ls → Agrees q ls → Agrees r ks
agrees_at r q ks ls ranges pieces agrees = subst (λ (x : Ranges). Agrees x ks) (sym ranges) (subst (λ (l : List Piece). Agrees q l) (sym pieces) agrees)

-- the group of a first fragment
module _ (old new : Groups) (kept : List Piece) (follows : Follows old kept) (f : Piece) where
  pub follows_new : list_any (is_same_group (group_of f)) old.known ≡ false → new.known ≡ old.known ++ group_of f ∷ [] → (r : Ranges) → new.ranges.items ≡ old.ranges.items ++ r ∷ [] → Agrees r (f ∷ []) → (list_any (clash f) kept ≡ false) × Follows new (kept ++ f ∷ [])
  follows_new unknown keys r items agrees =
      let empty : of_group (group_of f) kept ≡ [] = unknown_group (group_of f) kept (ap (list_any (is_same_group (group_of f))) (sym follows.known) ∙ unknown) in
      let longer : length new.known ≡ length old.known + 1 = ap length keys ∙ (simp length-append) in (
        any_in_group f kept ∙ ap (list_any (cannot_both_stand f)) empty,
        record {
          known = keys ∙ ap (λ (l : List Group). l ++ group_of f ∷ []) follows.known ∙ sym (groups_more kept f ∙ (rw (sym (ap (list_any (is_same_group (group_of f))) follows.known) ∙ unknown)));
          long = ap length items ∙ (simp length-append) ∙ ap (λ (n : ℕ). n + 1) follows.long ∙ sym longer;
          ranges = λ i d e within. elim (cases_eq i (length old.known)) [
            | inl last ↦ at_end i d e last empty
            | inr other ↦ before i d e (omega (arith, other))
          ];
        },
      )
    where
      before : (i : ℕ) (d : Group) (e : Ranges) → i < length old.known → Agrees (get_or new.ranges.items i e) (of_group (get_or new.known i d) (kept ++ f ∷ []))
      before i d e within =
          let shorter : i < length old.ranges.items = omega (arith, follows.long) in
          let g : Group = get_or old.known i d in
          let key : get_or new.known i d ≡ g = ap (λ (l : List Group). get_or l i d) keys ∙ get_or-append old.known (group_of f ∷ []) d i within in
          let other : is_same_group g (group_of f) ≡ false = same_swapped (group_of f) g (none_at (is_same_group (group_of f)) old.known unknown i d within) in
          agrees_at (get_or new.ranges.items i e) (get_or old.ranges.items i e) (of_group (get_or new.known i d) (kept ++ f ∷ [])) (of_group g kept)
          (ap (λ (l : List Ranges). get_or l i e) items ∙ get_or-append old.ranges.items (r ∷ []) e i shorter)
          (ap (λ (h : Group). of_group h (kept ++ f ∷ [])) key ∙ group_stays g f kept other)
          (follows.ranges i d e within)

      at_end : (i : ℕ) (d : Group) (e : Ranges) → i ≡ length old.known → of_group (group_of f) kept ≡ [] → Agrees (get_or new.ranges.items i e) (of_group (get_or new.known i d) (kept ++ f ∷ []))
      at_end i d e last empty =
          let place : i ≡ length old.ranges.items = last ∙ sym follows.long in
          let key : get_or new.known i d ≡ group_of f = ap (λ (l : List Group). get_or l i d) keys ∙ ap (λ (n : ℕ). get_or (old.known ++ group_of f ∷ []) n d) last ∙ get_or-append_seam old.known (group_of f) [] d in
          agrees_at (get_or new.ranges.items i e) r (of_group (get_or new.known i d) (kept ++ f ∷ [])) (f ∷ [])
          (ap (λ (l : List Ranges). get_or l i e) items ∙ ap (λ (n : ℕ). get_or (old.ranges.items ++ r ∷ []) n e) place ∙ get_or-append_seam old.ranges.items r [] e)
          (ap (λ (h : Group). of_group h (kept ++ f ∷ [])) key ∙ group_more (group_of f) f kept (same_itself (group_of f)) ∙ ap (λ (l : List Piece). l ++ f ∷ []) empty)
          agrees

  -- a further fragment of a group that is known
  module _ (number : ℕ) (within : number < length old.known) (d : Group) (e : Ranges) (mine : is_same_group (group_of f) (get_or old.known number d) ≡ true) where
    pub at_number : Agrees (get_or old.ranges.items number e) (of_group (group_of f) kept)
    at_number = subst (λ (g : Group). Agrees (get_or old.ranges.items number e) (of_group g kept)) (sym (same_group (group_of f) (get_or old.known number d) mine)) (follows.ranges number d e within)

    known_there : list_any (is_same_group (group_of f)) old.known ≡ true
    known_there = any_at (is_same_group (group_of f)) old.known number d within mine

    pub follows_kept : new.known ≡ old.known → ((i : ℕ) → i < length old.known → (i ≡ number → ⊥) → is_same_group (get_or old.known i d) (group_of f) ≡ false) → (r : Ranges) → new.ranges.items ≡ set old.ranges.items number r → Agrees r (of_group (group_of f) kept ++ f ∷ []) → Follows new (kept ++ f ∷ [])
    follows_kept keys apart r items agrees = record {
      known = keys ∙ follows.known ∙ sym (groups_more kept f ∙ (rw (sym (ap (list_any (is_same_group (group_of f))) follows.known) ∙ known_there)));
      long = ap length items ∙ length-set old.ranges.items number r ∙ follows.long ∙ sym (ap length keys);
      ranges = λ i g q lt. elim (cases_eq i number) [
        | inl is ↦ here i g q is
        | inr other ↦ there i g q (omega (arith, lt, ap length keys)) other
      ];
    }
      where
        here : (i : ℕ) (g : Group) (q : Ranges) → i ≡ number → Agrees (get_or new.ranges.items i q) (of_group (get_or new.known i g) (kept ++ f ∷ []))
        here i g q is =
            let inside : number < length old.ranges.items = omega (arith, follows.long) in
            let key : get_or new.known i g ≡ group_of f = ap (λ (l : List Group). get_or l i g) keys ∙ ap (λ (n : ℕ). get_or old.known n g) is ∙ get_or_default old.known number g d within ∙ sym (same_group (group_of f) (get_or old.known number d) mine) in
            agrees_at (get_or new.ranges.items i q) r (of_group (get_or new.known i g) (kept ++ f ∷ [])) (of_group (group_of f) kept ++ f ∷ [])
            (ap (λ (l : List Ranges). get_or l i q) items ∙ ap (λ (n : ℕ). get_or (set old.ranges.items number r) n q) is ∙ get_or-set_same old.ranges.items number r q inside)
            (ap (λ (h : Group). of_group h (kept ++ f ∷ [])) key ∙ group_more (group_of f) f kept (same_itself (group_of f)))
            agrees

        there : (i : ℕ) (g : Group) (q : Ranges) → i < length old.known → (i ≡ number → ⊥) → Agrees (get_or new.ranges.items i q) (of_group (get_or new.known i g) (kept ++ f ∷ []))
        there i g q lt other =
            let h : Group = get_or old.known i g in
            let away : is_same_group h (group_of f) ≡ false = ap (λ (k : Group). is_same_group k (group_of f)) (get_or_default old.known i g d lt) ∙ apart i lt other in
            agrees_at (get_or new.ranges.items i q) (get_or old.ranges.items i q) (of_group (get_or new.known i g) (kept ++ f ∷ [])) (of_group h kept)
            (ap (λ (l : List Ranges). get_or l i q) items ∙ get_or-set_other old.ranges.items number i r q other)
            (ap (λ (l : List Group). of_group (get_or l i g) (kept ++ f ∷ [])) keys ∙ group_stays h f kept away)
            (follows.ranges i g q lt)

  pub follows_aside : new.known ≡ old.known → new.ranges.items ≡ old.ranges.items → Follows new kept
  follows_aside keys items = record {
    known = keys ∙ follows.known;
    long = ap length items ∙ follows.long ∙ sym (ap length keys);
    ranges = λ i g q lt. agrees_at (get_or new.ranges.items i q) (get_or old.ranges.items i q) (of_group (get_or new.known i g) kept) (of_group (get_or old.known i g) kept)
        (ap (λ (l : List Ranges). get_or l i q) items)
        (ap (λ (l : List Group). of_group (get_or l i g) kept) keys)
        (follows.ranges i g q (omega (arith, lt, ap length keys)));
  }

-- no two groups of a list in which each stands once are the same
pub apart_keys : (keys : List Group) → IsDistinct is_same_group keys → (g : Group) (number : ℕ) (d : Group) → number < length keys → is_same_group g (get_or keys number d) ≡ true → (i : ℕ) → i < length keys → (i ≡ number → ⊥) → is_same_group (get_or keys i d) g ≡ false
apart_keys keys distinct g number d within mine i lt other = by_case (is_same_group (get_or keys i d) g) refl
  where
    by_case : (b : Bool) → is_same_group (get_or keys i d) g ≡ b → b ≡ false
    by_case false _ = refl
    by_case true same =
        let equal : get_or keys i d ≡ get_or keys number d = same_group (get_or keys i d) g same ∙ same_group g (get_or keys number d) mine in
        elim (cases_lt i number) [
          | inl less ↦ absurd (AllPairs-from_IsDistinct decides keys distinct i number d less within equal)
          | inr most ↦ absurd (AllPairs-from_IsDistinct decides keys distinct number i d (omega (arith, other)) lt (sym equal))
        ]
      where
        decides : (g h : Group) → Decides (is_same_group g h) (g ≡ h)
        decides g h = (same_group g h, λ equal. ap (λ (k : Group). is_same_group g k) (sym equal) ∙ same_itself g)

-- the number of a group, however many groups follow
pub numbered : (p : Group → Bool) (keys more : List Group) (number : ℕ) (d : Group) → number < length keys → p (get_or keys number d) ≡ true → ((k : ℕ) → k < number → p (get_or keys k d) ≡ false) → position p (keys ++ more) ≡ Some number
numbered p keys more number d within here before =
    let longer : length (keys ++ more) ≡ length keys + length more = length-append keys more in
    let first : position_or_len p (keys ++ more) ≡ number = position_or_len_is p (keys ++ more) number d (omega arith)
    (λ k lt. ap p (get_or-append keys more d k (omega (arith, lt))) ∙ before k lt)
    (λ _. ap p (get_or-append keys more d number within) ∙ here) in
    let inside : nat_lt number (length (keys ++ more)) ≡ true = grind (arith, nat_tests) in
    rw first (rw inside)

-- what a set of groups says of a group that is put in
module _ (keys : List Group) (f : Piece) (number : ℕ) (first : number ≡ position_or_len (is_same_group (group_of f)) keys) where
  pub place_new : list_any (is_same_group (group_of f)) keys ≡ false → number ≡ length keys
  place_new unknown = first ∙ position_or_len_is (is_same_group (group_of f)) keys (length keys) (group_of f) (omega arith) (λ k lt. none_at (is_same_group (group_of f)) keys unknown k (group_of f) lt) (λ less. absurd (omega arith))

  pub place_old : list_any (is_same_group (group_of f)) keys ≡ true → number < length keys
  place_old known = elim (cases_lt number (length keys)) [
    | inl less ↦ less
    | inr most ↦
        let none : list_any (is_same_group (group_of f)) keys ≡ false = list_any_none (is_same_group (group_of f)) keys (λ k d lt. fails_before_first (is_same_group (group_of f)) keys k d (omega arith)) in
        absurd (cc)
  ]

  pub mine_there : (d : Group) → number < length keys → is_same_group (group_of f) (get_or keys number d) ≡ true
  mine_there d within = ap (λ (n : ℕ). is_same_group (group_of f) (get_or keys n d)) first ∙ passes_at_first (is_same_group (group_of f)) keys d (omega arith)

  others_before : (k : ℕ) (d : Group) → k < number → is_same_group (group_of f) (get_or keys k d) ≡ false
  others_before k d less = fails_before_first (is_same_group (group_of f)) keys k d (omega arith)

  pub number_old : list_any (is_same_group (group_of f)) keys ≡ true → (now : List Group) → now ≡ keys → (more : List Group) → group_number (now ++ more) f ≡ Some number
  number_old known now same more =
      ap (λ (l : List Group). group_number (l ++ more) f) same
      ∙ numbered (is_same_group (group_of f)) keys more number (group_of f) (place_old known) (mine_there (group_of f) (place_old known)) (λ k less. others_before k (group_of f) less)

  pub number_new : list_any (is_same_group (group_of f)) keys ≡ false → (now : List Group) → now ≡ keys ++ group_of f ∷ [] → (more : List Group) → group_number (now ++ more) f ≡ Some number
  number_new unknown now same more =
      let last : number ≡ length keys = place_new unknown in
      let longer : length (keys ++ group_of f ∷ []) ≡ length keys + 1 = simp length-append in
      ap (λ (l : List Group). group_number (l ++ more) f) same
      ∙ numbered (is_same_group (group_of f)) (keys ++ group_of f ∷ []) more number (group_of f) (omega arith)
      (ap (λ (n : ℕ). is_same_group (group_of f) (get_or (keys ++ group_of f ∷ []) n (group_of f))) last ∙ ap (is_same_group (group_of f)) (get_or-append_seam keys (group_of f) [] (group_of f)) ∙ same_itself (group_of f))
      (λ k less. ap (is_same_group (group_of f)) (get_or-append keys (group_of f ∷ []) (group_of f) k (omega arith)) ∙ others_before k (group_of f) less)

pub new_unknown : (new known : Bool) → new ≡ not known → new ≡ true → known ≡ false
new_unknown new true is here = sym (sym is ∙ here)
new_unknown new false is here = refl

pub old_known : (new known : Bool) → new ≡ not known → new ≡ false → known ≡ true
old_known new true is here = refl
old_known new false is here = sym here ∙ is
