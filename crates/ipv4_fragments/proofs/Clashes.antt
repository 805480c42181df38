-- What a group's ranges say of a further fragment.
use Rattle.std.proofs.Common.{◌≡◌, ◌⊎◌, ℕ, ◌<◌, ◌≤◌, Bool, true, false, List, [], ◌∷◌, ◌++◌, Option, None, Some, refl, sym, ◌∙◌, ap, inl, inr, arith, get_or}
use Rattle.std.specs.Prelude.{All, IsSome, is_some, nat_lt, ◌&&◌, ◌||◌, ◌==◌, min, max}
use Rattle.std.specs.List.{list_any}
use Rattle.std.specs.Option.{option_map_or}
use Rattle.std.proofs.lemmas.List.Folds.{list_any_none, list_any-append}
use Rattle.std.proofs.lemmas.Bool.{cases_eq}
use Rattle.std.proofs.lemmas.List.Elements.{All-push}
use Rattle.std.proofs.lemmas.Bool.Decides.{nat_tests}
use Rattle.capture_terms.specs.declared.datagram.Piece.{Piece}
use Rattle.capture_terms.specs.Kept.{end_of, overlap, cannot_both_stand}
use Rattle.ipv4_fragments.specs.declared.ranges.Ranges.{Ranges}
use Rattle.ipv4_fragments.specs.Ranges.{Agrees, known}

or_swap : (a b c d : Bool) → (a || b) || (c || d) ≡ (a || c) || (b || d)
or_swap true b c d = refl
or_swap false true true d = refl
or_swap false true false d = refl
or_swap false false true d = refl
or_swap false false false d = refl

list_any_or : {X : Type 0} (p q : X → Bool) (xs : List X) → list_any (λ x. p x || q x) xs ≡ (list_any p xs || list_any q xs)
list_any_or p q [] = refl
list_any_or p q (x ∷ xs) = ap (λ (b : Bool). (p x || q x) || b) (list_any_or p q xs) ∙ or_swap (p x) (q x) (list_any p xs) (list_any q xs)

list_any_and : {X : Type 0} (b : Bool) (p : X → Bool) (xs : List X) → list_any (λ x. b && p x) xs ≡ (b && list_any p xs)
list_any_and true p xs = refl
list_any_and false p [] = refl
list_any_and false p (x ∷ xs) = list_any_and false p xs

-- the four reasons to clash, one by one
pub clash_parts : (f : Piece) (kept : List Piece) → list_any (cannot_both_stand f) kept ≡ ((list_any (overlap f) kept || (f.last && list_any (λ (p : Piece). p.last) kept)) || ((f.last && list_any (λ (p : Piece). nat_lt (end_of f) (end_of p)) kept) || list_any (λ (p : Piece). p.last && nat_lt (end_of p) (end_of f)) kept))
clash_parts f kept =
    let lasts : List Piece → Bool = list_any (λ (p : Piece). p.last) in
    let behind : List Piece → Bool = list_any (λ (p : Piece). nat_lt (end_of f) (end_of p)) in
    let before : Piece → Bool = λ p. p.last && nat_lt (end_of p) (end_of f) in
    list_any_or (λ p. overlap f p || (f.last && p.last)) (λ p. (f.last && nat_lt (end_of f) (end_of p)) || before p) kept
    ∙ ap (λ (b : Bool). b || list_any (λ p. (f.last && nat_lt (end_of f) (end_of p)) || before p) kept) (list_any_or (overlap f) (λ p. f.last && p.last) kept ∙ ap (λ (b : Bool). list_any (overlap f) kept || b) (list_any_and f.last (λ p. p.last) kept))
    ∙ ap (λ (b : Bool). (list_any (overlap f) kept || (f.last && lasts kept)) || b) (list_any_or (λ p. f.last && nat_lt (end_of f) (end_of p)) before kept ∙ ap (λ (b : Bool). b || list_any before kept) (list_any_and f.last (λ p. nat_lt (end_of f) (end_of p)) kept))

-- what holds of an element that one test finds, another test finds
any_map : {X : Type 0} (p q : X → Bool) (xs : List X) → ((x : X) → p x ≡ true → q x ≡ true) → list_any p xs ≡ true → list_any q xs ≡ true
any_map p q [] at found = absurd (cc)
any_map p q (x ∷ xs) at found = by_case (any_map p q xs at) (p x) refl
  where
    by_case : (list_any p xs ≡ true → list_any q xs ≡ true) → (b : Bool) → p x ≡ b → (q x || list_any q xs) ≡ true
    by_case rest true here = rw (at x here)
    by_case rest false here =
        let tail : list_any p xs ≡ true = (rw here at found) in
        let more : list_any q xs ≡ true = rest tail in
        rw more (or_true (q x))
      where
        or_true : (b : Bool) → (b || true) ≡ true
        or_true true = refl
        or_true false = refl

same_or_less : (a b : ℕ) → a ≤ b → (a ≡ b) ⊎ (a < b)
same_or_less a b most = grind arith

module _ (ranges : Ranges) (kept : List Piece) (agrees : Agrees ranges kept) (start end : ℕ) (places : start < end) where
  -- no range begins before the end
  pub overlaps_none : ((q : ℕ) → q < end → known ranges q ≡ None) → false ≡ list_any (λ (p : Piece). nat_lt (max start p.start) (min end (end_of p))) kept
  overlaps_none none = sym (list_any_none (λ (p : Piece). nat_lt (max start p.start) (min end (end_of p))) kept (λ k d lt. apart_from (get_or kept k d) (agrees.present k d lt)))
    where
      apart_from : (p : Piece) → known ranges p.start ≡ Some (end_of p) → nat_lt (max start p.start) (min end (end_of p)) ≡ false
      apart_from p here = by_case (nat_lt p.start end) refl
        where
          by_case : (b : Bool) → nat_lt p.start end ≡ b → nat_lt (max start p.start) (min end (end_of p)) ≡ false
          by_case true before = let none_here : known ranges p.start ≡ None = none p.start (grind (arith, nat_tests)) in absurd (cc)
          by_case false past = grind (arith, nat_tests)

  -- the range that begins last before the end decides
  pub overlaps_found : (s e : ℕ) → s < end → known ranges s ≡ Some e → ((q : ℕ) → q < end → IsSome (known ranges q) → q ≤ s) → nat_lt start e ≡ list_any (λ (p : Piece). nat_lt (max start p.start) (min end (end_of p))) kept
  overlaps_found s e before here greatest = by_case (nat_lt start e) refl
    where
      by_case : (b : Bool) → nat_lt start e ≡ b → b ≡ list_any (λ (p : Piece). nat_lt (max start p.start) (min end (end_of p))) kept
      by_case true reaches = sym (any_map (λ (p : Piece). (p.start == s) && (end_of p == e)) (λ (p : Piece). nat_lt (max start p.start) (min end (end_of p))) kept (λ p is. grind (arith, nat_tests, agrees.solid s e here)) (agrees.listed s e here))
      by_case false short = sym (list_any_none (λ (p : Piece). nat_lt (max start p.start) (min end (end_of p))) kept (λ k d lt. apart_from (get_or kept k d) (agrees.present k d lt)))
        where
          apart_from : (p : Piece) → known ranges p.start ≡ Some (end_of p) → nat_lt (max start p.start) (min end (end_of p)) ≡ false
          apart_from p there = by_place (nat_lt p.start end) refl
            where
              by_place : (b : Bool) → nat_lt p.start end ≡ b → nat_lt (max start p.start) (min end (end_of p)) ≡ false
              by_place false past = grind (arith, nat_tests)
              by_place true begins =
                  let some : IsSome (known ranges p.start) = rw there in
                  let early : p.start < end = grind (arith, nat_tests) in
                  let most : p.start ≤ s = greatest p.start early some in
                  let late : e ≤ start = grind (arith, nat_tests) in
                  let ends : end_of p ≤ e = at_most p there most in
                  grind (arith, nat_tests)
                where
                  at_most : (p : Piece) → known ranges p.start ≡ Some (end_of p) → p.start ≤ s → end_of p ≤ e
                  at_most p there most = elim (same_or_less p.start s most) [
                    | inl same ↦ let both : Some (end_of p) ≡ Some e = sym there ∙ ap (known ranges) same ∙ here in let equal : end_of p ≡ e = cc in omega arith
                    | inr less ↦ let below : end_of p ≤ s = agrees.apart p.start (end_of p) s e there here less in let solid : s < e = agrees.solid s e here in omega arith
                  ]

-- the four reasons to clash, by what is known of the ranges
pub clash_known : (ranges : Ranges) (kept : List Piece) → Agrees ranges kept → (f : Piece) → list_any (cannot_both_stand f) kept ≡ ((list_any (overlap f) kept || (f.last && is_some ranges.last)) || ((f.last && nat_lt (end_of f) ranges.greatest) || option_map_or (λ l. nat_lt l (end_of f)) ranges.last false))
clash_known ranges kept agrees f =
    clash_parts f kept
    ∙ ap (λ (b : Bool). (list_any (overlap f) kept || (f.last && b)) || ((f.last && list_any (λ (p : Piece). nat_lt (end_of f) (end_of p)) kept) || list_any (λ (p : Piece). p.last && nat_lt (end_of p) (end_of f)) kept)) agrees.last
    ∙ ap (λ (b : Bool). (list_any (overlap f) kept || (f.last && is_some ranges.last)) || ((f.last && b) || list_any (λ (p : Piece). p.last && nat_lt (end_of p) (end_of f)) kept)) (agrees.greatest (end_of f))
    ∙ ap (λ (b : Bool). (list_any (overlap f) kept || (f.last && is_some ranges.last)) || ((f.last && nat_lt (end_of f) ranges.greatest) || b)) (agrees.last_end (end_of f))

or_false : (b : Bool) → b ≡ (b || false)
or_false true = refl
or_false false = refl

module _ (ranges : Ranges) (kept : List Piece) (agrees : Agrees ranges kept) (f : Piece) where
  pub by_overlap : true ≡ list_any (overlap f) kept → true ≡ list_any (cannot_both_stand f) kept
  by_overlap meets = sym (clash_known ranges kept agrees f ∙ ap (λ (b : Bool). (b || (f.last && is_some ranges.last)) || ((f.last && nat_lt (end_of f) ranges.greatest) || option_map_or (λ l. nat_lt l (end_of f)) ranges.last false)) (sym meets))

  -- no range meets it
  module _ (apart : false ≡ list_any (overlap f) kept) where
    rest : list_any (cannot_both_stand f) kept ≡ ((f.last && is_some ranges.last) || ((f.last && nat_lt (end_of f) ranges.greatest) || option_map_or (λ l. nat_lt l (end_of f)) ranges.last false))
    rest = clash_known ranges kept agrees f ∙ ap (λ (b : Bool). (b || (f.last && is_some ranges.last)) || ((f.last && nat_lt (end_of f) ranges.greatest) || option_map_or (λ l. nat_lt l (end_of f)) ranges.last false)) (sym apart)

    pub by_end : ranges.last ≡ None → f.last ≡ true → nat_lt (end_of f) ranges.greatest ≡ list_any (cannot_both_stand f) kept
    by_end none last = or_false (nat_lt (end_of f) ranges.greatest) ∙ sym (rest ∙ (rw (none, last)))

    pub by_no_end : ranges.last ≡ None → f.last ≡ false → f.last ≡ list_any (cannot_both_stand f) kept
    by_no_end none other = other ∙ sym (rest ∙ (rw (none, other)))

    pub by_last : (l : ℕ) → ranges.last ≡ Some l → f.last ≡ true → f.last ≡ list_any (cannot_both_stand f) kept
    by_last l some last = last ∙ sym (rest ∙ (rw (some, last)))

    pub by_last_end : (l : ℕ) → ranges.last ≡ Some l → f.last ≡ false → nat_lt l (end_of f) ≡ list_any (cannot_both_stand f) kept
    by_last_end l some other = sym (rest ∙ (rw (some, other)))

pub any_push : {X : Type 0} (p : X → Bool) (xs : List X) (x : X) → list_any p (xs ++ x ∷ []) ≡ (list_any p xs || p x)
any_push p xs x = list_any-append p xs (x ∷ []) ∙ ap (λ (b : Bool). list_any p xs || b) (sym (or_false (p x)))

or_false_left : (a b : Bool) → (a || b) ≡ false → a ≡ false
or_false_left true b none = none
or_false_left false b none = refl

any_from_left : (a b : Bool) → a ≡ true → (a || b) ≡ true
any_from_left a b here = rw here

any_from_right : (a b : Bool) → b ≡ true → (a || b) ≡ true
any_from_right true b here = refl
any_from_right false b here = here

-- ranges with one more
module _ (old new : Ranges) (kept : List Piece) (agrees : Agrees old kept) (f : Piece) (places : 0 < f.length)
    (apart : list_any (overlap f) kept ≡ false)
    (same : known new f.start ≡ Some (end_of f)) (others : (q : ℕ) → (q ≡ f.start → ⊥) → known new q ≡ known old q) where
  -- a range that is known doesn't meet the fragment
  away : (s e : ℕ) → known old s ≡ Some e → nat_lt (max f.start s) (min (end_of f) e) ≡ false
  away s e here = by_case (nat_lt (max f.start s) (min (end_of f) e)) refl
    where
      by_case : (b : Bool) → nat_lt (max f.start s) (min (end_of f) e) ≡ b → b ≡ false
      by_case false apart_there = refl
      by_case true meets =
          let found : list_any (overlap f) kept ≡ true = any_map (λ (p : Piece). (p.start == s) && (end_of p == e)) (overlap f) kept (λ p is. grind (arith, nat_tests)) (agrees.listed s e here) in
          sym found ∙ apart

  none_there : (s e : ℕ) → known old s ≡ Some e → s ≡ f.start → ⊥
  none_there s e here is = let apart_there : nat_lt (max f.start s) (min (end_of f) e) ≡ false = away s e here in let solid : s < e = agrees.solid s e here in grind (arith, nat_tests)

  present_more : All (λ (p : Piece). known new p.start ≡ Some (end_of p)) (kept ++ f ∷ [])
  present_more = All-push (λ (p : Piece). known new p.start ≡ Some (end_of p)) kept f (λ k d lt. others (get_or kept k d).start (none_there (get_or kept k d).start (end_of (get_or kept k d)) (agrees.present k d lt)) ∙ agrees.present k d lt) same

  -- what is known of a range now is the fragment's or was known before
  known_now : (s e : ℕ) → known new s ≡ Some e → ((s ≡ f.start) × (e ≡ end_of f)) ⊎ ((s ≡ f.start → ⊥) × (known old s ≡ Some e))
  known_now s e here = elim (cases_eq s f.start) [
    | inl is ↦ let both : Some e ≡ Some (end_of f) = sym here ∙ ap (known new) is ∙ same in let ends : e ≡ end_of f = cc in inl (is, ends)
    | inr other ↦ inr (other, sym (others s other) ∙ here)
  ]

  listed_more : (s e : ℕ) → known new s ≡ Some e → list_any (λ (p : Piece). (p.start == s) && (end_of p == e)) (kept ++ f ∷ []) ≡ true
  listed_more s e here = any_push (λ (p : Piece). (p.start == s) && (end_of p == e)) kept f ∙ elim (known_now s e here) [
    | inl is ↦ any_from_right (list_any (λ (p : Piece). (p.start == s) && (end_of p == e)) kept) ((f.start == s) && (end_of f == e)) (itself is.0 is.1)
    | inr was ↦ any_from_left (list_any (λ (p : Piece). (p.start == s) && (end_of p == e)) kept) ((f.start == s) && (end_of f == e)) (agrees.listed s e was.1)
  ]
    where
      itself : s ≡ f.start → e ≡ end_of f → ((f.start == s) && (end_of f == e)) ≡ true
      itself is ends = grind (arith, nat_tests)

  solid_more : (s e : ℕ) → known new s ≡ Some e → s < e
  solid_more s e here = elim (known_now s e here) [
    | inl is ↦ omega (arith, is.0, is.1)
    | inr was ↦ agrees.solid s e was.1
  ]

  apart_more : (s e t u : ℕ) → known new s ≡ Some e → known new t ≡ Some u → s < t → e ≤ t
  apart_more s e t u here there before = elim (known_now s e here) [
    | inl is ↦ elim (known_now t u there) [
      | inl it ↦ absurd (omega (arith, is.0, it.0))
      | inr was ↦ from_here is.0 is.1 was.1
    ]
    | inr had ↦ elim (known_now t u there) [
      | inl it ↦ from_there it.0 had.1
      | inr was ↦ agrees.apart s e t u had.1 was.1 before
    ]
  ]
    where
      from_here : s ≡ f.start → e ≡ end_of f → known old t ≡ Some u → e ≤ t
      from_here is ends was =
          let apart_there : nat_lt (max f.start t) (min (end_of f) u) ≡ false = away t u was in
          let solid : t < u = agrees.solid t u was in
          grind (arith, nat_tests)

      from_there : t ≡ f.start → known old s ≡ Some e → e ≤ t
      from_there it had =
          let apart_there : nat_lt (max f.start s) (min (end_of f) e) ≡ false = away s e had in
          let solid : s < e = agrees.solid s e had in
          grind (arith, nat_tests)

  module _ (greatest : new.greatest ≡ max old.greatest (end_of f)) where
    greatest_more : (end : ℕ) → list_any (λ (p : Piece). nat_lt end (end_of p)) (kept ++ f ∷ []) ≡ nat_lt end new.greatest
    greatest_more end = any_push (λ (p : Piece). nat_lt end (end_of p)) kept f ∙ ap (λ (b : Bool). b || nat_lt end (end_of f)) (agrees.greatest end) ∙ or_max end old.greatest (end_of f) ∙ ap (λ (n : ℕ). nat_lt end n) (sym greatest)
      where
        or_max : (a b c : ℕ) → (nat_lt a b || nat_lt a c) ≡ nat_lt a (max b c)
        or_max a b c = grind (arith, nat_tests)

    pub keeps_other : f.last ≡ false → new.last ≡ old.last → Agrees new (kept ++ f ∷ [])
    keeps_other other stays = record {
      present = present_more;
      listed = listed_more;
      solid = solid_more;
      apart = apart_more;
      greatest = greatest_more;
      last = any_push (λ (p : Piece). p.last) kept f ∙ (rw other (sym (or_false (list_any (λ (p : Piece). p.last) kept)))) ∙ agrees.last ∙ ap (λ (o : Option ℕ). is_some o) (sym stays);
      last_end = λ end. any_push (λ (p : Piece). p.last && nat_lt (end_of p) end) kept f ∙ (rw other (sym (or_false (list_any (λ (p : Piece). p.last && nat_lt (end_of p) end) kept)))) ∙ agrees.last_end end ∙ ap (λ (o : Option ℕ). option_map_or (λ l. nat_lt l end) o false) (sym stays);
    }

    pub keeps_last : f.last ≡ true → old.last ≡ None → new.last ≡ Some (end_of f) → Agrees new (kept ++ f ∷ [])
    keeps_last last none is = record {
      present = present_more;
      listed = listed_more;
      solid = solid_more;
      apart = apart_more;
      greatest = greatest_more;
      last = any_push (λ (p : Piece). p.last) kept f ∙ any_from_right (list_any (λ (p : Piece). p.last) kept) f.last last ∙ ap (λ (o : Option ℕ). is_some o) (sym is);
      last_end = λ end. any_push (λ (p : Piece). p.last && nat_lt (end_of p) end) kept f ∙ ap (λ (b : Bool). b || (f.last && nat_lt (end_of f) end)) (agrees.last_end end ∙ ap (λ (o : Option ℕ). option_map_or (λ l. nat_lt l end) o false) none) ∙ ap (λ (b : Bool). b && nat_lt (end_of f) end) last ∙ ap (λ (o : Option ℕ). option_map_or (λ l. nat_lt l end) o false) (sym is);
    }

or_false_right : (a b : Bool) → (a || b) ≡ false → b ≡ false
or_false_right true b none = absurd (cc)
or_false_right false b none = none

pub no_overlap : (ranges : Ranges) (kept : List Piece) → Agrees ranges kept → (f : Piece) → list_any (cannot_both_stand f) kept ≡ false → list_any (overlap f) kept ≡ false
no_overlap ranges kept agrees f none =
    or_false_left (list_any (overlap f) kept) (f.last && is_some ranges.last) (or_false_left (list_any (overlap f) kept || (f.last && is_some ranges.last)) ((f.last && nat_lt (end_of f) ranges.greatest) || option_map_or (λ l. nat_lt l (end_of f)) ranges.last false) (sym (clash_known ranges kept agrees f) ∙ none))

pub no_last : (ranges : Ranges) (kept : List Piece) → Agrees ranges kept → (f : Piece) → list_any (cannot_both_stand f) kept ≡ false → f.last ≡ true → ranges.last ≡ None
no_last ranges kept agrees f none last = is_none ranges.last (sym (ap (λ (b : Bool). b && is_some ranges.last) last) ∙ or_false_right (list_any (overlap f) kept) (f.last && is_some ranges.last) (or_false_left (list_any (overlap f) kept || (f.last && is_some ranges.last)) ((f.last && nat_lt (end_of f) ranges.greatest) || option_map_or (λ l. nat_lt l (end_of f)) ranges.last false) (sym (clash_known ranges kept agrees f) ∙ none)))
  where
    is_none : (o : Option ℕ) → is_some o ≡ false → o ≡ None
    is_none None empty = refl
    is_none (Some l) empty = absurd (cc)
