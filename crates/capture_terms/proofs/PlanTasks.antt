-- What the tasks of a plan have: the fragments of a group share no place and none ends behind the
-- last one.
use Rattle.std.proofs.Common.{◌≡◌, ◌⊎◌, ℕ, zero, suc, ◌+◌, ◌<◌, ◌≤◌, Bool, true, false, List, [], ◌∷◌, ◌++◌, Option, None, Some, refl, sym, ◌∙◌, ap, subst, arith, length, get_or}
use Rattle.std.specs.Prelude.{All, AllPairs, Contains, option_to_list, if◌then◌else◌, ◌&&◌, ◌||◌}
use Rattle.std.specs.List.{list_any}
use Rattle.std.proofs.lemmas.Bool.Decides.{nat_tests}
use Rattle.std.proofs.lemmas.List.Kept.{AllPairs-cons}
use Rattle.std.proofs.lemmas.List.Quantifiers.{position-Some}
use Rattle.std.proofs.Math.ListN.{get_or-append}
use Rattle.capture_terms.specs.declared.datagram.Class.TheVariants as class
use Rattle.capture_terms.specs.declared.datagram.Kind.{Kind}
use Rattle.capture_terms.specs.declared.datagram.Kind.TheVariants.{Other, Bad, Cut, Whole, Fragment}
use Rattle.capture_terms.specs.declared.datagram.Piece.{Piece}
use Rattle.capture_terms.specs.declared.plan.Group.{Group}
use Rattle.capture_terms.specs.declared.plan.Task.{Task}
use Rattle.capture_terms.specs.Kept.{group_of, is_same_group, clash, cannot_both_stand, class_behind, classes_behind, kept_piece}
use Rattle.capture_terms.specs.Plan.{group_number, task_of, task_at, tasks_from}
use Rattle.capture_terms.specs.Datagram.{AreApart, end_of_task}

pub All-cons : {X : Type 0} (P : X → Type 0) (x : X) (xs : List X) → P x → All P xs → All P (x ∷ xs)
All-cons P x xs here rest = λ k d lt. at k d lt
  where
    at : (k : ℕ) (d : _) → k < length (x ∷ xs) → P (get_or (x ∷ xs) k d)
    at zero d lt = here
    at (suc k) d lt = rest k d (omega arith)

pub with_option : {X : Type 0} (P : X → Type 0) (o : Option X) (xs : List X) → All P (option_to_list o) → All P xs → All P (option_to_list o ++ xs)
with_option P None xs here rest = rest
with_option P (Some x) xs here rest = All-cons P x xs (here 0 x (omega arith)) rest

pub pairs_with_option : {X : Type 0} (R : X → X → Type 0) (o : Option X) (xs : List X) → ((x : X) → o ≡ Some x → All (R x) xs) → AllPairs R xs → AllPairs R (option_to_list o ++ xs)
pairs_with_option R None xs here rest = rest
pairs_with_option R (Some x) xs here rest = AllPairs-cons R x xs (here x refl) rest

contains_left : {X : Type 0} (xs ys : List X) (x : X) → Contains xs x → Contains (xs ++ ys) x
contains_left xs ys x (k, lt, is) = (k, longer xs ys k lt, get_or-append xs ys x k lt ∙ is)
  where
    longer : {X : Type 0} (xs ys : List X) (k : ℕ) → k < length xs → k < length (xs ++ ys)
    longer [] ys k lt = absurd (omega arith)
    longer (x ∷ xs) ys zero lt = omega arith
    longer (x ∷ xs) ys (suc k) lt = let rest : k < length (xs ++ ys) = longer xs ys k (omega arith) in omega arith

contains_last : {X : Type 0} (xs : List X) (x : X) → Contains (xs ++ x ∷ []) x
contains_last [] x = (0, omega arith, refl)
contains_last (y ∷ xs) x = let rest = contains_last xs x in (suc rest.0, omega (arith, rest.1), rest.2)

none_at : {X : Type 0} (p : X → Bool) (xs : List X) → list_any p xs ≡ false → (x : X) → Contains xs x → p x ≡ false
none_at p [] none x among = absurd (omega (arith, among.1))
none_at p (y ∷ xs) none x (zero, lt, is) = sym (ap p is) ∙ first_fails (p y) (list_any p xs) none
  where
    first_fails : (a b : Bool) → (a || b) ≡ false → a ≡ false
    first_fails true b none = none
    first_fails false b none = refl
none_at p (y ∷ xs) none x (suc k, lt, is) = none_at p xs (rest_fails (p y) (list_any p xs) none) x (k, omega arith, is)
  where
    rest_fails : (a b : Bool) → (a || b) ≡ false → b ≡ false
    rest_fails true b none = absurd (cc)
    rest_fails false b none = none

-- two tasks that one datagram may have
pub record Fits (s t : Task) : Type 0 where
  pub apart : AreApart s t
  pub first : s.last ≡ true → end_of_task t ≤ end_of_task s
  pub second : t.last ≡ true → end_of_task s ≤ end_of_task t

pieces_fit : (n m : ℕ) (g h : Option ℕ) (f p : Piece) → cannot_both_stand f p ≡ false → 0 < p.length → 0 < f.length → Fits (task_of m h p) (task_of n g f)
pieces_fit n m g h f p stand some_p some_f = record {
  apart = apart f.start f.length p.start p.length f.last p.last stand some_p some_f;
  first = λ last. grind (arith, nat_tests);
  second = λ last. grind (arith, nat_tests);
}
  where
    apart : (fs fl ps pl : ℕ) (f_last p_last : Bool) → cannot_both_stand f p ≡ false → 0 < p.length → 0 < f.length → (p.start + p.length ≤ f.start) ⊎ (f.start + f.length ≤ p.start)
    apart fs fl ps pl f_last p_last stand some_p some_f = grind (arith, nat_tests)

no_clash : (f p : Piece) → clash f p ≡ false → is_same_group (group_of f) (group_of p) ≡ true → cannot_both_stand f p ≡ false
unfolding clash
no_clash f p none same = sym (ap (λ (b : Bool). b && cannot_both_stand f p) same) ∙ none

module _ (groups : List Group) where
  -- of one group are those of one number
  one_group : (f p : Piece) (g : ℕ) → group_number groups f ≡ Some g → group_number groups p ≡ Some g → is_same_group (group_of f) (group_of p) ≡ true
  one_group f p g at_f at_p =
      let d : Group = group_of f in
      same_both (group_of f) (get_or groups g d) (group_of p) (position-Some (is_same_group (group_of f)) groups g d at_f).1 (position-Some (is_same_group (group_of p)) groups g d at_p).1
    where
      same_both : (a b c : Group) → is_same_group a b ≡ true → is_same_group c b ≡ true → is_same_group a c ≡ true
      same_both a b c same_a same_c = grind (arith, nat_tests)

  -- a task fits the kept fragments before it
  abbrev Later : List Piece → Task → Type 0
  Later kept t = (p : Piece) → Contains kept p → 0 < p.length → 0 < t.length → (g : ℕ) → group_number groups p ≡ Some g → t.group ≡ Some g → Fits (task_of 0 None p) t

  head_later : (n : ℕ) (kept : List Piece) (kind : Kind) → All (Later kept) (option_to_list (task_at groups n (class_behind kept kind) kind))
  head_later n kept Other = λ k d lt. absurd (omega arith)
  head_later n kept Bad = λ k d lt. absurd (omega arith)
  head_later n kept Cut = λ k d lt. absurd (omega arith)
  head_later n kept (Whole piece) = All-cons (Later kept) (task_of n None piece) [] (λ p among some_p some_t g at_p at_t. absurd (cc)) (λ k d lt. absurd (omega arith))
  head_later n kept (Fragment f) = by_case (list_any (clash f) kept) refl
    where
      by_case : (b : Bool) → list_any (clash f) kept ≡ b → All (Later kept) (option_to_list (task_at groups n (if b then class.Aside else class.Kept) (Fragment f)))
      by_case true clashes = λ k d lt. absurd (omega arith)
      by_case false none = All-cons (Later kept) (task_of n (group_number groups f) f) [] (λ p among some_p some_t g at_p at_t. pieces_fit n 0 (group_number groups f) None f p (no_clash f p (none_at (clash f) kept none p among) (one_group f p g at_t at_p)) some_p some_t) (λ k d lt. absurd (omega arith))

  later_all : (n : ℕ) (kept : List Piece) (kinds : List Kind) → All (Later kept) (tasks_from groups n (classes_behind kept kinds) kinds)
  later_all n kept [] = λ k d lt. absurd (omega arith)
  later_all n kept (kind ∷ kinds) =
      let more : List Piece = option_to_list (kept_piece (class_behind kept kind) kind) in
      let rest : All (Later (kept ++ more)) (tasks_from groups (n + 1) (classes_behind (kept ++ more) kinds) kinds) = later_all (n + 1) (kept ++ more) kinds in
      with_option (Later kept) (task_at groups n (class_behind kept kind) kind) (tasks_from groups (n + 1) (classes_behind (kept ++ more) kinds) kinds) (head_later n kept kind)
      (λ k d lt p among. rest k d lt p (contains_left kept more p among))

  -- tasks of one group fit each other
  abbrev pub Together : Task → Task → Type 0
  Together s t = 0 < s.length → 0 < t.length → (g : ℕ) → s.group ≡ Some g → t.group ≡ Some g → Fits s t

  head_together : (n : ℕ) (kept : List Piece) (kind : Kind) (kinds : List Kind) (t : Task) → task_at groups n (class_behind kept kind) kind ≡ Some t
      → All (Together t) (tasks_from groups (n + 1) (classes_behind (kept ++ option_to_list (kept_piece (class_behind kept kind) kind)) kinds) kinds)
  head_together n kept Other kinds t is = absurd (cc)
  head_together n kept Bad kinds t is = absurd (cc)
  head_together n kept Cut kinds t is = absurd (cc)
  head_together n kept (Whole piece) kinds t is = λ k d lt some_t some_s g at_t at_s. let none : task_of n None piece ≡ t = cc in let group : None ≡ Some g = ap (λ (u : Task). u.group) none ∙ at_t in absurd (cc)
  head_together n kept (Fragment f) kinds t is = by_case (list_any (clash f) kept) is
    where
      by_case : (b : Bool) → task_at groups n (if b then class.Aside else class.Kept) (Fragment f) ≡ Some t → All (Together t) (tasks_from groups (n + 1) (classes_behind (kept ++ option_to_list (kept_piece (if b then class.Aside else class.Kept) (Fragment f))) kinds) kinds)
      by_case true is = absurd (cc)
      by_case false is =
          let same : task_of n (group_number groups f) f ≡ t = cc in
          subst (λ (u : Task). All (Together u) (tasks_from groups (n + 1) (classes_behind (kept ++ f ∷ []) kinds) kinds)) same
          (λ k d lt some_t some_s g at_t at_s. moved (later_all (n + 1) (kept ++ f ∷ []) kinds k d lt f (contains_last kept f) some_t some_s g at_t at_s))
        where
          moved : {s : Task} → Fits (task_of 0 None f) s → Fits (task_of n (group_number groups f) f) s
          moved {s} fits = record { apart = fits.apart; first = fits.first; second = fits.second }

  pub together_all : (n : ℕ) (kept : List Piece) (kinds : List Kind) → AllPairs Together (tasks_from groups n (classes_behind kept kinds) kinds)
  together_all n kept [] = λ i j d less lt. absurd (omega arith)
  together_all n kept (kind ∷ kinds) =
      let now : List Piece = kept ++ option_to_list (kept_piece (class_behind kept kind) kind) in
      pairs_with_option Together (task_at groups n (class_behind kept kind) kind) (tasks_from groups (n + 1) (classes_behind now kinds) kinds) (head_together n kept kind kinds) (together_all (n + 1) now kinds)
