-- What a list of parts tells of one part, and what an edit of the list changes.
use Rattle.std.proofs.Common.{◌≡◌, ℕ, zero, suc, ◌<◌, ◌≤◌, eqb, ◌≢◌, List, [], ◌∷◌, ◌++◌, length, get_or, set, map, if◌then◌else◌, Option, Some, None, MatchOption, refl, sym, ap, subst, ◌∙◌, ◌⊎◌, inl, inr, arith}
use Rattle.std.specs.List.{position, position_or_len}
use Rattle.std.proofs.lemmas.List.{get_or_read, set-get_or}
use Rattle.std.proofs.lemmas.List.Quantifiers.{position-Some}
use Rattle.std.proofs.lemmas.List.Sums.{fails_before_first}
use Rattle.std.proofs.Math.Decide.{ℕ_discrete}
use Rattle.std.proofs.lemmas.Bool.Decides.{nat_tests}
use Rattle.std.proofs.lemmas.Grind.{common_steps}
use Rattle.attempt_lists.specs.Parts.{Waiting, waiting_of, marked_of, ChangesOnly, marks, restores, clears}

-- a part with nothing, which stands for what is past the end of a list
abbrev pub no_additions : Waiting
no_additions = record { part = 0; waiting = []; marked = [] }

abbrev pub part_at : List Waiting → ℕ → ℕ
part_at ps i = (get_or ps i no_additions).part

-- the first entry of the part stands at i
pub record IsFirstOf (ps : List Waiting) (part i : ℕ) : Type 0 where
  pub in_range : i < length ps
  pub here : part_at ps i ≡ part
  pub none_before : (j : ℕ) → j < i → part_at ps j ≢ part

-- no entry is of the part
pub record HasNone (ps : List Waiting) (part : ℕ) : Type 0 where
  pub nowhere : (j : ℕ) → j < length ps → part_at ps j ≢ part

pub first_from_position : (ps : List Waiting) (part i : ℕ) → Some i ≡ position (λ p. eqb p.part part) ps → IsFirstOf ps part i
first_from_position ps part i is =
    let found = position-Some (λ (p : Waiting). eqb p.part part) ps i no_additions (sym is) in
    record { in_range = found.0; here = grind (arith, nat_tests, found.1); none_before = λ j lt same. grind (arith, nat_tests, found.2 j lt) }

pub none_from_position : (ps : List Waiting) (part : ℕ) → None ≡ position (λ p. eqb p.part part) ps → HasNone ps part
none_from_position ps part is = record {
  nowhere = λ j lt same.
      let far : length ps ≤ position_or_len (λ (p : Waiting). eqb p.part part) ps = grind (arith, nat_tests, is) in
      grind (arith, nat_tests, fails_before_first (λ (p : Waiting). eqb p.part part) ps j no_additions (omega arith));
}

tail_first : (p : Waiting) (ps : List Waiting) (part i : ℕ) → IsFirstOf (p ∷ ps) part (suc i) → IsFirstOf ps part i
tail_first p ps part i first = record { in_range = omega (arith, first.in_range); here = first.here; none_before = λ j lt. first.none_before (suc j) (omega arith) }

tail_none : (p : Waiting) (ps : List Waiting) (part : ℕ) → HasNone (p ∷ ps) part → HasNone ps part
tail_none p ps part none = record { nowhere = λ j lt. none.nowhere (suc j) (omega arith) }

-- what the first entry of a part says is what the list says of the part
pub at_first : (ps : List Waiting) (part i : ℕ) → IsFirstOf ps part i → (waiting_of ps part ≡ (get_or ps i no_additions).waiting) × (marked_of ps part ≡ (get_or ps i no_additions).marked)
at_first [] part i first = absurd (omega (arith, first.in_range))
at_first (p ∷ ps) part zero first = (grind (arith, nat_tests, first.here), grind (arith, nat_tests, first.here))
at_first (p ∷ ps) part (suc i) first =
    let rest = at_first ps part i (tail_first p ps part i first) in
    let other = first.none_before 0 (omega arith) in
    (grind (arith, nat_tests, rest.0, other), grind (arith, nat_tests, rest.1, other))

-- the first entry of a part, as it was read
pub read_first : (ps : List Waiting) (part i : ℕ) (p : Waiting) → IsFirstOf ps part i → p ≡ get_or ps i p → (p ≡ get_or ps i no_additions) × (waiting_of ps part ≡ p.waiting) × (p.part ≡ part)
read_first ps part i p first read =
    let same : p ≡ get_or ps i no_additions = get_or_read ps i p first.in_range read no_additions in
    (same, (at_first ps part i first).0 ∙ sym (ap (λ (x : Waiting). x.waiting) same), ap (λ (x : Waiting). x.part) same ∙ first.here)

-- a list without the part says nothing of it
pub at_none : (ps : List Waiting) (part : ℕ) → HasNone ps part → (waiting_of ps part ≡ []) × (marked_of ps part ≡ [])
at_none [] part none = (refl, refl)
at_none (p ∷ ps) part none =
    let rest = at_none ps part (tail_none p ps part none) in
    let other = none.nowhere 0 (omega arith) in
    (grind (arith, nat_tests, rest.0, other), grind (arith, nat_tests, rest.1, other))

-- the first entry of a part replaced by another of that part
pub at_set : (ps : List Waiting) (part i : ℕ) (p : Waiting) → IsFirstOf ps part i → p.part ≡ part → (q : ℕ) → (waiting_of (set ps i p) q ≡ (if eqb part q then p.waiting else waiting_of ps q)) × (marked_of (set ps i p) q ≡ (if eqb part q then p.marked else marked_of ps q))
at_set [] part i p first is q = absurd (omega (arith, first.in_range))
at_set (o ∷ ps) part zero p first is q = (grind (arith, nat_tests, first.here, is), grind (arith, nat_tests, first.here, is))
at_set (o ∷ ps) part (suc i) p first is q =
    let rest = at_set ps part i p (tail_first o ps part i first) is q in
    let other = first.none_before 0 (omega arith) in
    (grind (arith, nat_tests, rest.0, other), grind (arith, nat_tests, rest.1, other))

-- a new part at the end
pub at_push : (ps : List Waiting) (p : Waiting) → HasNone ps p.part → (q : ℕ) → (waiting_of (ps ++ p ∷ []) q ≡ (if eqb p.part q then p.waiting else waiting_of ps q)) × (marked_of (ps ++ p ∷ []) q ≡ (if eqb p.part q then p.marked else marked_of ps q))
at_push [] p none q = (refl, refl)
at_push (o ∷ ps) p none q =
    let rest = at_push ps p (tail_none o ps p.part none) q in
    let other = none.nowhere 0 (omega arith) in
    (grind (arith, nat_tests, rest.0, other), grind (arith, nat_tests, rest.1, other))

-- a part's additions are these where the first entry of it is replaced, and its mark stays
pub changes_set : (ps : List Waiting) (part i : ℕ) (p : Waiting) (waiting : List ℕ) → IsFirstOf ps part i → p.part ≡ part → p.waiting ≡ waiting → p.marked ≡ (get_or ps i no_additions).marked → ChangesOnly ps (set ps i p) part waiting
changes_set ps part i p waiting first is these marks = record {
  changed = grind (arith, nat_tests, (at_set ps part i p first is part).0, these);
  others = λ q differs. grind (arith, nat_tests, (at_set ps part i p first is q).0);
  marked = λ q. grind (arith, nat_tests, (at_set ps part i p first is q).1, (at_first ps part i first).1, marks);
}

-- and where a new part is added with nothing marked
pub changes_push : (ps : List Waiting) (p : Waiting) → HasNone ps p.part → p.marked ≡ [] → ChangesOnly ps (ps ++ p ∷ []) p.part p.waiting
changes_push ps p none marks = record {
  changed = grind (arith, nat_tests, (at_push ps p none p.part).0);
  others = λ q differs. grind (arith, nat_tests, (at_push ps p none q).0);
  marked = λ q. grind (arith, nat_tests, (at_push ps p none q).1, (at_none ps p.part none).1, marks);
}

-- all parts marked, all restored, and all cleared
pub marks_all : (ps : List Waiting) (q : ℕ) → (waiting_of (map marks ps) q ≡ waiting_of ps q) × (marked_of (map marks ps) q ≡ waiting_of ps q)
marks_all [] q = (refl, refl)
marks_all (p ∷ ps) q =
    let rest = marks_all ps q in
    (grind (arith, nat_tests, rest.0), grind (arith, nat_tests, rest.1))

pub restores_all : (ps : List Waiting) (q : ℕ) → (waiting_of (map restores ps) q ≡ marked_of ps q) × (marked_of (map restores ps) q ≡ marked_of ps q)
restores_all [] q = (refl, refl)
restores_all (p ∷ ps) q =
    let rest = restores_all ps q in
    (grind (arith, nat_tests, rest.0), grind (arith, nat_tests, rest.1))

pub clears_all : (ps : List Waiting) (q : ℕ) → (waiting_of (map clears ps) q ≡ []) × (marked_of (map clears ps) q ≡ [])
clears_all [] q = (refl, refl)
clears_all (p ∷ ps) q =
    let rest = clears_all ps q in
    (grind (arith, nat_tests, rest.0), grind (arith, nat_tests, rest.1))

-- what consuming from the first entry of a part does to the list
pub consumes : (ps : List Waiting) (part i : ℕ) (old new : Waiting) (r : Option ℕ) → IsFirstOf ps part i → old ≡ get_or ps i no_additions → MatchOption r ((old.waiting ≡ []) × (new ≡ old)) (λ v. old ≡ record new { waiting = v ∷ new.waiting }) → MatchOption r ((waiting_of ps part ≡ []) × (set ps i new ≡ ps)) (λ v. (waiting_of ps part ≡ v ∷ waiting_of (set ps i new) part) × ChangesOnly ps (set ps i new) part (waiting_of (set ps i new) part))
consumes ps part i old new None first read cases =
    ((at_first ps part i first).0 ∙ ap (λ (x : Waiting). x.waiting) (sym read) ∙ cases.0, ap (set ps i) (cases.1 ∙ read) ∙ set-get_or ps i no_additions)
consumes ps part i old new (Some v) first read cases =
    let is : new.part ≡ part = ap (λ (x : Waiting). x.part) (sym cases ∙ read) ∙ first.here in
    let rest : waiting_of (set ps i new) part ≡ new.waiting = grind (arith, nat_tests, (at_set ps part i new first is part).0) in (
      (at_first ps part i first).0 ∙ ap (λ (x : Waiting). x.waiting) (sym read ∙ cases) ∙ ap (λ (xs : List ℕ). v ∷ xs) (sym rest),
      changes_set ps part i new _ first is (sym rest) (ap (λ (x : Waiting). x.marked) (sym cases ∙ read)),
    )

-- what one more addition to the first entry of a part does to the list
pub adds : (ps : List Waiting) (part i value : ℕ) (old new : Waiting) → IsFirstOf ps part i → old ≡ get_or ps i no_additions → new ≡ record old { waiting = old.waiting ++ value ∷ [] } → ChangesOnly ps (set ps i new) part (waiting_of ps part ++ value ∷ [])
adds ps part i value old new first read is =
    changes_set ps part i new _ first
    (ap (λ (x : Waiting). x.part) is ∙ ap (λ (x : Waiting). x.part) read ∙ first.here)
    (ap (λ (x : Waiting). x.waiting) is ∙ ap (λ (x : Waiting). x.waiting ++ value ∷ []) read ∙ ap (λ (xs : List ℕ). xs ++ value ∷ []) (sym (at_first ps part i first).0))
    (ap (λ (x : Waiting). x.marked) is ∙ ap (λ (x : Waiting). x.marked) read)

-- what a new part with one addition does to the list
pub adds_part : (ps : List Waiting) (part value : ℕ) (fresh new : Waiting) → HasNone ps part → (fresh.part ≡ part) × (fresh.waiting ≡ []) × (fresh.marked ≡ []) → new ≡ record fresh { waiting = fresh.waiting ++ value ∷ [] } → ChangesOnly ps (ps ++ new ∷ []) part (waiting_of ps part ++ value ∷ [])
adds_part ps part value fresh new none blank is =
    let here : new.part ≡ part = ap (λ (x : Waiting). x.part) is ∙ blank.0 in
    let marks : new.marked ≡ [] = ap (λ (x : Waiting). x.marked) is ∙ blank.2 in
    let waits : waiting_of ps part ++ value ∷ [] ≡ new.waiting = grind (arith, common_steps, (at_none ps part none).0, blank.1, ap (λ (x : Waiting). x.waiting) is) in
    rw waits (subst (λ q. ChangesOnly ps (ps ++ new ∷ []) q new.waiting) here (changes_push ps new (subst (λ q. HasNone ps q) (sym here) none) marks))

none_before_next : (p : Waiting) (ps : List Waiting) (part i : ℕ) → p.part ≢ part → IsFirstOf ps part i → (j : ℕ) → j < suc i → part_at (p ∷ ps) j ≢ part
none_before_next p ps part i other first zero lt = other
none_before_next p ps part i other first (suc j) lt = first.none_before j (omega arith)

nowhere_next : (p : Waiting) (ps : List Waiting) (part : ℕ) → p.part ≢ part → HasNone ps part → (j : ℕ) → j < length (p ∷ ps) → part_at (p ∷ ps) j ≢ part
nowhere_next p ps part other none zero lt = other
nowhere_next p ps part other none (suc j) lt = none.nowhere j (omega arith)

-- a part has a first entry or none
first_or_none : (ps : List Waiting) (part : ℕ) → ((i : ℕ) × IsFirstOf ps part i) ⊎ HasNone ps part
first_or_none [] part = inr (record { nowhere = λ j lt. absurd (omega arith) })
first_or_none (p ∷ ps) part = elim (ℕ_discrete p.part part) [
  | yes here ↦ inl (0, record { in_range = omega arith; here = here; none_before = λ j lt. absurd (omega arith) })
  | no other ↦ elim (first_or_none ps part) [
    | inl found ↦ inl (
      suc found.0,
      record {
        in_range = omega (arith, found.1.in_range);
        here = found.1.here;
        none_before = none_before_next p ps part found.0 other found.1;
      },
    )
    | inr none ↦ inr (record { nowhere = nowhere_next p ps part other none })
  ]
]

-- where no part that has an entry waits for anything, none does
pub nothing_waits : (ps : List Waiting) → ((k : ℕ) → k < length ps → waiting_of ps (part_at ps k) ≡ []) → (part : ℕ) → waiting_of ps part ≡ []
nothing_waits ps each part = elim (first_or_none ps part) [
  | inl found ↦ subst (λ q. waiting_of ps q ≡ []) found.1.here (each found.0 found.1.in_range)
  | inr none ↦ (at_none ps part none).0
]
