-- The held cells at run time are those of the view.
use Rattle.std.proofs.Common.{◌≡◌, ◌≢◌, ℕ, zero, suc, ◌-◌, ◌<◌, ◌≤◌, Bool, true, false, cond, eqb, ltb, List, [], ◌∷◌, ◌++◌, ◌⊎◌, length, take, drop, get_or, set, inl, inr, ⊎_elim, sym, refl, ap, ◌∙◌, subst, arith, eq-eqb, ne_eqb}
use mathlib.Core.Logic.{dite}
use native.Mathlib.Decide.{ℕ_discrete}
use Rattle.std.proofs.lemmas.List.{get_or_default}
use Rattle.std.proofs.lemmas.Bool.Decides.{leb_tells}
use Rattle.std.proofs.lemmas.Bool.{lt-leb, le-leb}
use Rattle.cell_table.specs.Sorted.{Each, insert_by, IsAscendingBy}
use Rattle.cell_table.specs.Cells.{has}
use Rattle.cell_table.specs.declared.view.Stage.{Stage}
use Rattle.cell_table.specs.declared.view.Stage.TheVariants.{Open, Drawn, Decided}
use Rattle.cell_table.specs.declared.view.Record.{Record}
use Rattle.cell_table.specs.declared.entry.HeldCell.{HeldCell}
use Rattle.cell_table.specs.Rule.{cells_of, without}
use Rattle.cell_table.specs.Steps.{cell_key, kept_in, more_stored}
use Rattle.cell_table.specs.Seats.{pairs_of, held_key, flag_in, mark, without_held, IsPoint, FitsFlags, is_stored}
use Rattle.cell_table.proofs.Histories.{bool_cases}
use Rattle.cell_table.proofs.Sorted.{each_map}

pub pairs_insert : (h : HeldCell) (hs : List HeldCell) → pairs_of (insert_by held_key h hs) ≡ insert_by cell_key (h.cell, h.version) (pairs_of hs)
pairs_insert h [] = refl
pairs_insert h (x ∷ xs) = let P : Bool → Type 0 = λ b. pairs_of (cond b (h ∷ x ∷ xs) (x ∷ insert_by held_key h xs)) ≡ cond b ((h.cell, h.version) ∷ (x.cell, x.version) ∷ pairs_of xs) ((x.cell, x.version) ∷ insert_by cell_key (h.cell, h.version) (pairs_of xs)) in
    ⊎_elim (λ t. subst P (sym t) refl) (λ f. subst P (sym f) (ap (λ (z : List (ℕ × ℕ)). (x.cell, x.version) ∷ z) (pairs_insert h xs))) (bool_cases (ltb h.cell x.cell))

pub pairs_without : (c : ℕ) (hs : List HeldCell) → pairs_of (without_held c hs) ≡ without c (pairs_of hs)
pairs_without c [] = refl
pairs_without c (x ∷ xs) = let P : Bool → Type 0 = λ b. pairs_of (cond b (without_held c xs) (x ∷ without_held c xs)) ≡ cond b (without c (pairs_of xs)) ((x.cell, x.version) ∷ without c (pairs_of xs)) in
    ⊎_elim (λ t. subst P (sym t) (pairs_without c xs)) (λ f. subst P (sym f) (ap (λ (z : List (ℕ × ℕ)). (x.cell, x.version) ∷ z) (pairs_without c xs))) (bool_cases (eqb x.cell c))

pub pairs_mark : (c : ℕ) (hs : List HeldCell) → pairs_of (mark c hs) ≡ pairs_of hs
pairs_mark c [] = refl
pairs_mark c (x ∷ xs) = ap (λ (z : List (ℕ × ℕ)). (x.cell, x.version) ∷ z) (pairs_mark c xs)

pub each_without_held : (P : HeldCell → Type 0) (c : ℕ) (hs : List HeldCell) → Each P hs → Each P (without_held c hs)
each_without_held P c [] e = tt
each_without_held P c (x ∷ xs) e = let Q : Bool → Type 0 = λ b. Each P (cond b (without_held c xs) (x ∷ without_held c xs)) in let i = each_without_held P c xs e.1 in
    ⊎_elim (λ t. subst Q (sym t) i) (λ f. subst Q (sym f) (e.0, i)) (bool_cases (eqb x.cell c))

pub sorted_without : (c : ℕ) (hs : List HeldCell) → IsAscendingBy held_key hs → IsAscendingBy held_key (without_held c hs)
sorted_without c [] o = tt
sorted_without c (x ∷ xs) o = let Q : Bool → Type 0 = λ b. IsAscendingBy held_key (cond b (without_held c xs) (x ∷ without_held c xs)) in let i = sorted_without c xs o.1 in
    ⊎_elim (λ t. subst Q (sym t) i) (λ f. subst Q (sym f) (each_without_held _ c xs o.0, i)) (bool_cases (eqb x.cell c))

each_mark : (k c : ℕ) (hs : List HeldCell) → Each (λ h. k < h.cell) hs → Each (λ h. k < h.cell) (mark c hs)
each_mark k c [] e = tt
each_mark k c (x ∷ xs) e = (e.0, each_mark k c xs e.1)

pub sorted_mark : (c : ℕ) (hs : List HeldCell) → IsAscendingBy held_key hs → IsAscendingBy held_key (mark c hs)
sorted_mark c [] o = tt
sorted_mark c (x ∷ xs) o = (each_mark x.cell c xs o.0, sorted_mark c xs o.1)

-- a cell that isn't held is none of the list
pub not_among : (c : ℕ) (hs : List HeldCell) → has c (cells_of (pairs_of hs)) ≡ false → Each (λ h. h.cell ≢ c) hs
not_among c [] n = tt
not_among c (x ∷ xs) n = dite (ℕ_discrete x.cell c)
    (λ e. let yes : has c (cells_of (pairs_of (x ∷ xs))) ≡ true = ap (λ (b : Bool). cond b true (has c (cells_of (pairs_of xs)))) (eq-eqb x.cell c e) in let bad : true ≡ false = sym yes ∙ n in absurd (cc))
    (λ ne. (ne, not_among c xs (sym (ap (λ (b : Bool). cond b true (has c (cells_of (pairs_of xs)))) (ne_eqb x.cell c ne)) ∙ n)))

-- the flags after a store to c
marked : {D : Type 0} (st st' : Stage D) (c : ℕ) (hs : List HeldCell) → ((d : ℕ) → is_stored st' d ≡ cond (eqb d c) true (is_stored st d)) → FitsFlags st hs → FitsFlags st' (mark c hs)
marked st st' c [] f e = tt
marked st st' c (x ∷ xs) f e = (ap (λ (b : Bool). cond (eqb x.cell c) true b) e.0 ∙ sym (f x.cell), marked st st' c xs f e.1)

eqb_sym : (c d : ℕ) → eqb c d ≡ eqb d c
eqb_sym c d = dite (ℕ_discrete c d) (λ e. eq-eqb c d e ∙ sym (eq-eqb d c (sym e))) (λ n. ne_eqb c d n ∙ sym (ne_eqb d c (λ e. n (sym e))))

module _ {D : Type 0} where
  pub first_marked : (st : Stage D) (u v c : ℕ) (r : Record D) (hs : List HeldCell) → st ≡ Drawn u → FitsFlags st hs → FitsFlags (Decided v r (c ∷ [])) (mark c hs)
  first_marked st u v c r hs is f = marked st (Decided v r (c ∷ [])) c hs (λ d. ap (λ (b : Bool). cond b true false) (eqb_sym c d) ∙ ap (λ (z : Stage D). cond (eqb d c) true (is_stored z d)) (sym is)) f

  stored_more : (st : Stage D) (c d : ℕ) → Rattle.cell_table.specs.Steps.IsUndecided st ⊎ (is_stored (more_stored c st) d ≡ cond (eqb d c) true (is_stored st d))
  stored_more Open c d = inl tt
  stored_more (Drawn u) c d = inl tt
  stored_more (Decided u r stored) c d = inr (ap (λ (b : Bool). cond b true (has d stored)) (eqb_sym c d))

  pub next_marked : (st : Stage D) (c x : ℕ) (hs : List HeldCell) (held : List (ℕ × ℕ)) → Rattle.cell_table.specs.Steps.MayStore c x held st → FitsFlags st hs → FitsFlags (more_stored c st) (mark c hs)
  next_marked Open c x hs held may f = absurd may
  next_marked (Drawn u) c x hs held may f = absurd may
  next_marked (Decided u r stored) c x hs held may f = marked (Decided u r stored) (Decided u r (c ∷ stored)) c hs (λ d. ap (λ (b : Bool). cond b true (has d stored)) (eqb_sym c d)) f

  -- the flag of a held cell
  pub flag_is : (st : Stage D) (c : ℕ) (hs : List HeldCell) → has c (cells_of (pairs_of hs)) ≡ true → FitsFlags st hs → flag_in c hs ≡ is_stored st c
  flag_is st c [] h f = absurd (cc)
  flag_is st c (x ∷ xs) h f = dite (ℕ_discrete x.cell c)
      (λ e. ap (λ (b : Bool). cond b x.stored (flag_in c xs)) (eq-eqb x.cell c e) ∙ (f.0 ∙ ap (is_stored st) e))
      (λ n. ap (λ (b : Bool). cond b x.stored (flag_in c xs)) (ne_eqb x.cell c n) ∙ flag_is st c xs (sym (ap (λ (b : Bool). cond b true (has c (cells_of (pairs_of xs)))) (ne_eqb x.cell c n)) ∙ h) f.1)

-- The place that the search finds

shift_point : (c : ℕ) (x : HeldCell) (xs : List HeldCell) (at : ℕ) → IsPoint c (x ∷ xs) (suc at) → IsPoint c xs at
shift_point c x xs at p = let l = p.0 in (omega arith, (λ k d m. p.1 (suc k) d (omega arith)), λ k d m n. p.2 (suc k) d (omega arith) (omega arith))

pub inserted_at : (h : HeldCell) (hs : List HeldCell) (at : ℕ) → IsPoint h.cell hs at → Each (λ x. x.cell ≢ h.cell) hs → take at hs ++ h ∷ drop at hs ≡ insert_by held_key h hs
inserted_at h [] zero p n = refl
inserted_at h [] (suc at) p n = let l = p.0 in absurd (omega arith)
inserted_at h (x ∷ xs) zero p n = let l = p.2 0 x (omega arith) (omega arith) in let ne = n.0 in sym (ap (λ (b : Bool). cond b (h ∷ x ∷ xs) (x ∷ insert_by held_key h xs)) (le-leb (suc h.cell) x.cell (omega arith)))
inserted_at h (x ∷ xs) (suc at) p n = let l = p.1 0 x (omega arith) in
    ap (λ (z : List HeldCell). x ∷ z) (inserted_at h xs at (shift_point h.cell x xs at p) n.1) ∙ sym (ap (λ (b : Bool). cond b (h ∷ x ∷ xs) (x ∷ insert_by held_key h xs)) (lt-leb (suc h.cell) x.cell (omega arith)))

none_above : (c : ℕ) (hs : List HeldCell) → Each (λ h. c < h.cell) hs → has c (cells_of (pairs_of hs)) ≡ false
none_above c [] e = refl
none_above c (x ∷ xs) e = let l = e.0 in ap (λ (b : Bool). cond b true (has c (cells_of (pairs_of xs)))) (ne_eqb x.cell c (λ is. omega arith)) ∙ none_above c xs e.1

without_none : (c : ℕ) (hs : List HeldCell) → Each (λ h. c < h.cell) hs → without_held c hs ≡ hs
without_none c [] e = refl
without_none c (x ∷ xs) e = let l = e.0 in ap (λ (b : Bool). cond b (without_held c xs) (x ∷ without_held c xs)) (ne_eqb x.cell c (λ is. omega arith)) ∙ ap (λ (z : List HeldCell). x ∷ z) (without_none c xs e.1)

mark_none : (c : ℕ) (hs : List HeldCell) → Each (λ h. c < h.cell) hs → mark c hs ≡ hs
mark_none c [] e = refl
mark_none c (x ∷ xs) e = let l = e.0 in (λ i. record { cell = x.cell; version = x.version; stored = cond (ne_eqb x.cell c (λ is. omega arith) i) true x.stored } ∷ mark_none c xs e.1 i)

-- the held cell c stands at the place that was found
first_is : (c : ℕ) (x : HeldCell) (xs : List HeldCell) → c ≤ x.cell → Each (λ h. x.cell < h.cell) xs → has c (cells_of (pairs_of (x ∷ xs))) ≡ true → x.cell ≡ c
first_is c x xs l e h = dite (ℕ_discrete x.cell c) (λ y. y) (λ n. let none : has c (cells_of (pairs_of xs)) ≡ false = none_above c xs (each_map _ _ (λ y m. omega arith) xs e) in
    let no : has c (cells_of (pairs_of (x ∷ xs))) ≡ false = ap (λ (b : Bool). cond b true (has c (cells_of (pairs_of xs)))) (ne_eqb x.cell c n) ∙ none in let bad : true ≡ false = sym h ∙ no in absurd (cc))

later_has : (c : ℕ) (x : HeldCell) (xs : List HeldCell) → x.cell < c → has c (cells_of (pairs_of (x ∷ xs))) ≡ true → has c (cells_of (pairs_of xs)) ≡ true
later_has c x xs l h = sym (ap (λ (b : Bool). cond b true (has c (cells_of (pairs_of xs)))) (ne_eqb x.cell c (λ is. omega arith))) ∙ h

pub found_at : (c : ℕ) (hs : List HeldCell) (at : ℕ) → IsAscendingBy held_key hs → IsPoint c hs at → has c (cells_of (pairs_of hs)) ≡ true
    → (at < length hs) × (take at hs ++ drop (suc at) hs ≡ without_held c hs) × ((d : HeldCell) → (get_or hs at d).version ≡ kept_in c (pairs_of hs)) × ((d : HeldCell) → (get_or hs at d).stored ≡ flag_in c hs)
found_at c [] at o p h = absurd (cc)
found_at c (x ∷ xs) zero o p h = let low = p.2 0 x (omega arith) (omega arith) in let is = first_is c x xs low o.0 h in let above : Each (λ y. c < y.cell) xs = each_map _ _ (λ y m. omega arith) xs o.0 in (
  omega arith,
  sym (ap (λ (b : Bool). cond b (without_held c xs) (x ∷ without_held c xs)) (eq-eqb x.cell c is) ∙ without_none c xs above),
  (λ d. sym (ap (λ (b : Bool). cond b x.version (kept_in c (pairs_of xs))) (eq-eqb x.cell c is))),
  λ d. sym (ap (λ (b : Bool). cond b x.stored (flag_in c xs)) (eq-eqb x.cell c is)),
)
found_at c (x ∷ xs) (suc at) o p h = let low = p.1 0 x (omega arith) in let i = found_at c xs at o.1 (shift_point c x xs at p) (later_has c x xs low h) in let inside = i.0 in let ne : x.cell ≢ c = λ is. omega arith in (
  omega arith,
  ap (λ (z : List HeldCell). x ∷ z) i.1 ∙ sym (ap (λ (b : Bool). cond b (without_held c xs) (x ∷ without_held c xs)) (ne_eqb x.cell c ne)),
  (λ d. i.2 d ∙ sym (ap (λ (b : Bool). cond b x.version (kept_in c (pairs_of xs))) (ne_eqb x.cell c ne))),
  λ d. i.3 d ∙ sym (ap (λ (b : Bool). cond b x.stored (flag_in c xs)) (ne_eqb x.cell c ne)),
)

pub marked_at : (c : ℕ) (hs : List HeldCell) (at : ℕ) (d e : HeldCell) → IsAscendingBy held_key hs → IsPoint c hs at → has c (cells_of (pairs_of hs)) ≡ true → e.cell ≡ (get_or hs at d).cell → e.version ≡ (get_or hs at d).version → e.stored ≡ true → set hs at e ≡ mark c hs
marked_at c [] at d e o p h a b s = absurd (cc)
marked_at c (x ∷ xs) zero d e o p h a b s = let low = p.2 0 x (omega arith) (omega arith) in let is = first_is c x xs low o.0 h in let above : Each (λ y. c < y.cell) xs = each_map _ _ (λ y m. omega arith) xs o.0 in
    let flag : e.stored ≡ cond (eqb x.cell c) true x.stored = s ∙ sym (ap (λ (b : Bool). cond b true x.stored) (eq-eqb x.cell c is)) in
    (λ i. record { cell = a i; version = b i; stored = flag i } ∷ sym (mark_none c xs above) i)
marked_at c (x ∷ xs) (suc at) d e o p h a b s = let low = p.1 0 x (omega arith) in
    let i = marked_at c xs at d e o.1 (shift_point c x xs at p) (later_has c x xs low h) a b s in let flag : x.stored ≡ cond (eqb x.cell c) true x.stored = sym (ap (λ (b : Bool). cond b true x.stored) (ne_eqb x.cell c (λ is. omega arith))) in
    (λ j. record { cell = x.cell; version = x.version; stored = flag j } ∷ i j)

-- The test of the search, over a sorted list
at_least : (k : ℕ) (hs : List HeldCell) (j : ℕ) (d : HeldCell) → Each (λ h. k < h.cell) hs → j < length hs → k < (get_or hs j d).cell
at_least k [] j d e l = absurd (omega arith)
at_least k (x ∷ xs) zero d e l = e.0
at_least k (x ∷ xs) (suc j) d e l = at_least k xs j d e.1 (omega arith)

sorted_at : (hs : List HeldCell) → IsAscendingBy held_key hs → (i j : ℕ) (d : HeldCell) → i ≤ j → j < length hs → (get_or hs i d).cell ≤ (get_or hs j d).cell
sorted_at [] o i j d l m = absurd (omega arith)
sorted_at (x ∷ xs) o zero zero d l m = omega arith
sorted_at (x ∷ xs) o zero (suc j) d l m = let a = at_least x.cell xs j d o.0 (omega arith) in omega arith
sorted_at (x ∷ xs) o (suc i) zero d l m = absurd (omega arith)
sorted_at (x ∷ xs) o (suc i) (suc j) d l m = sorted_at xs o.1 i j d (omega arith) (omega arith)

sorted_below : (hs : List HeldCell) → IsAscendingBy held_key hs → (i j : ℕ) (d : HeldCell) → i < j → j < length hs → (get_or hs i d).cell < (get_or hs j d).cell
sorted_below [] o i j d l m = absurd (omega arith)
sorted_below (x ∷ xs) o i zero d l m = absurd (omega arith)
sorted_below (x ∷ xs) o zero (suc j) d l m = at_least x.cell xs j d o.0 (omega arith)
sorted_below (x ∷ xs) o (suc i) (suc j) d l m = sorted_below xs o.1 i j d (omega arith) (omega arith)

-- a cell above the last one goes to the end
pub point_past : (c : ℕ) (hs : List HeldCell) (d : HeldCell) → IsAscendingBy held_key hs → (0 < length hs → (get_or hs (length hs - 1) d).cell < c) → IsPoint c hs (length hs)
point_past c hs d o low = (
  omega arith,
  (λ k e l. let a = sorted_at hs o k (length hs - 1) e (omega arith) (omega arith) in let b = ap (λ (h : HeldCell). h.cell) (get_or_default hs (length hs - 1) e d (omega arith)) in let f = low (omega arith) in omega arith),
  λ k e l m. absurd (omega arith),
)

-- the last cell's place is the last one
pub point_last : (c : ℕ) (hs : List HeldCell) (d : HeldCell) → IsAscendingBy held_key hs → 0 < length hs → (get_or hs (length hs - 1) d).cell ≡ c → IsPoint c hs (length hs - 1)
point_last c hs d o some is = (
  omega arith,
  (λ k e l. let a = sorted_below hs o k (length hs - 1) e (omega arith) (omega arith) in let b = ap (λ (h : HeldCell). h.cell) (get_or_default hs (length hs - 1) e d (omega arith)) in omega arith),
  λ k e l m. let at : k ≡ length hs - 1 = omega arith in let b = ap (λ (h : HeldCell). h.cell) (get_or_default hs (length hs - 1) e d (omega arith)) in let f = ap (λ (i : ℕ). (get_or hs i e).cell) at in omega arith,
)

pub below : (a b : ℕ) → ltb a b ≡ true → a < b
below a b e = ⊎_elim (λ t. t.1) (λ f. let bad : true ≡ false = sym e ∙ f.0 in absurd (cc)) (leb_tells (suc a) b)

pub not_below : (a b : ℕ) → ltb a b ≡ false → b ≤ a
not_below a b e = ⊎_elim (λ t. let bad : true ≡ false = sym t.0 ∙ e in absurd (cc)) (λ f. let l = f.1 in omega arith) (leb_tells (suc a) b)

pub parted : (c : ℕ) (hs : List HeldCell) → IsAscendingBy held_key hs → (i j : ℕ) (d : HeldCell) → i ≤ j → j < length hs → ltb (get_or hs j d).cell c ≡ true → ltb (get_or hs i d).cell c ≡ true
parted c hs o i j d l m e = let a = below _ _ e in let b = sorted_at hs o i j d l m in le-leb (suc (get_or hs i d).cell) c (omega arith)
