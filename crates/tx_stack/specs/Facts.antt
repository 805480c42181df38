-- Facts of cells that stand for stacks, for the purpose that is proved where it is stated.
use Rattle.std.proofs.Common.{◌≡◌, ◌≢◌, ◌⊎◌, inl, inr, ⊎_elim, ℕ, zero, suc, ◌+◌, ◌-◌, ◌<◌, ◌≤◌, List, [], ◌∷◌, length, sym, refl, ap, ◌∙◌, subst, arith}
use mathlib.Core.Logic.{dite}
use native.Mathlib.Decide.{ℕ_discrete}
use Rattle.serial_terms.specs.Counts.{with_at}
use Rattle.serial_terms.specs.Entries.{Each, OrderedBy, IsIn}
use Rattle.serial_terms.specs.Facts.{with_at_same, with_at_other}
use Rattle.tx_stack.specs.declared.part.StackPart.{StackPart}
use Rattle.tx_stack.specs.Stacks.{items_at, AreApart, StandForStacks}

pub member_has : {A : Type 0} (P : A → Type 0) (x : A) (xs : List A) → IsIn x xs → Each P xs → P x
member_has P x [] at each = absurd at
member_has P x (y ∷ ys) (inl e) each = subst P e each.0
member_has P x (y ∷ ys) (inr at) each = member_has P x ys at each.1

swapped : (p q : StackPart) → AreApart p q → AreApart q p
swapped p q (inl a) = inr a
swapped p q (inr a) = inl a

-- two of the parts are one, or have no cell in common
pub one_or_apart : (parts : List StackPart) → OrderedBy AreApart parts → (p q : StackPart) → IsIn p parts → IsIn q parts → (p ≡ q) ⊎ AreApart p q
one_or_apart [] o p q a b = absurd a
one_or_apart (x ∷ xs) o p q (inl a) (inl b) = inl (sym a ∙ b)
one_or_apart (x ∷ xs) o p q (inl a) (inr b) = inr (subst (λ (z : StackPart). AreApart z q) a (member_has (AreApart x) q xs b o.0))
one_or_apart (x ∷ xs) o p q (inr a) (inl b) = inr (swapped q p (subst (λ (z : StackPart). AreApart z p) b (member_has (AreApart x) p xs a o.0)))
one_or_apart (x ∷ xs) o p q (inr a) (inr b) = one_or_apart xs o.1 p q a b

pub items_count : (cells : ℕ → ℕ) (base n : ℕ) → length (items_at cells base n) ≡ n
items_count cells base zero = refl
items_count cells base (suc n) = ap suc (items_count cells base n)

-- the items of the same cells
pub items_same : (f g : ℕ → ℕ) (base n : ℕ) → ((c : ℕ) → base < c → c ≤ base + n → f c ≡ g c) → items_at f base n ≡ items_at g base n
items_same f g base zero same = refl
items_same f g base (suc n) same =
    let here : f (base + 1 + n) ≡ g (base + 1 + n) = same (base + 1 + n) (omega arith) (omega arith) in
    let below = items_same f g base n (λ c low high. same c low (omega arith)) in
    λ i. here i ∷ below i

-- the top stands in the last cell
pub items_top : (cells : ℕ → ℕ) (base n : ℕ) → 0 < n → items_at cells base n ≡ cells (base + n) ∷ items_at cells base (n - 1)
items_top cells base zero some = absurd (omega arith)
items_top cells base (suc n) some =
    let at : base + 1 + n ≡ base + suc n = omega arith in
    let less : n ≡ suc n - 1 = omega arith in
    λ i. cells (at i) ∷ items_at cells base (less i)

module _ (parts : List StackPart) (cells later : ℕ → ℕ) (lists : ℕ → List ℕ) (s : StandForStacks parts cells lists) where
  -- Where the cells of one part alone change, and its length is within the capacity, they stand for the same stacks but for this one
  module _ (p : StackPart) (there : IsIn p parts) (xs : List ℕ) (within : later p.base ≤ p.capacity) (items : xs ≡ items_at later p.base (later p.base))
      (outside : (c : ℕ) → (p.base ≤ c → c ≤ p.base + p.capacity → ⊥) → later c ≡ cells c) where
    kept : (q : StackPart) → IsIn q parts → AreApart p q → (later q.base ≡ cells q.base) × (with_at lists p.base xs q.base ≡ items_at later q.base (later q.base))
    kept q at apart =
        let length_kept : later q.base ≡ cells q.base = outside q.base (λ low high. ⊎_elim (λ a. omega arith) (λ a. omega arith) apart) in
        let few = s.within q at in
        let items_kept = items_same cells later q.base (cells q.base) (λ c low high. sym (outside c (λ from to. ⊎_elim (λ a. omega arith) (λ a. omega arith) apart))) in
        let other : q.base ≢ p.base = λ e. ⊎_elim (λ a. omega arith) (λ a. omega arith) apart in (
          length_kept,
          with_at_other lists p.base xs q.base other ∙ (s.items q at ∙ (items_kept ∙ ap (items_at later q.base) (sym length_kept))),
        )

    pub changed : StandForStacks parts later (with_at lists p.base xs)
    changed = record {
      apart = s.apart;
      within = λ q at. ⊎_elim
          (λ e. subst (λ (z : StackPart). later z.base ≤ z.capacity) e within)
          (λ a. subst (λ (n : ℕ). n ≤ q.capacity) (sym (kept q at a).0) (s.within q at))
          (one_or_apart parts s.apart p q there at);
      items = λ q at. ⊎_elim
          (λ e. subst (λ (z : StackPart). with_at lists p.base xs z.base ≡ items_at later z.base (later z.base)) e (with_at_same lists p.base xs p.base refl ∙ items))
          (λ a. (kept q at a).1)
          (one_or_apart parts s.apart p q there at);
      others = λ c none. with_at_other lists p.base xs c (λ e. none p there (sym e)) ∙ s.others c none;
    }

-- ---- the lists are determined by the cells

-- a cell is that of a length, or not
base_or_not : (parts : List StackPart) (c : ℕ) → ((p : StackPart) × IsIn p parts × (p.base ≡ c)) ⊎ ((p : StackPart) → IsIn p parts → p.base ≢ c)
base_or_not [] c = inr (λ p at. absurd at)
base_or_not (x ∷ xs) c = dite (ℕ_discrete x.base c)
    (λ e. inl (x, inl refl, e))
    (λ ne. ⊎_elim
    (λ found. inl (found.0, inr found.1, found.2))
    (λ none. inr (λ p at. ⊎_elim (λ e. subst (λ (z : StackPart). z.base ≢ c) e ne) (λ in_rest. none p in_rest) at))
    (base_or_not xs c))

pub one_list : (parts : List StackPart) (cells : ℕ → ℕ) (f g : ℕ → List ℕ) → StandForStacks parts cells f → StandForStacks parts cells g → (c : ℕ) → f c ≡ g c
one_list parts cells f g a b c = ⊎_elim
    (λ at. subst (λ (n : ℕ). f n ≡ g n) at.2 (a.items at.0 at.1 ∙ sym (b.items at.0 at.1)))
    (λ none. a.others c none ∙ sym (b.others c none))
    (base_or_not parts c)
