-- The first task of a datagram.
use Rattle.std.proofs.Common.{◌≡◌, ℕ, zero, suc, ◌≤◌, Bool, true, false, cond, List, [], ◌∷◌, Option, Some, inl, inr, refl, sym, ◌∙◌, ap, subst, arith}
use Rattle.std.specs.Prelude.{All, Contains, IsSomeAnd, slice_get, filter}
use Rattle.std.proofs.lemmas.List.Elements.{All-contains}
use Rattle.capture_terms.specs.Datagram.{is_member, IsWholeAt, IsGroupAt}
use Rattle.capture_terms.specs.Groups.{LeastIsFirst}
use Rattle.capture_terms.specs.declared.plan.Task.{Task}
use Rattle.capture_terms.proofs.Filters.{only_one}

-- the first that passes is the one at the least place
filter_first : (p : Task → Bool) (tasks : List Task) (least : ℕ) (first : Task) → slice_get tasks least ≡ Some first → p first ≡ true
    → ((i : ℕ) (t : Task) → slice_get tasks i ≡ Some t → p t ≡ true → least ≤ i) → (others : List Task) × (filter p tasks ≡ first ∷ others)
filter_first p [] least first at passes lowest = absurd (cc)
filter_first p (t ∷ tasks) zero first at passes lowest =
    let same : t ≡ first = cc in
    (filter p tasks, ap (λ (b : Bool). cond b (t ∷ filter p tasks) (filter p tasks)) (ap p same ∙ passes) ∙ ap (λ (u : Task). u ∷ filter p tasks) same)
filter_first p (t ∷ tasks) (suc least) first at passes lowest = by_case (p t) refl (filter_first p tasks least first at passes (λ i u there ok. let l : suc least ≤ suc i = lowest (suc i) u there ok in omega arith))
  where
    by_case : (b : Bool) → p t ≡ b → (others : List Task) × (filter p tasks ≡ first ∷ others) → (others : List Task) × (filter p (t ∷ tasks) ≡ first ∷ others)
    by_case true e rest = let l : suc least ≤ 0 = lowest 0 t refl e in absurd (omega arith)
    by_case false e rest = (rest.0, ap (λ (b : Bool). cond b (t ∷ filter p tasks) (filter p tasks)) e ∙ rest.1)

whole_first : (tasks : List Task) (numbers : List ℕ) (datagram : List Task) (least : ℕ) (first : Task) → IsWholeAt tasks numbers datagram
    → Contains numbers least → slice_get tasks least ≡ Some first → (others : List Task) × (datagram ≡ first ∷ others)
whole_first tasks numbers datagram least first w among at = ([], w.is ∙ ap (λ (t : Task). t ∷ []) same)
  where
    same : w.task ≡ first
    same =
        let number : w.number ≡ least = only_one w.number least (subst (λ (l : List ℕ). Contains l least) w.alone among) in
        let there : Some w.task ≡ Some first = sym w.there ∙ (ap (slice_get tasks) number ∙ at) in
        cc

group_first : (tasks : List Task) (numbers : List ℕ) (datagram : List Task) (least : ℕ) (first : Task) → IsGroupAt tasks numbers datagram
    → Contains numbers least → All (λ number. least ≤ number) numbers → slice_get tasks least ≡ Some first → (others : List Task) × (datagram ≡ first ∷ others)
group_first tasks numbers datagram least first g among lowest at =
    let named : IsSomeAnd (slice_get tasks least) (λ task. is_member g.group task ≡ true) = All-contains (λ number. IsSomeAnd (slice_get tasks number) (λ task. is_member g.group task ≡ true)) numbers least g.each among in
    let passes : is_member g.group first ≡ true = subst (λ (o : Option Task). IsSomeAnd o (λ task. is_member g.group task ≡ true)) at named in
    let found = filter_first (is_member g.group) tasks least first at passes (λ i t there ok. All-contains (λ number. least ≤ number) numbers i lowest (g.all i t there ok)) in
    (found.0, g.is ∙ found.1)

pub least_first : LeastIsFirst
least_first tasks numbers datagram least first at among lowest there = elim at [
  | inl whole ↦ whole_first tasks numbers datagram least first whole among there
  | inr group ↦ group_first tasks numbers datagram least first group among lowest there
]
