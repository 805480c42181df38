-- Slots for the tasks of a batch.
use Rattle.std.proofs.Common.{◌≡◌, ℕ, zero, suc, ◌+◌, ◌-◌, ◌<◌, ◌≤◌, List, [], ◌∷◌, ◌++◌, length, get_or, None, subst, arith}
use Rattle.std.specs.Prelude.{All}
use Rattle.capture_terms.specs.declared.plan.Plan.{Plan}
use Rattle.rule_terms.specs.Rule.{Rule}
use Rattle.run_findings.specs.Slots.{AreEmpty, IsSlotOf}
use Rattle.run_findings.specs.declared.slots.Slot.{Slot}

pub one_more : (xs : List Slot) (s : Slot) (first n : ℕ) → AreEmpty first xs → length xs ≡ n → s.number ≡ first + n → s.values ≡ None → AreEmpty first (xs ++ s ∷ [])
one_more [] s first n a l e v = (omega (arith, l, e), v, tt)
one_more (x ∷ xs) s first n a l e v =
    let m : length xs ≡ n - 1 = omega (arith, l) in
    let f : s.number ≡ first + 1 + (n - 1) = omega (arith, l, e) in
    (a.0, a.1, one_more xs s (first + 1) (n - 1) a.2 m f v)

pub empty_at : (xs : List Slot) (first i : ℕ) (d : Slot) → AreEmpty first xs → i < length xs → (get_or xs i d).number ≡ first + i
empty_at [] first i d a h = absurd (omega arith)
empty_at (x ∷ xs) first zero d a h = omega (arith, a.0)
empty_at (x ∷ xs) first (suc i) d a h = let rest = empty_at xs (first + 1) i d a.2 (omega arith) in omega (arith, rest)

pub all_within : (xs : List Slot) (first n most : ℕ) → AreEmpty first xs → length xs ≡ n → first + n ≤ most → All (λ s. s.number < most) xs
all_within xs first n most a l h = λ i d lt. let e = empty_at xs first i d a lt in omega (arith, l, e)

pub slots_are : (rules : List Rule) (bytes : List ℕ) (plan : Plan) (old new : List Slot) (first count : ℕ) → AreEmpty first old → length old ≡ count
    → ((i : ℕ) (d : Slot) → i < length old → IsSlotOf rules bytes plan (get_or old i d).number (get_or new i d)) → (i : ℕ) (d : Slot) → i < count → IsSlotOf rules bytes plan (first + i) (get_or new i d)
slots_are rules bytes plan old new first count empty long filled i d here =
    let there : i < length old = omega (arith, here, long) in
    subst (λ (n : ℕ). IsSlotOf rules bytes plan n (get_or new i d)) (empty_at old first i d empty there) (filled i d there)
