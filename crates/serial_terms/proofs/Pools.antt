-- Pools as counts.
use Rattle.std.proofs.Common.{◌≡◌, ℕ, ◌+◌, ◌-◌, List, ◌∷◌, ◌++◌, length, length-append, arith}
use Rattle.std.proofs.lemmas.Bool.Decides.{nat_tests}
use mathlib.Core.Path.{fun_ext}
use Rattle.serial_terms.specs.Counts.{times, with_at}
use Rattle.serial_terms.specs.Facts.{times_append}
use Rattle.serial_terms.specs.Laws.{PoolsAreCounts}

taken_at : (x : ℕ) (before behind : List ℕ) (y : ℕ) → with_at (λ z. times z (before ++ x ∷ behind)) x (times x (before ++ x ∷ behind) - 1) y ≡ times y (before ++ behind)
taken_at x before behind y = grind (arith, nat_tests, times_append)

given_at : (x : ℕ) (before behind : List ℕ) (y : ℕ) → with_at (λ z. times z (before ++ behind)) x (times x (before ++ behind) + 1) y ≡ times y (before ++ x ∷ behind)
given_at x before behind y = grind (arith, nat_tests, times_append)

pub counts : PoolsAreCounts
counts n x before behind =
    let c : with_at (λ z. times z (before ++ x ∷ behind)) x (times x (before ++ x ∷ behind) - 1) ≡ (λ y. times y (before ++ behind)) = fun_ext (taken_at x before behind) in
    let d : with_at (λ z. times z (before ++ behind)) x (times x (before ++ behind) + 1) ≡ (λ y. times y (before ++ x ∷ behind)) = fun_ext (given_at x before behind) in
    let h : length (before ++ x ∷ behind) - 1 ≡ length (before ++ behind) = omega (arith, length-append before (x ∷ behind), length-append before behind) in
    let k : length (before ++ behind) + 1 ≡ length (before ++ x ∷ behind) = omega (arith, length-append before (x ∷ behind), length-append before behind) in
    ((λ i. record { count = c i; held = h i; slots = n }), (λ i. record { count = d i; held = k i; slots = n }))
