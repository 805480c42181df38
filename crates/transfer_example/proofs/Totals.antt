-- What accounts have together, and what the receipts of a log are.
use Rattle.std.proofs.Common.{◌≡◌, ◌≢◌, ℕ, zero, suc, ◌+◌, ◌-◌, ◌<◌, ◌≤◌, Bool, true, false, nat_eq, List, length, get_or, drop, take, Option, Some, refl, ap, ◌∙◌, arith}
use Rattle.std.proofs.lemmas.Bool.Decides.{nat_tests}
use Rattle.std.proofs.lemmas.List.{get_or-drop, get_or-map, get_or-take, length-take-le, length-drop, length-map}
use Rattle.serial_terms.specs.Counts.{with_at}
use Rattle.tx_log.specs.Log.{IsLog, values_in}
use Rattle.transfer_example.specs.Bank.{amount_of, total}
use Rattle.transfer_example.specs.declared.bank.TheConstants.{RECEIPTS}

-- an account that isn't among the first n doesn't count
beyond : (f : ℕ → Option ℕ) (p n : ℕ) (v : Option ℕ) → n ≤ p → total (with_at f p v) n ≡ total f n
beyond f p zero v low = refl
beyond f p (suc n) v low =
    let rest = beyond f p n v (omega arith) in
    let here : with_at f p v n ≡ f n = grind (arith, nat_tests) in
    rw here (ap (λ t. t + amount_of (f n)) rest)

set_step : (f : ℕ → Option ℕ) (p n x v : ℕ) (b : Bool) → nat_eq n p ≡ b → p < suc n → f p ≡ Some x
    → (p < n → f p ≡ Some x → total (with_at f p (Some v)) n + x ≡ total f n + v) → total (with_at f p (Some v)) (suc n) + x ≡ total f (suc n) + v
set_step f p n x v true test low is rest =
    let same : n ≡ p = grind (arith, nat_tests, test) in
    let here : with_at f p (Some v) n ≡ Some v = grind (arith, nat_tests, same) in
    let there : f n ≡ Some x = ap f same ∙ is in
    let below = beyond f p n (Some v) (omega arith) in
    rw (here, there) (omega (arith, below))
set_step f p n x v false test low is rest =
    let other : n ≢ p = λ same. grind (arith, nat_tests, test, same) in
    let here : with_at f p (Some v) n ≡ f n = grind (arith, nat_tests, other) in
    let below = rest (omega (arith, other)) is in
    rw here (omega (arith, below))

-- what an account that is set adds to the sum, and what it took away
pub total_set : (f : ℕ → Option ℕ) (p n x v : ℕ) → p < n → f p ≡ Some x → total (with_at f p (Some v)) n + x ≡ total f n + v
total_set f p zero x v low is = absurd (omega arith)
total_set f p (suc n) x v low is = set_step f p n x v (nat_eq n p) refl low is (total_set f p n x v)

-- the receipt at place i
pub receipt_at : (cells : List ℕ) (i : ℕ) → IsLog RECEIPTS cells → i < get_or cells 8 0 → (i < length (values_in RECEIPTS cells)) × (get_or (values_in RECEIPTS cells) i 0 ≡ get_or cells (9 + i) 0 - 1)
receipt_at cells i log low =
    let room = log.in_table in
    let most = log.within in
    let n = length-take-le (get_or cells 8 0) (drop 9 cells) (omega (arith, length-drop 9 cells, room, most)) in
    let m = length-map (take (get_or cells 8 0) (drop 9 cells)) (λ (w : ℕ). w - 1) in (
      omega (arith, n, m, low),
      get_or-map (λ (w : ℕ). w - 1) (take (get_or cells 8 0) (drop 9 cells)) i 0 0 (omega (arith, n, low))
          ∙ ap (λ (w : ℕ). w - 1) (get_or-take (get_or cells 8 0) (drop 9 cells) i 0 low ∙ get_or-drop 9 cells i 0),
    )
