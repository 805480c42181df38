-- What calls make of the bank.
use Rattle.std.proofs.Common.{rules, ◌≡◌, ℕ, zero, suc, ◌+◌, ◌-◌, ◌<◌, ◌≤◌, Bool, true, false, List, [], ◌∷◌, ◌++◌, length, sum, drop, get_or, Option, Some, refl, sym, ap, subst, ◌∙◌, arith}
use Rattle.std.proofs.lemmas.List.{get_or-drop}
use Rattle.std.proofs.lemmas.List.Sums.{sum_by-append, sum_by-cons}
use Rattle.serial_terms.specs.Counts.{with_at}
use Rattle.tx_map.specs.Map.{map_of}
use Rattle.tx_log.specs.Log.{IsLog, values_in}
use Rattle.transfer_example.specs.Bank.{total, IsBank}
use Rattle.transfer_example.specs.declared.bank.TheConstants.{SENDERS, RECEIVERS, RECEIPTS}
use Rattle.transfer_example.proofs.Totals.{total_set}

-- A transfer of `a` keeps the sum, and leaves its receipt to be added
pub moved : (all p q x y a : ℕ) (before after : List ℕ) → p < 4 → q < 4 → a ≤ x → IsBank all before []
    → map_of SENDERS before p ≡ Some x → map_of RECEIVERS before q ≡ Some y
    → map_of SENDERS after ≡ with_at (map_of SENDERS before) p (Some (x - a)) → map_of RECEIVERS after ≡ with_at (map_of RECEIVERS before) q (Some (y + a))
    → length after ≡ 41 → IsLog RECEIPTS after × (values_in RECEIPTS after ≡ values_in RECEIPTS before) → IsBank all after (a ∷ [])
moved all p q x y a before after low high fits bank sender receiver sent got sized log =
    let from = total_set (map_of SENDERS before) p 4 x (x - a) low sender in
    let to = total_set (map_of RECEIVERS before) q 4 y (y + a) high receiver in
    let senders : total (map_of SENDERS after) 4 ≡ total (with_at (map_of SENDERS before) p (Some (x - a))) 4 = ap (λ (m : ℕ → Option ℕ). total m 4) sent in
    let receivers : total (map_of RECEIVERS after) 4 ≡ total (with_at (map_of RECEIVERS before) q (Some (y + a))) 4 = ap (λ (m : ℕ → Option ℕ). total m 4) got in
    let kept = bank.kept in
    let receipts = bank.receipts in
    let old = sum_by-append (λ (z : ℕ). z) (values_in RECEIPTS before) [] in
    let new = sum_by-append (λ (z : ℕ). z) (values_in RECEIPTS after) (a ∷ []) in
    let one = sum_by-cons (λ (z : ℕ). z) a [] in
    let same : sum (values_in RECEIPTS after) ≡ sum (values_in RECEIPTS before) = ap sum log.1 in
    record { sized = sized; log = log.0; kept = omega (arith, from, to, senders, receivers, kept, fits); receipts = omega (arith, to, receivers, receipts, old, new, one, same) }

-- Placing what was to be added leaves the accounts
pub placed : (all : ℕ) (adding before after : List ℕ) → IsBank all before adding → map_of SENDERS after ≡ map_of SENDERS before → map_of RECEIVERS after ≡ map_of RECEIVERS before
    → length after ≡ 41 → IsLog RECEIPTS after → values_in RECEIPTS after ++ [] ≡ values_in RECEIPTS before ++ adding → IsBank all after []
placed all adding before after bank senders receivers sized log values = record {
  sized = sized;
  log = log;
  kept = ap (λ (m : ℕ → Option ℕ). total m 4 + total (map_of RECEIVERS after) 4) senders ∙ ap (λ (m : ℕ → Option ℕ). total (map_of SENDERS before) 4 + total m 4) receivers ∙ bank.kept;
  receipts = ap (λ (xs : List ℕ). sum xs + 400) values ∙ bank.receipts ∙ sym (ap (λ (m : ℕ → Option ℕ). total m 4) receivers);
}

-- every item is 0
abbrev all_zero : List ℕ → Bool
all_zero [] = true
all_zero (zero ∷ xs) = all_zero xs
all_zero (suc x ∷ xs) = false

zero_at : (xs : List ℕ) (i : ℕ) → all_zero xs ≡ true → get_or xs i 0 ≡ 0
zero_at [] i all = refl
zero_at (zero ∷ xs) zero all = refl
zero_at (zero ∷ xs) (suc i) all = zero_at xs i all
zero_at (suc x ∷ xs) i all = search (rules, all)

zero_from : (n : ℕ) (xs : List ℕ) (i : ℕ) → all_zero (drop n xs) ≡ true → n ≤ i → get_or xs i 0 ≡ 0
zero_from n xs i all low = subst (λ (j : ℕ). get_or xs j 0 ≡ 0) (omega arith) (sym (get_or-drop n xs (i - n) 0) ∙ zero_at (drop n xs) (i - n) all)

-- a log whose words are all 0 has no receipt
pub opens_empty : (xs : List ℕ) → length xs ≡ 41 → all_zero (drop 8 xs) ≡ true → IsLog RECEIPTS xs
opens_empty xs sized all =
    let empty : get_or xs 8 0 ≡ 0 = zero_from 8 xs 8 all (omega arith) in
    record {
      in_table = omega (arith, sized);
      within = omega (arith, empty);
      there = λ i low. absurd (omega (arith, empty, low));
      free = λ i low high. zero_from 8 xs (9 + i) all (omega arith);
    }
