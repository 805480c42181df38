-- What calls leave of a bank, and what a bank says of their replies.
use Rattle.std.proofs.Common.{◌≡◌, ℕ, zero, suc, ◌+◌, ◌-◌, ◌<◌, ◌≤◌, [], ◌∷◌, Option, Some, None, refl, subst, arith, rules}
use Rattle.std.proofs.lemmas.List.Sums.{sum_by_push}
use Rattle.serial_terms.specs.declared.call.Call.TheVariants.{Enqueue}
use Rattle.serial_terms.specs.declared.call.Reply.TheVariants.{Nothing}
use Rattle.serial_terms.specs.Counts.{with_at}
use Rattle.serial_terms.specs.Serial.{outside, found}
use Rattle.serial_terms.specs.Stores.{opening_of}
use Rattle.store_bodies.specs.Bank.{balance, total, IsBank, KeepsBank, OpensAsBank}
use Rattle.store_bodies.specs.Moves.{sender_in, receiver_in, amount_in, looks, calls_of, WasThere}
use Rattle.store_bodies.specs.Attempts.{RunsFromBank}
use Rattle.store_bodies.specs.declared.carry_out.Asked.{Asked}
use Rattle.store_bodies.specs.declared.carry_out.Progress.{Progress}
use Rattle.store_bodies.specs.declared.carry_out.Progress.TheVariants.{NoOrder, Declined, Done as Carried}

-- what an account that is set adds to the sum, and what it took away
total_set : (f : ℕ → Option ℕ) (a v : ℕ) → a < 4 → total (with_at f a (Some v)) + balance (f a) ≡ total f + v
total_set f zero v low = omega arith
total_set f (suc zero) v low = omega arith
total_set f (suc (suc zero)) v low = omega arith
total_set f (suc (suc (suc zero))) v low = omega arith
total_set f (suc (suc (suc (suc a)))) v low = absurd (omega arith)

at_most : (f : ℕ → Option ℕ) (a : ℕ) → a < 4 → balance (f a) ≤ total f
at_most f zero low = omega arith
at_most f (suc zero) low = omega arith
at_most f (suc (suc zero)) low = omega arith
at_most f (suc (suc (suc zero))) low = omega arith
at_most f (suc (suc (suc (suc a)))) low = absurd (omega arith)

balance_found : (x y : Option ℕ) → found x ≡ found y → balance x ≡ balance y
balance_found (Some x) (Some y) same = cc
balance_found (Some x) None same = absurd (cc)
balance_found None (Some y) same = absurd (cc)
balance_found None None same = refl

pub keeps : (p : Progress) → WasThere p → KeepsBank (calls_of p)
keeps NoOrder there s t bank run = subst IsBank run.1 bank
keeps (Declined a) there s t bank run = subst IsBank run.1.1.1 (record { sums = bank.sums; receipts = bank.receipts })
keeps (Carried a) there s t bank run =
    let had = balance_found a.sender (s.maps 0 (sender_in a.order)) run.1.0 in
    let has = balance_found a.receiver (s.maps 1 (receiver_in a.order)) run.1.1.0 in
    let paid = total_set (s.maps 0) (sender_in a.order) (balance a.sender - amount_in a.order) (omega arith) in
    let got = total_set (s.maps 1) (receiver_in a.order) (balance a.receiver + amount_in a.order) (omega arith) in
    let receipt = sum_by_push (λ (x : ℕ). x) (s.logs 0).items (amount_in a.order) in
    let sums = bank.sums in
    let receipts = bank.receipts in
    subst IsBank run.1.1.1.1.1.1 (record { sums = omega (arith, had, paid, has, got, there, sums); receipts = omega (arith, receipt, has, got, receipts) })

pub keeps_order : (order : ℕ) → KeepsBank (outside (Enqueue 0 order) Nothing ∷ [])
keeps_order order s t bank run = subst IsBank run.1 (record { sums = bank.sums; receipts = bank.receipts })

-- no account has more than all have together
pub small : (a : Asked) → RunsFromBank (looks a) → (balance a.sender ≤ 800) × (balance a.receiver ≤ 800)
small a runs =
    let s = runs.state in
    let had = balance_found a.sender (s.maps 0 (sender_in a.order)) runs.run.1.0 in
    let has = balance_found a.receiver (s.maps 1 (receiver_in a.order)) runs.run.1.1.0 in
    let low = at_most (s.maps 0) (sender_in a.order) (omega arith) in
    let high = at_most (s.maps 1) (receiver_in a.order) (omega arith) in
    let sums = runs.bank.sums in
    (omega (arith, had, low, sums), omega (arith, has, high, sums))

pub opens : OpensAsBank
unfolding opening_of
opens = record {
  layout = search rules;
  some = omega arith;
  few = omega arith;
  bank = record { sums = refl; receipts = refl };
}
