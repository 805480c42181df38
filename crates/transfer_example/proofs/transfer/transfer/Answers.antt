use Rattle.std.proofs.Common.{◌≡◌, ◌+◌, ◌-◌, ℕ, List, [], ◌∷◌, length, Option, Some, ap, subst, sym, arith, ◌∙◌}
use Rattle.cell_table.specs.Cells.{AllHold, after}
use Rattle.attempt_lists.specs.Cells.{Entries}
use Rattle.serial_terms.specs.Counts.{with_at}
use Rattle.tx_core.specs.Tx.{Attempt}
use Rattle.tx_core.specs.Words.{length_after}
use Rattle.tx_map.specs.Map.{map_of}
use Rattle.tx_log.specs.Log.{IsLog, values_in}
use Rattle.transfer_example.specs.Bank.{IsBank}
use Rattle.transfer_example.specs.declared.bank.TheConstants.{SENDERS, RECEIVERS, RECEIPTS}
use Rattle.transfer_example.proofs.Banks.{moved}
use Rattle.transfer_example.proofs.transfer.transfer.Goals as goal

pub returns-clause-keeps : goal.returns-clause-keeps
returns-clause-keeps c all cells bank holds =
    let p = c.args.order.sender in
    let q = c.args.order.receiver in
    let a = c.from-amount.result in
    let x = c.in-Some-Some.sender in
    let y = c.in-Some-Some.receiver in
    let ws = c.balance-2.new.tx.writes in
    let us = c.set_balance.new.tx.writes in
    let vs = c.set_balance-2.new.tx.writes in
    let last = c.in_ok-append.ensures.ok in
    let h3 : AllHold cells c.set_balance-2.new.tx.observations = subst (AllHold cells) (ap (λ (t : Attempt _ _). t.observations) last) holds in
    let h2 : AllHold cells c.set_balance.new.tx.observations = subst (AllHold cells) c.in_ok-set_balance-2.ensures.goes_on.2 h3 in
    let h1 : AllHold cells c.balance-2.new.tx.observations = subst (AllHold cells) c.in_ok-set_balance.ensures.goes_on.2 h2 in
    let h0 : AllHold cells c.balance.new.tx.observations = c.in_ok-sent_to.ensures.earlier cells h1 in
    let none : c.args.tx.now.writes ≡ [] = c.requires.fresh.1 in
    let none1 : c.balance.new.tx.writes ≡ [] = c.in_ok-sent_from.ensures.goes_on.2 ∙ none in
    let none2 : ws ≡ [] = c.in_ok-sent_to.ensures.goes_on.2 ∙ none1 in
    let sized : (zs : Entries) → length (after cells zs) ≡ 41 = λ zs. length_after zs cells ∙ bank.sized in
    let sender : map_of SENDERS cells p ≡ Some x = subst (λ (zs : Entries). map_of SENDERS (after cells zs) p ≡ Some x) none (sym (c.in_ok-sent_from.ensures.found cells h0 (omega (arith, sized c.args.tx.now.writes))) ∙ c.in-Some-Some.is-0) in
    let receiver : map_of RECEIVERS cells q ≡ Some y = subst (λ (zs : Entries). map_of RECEIVERS (after cells zs) q ≡ Some y) none1 (sym (c.in_ok-sent_to.ensures.found cells h1 (omega (arith, sized c.balance.new.tx.writes))) ∙ c.in-Some-Some.is-1) in
    let o1 = c.in_ok-set_balance.ensures.others cells in
    let o2 = c.in_ok-set_balance-2.ensures.others cells in
    let start : after cells ws ≡ cells = ap (after cells) none2 in
    let s1 = c.in_ok-set_balance.ensures.set cells h2 (omega (arith, sized ws)) in
    let s2 = c.same_cells_law.ensures.same (after cells vs) (after cells us) (record { sized = sized vs ∙ sym (sized us); words = λ k of. o2 k (λ same. omega (arith, same, of)) }) in
    let r1 = c.same_cells_law-2.ensures.same (after cells us) (after cells ws) (record { sized = sized us ∙ sym (sized ws); words = λ k of. o1 k (λ same. omega (arith, same, of, c.requires.order)) }) in
    let r2 = c.in_ok-set_balance-2.ensures.set cells h3 (omega (arith, sized us)) in
    let log = c.same_cells_law-3.ensures (after cells ws) (after cells vs) (sized vs ∙ sym (sized ws)) (λ k of. o2 k (λ same. omega (arith, same, of, c.requires.order)) ∙ o1 k (λ same. omega (arith, same, of, c.requires.order))) in
    subst (λ (zs : Entries). IsBank all (after cells zs) (c.args.order.amount ∷ [])) (sym (ap (λ (t : Attempt _ _). t.writes) last))
    (subst (λ (n : ℕ). IsBank all (after cells vs) (n ∷ [])) c.from-amount.ensures (moved all p q x y a cells (after cells vs) c.requires.order.0 c.requires.order.1 (omega (arith, c.if-sender-amount.false)) bank sender receiver
    (s2 ∙ s1 ∙ ap (λ (z : List ℕ). with_at (map_of SENDERS z) p (Some (x - a))) start)
    (r2 ∙ ap (λ (m : ℕ → Option ℕ). with_at m q (Some (y + a))) (r1 ∙ ap (map_of RECEIVERS) start))
    (sized vs)
    (subst (λ (z : List ℕ). IsLog RECEIPTS (after cells vs) × (values_in RECEIPTS (after cells vs) ≡ values_in RECEIPTS z)) start (log (subst (IsLog RECEIPTS) (sym start) bank.log)))))
