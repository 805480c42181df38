use Rattle.std.proofs.Common.{◌≡◌, ◌<◌, ℕ, List, [], ◌∷◌, ◌++◌, ap, subst, sym, arith, ◌∙◌, inl, inr}
use Rattle.cell_table.specs.Cells.{AllHold, after}
use Rattle.attempt_lists.specs.Cells.{Entries}
use Rattle.tx_core.specs.Tx.{Attempt}
use Rattle.tx_core.specs.Sequences.{IsPlace}
use Rattle.tx_core.specs.Words.{length_after}
use Rattle.tx_core.specs.Calls.{waiting}
use Rattle.tx_map.specs.Facts.{same_after}
use Rattle.tx_log.specs.Log.{values_in, sequence_of}
use Rattle.transfer_example.specs.Bank.{IsBank, Keeps}
use Rattle.transfer_example.specs.declared.bank.TheConstants.{SENDERS, RECEIVERS, RECEIPTS}
use Rattle.transfer_example.proofs.Banks.{placed}
use Rattle.transfer_example.proofs.transfer.prepare.Goals as goal

-- the cells of accounts are none of those that the log's placing touches
below_log : {M D : Type 0} (old new : Attempt M D) (c : ℕ) → c < 8 → IsPlace (sequence_of RECEIPTS) old new c → ⊥
below_log old new c low (inl is) = omega (arith, is, low)
below_log old new c low (inr from) = omega (arith, from.4, low)

pub returns-clause-keeps : goal.returns-clause-keeps
returns-clause-keeps c all cells bank holds =
    let old = c.lock_writes.new.self in
    let new = c.resolve.new.tx in
    let touches = c.resolve.ensures.leaves.does.touches in
    let last = c.in_ok-draw_and_check.ensures.same in
    let there : AllHold cells new.observations = subst (AllHold cells) (ap (λ (a : Attempt _ _). a.observations) last) holds in
    let before : AllHold cells old.observations = c.laid_over_law.ensures.earlier cells touches.observed.0 (subst (AllHold cells) touches.observed.1 there) in
    let locked = c.in_ok-lock_writes.ensures.same in
    let kept : Keeps all (c.args.amount ∷ []) old.observations old.writes = rw (ap (λ (a : Attempt _ _). a.observations) locked, ap (λ (a : Attempt _ _). a.writes) locked) (c.requires.keeps all) in
    let bank_then = kept cells bank before in
    let added : waiting 0 old ≡ c.args.amount ∷ [] = ap (λ (a : Attempt _ _). waiting 0 a) locked ∙ c.requires.receipt.1 in
    let log = c.in_ok-resolve.ensures.placed cells there bank_then.log in
    let values : values_in RECEIPTS (after cells new.writes) ++ [] ≡ values_in RECEIPTS (after cells old.writes) ++ c.args.amount ∷ [] =
    sym (ap (λ (w : List ℕ). values_in RECEIPTS (after cells new.writes) ++ w) c.in_ok-resolve.ensures.settled.emptied) ∙ log.1.0 ∙ ap (λ (w : List ℕ). values_in RECEIPTS (after cells old.writes) ++ w) added in
    let senders = c.same_cells_law.ensures.same _ _ (same_after SENDERS (IsPlace (sequence_of RECEIPTS) old new) old new touches (λ k of. below_log old new k (omega (arith, of))) cells) in
    let receivers = c.same_cells_law-2.ensures.same _ _ (same_after RECEIVERS (IsPlace (sequence_of RECEIPTS) old new) old new touches (λ k of. below_log old new k (omega (arith, of))) cells) in
    subst (λ (zs : Entries). IsBank all (after cells zs) []) (sym (ap (λ (a : Attempt _ _). a.writes) last))
    (placed all (c.args.amount ∷ []) (after cells old.writes) (after cells new.writes) bank_then senders receivers (length_after new.writes cells ∙ bank.sized) log.0 values)
