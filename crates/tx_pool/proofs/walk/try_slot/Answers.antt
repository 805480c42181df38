use Rattle.std.proofs.Common.{refl, ap, sym, subst, rules, arith}
use Rattle.tx_core.specs.Tx.{Attempt}
use Rattle.tx_core.specs.Facts.{steps_wider, steps_trans}
use Rattle.tx_pool.specs.declared.walk.Tried.TheVariants as tried
use Rattle.tx_pool.specs.Walk.{IsFit, HasWord}
use Rattle.tx_pool.specs.Steps.{LooksOn, Tells}
use Rattle.tx_pool.proofs.Trying.{looks_on_by, ok_same, peeked, tells_since, looked_since, holds_cell, same_word}
use Rattle.tx_pool.proofs.walk.try_slot.Goals as goal

pub returns-in-Ok-try_hold-clause-tells : goal.returns-in-Ok-try_hold-clause-tells
returns-in-Ok-try_hold-clause-tells g c =
    let o = c.in-Ok.ensures in
    let t = c.in-Ok-try_hold.ensures in
    let looks : LooksOn c.args.tx.now c.peek.new.self = looks_on_by _ _ o.same o.pass in
    let h = holds_cell c.peek.new.self c.try_hold.new.self c.args.cell c.in-Ok-try_hold.found t.held t.value t.adds t.pass t.does.touches in
    let before : HasWord c.args.tx.now c.peek.new.self.pass c.args.cell c.in-Ok.word = peeked c.args.tx.now c.peek.new.self.pass c.args.cell c.in-Ok.word (λ x is. ok_same c.in-Ok.word x _ refl (o.own x is).0) o.stands in
    let same = same_word c.peek.new.self c.try_hold.new.self c.args.cell c.in-Ok.word c.in-Ok-try_hold.found (ap (λ (s : Attempt _ _). s.version) h.is) h.pass.grows c.agreed_law.ensures.seen c.agreed_law.ensures.one h.known (subst (λ (s : Attempt _ _). HasWord s c.peek.new.self.pass c.args.cell c.in-Ok.word) (sym o.same) before) in
    let fit : IsFit c.args.wanted c.in-Ok.word = search rules in
    tells_since c.args.wanted c.args.tx.now c.peek.new.self c.try_hold.new.self c.args.cell 3 (tried.Holds c.in-Ok-try_hold.found) looks o.does.steps tt (h, subst (IsFit c.args.wanted) same fit)

pub returns-in-Ok-try_hold-clause-looked : goal.returns-in-Ok-try_hold-clause-looked
returns-in-Ok-try_hold-clause-looked g c unwritten unobserved = looked_since c.peek.new.self c.try_hold.new.self 3 c.args.cell (c.in-Ok.ensures.looked unwritten unobserved) c.in-Ok-try_hold.ensures.does.steps

pub returns-in-Err-Memory-clause-tells : goal.returns-in-Err-Memory-clause-tells
returns-in-Err-Memory-clause-tells g c =
    let here : Tells c.args.wanted c.peek.new.self c.try_hold.new.self c.args.cell tried.Memory = search rules in
    tells_since c.args.wanted c.args.tx.now c.peek.new.self c.try_hold.new.self c.args.cell 3 tried.Memory (looks_on_by _ _ c.in-Ok.ensures.same c.in-Ok.ensures.pass) c.in-Ok.ensures.does.steps tt here

pub returns-in-Err-Memory-clause-looked : goal.returns-in-Err-Memory-clause-looked
returns-in-Err-Memory-clause-looked g c unwritten unobserved = looked_since c.peek.new.self c.try_hold.new.self 3 c.args.cell (c.in-Ok.ensures.looked unwritten unobserved) c.try_hold.ensures.does.steps

pub returns-in-Err-try_hold-clause-tells : goal.returns-in-Err-try_hold-clause-tells
returns-in-Err-try_hold-clause-tells g c =
    let here : Tells c.args.wanted c.peek.new.self c.try_hold.new.self c.args.cell (tried.Stopped c.in-Err-try_hold.stop) = search rules in
    tells_since c.args.wanted c.args.tx.now c.peek.new.self c.try_hold.new.self c.args.cell 3 (tried.Stopped c.in-Err-try_hold.stop) (looks_on_by _ _ c.in-Ok.ensures.same c.in-Ok.ensures.pass) c.in-Ok.ensures.does.steps tt here

pub returns-in-Err-try_hold-clause-looked : goal.returns-in-Err-try_hold-clause-looked
returns-in-Err-try_hold-clause-looked g c unwritten unobserved = looked_since c.peek.new.self c.try_hold.new.self 3 c.args.cell (c.in-Ok.ensures.looked unwritten unobserved) c.try_hold.ensures.does.steps

pub returns-in-Ok-try_hold-clause-does : goal.returns-in-Ok-try_hold-clause-does
returns-in-Ok-try_hold-clause-does g c = steps_trans _ 3 3 c.args.tx.now c.peek.new.self c.try_hold.new.self (steps_wider _ _ 3 3 _ _ (λ d none. absurd none) (omega arith) c.in-Ok.ensures.does) c.in-Ok-try_hold.ensures.does

pub returns-in-Err-Memory-clause-does : goal.returns-in-Err-Memory-clause-does
returns-in-Err-Memory-clause-does g c = steps_trans _ 3 3 c.args.tx.now c.peek.new.self c.try_hold.new.self (steps_wider _ _ 3 3 _ _ (λ d none. absurd none) (omega arith) c.in-Ok.ensures.does) c.try_hold.ensures.does

pub returns-in-Err-try_hold-clause-does : goal.returns-in-Err-try_hold-clause-does
returns-in-Err-try_hold-clause-does g c = steps_trans _ 3 3 c.args.tx.now c.peek.new.self c.try_hold.new.self (steps_wider _ _ 3 3 _ _ (λ d none. absurd none) (omega arith) c.in-Ok.ensures.does) c.try_hold.ensures.does

pub returns-in-Err-clause-does : goal.returns-in-Err-clause-does
returns-in-Err-clause-does g c = steps_wider _ _ 3 6 _ _ (λ d none. absurd none) (omega arith) c.in-Err.ensures.does
