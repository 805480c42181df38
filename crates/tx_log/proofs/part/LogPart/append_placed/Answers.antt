use Rattle.std.proofs.Common.{◌≡◌, ◌∷◌, [], sym, ap, arith}
use Rattle.std.proofs.lemmas.List.{length-append, append_assoc}
use Rattle.cell_table.specs.Cells.{after}
use Rattle.tx_core.specs.Tx.{Attempt}
use Rattle.tx_core.specs.Calls.{waiting}
use Rattle.tx_core.specs.Facts.{holds_wider, holds_then, holds_looks}
use Rattle.tx_log.specs.Log.{IsLog, values_in}
use Rattle.tx_log.proofs.Logs.{length-values}
use Rattle.tx_core.specs.OneCell.{holding_keeps}
use Rattle.tx_log.proofs.OneRead.{length_shown}
use Rattle.tx_log.proofs.part.LogPart.append_placed.Goals as goal

pub returns-in-Ok-later-clause-placed : goal.returns-in-Ok-later-clause-placed
returns-in-Ok-later-clause-placed g c cells all log =
    let r = c.in-Ok.ensures in
    let held = c.hold.new.self in
    let kept = holding_keeps c.args.tx.now held c.args.self.now.end r.adds in
    let later = c.in-Ok-later.ensures.ok in
    let writes : c.later.new.self.writes ≡ held.writes = ap (λ (a : Attempt _ _). a.writes) later in
    let seen : c.later.new.self.observations ≡ held.observations = ap (λ (a : Attempt _ _). a.observations) later in
    let there : IsLog c.args.self.now (after cells held.writes) = rw kept.0 log in
    let shared = length_shown c.args.self.now held c.in-Ok.shared cells (c.laid_over_law.ensures.shows _ _ (rw kept.0 r.value)) (rw (← seen) all) there in
    let long = length-values c.args.self.now (after cells held.writes) there in
    let answer = c.with_waiting-place.ensures (omega (arith, there.within, shared)) in
    (rw writes there, (rw (← kept.0, ← kept.1) (omega (arith, answer, shared, long, length-append (values_in c.args.self.now (after cells held.writes)) (waiting c.args.self.now.part held))), rw (writes, kept.0, c.in-Ok-later.ensures.added.changed, kept.1) (sym (append_assoc (values_in c.args.self.now (after cells c.args.tx.now.writes)) (waiting c.args.self.now.part c.args.tx.now) (c.args.value ∷ [])))))

pub returns-in-Ok-later-clause-holds : goal.returns-in-Ok-later-clause-holds
returns-in-Ok-later-clause-holds g c =
    holds_then _ 3 0 c.args.tx.now c.hold.new.self c.later.new.self _ c.in-Ok.ensures.leaves (holds_wider _ _ 0 0 _ _ _ (λ k none. absurd none) (omega arith) (holds_looks _ 0 _ _ _ c.in-Ok-later.ensures.looks))

pub returns-in-Err-later-clause-holds : goal.returns-in-Err-later-clause-holds
returns-in-Err-later-clause-holds g c =
    holds_then _ 3 0 c.args.tx.now c.hold.new.self c.later.new.self _ c.in-Ok.ensures.leaves (holds_wider _ _ 0 0 _ _ _ (λ k none. absurd none) (omega arith) (holds_looks _ 0 _ _ _ c.in-Err-later.ensures.looks))
