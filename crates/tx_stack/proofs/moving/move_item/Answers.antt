use Rattle.std.proofs.Common.{ℕ, subst}
use Rattle.std.specs.Prelude.{Bool, Option, Ok}
use Rattle.tx_stack.specs.Calls.{IsCalledOn}
use Rattle.tx_stack.specs.Stacks.{shows, pushes, IsItemOf, IsPutOn}
use Rattle.tx_stack.proofs.MoveSteps.{stopped_put, no_room, stopped_last, moved}
use Rattle.tx_stack.proofs.moving.move_item.Goals as goal

pub returns-in_err-added : goal.returns-in_err-added
returns-in_err-added c =
    let old = c.args.tx.now in
    let from = c.args.from.now in
    let stop = c.from_residual-in_err-added in
    let top = subst (λ (item : Option ℕ). IsCalledOn old c.top.new.tx from shows (IsItemOf from.capacity) (Ok item)) c.in-Some.is c.in_ok-value.ensures.called in
    stopped_put from c.args.to.now old c.top.new.tx c.push.new.tx c.in-Some.value top stop.result c.in_err-added.field-0.0 stop.ensures.1 c.in_err-added.ensures.called

pub returns : goal.returns
returns c =
    let old = c.args.tx.now in
    let from = c.args.from.now in
    let to = c.args.to.now in
    let top = subst (λ (item : Option ℕ). IsCalledOn old c.top.new.tx from shows (IsItemOf from.capacity) (Ok item)) c.in-Some.is c.in_ok-value.ensures.called in
    let put = subst (λ (added : Bool). IsCalledOn c.top.new.tx c.push.new.tx to (pushes c.in-Some.value) (IsPutOn to.capacity) (Ok added)) c.if-added.false c.in_ok-added.ensures.called in
    no_room from to old c.top.new.tx c.push.new.tx c.in-Some.value top put

pub returns-in_err-pop : goal.returns-in_err-pop
returns-in_err-pop c =
    let old = c.args.tx.now in
    let from = c.args.from.now in
    let to = c.args.to.now in
    let stop = c.from_residual-in_err-pop in
    let top = subst (λ (item : Option ℕ). IsCalledOn old c.top.new.tx from shows (IsItemOf from.capacity) (Ok item)) c.in-Some.is c.in_ok-value.ensures.called in
    let put = subst (λ (added : Bool). IsCalledOn c.top.new.tx c.push.new.tx to (pushes c.in-Some.value) (IsPutOn to.capacity) (Ok added)) c.if-added.true c.in_ok-added.ensures.called in
    stopped_last from to old c.top.new.tx c.push.new.tx c.in-Some.value top put c.pop.new.tx stop.result c.in_err-pop.field-0.0 stop.ensures.1 c.in_err-pop.ensures.called

pub returns-then-added : goal.returns-then-added
returns-then-added c =
    let old = c.args.tx.now in
    let from = c.args.from.now in
    let to = c.args.to.now in
    let top = subst (λ (item : Option ℕ). IsCalledOn old c.top.new.tx from shows (IsItemOf from.capacity) (Ok item)) c.in-Some.is c.in_ok-value.ensures.called in
    let put = subst (λ (added : Bool). IsCalledOn c.top.new.tx c.push.new.tx to (pushes c.in-Some.value) (IsPutOn to.capacity) (Ok added)) c.if-added.true c.in_ok-added.ensures.called in
    moved from to old c.top.new.tx c.push.new.tx c.in-Some.value top put c.pop.new.tx c.in_ok-pop.field-0 c.in_ok-pop.ensures.called
