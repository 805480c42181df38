use Rattle.std.proofs.Common.{subst}
use Rattle.std.specs.Prelude.{ℕ, [], ◌∷◌, Ok, Err}
use Rattle.serial_terms.specs.declared.call.Call.TheVariants.{MapPut}
use Rattle.serial_terms.specs.declared.call.Reply.TheVariants.{Nothing}
use Rattle.serial_terms.specs.Serial.{in_child}
use Rattle.run_bodies.proofs.ChildCalls.{acts_keyed}
use Rattle.run_bodies.proofs.child.put.Goals as goal
use Rattle.run_bodies.specs.InChild.{DoesInChild}

pub returns-in-Ok : goal.returns-in-Ok
returns-in-Ok g c =
    let is = c.in-Ok.ensures.called in
    subst (λ (k : ℕ). DoesInChild c.args.tx.now c.map_put.new.self (in_child (MapPut c.args.map k c.args.value) Nothing ∷ [])) c.from.ensures
    (acts_keyed _ _ c.args.map c.from.result 0 c.args.tx.now c.map_put.new.self (λ _. record { call = MapPut c.args.map c.from.result c.args.value; reply = Nothing }) (Ok c.in-Ok.field-0)
    c.requires.child c.requires.marked (is.keys.own_number (λ k low. low)).0 is)

pub returns-in-Err : goal.returns-in-Err
returns-in-Err g c =
    let is = c.in-Err.ensures.called in
    rw c.stop_of.ensures (acts_keyed _ _ c.args.map c.from.result 0 c.args.tx.now c.map_put.new.self (λ _. record { call = MapPut c.args.map c.from.result c.args.value; reply = Nothing }) (Err c.in-Err.stop)
    c.requires.child c.requires.marked (is.keys.own_number (λ k low. low)).0 is)
