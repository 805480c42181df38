use Rattle.std.proofs.Common.{ℕ, [], ◌∷◌, subst}
use Rattle.std.specs.Prelude.{Ok, Err}
use Rattle.serial_terms.specs.declared.call.Call.TheVariants.{MapRemove}
use Rattle.serial_terms.specs.declared.call.Reply.TheVariants.{Nothing}
use Rattle.serial_terms.specs.Serial.{outside}
use Rattle.tx_store.specs.Bodies.{Does}
use Rattle.run_bodies.proofs.Outside.{may_call, acts_outside_keyed}
use Rattle.run_bodies.proofs.matching.collecting.remove.Goals as goal

pub map_remove-requires-clause-callable : goal.map_remove-requires-clause-callable
map_remove-requires-clause-callable c = may_call c.args.tx.now c.requires.running

pub returns-in-Ok : goal.returns-in-Ok
returns-in-Ok c =
    subst (λ (key : ℕ). Does c.args.tx.now c.map_remove.new.self (outside (MapRemove c.args.map key) Nothing ∷ [])) c.from.ensures
    (acts_outside_keyed _ _ c.args.map c.from.result 0 c.args.tx.now c.map_remove.new.self (λ (done : Unit {0}). record { call = MapRemove c.args.map c.from.result; reply = Nothing }) (Ok tt) c.requires.running (c.in-Ok.ensures.called.keys.own_number (λ k low. low)).0 c.in-Ok.ensures.called)

pub returns-in-Err : goal.returns-in-Err
returns-in-Err c =
    rw c.of_map.ensures (acts_outside_keyed _ _ c.args.map c.from.result 0 c.args.tx.now c.map_remove.new.self (λ (done : Unit {0}). record { call = MapRemove c.args.map c.from.result; reply = Nothing }) (Err c.in-Err.stop) c.requires.running (c.in-Err.ensures.called.keys.own_number (λ k low. low)).0 c.in-Err.ensures.called)
