use Rattle.std.proofs.Common.{ℕ, [], ◌∷◌, subst}
use Rattle.std.specs.Prelude.{Option, Ok, Err}
use Rattle.serial_terms.specs.declared.call.Call.TheVariants.{MapGet}
use Rattle.serial_terms.specs.Serial.{outside, found}
use Rattle.tx_store.specs.Bodies.{Does}
use Rattle.run_bodies.proofs.Outside.{may_call, acts_outside_keyed}
use Rattle.run_bodies.proofs.matching.collecting.get.Goals as goal

pub map_get-requires-clause-callable : goal.map_get-requires-clause-callable
map_get-requires-clause-callable c = may_call c.args.tx.now c.requires.running

pub returns-in-Ok : goal.returns-in-Ok
returns-in-Ok c =
    subst (λ (key : ℕ). Does c.args.tx.now c.map_get.new.self (outside (MapGet c.args.map key) (found c.in-Ok.value) ∷ [])) c.from.ensures
    (acts_outside_keyed _ _ c.args.map c.from.result 3 c.args.tx.now c.map_get.new.self (λ (there : Option ℕ). record { call = MapGet c.args.map c.from.result; reply = found there }) (Ok c.in-Ok.value) c.requires.running (c.in-Ok.ensures.keys.own_number (λ k low. low)).0 c.in-Ok.ensures)

pub returns-in-Err : goal.returns-in-Err
returns-in-Err c =
    rw c.of_map.ensures (acts_outside_keyed _ _ c.args.map c.from.result 3 c.args.tx.now c.map_get.new.self (λ (there : Option ℕ). record { call = MapGet c.args.map c.from.result; reply = found there }) (Err c.in-Err.stop) c.requires.running (c.in-Err.ensures.keys.own_number (λ k low. low)).0 c.in-Err.ensures)
