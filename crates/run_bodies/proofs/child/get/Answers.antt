use Rattle.std.proofs.Common.{subst}
use Rattle.std.specs.Prelude.{ℕ, [], ◌∷◌, Option, Ok, Err}
use Rattle.serial_terms.specs.declared.call.Call.TheVariants.{MapGet}
use Rattle.serial_terms.specs.Serial.{found, in_child}
use Rattle.run_bodies.proofs.ChildCalls.{acts_keyed}
use Rattle.run_bodies.proofs.child.get.Goals as goal
use Rattle.run_bodies.specs.InChild.{DoesInChild}

pub returns-in-Ok : goal.returns-in-Ok
returns-in-Ok g c =
    let is = c.in-Ok.ensures in
    subst (λ (k : ℕ). DoesInChild c.args.tx.now c.map_get.new.self (in_child (MapGet c.args.map k) (found c.in-Ok.there) ∷ [])) c.from.ensures
    (acts_keyed _ _ c.args.map c.from.result 3 c.args.tx.now c.map_get.new.self (λ (there : Option ℕ). record { call = MapGet c.args.map c.from.result; reply = found there }) (Ok c.in-Ok.there)
    c.requires.child c.requires.marked (is.keys.own_number (λ k low. low)).0 is)

pub returns-in-Err : goal.returns-in-Err
returns-in-Err g c =
    let is = c.in-Err.ensures in
    rw c.stop_of.ensures (acts_keyed _ _ c.args.map c.from.result 3 c.args.tx.now c.map_get.new.self (λ (there : Option ℕ). record { call = MapGet c.args.map c.from.result; reply = found there }) (Err c.in-Err.stop)
    c.requires.child c.requires.marked (is.keys.own_number (λ k low. low)).0 is)
