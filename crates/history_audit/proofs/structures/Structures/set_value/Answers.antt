use Rattle.std.proofs.Common.{◌≡◌, ◌∙◌, ℕ, Option, refl, ap, sym, Some, None}
use Rattle.history_audit.proofs.Stated.{value_put}
use Rattle.history_audit.specs.Structures.{state_of}
use Rattle.serial_terms.specs.Serial.{put_map}
use Rattle.history_audit.proofs.structures.Structures.set_value.Goals as goal

pub returns-in_ok-insert-in-Some : goal.returns-in_ok-insert-in-Some
returns-in_ok-insert-in-Some c =
    let put : state_of _ ≡ put_map (state_of c.args.self.now) c.args.map c.args.key (Some c.in-Some.value) = value_put c.args.self.now _ c.args.map c.args.key (Some c.in-Some.value) refl c.in_ok-insert-in-Some.ensures.updates.0 in
    put ∙ ap (λ (v : Option ℕ). put_map (state_of c.args.self.now) c.args.map c.args.key v) (sym c.in-Some.is)

pub returns-in-None : goal.returns-in-None
returns-in-None c = value_put c.args.self.now _ c.args.map c.args.key None refl c.remove.ensures.updates.0 ∙ ap (λ (v : Option ℕ). put_map (state_of c.args.self.now) c.args.map c.args.key v) (sym c.in-None.is)
