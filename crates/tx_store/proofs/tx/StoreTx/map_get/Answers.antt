use Rattle.std.proofs.Common.{refl, ap, ◌∙◌}
use Rattle.std.specs.Prelude.{Err}
use Rattle.serial_terms.specs.declared.call.Call.TheVariants.{MapGet}
use Rattle.serial_terms.specs.Serial.{found}
use Rattle.key_directory.specs.Directory.{PassView, DirectoryView}
use Rattle.tx_store.proofs.KeyPairing.{paired_claimed, paired_full, claimed_now}
use Rattle.tx_store.proofs.MapCalls.{key_called, key_stopped, key_refused, may_name, as_seen}
use Rattle.tx_store.proofs.Pairing.{paired_call, told}
use Rattle.tx_store.proofs.tx.StoreTx.map_get.Goals as goal
use Rattle.tx_store.proofs.tx.StoreTx.map_get.Goals.{in-Ok-get_key, in-Err-get_key}

pub get_key-requires-clause-name : goal.get_key-requires-clause-name
get_key-requires-clause-name g c = may_name g.P.Keys.KeyTest.passes c.args.key c.map_of-part.result _ _ c.in-Ok.position c.in-Ok.ensures.keys c.in-Ok.ensures.position.0

pub returns-in-Err : goal.returns-in-Err
returns-in-Err g c =
    let s = c.plan-plan.result.now in let m = c.args.map in let key = c.args.key in
    as_seen g.P.Keys.KeyTest.passes m key 3 _ c.args.self.now _ (λ there. record { call = MapGet m key; reply = found there }) (Err c.in-Err.full) s c.self.view_is c.plan-plan.ensures.plan
    (key_refused g.P.Keys.KeyTest.passes s m key 3 c.map_of-part.result c.map_of-part.ensures.part _ _ (λ there. record { call = MapGet m key; reply = found there }) refl c.in-Err.full c.in-Err.ensures.never_stopped c.in-Err.ensures.keys (ap (λ (d : DirectoryView). d.capacities) c.self.invariant.1 ∙ c.plan-plan.ensures.regions) refl)

pub returns : goal.returns
returns g c =
    let s = c.plan-plan.result.now in let m = c.args.map in let key = c.args.key in let at = c.in-Ok.position in let e = c.in-Ok.ensures in
    elim c.match-get_key.branch [
      | in-Ok-get_key w ↦ rw w.result-is (as_seen g.P.Keys.KeyTest.passes m key 3 _ c.args.self.now _ (λ there. record { call = MapGet m key; reply = found there }) _ s c.self.view_is c.plan-plan.ensures.plan
          (key_called g.P.Keys.KeyTest.passes s m key 3 c.map_of-part.result c.map_of-part.ensures.part _ _ (λ there. record { call = MapGet m key; reply = found there }) refl at e.keys e.position.0 w.in-Ok-get_key.there w.in-Ok-get_key.ensures.made w.in-Ok-get_key.ensures.looks))
      | in-Err-get_key w ↦ rw w.result-is (as_seen g.P.Keys.KeyTest.passes m key 3 _ c.args.self.now _ (λ there. record { call = MapGet m key; reply = found there }) _ s c.self.view_is c.plan-plan.ensures.plan
          (key_stopped g.P.Keys.KeyTest.passes s m key 3 c.map_of-part.result c.map_of-part.ensures.part _ _ (λ there. record { call = MapGet m key; reply = found there }) refl at e.keys e.position.0 w.in-Err-get_key.stop w.in-Err-get_key.ensures.made w.in-Err-get_key.ensures.looks))
    ]

pub invariant_of-self : goal.invariant_of-self
invariant_of-self g c =
    let e = c.in-Err.ensures in (
      c.self.invariant.0,
      ap (λ (k : PassView). k.directory) e.keys.pass ∙ c.self.invariant.1,
      c.self.invariant.2,
      paired_full c.self.inside.tx g.P.Keys.KeyTest.passes c.args.key c.map_of-part.result c.self.inside.keys c.position_of.new.keys c.in-Err.full e.never_stopped e.keys c.self.invariant.3,
    )

pub invariant_of-self-2 : goal.invariant_of-self-2
invariant_of-self-2 g c =
    let e = c.in-Ok.ensures in let made = c.get_key.ensures.made in let at = c.in-Ok.position in let part = c.map_of-part.result in (
      made.keeps.table ∙ c.self.invariant.0,
      ap (λ (k : PassView). k.directory) e.keys.pass ∙ c.self.invariant.1,
      told g.P.Keys.KeyTest.passes _ _ c.plan-plan.ensures.plan c.self.inside.tx c.get_key.new.tx made.keeps.tells c.self.invariant.2,
      paired_call c.position_of.new.keys _ _ c.self.inside.tx c.get_key.new.tx _ _ _ made.holds made.notes
          (λ x. claimed_now c.plan-plan.result.now c.args.map g.P.Keys.KeyTest.passes c.args.key part c.self.inside.keys c.position_of.new.keys at c.map_of-part.ensures.part e.keys e.position.0)
          (paired_claimed c.self.inside.tx g.P.Keys.KeyTest.passes c.args.key part c.self.inside.keys c.position_of.new.keys at e.keys c.self.invariant.3),
    )
