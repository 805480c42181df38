use Rattle.std.proofs.Common.{refl, ap, ◌∙◌}
use Rattle.std.specs.Prelude.{Err}
use Rattle.serial_terms.specs.declared.call.Call.TheVariants.{MapPut}
use Rattle.serial_terms.specs.declared.call.Reply.TheVariants.{Nothing}
use Rattle.tx_core.specs.declared.stop.Stop.TheVariants.{Memory}
use Rattle.key_directory.specs.Directory.{PassView, DirectoryView}
use Rattle.tx_store.proofs.KeyPairing.{paired_claimed, paired_full, claimed_now}
use Rattle.tx_store.proofs.MapCalls.{key_called, key_stopped, key_refused, may_name, refused_blind, as_seen}
use Rattle.tx_store.proofs.Pairing.{paired_call, told}
use Rattle.tx_store.proofs.tx.StoreTx.map_put.Goals as goal
use Rattle.tx_store.proofs.tx.StoreTx.map_put.Goals.{in-Ok-put_key, in-Err-put_key}

pub put_key-requires-clause-name : goal.put_key-requires-clause-name
put_key-requires-clause-name g c = may_name g.P.Keys.KeyTest.passes c.args.key c.map_of-part.result _ _ c.in-Ok.position c.in-Ok.ensures.keys c.in-Ok.ensures.position.0

pub returns-in-Err-clause-called : goal.returns-in-Err-clause-called
returns-in-Err-clause-called g c =
    let s = c.plan-plan.result.now in let m = c.args.map in let key = c.args.key in
    as_seen g.P.Keys.KeyTest.passes m key 0 _ c.args.self.now _ (λ _. record { call = MapPut m key c.args.value; reply = Nothing }) (Err c.in-Err.full) s c.self.view_is c.plan-plan.ensures.plan
    (key_refused g.P.Keys.KeyTest.passes s m key 0 c.map_of-part.result c.map_of-part.ensures.part _ _ (λ _. record { call = MapPut m key c.args.value; reply = Nothing }) refl c.in-Err.full c.in-Err.ensures.never_stopped c.in-Err.ensures.keys (ap (λ (d : DirectoryView). d.capacities) c.self.invariant.1 ∙ c.plan-plan.ensures.regions) refl)

pub returns-clause-called : goal.returns-clause-called
returns-clause-called g c =
    let s = c.plan-plan.result.now in let m = c.args.map in let key = c.args.key in let at = c.in-Ok.position in let e = c.in-Ok.ensures in
    elim c.match-put_key.branch [
      | in-Ok-put_key w ↦ rw w.result-is (as_seen g.P.Keys.KeyTest.passes m key 0 _ c.args.self.now _ (λ _. record { call = MapPut m key c.args.value; reply = Nothing }) _ s c.self.view_is c.plan-plan.ensures.plan
          (key_called g.P.Keys.KeyTest.passes s m key 0 c.map_of-part.result c.map_of-part.ensures.part _ _ (λ _. record { call = MapPut m key c.args.value; reply = Nothing }) refl at e.keys e.position.0 tt w.in-Ok-put_key.ensures.made w.in-Ok-put_key.ensures.looks))
      | in-Err-put_key w ↦ rw w.result-is (as_seen g.P.Keys.KeyTest.passes m key 0 _ c.args.self.now _ (λ _. record { call = MapPut m key c.args.value; reply = Nothing }) _ s c.self.view_is c.plan-plan.ensures.plan
          (key_stopped g.P.Keys.KeyTest.passes s m key 0 c.map_of-part.result c.map_of-part.ensures.part _ _ (λ _. record { call = MapPut m key c.args.value; reply = Nothing }) refl at e.keys e.position.0 Memory w.in-Err-put_key.ensures.made w.in-Err-put_key.ensures.looks))
    ]

pub returns-in-Err-clause-blind : goal.returns-in-Err-clause-blind
returns-in-Err-clause-blind g c = refused_blind (Unit {0}) c.in-Err.full c.in-Err.ensures.never_stopped

pub returns-clause-blind : goal.returns-clause-blind
returns-clause-blind g c = elim c.match-put_key.branch [
  | in-Ok-put_key w ↦ rw w.result-is tt
  | in-Err-put_key w ↦ rw w.result-is refl
]

pub invariant_of-self : goal.invariant_of-self
invariant_of-self g c =
    let e = c.in-Err.ensures in (
      c.self.invariant.0,
      ap (λ (k : PassView). k.directory) e.keys.pass ∙ c.self.invariant.1,
      c.self.invariant.2,
      paired_full c.self.inside.tx g.P.Keys.KeyTest.passes c.args.key c.map_of-part.result c.self.inside.keys c.position_of.new.keys c.in-Err.full e.never_stopped e.keys c.self.invariant.3,
    )

pub invariant_of-self-2 : goal.invariant_of-self-2
invariant_of-self-2 g c =
    let e = c.in-Ok.ensures in let made = c.put_key.ensures.made in let at = c.in-Ok.position in let part = c.map_of-part.result in (
      made.keeps.table ∙ c.self.invariant.0,
      ap (λ (k : PassView). k.directory) e.keys.pass ∙ c.self.invariant.1,
      told g.P.Keys.KeyTest.passes _ _ c.plan-plan.ensures.plan c.self.inside.tx c.put_key.new.tx made.keeps.tells c.self.invariant.2,
      paired_call c.position_of.new.keys _ _ c.self.inside.tx c.put_key.new.tx _ _ _ made.holds made.notes
          (λ x. claimed_now c.plan-plan.result.now c.args.map g.P.Keys.KeyTest.passes c.args.key part c.self.inside.keys c.position_of.new.keys at c.map_of-part.ensures.part e.keys e.position.0)
          (paired_claimed c.self.inside.tx g.P.Keys.KeyTest.passes c.args.key part c.self.inside.keys c.position_of.new.keys at e.keys c.self.invariant.3),
    )
