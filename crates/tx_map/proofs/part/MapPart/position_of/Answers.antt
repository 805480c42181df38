use Rattle.std.proofs.Common.{ℕ, ◌<◌, Result, Ok, Err, ap, refl, subst}
use Rattle.tx_map.proofs.Claiming.{claims_ok, claims_full, is_position}
use Rattle.tx_map.proofs.part.MapPart.position_of.Goals as goal

abbrev number_in : {E : Type 0} → Result ℕ E → ℕ → ℕ
number_in (Ok n) m = n
number_in (Err e) m = m

pub returns-in-Ok-clause-keys : goal.returns-in-Ok-clause-keys
returns-in-Ok-clause-keys g c = let e = c.in-Ok.ensures in
    claims_ok c.args.self.now g.K.KeyTest.passes c.args.key c.args.keys.now c.claim-claimed.new.pass c.args.directory.now c.requires.directory c.requires.region e.same_pass e.trail c.claims_stand_law.ensures.positions c.claims_stand_law-2.ensures.positions
    (Ok c.in-Ok.position) e.steps c.in-Ok.position e.position e.claimed c.in-Ok.position e.full.1 (λ only. ap (λ (r : Result ℕ _). number_in r 0) (e.own_number only))

pub returns-in-Ok-clause-position : goal.returns-in-Ok-clause-position
returns-in-Ok-clause-position g c = let e = c.in-Ok.ensures in (
  is_position c.args.self.now g.K.KeyTest.passes c.args.key c.args.keys.now c.claim-claimed.new.pass c.args.directory.now c.requires.directory c.requires.region e.same_pass e.trail c.claims_stand_law.ensures.positions c.claims_stand_law-2.ensures.positions
      (Ok c.in-Ok.position) e.steps c.in-Ok.position e.position e.claimed,
  subst (λ (n : ℕ). c.in-Ok.position < n) c.requires.region.1 e.position,
)

pub returns-in-Err-clause-keys : goal.returns-in-Err-clause-keys
returns-in-Err-clause-keys g c = let e = c.in-Err.ensures in
    claims_full c.args.self.now g.K.KeyTest.passes c.args.key c.args.keys.now c.claim-claimed.new.pass c.args.directory.now c.requires.directory c.requires.region e.same_pass e.trail c.claims_stand_law.ensures.positions c.claims_stand_law-2.ensures.positions
    (Err c.in-Err.full) e.steps c.in-Err.full.capacity e.err e.capacity (e.full.0 refl) (λ only. absurd (cc (e.own_number only)))
