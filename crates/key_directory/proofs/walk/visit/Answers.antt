use Rattle.std.proofs.Common.{arith, ◌≡◌, ◌<◌, sym, ◌∙◌, subst}
use Rattle.key_directory.specs.declared.view.Claim.{Claim}
use Rattle.key_directory.specs.declared.view.View.{View}
use Rattle.key_directory.specs.declared.view.Step.TheVariants.{Load}
use Rattle.key_directory.specs.Words.{capacities_of}
use Rattle.key_directory.specs.Moves.{LoadTold, ExchangeTold, with_step}
use Rattle.key_directory.specs.Directory.{IsReached}
use Rattle.key_directory.proofs.Places.{word_inside}
use Rattle.key_directory.proofs.Steps.{loads, exchanges}
use Rattle.key_directory.proofs.Visiting.{after_load, after_free, after_taken, reached_more}
use Rattle.key_directory.proofs.walk.visit.Goals as goal

pub load-found-requires : goal.load-found-requires
load-found-requires g c = let low = word_inside _ _ _ c.requires.word.0 in
    (c.requires.place.0, omega arith, rw c.requires.pick (loads g.K.KeyTest.passes _ _ _ c.requires.word.0 _ _ _ _ c.requires.place.1 c.requires.word.1))

pub returns-then-found-ne0-clause-visited : goal.returns-then-found-ne0-clause-visited
returns-then-found-ne0-clause-visited g c = after_load g.K.KeyTest.passes _ _ _ _ (subst (λ (x : Claim). LoadTold g.K.KeyTest.passes x c.args.place.now.me c.load-found.result c.load-found.new.seat.me) c.requires.pick c.load-found.ensures.2) c.if-found-ne0.true

pub compare_exchange-found-requires : goal.compare_exchange-found-requires
compare_exchange-found-requires g c = let low = word_inside _ _ _ c.requires.word.0 in
    let told : LoadTold g.K.KeyTest.passes c.args.claim c.args.place.now.me c.load-found.result c.load-found.new.seat.me = subst (λ (x : Claim). LoadTold g.K.KeyTest.passes x c.args.place.now.me c.load-found.result c.load-found.new.seat.me) c.requires.pick c.load-found.ensures.2 in
    let free = c.if-found-ne0.false in
    let view : c.load-found.new.seat.me.0 ≡ with_step (Load c.args.claim.region c.args.claim.position c.load-found.result) c.args.place.now.me.0 = told.other (λ e. omega arith) in (
      c.load-found.ensures.0 ∙ c.requires.place.0,
      omega arith,
      rw c.requires.pick (exchanges g.K.KeyTest.passes (capacities_of c.args.words.now.key.regions.items) _ c.args.claim c.requires.word.0 _ _ _ _ (subst (λ (v : View). 0 < v.callers) (sym view) c.requires.place.1) c.requires.word.1 c.requires.allowed
          (subst (λ (v : View). IsReached (capacities_of c.args.words.now.key.regions.items) v.trail c.args.claim) (sym view) (reached_more _ _ _ _ c.requires.reached))),
    )

pub returns-then-found-eq0-clause-visited : goal.returns-then-found-eq0-clause-visited
returns-then-found-eq0-clause-visited g c =
    let first : LoadTold g.K.KeyTest.passes c.args.claim c.args.place.now.me c.load-found.result c.load-found.new.seat.me = subst (λ (x : Claim). LoadTold g.K.KeyTest.passes x c.args.place.now.me c.load-found.result c.load-found.new.seat.me) c.requires.pick c.load-found.ensures.2 in
    let then : ExchangeTold g.K.KeyTest.passes c.args.claim c.load-found.new.seat.me c.compare_exchange-found.result c.compare_exchange-found.new.seat.me = subst (λ (x : Claim). ExchangeTold g.K.KeyTest.passes x c.load-found.new.seat.me c.compare_exchange-found.result c.compare_exchange-found.new.seat.me) c.requires.pick c.compare_exchange-found.ensures.2 in
    after_free g.K.KeyTest.passes _ _ _ _ first _ _ then c.if-found-ne0.false c.if-found-eq0.true

pub returns-else-found-eq0-clause-visited : goal.returns-else-found-eq0-clause-visited
returns-else-found-eq0-clause-visited g c =
    let first : LoadTold g.K.KeyTest.passes c.args.claim c.args.place.now.me c.load-found.result c.load-found.new.seat.me = subst (λ (x : Claim). LoadTold g.K.KeyTest.passes x c.args.place.now.me c.load-found.result c.load-found.new.seat.me) c.requires.pick c.load-found.ensures.2 in
    let then : ExchangeTold g.K.KeyTest.passes c.args.claim c.load-found.new.seat.me c.compare_exchange-found.result c.compare_exchange-found.new.seat.me = subst (λ (x : Claim). ExchangeTold g.K.KeyTest.passes x c.load-found.new.seat.me c.compare_exchange-found.result c.compare_exchange-found.new.seat.me) c.requires.pick c.compare_exchange-found.ensures.2 in
    after_taken g.K.KeyTest.passes _ _ _ _ first _ _ then c.if-found-ne0.false c.if-found-eq0.false
