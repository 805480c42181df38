use Rattle.std.proofs.Common.{arith, ◌≡◌, ℕ, suc, true, false, ◌+◌, ◌%◌, Some, sym, ap, ◌∙◌, subst, Bool}
use Rattle.std.proofs.Math.Nat.{mod-add-mod}
use Rattle.key_directory.specs.Words.{capacities_of, walk}
use Rattle.key_directory.specs.Directory.{claim_of}
use Rattle.key_directory.specs.Visits.{Passed, Visited, Walked}
use Rattle.key_directory.proofs.Places.{start_end}
use Rattle.key_directory.proofs.Walking.{passed_more, passed_reached, walk_ends, walk_fails}
use Rattle.key_directory.proofs.walk.find_place.Goals as goal

counted_on : (m k n first position : ℕ) → first ≡ k % m → position ≡ (first + n) % m → position ≡ walk m k n
counted_on m k n first position e f = f ∙ (ap (λ (z : ℕ). (z + n) % m) e ∙ mod-add-mod k m n)

pub overflow_add-start : goal.overflow_add-start
overflow_add-start g c = let e = start_end 1 (capacities_of c.args.words.now.key.regions.items) c.args.number c.requires.region.0 in omega arith

pub visit-requires-clause-reached : goal.visit-requires-clause-reached
visit-requires-clause-reached g c = let at = counted_on c.args.region.capacity c.args.key c.loop-tries.tries c.first_position-first.result _ c.first_position-first.ensures c.wrapped-position.ensures in
    passed_reached c.args.number c.args.region.capacity c.args.key _ c.loop-tries.tries _ c.args.place.now.me.0 c.loop-tries.place.me.0 c.requires.region.2 c.loop-tries-test.true at c.loop-tries.invariant.passed

pub returns-then-visit-clause-walked : goal.returns-then-visit-clause-walked
returns-then-visit-clause-walked g c = let r : ℕ = c.args.number in let m : ℕ = c.args.region.capacity in let k : ℕ = c.args.key in let n : ℕ = c.loop-tries.tries in
    let at : c.wrapped-position.result ≡ walk m k n = counted_on m k n c.first_position-first.result _ c.first_position-first.ensures c.wrapped-position.ensures in
    let visited : Visited (claim_of r k (walk m k n)) true c.loop-tries.place.me.0 c.visit.new.place.me.0 = subst (λ (z : ℕ × Bool). Visited (claim_of r k z.0) z.1 c.loop-tries.place.me.0 c.visit.new.place.me.0) (λ i. (at i, c.if-visit.true i)) c.visit.ensures.visited in
    subst (λ (z : ℕ). Walked r m k (Some z) c.args.place.now.me.0 c.visit.new.place.me.0) (sym at)
    (walk_ends r m k g.K.KeyTest.passes n c.args.place.now.me.0 c.loop-tries.place.me.0 c.visit.new.place.me.0 c.loop-tries-test.true c.loop-tries.invariant.passed c.loop-tries.invariant.knows visited)

pub loop-tries-preserved : goal.loop-tries-preserved
loop-tries-preserved g c = let r : ℕ = c.args.number in let m : ℕ = c.args.region.capacity in let k : ℕ = c.args.key in let n : ℕ = c.loop-tries.tries in
    let at : c.wrapped-position.result ≡ walk m k n = counted_on m k n c.first_position-first.result _ c.first_position-first.ensures c.wrapped-position.ensures in
    let visited : Visited (claim_of r k (walk m k n)) false c.loop-tries.place.me.0 c.visit.new.place.me.0 = subst (λ (z : ℕ × Bool). Visited (claim_of r k z.0) z.1 c.loop-tries.place.me.0 c.visit.new.place.me.0) (λ i. (at i, c.if-visit.false i)) c.visit.ensures.visited in
    let e : suc n ≡ n + 1 = omega arith in record {
      table = c.visit.ensures.place.0 ∙ c.loop-tries.invariant.table;
      id = c.visit.ensures.place.1 ∙ c.loop-tries.invariant.id;
      slots = c.visit.ensures.place.2 ∙ c.loop-tries.invariant.slots;
      knows = c.visit.ensures.knows;
      passed = subst (λ (z : ℕ). Passed r m k z c.args.place.now.me.0 c.visit.new.place.me.0) e (passed_more r m k n c.args.place.now.me.0 c.loop-tries.place.me.0 c.visit.new.place.me.0 c.loop-tries.invariant.passed visited);
    }

pub returns-clause-walked : goal.returns-clause-walked
returns-clause-walked g c = let r : ℕ = c.args.number in let m : ℕ = c.args.region.capacity in let k : ℕ = c.args.key in
    let l = c.loop-tries.auto.tries-end in let t = c.loop-tries-test.false in let e : c.loop-tries.tries ≡ m = omega arith in
    walk_fails r m k g.K.KeyTest.passes c.args.place.now.me.0 c.loop-tries.place.me.0 (subst (λ (z : ℕ). Passed r m k z c.args.place.now.me.0 c.loop-tries.place.me.0) e c.loop-tries.invariant.passed) c.loop-tries.invariant.knows
