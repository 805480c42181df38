use Rattle.std.proofs.Common.{◌≡◌, List, get_or, arith, refl, subst, sym}
use Rattle.std.specs.List.{All}
use Rattle.std.proofs.lemmas.List.{take_all}
use Rattle.std.proofs.lemmas.List.Elements.{All-more}
use Rattle.serial_terms.specs.declared.store.PoolLayout.{PoolLayout}
use Rattle.store_layout.specs.Shapes.{IsPool}
use Rattle.store_layout.proofs.tests.are_pools.Goals as goal

pub loop-pool-preserved : goal.loop-pool-preserved
loop-pool-preserved c =
    let is : IsPool c.pool-item.result = c.if-not-is_pool.ensures refl in
    let same : get_or c.args.pools.now c.loop-pool.pool-index c.pool-item.result ≡ c.pool-item.result = cc in
    All-more IsPool c.args.pools.now c.loop-pool.pool-index c.pool-item.result c.loop-pool-test.true c.loop-pool.invariant (subst IsPool (sym same) is)

pub returns : goal.returns
returns c = λ t. subst (λ (ps : List PoolLayout). All IsPool ps) (take_all c.loop-pool.pool-index c.args.pools.now (omega arith)) c.loop-pool.invariant
