use Rattle.std.proofs.Common.{ℕ, ◌<◌, List, arith, subst}
use Rattle.std.specs.List.{All}
use Rattle.std.proofs.lemmas.List.{take_all}
use Rattle.std.proofs.lemmas.List.Elements.{All-more}
use Rattle.store_layout.proofs.tests.are_counted.Goals as goal

pub loop-capacity-preserved : goal.loop-capacity-preserved
loop-capacity-preserved c = All-more (λ (n : ℕ). 0 < n) c.args.capacities.now c.loop-capacity.capacity-index 0 c.loop-capacity-test.true c.loop-capacity.invariant (omega arith)

pub returns : goal.returns
returns c = λ t. subst (λ (ns : List ℕ). All (λ n. 0 < n) ns) (take_all c.loop-capacity.capacity-index c.args.capacities.now (omega arith)) c.loop-capacity.invariant
