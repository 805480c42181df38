use Rattle.std.proofs.Common.{ℕ, List, rules, arith, subst}
use Rattle.std.specs.List.{All}
use Rattle.std.proofs.lemmas.List.{take_all}
use Rattle.std.proofs.lemmas.List.Elements.{All-more}
use Rattle.serial_terms.specs.Ranges.{IsKept}
use Rattle.store_layout.proofs.tests.are_kept.Goals as goal

pub loop-item-preserved : goal.loop-item-preserved
loop-item-preserved c = All-more IsKept c.args.items.now c.loop-item.item-index 0 c.loop-item-test.true c.loop-item.invariant (search rules)

pub returns : goal.returns
returns c = λ t. subst (λ (ns : List ℕ). All IsKept ns) (take_all c.loop-item.item-index c.args.items.now (omega arith)) c.loop-item.invariant
