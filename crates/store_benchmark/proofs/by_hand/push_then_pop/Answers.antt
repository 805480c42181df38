use Rattle.std.proofs.Common.{[], ◌∷◌}
use Rattle.store_benchmark.proofs.Asking.{asks_then}
use Rattle.store_benchmark.proofs.by_hand.push_then_pop.Goals as goal

pub returns : goal.returns
returns c = asks_then c.args.tx.now c.push_cells.new.tx c.pop_cells.new.tx (_ ∷ _ ∷ _ ∷ []) (λ x. _ ∷ _ ∷ _ ∷ []) c.pop_cells.result c.in_ok-push_cells.ensures c.pop_cells.ensures
