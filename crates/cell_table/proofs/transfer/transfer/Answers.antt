use Rattle.std.proofs.Common.{ℕ, List, ap, subst, get_or, ◌∙◌}
use Rattle.cell_table.specs.Steps.{Reads}
use Rattle.cell_table.proofs.transfer.transfer.Goals as goal

pub decide-requires-clause-seen : goal.decide-requires-clause-seen
decide-requires-clause-seen c = let from = c.hold-from in let to = c.hold-to in let opening = c.in_ok-table.ensures.table.0 in (
  to.ensures.grows.values _ (subst (λ (x : ℕ). Reads from.new.pass.view 0 0 x) (from.ensures.value.0 ∙ ap (λ (o : List ℕ). get_or o 0 0) opening) from.ensures.value.1),
  subst (λ (x : ℕ). Reads to.new.pass.view 1 0 x) (to.ensures.value.0 ∙ ap (λ (o : List ℕ). get_or o 1 0) opening) to.ensures.value.1,
)
