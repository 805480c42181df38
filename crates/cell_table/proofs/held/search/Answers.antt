use Rattle.std.proofs.Common.{rules, ltb, arith}
use Rattle.std.proofs.lemmas.List.Sorted.{IsPartitionPoint-from_clause}
use Rattle.cell_table.specs.declared.entry.HeldCell.{HeldCell}
use Rattle.cell_table.proofs.HeldList.{parted, below, not_below}
use Rattle.cell_table.proofs.held.search.Goals as goal

pub returns : goal.returns
returns c = let point = IsPartitionPoint-from_clause (λ (h : HeldCell). ltb h.cell c.args.cell) c.args.held.now c.partition_point.result c.partition_point.ensures.partitioned (parted c.args.cell c.args.held.now c.requires) (λ a r q k. search rules) in (
  c.partition_point.ensures.bound,
  (λ k d l. below _ _ (point.0 k d (omega arith) l)),
  λ k d l m. not_below _ _ (point.1 k d l m),
)
