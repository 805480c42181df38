use Rattle.std.specs.Prelude.{not}
use Rattle.std.proofs.Common.{rules}
use Rattle.std.proofs.lemmas.List.Sorted.{answers_always}
use Rattle.serial_terms.specs.declared.committed.Record.{Record}
use Rattle.store_history.proofs.Sorting.{from_sort}
use Rattle.store_history.proofs.merge.put_in_order.Goals as goal

pub returns-clause-order : goal.returns-clause-order
returns-clause-order c = from_sort _ (c.sort_unstable_by_key.ensures.sorted (λ (r : Record). (r.place, not r.writer, r.caller, r.index)) (answers_always _ _ _ (λ f a r q k. search rules)))
