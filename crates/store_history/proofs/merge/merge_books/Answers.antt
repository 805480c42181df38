use Rattle.store_history.proofs.Merged.{sorted_history}
use Rattle.store_history.proofs.merge.merge_books.Goals as goal

pub returns : goal.returns
returns c = sorted_history c.args.books.items _ _ c.requires.books c.gather-history.ensures c.put_in_order.ensures.permutation c.put_in_order.ensures.order
