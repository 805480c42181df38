use Rattle.store_history.proofs.Gathering.{moved}
use Rattle.store_history.proofs.merge.gather.Goals as goal

pub loop-book-preserved : goal.loop-book-preserved
loop-book-preserved c = moved _ _ _ c.in-Some.book _ _ _ _ _ _ c.in-Some.ensures.items c.in-Ok.ensures.items c.in-Ok.ensures.len c.in-Ok.ensures.capacity c.loop-book.invariant
