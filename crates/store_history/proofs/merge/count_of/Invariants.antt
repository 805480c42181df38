use Rattle.std.proofs.Common.{◌≡◌, take}
use Rattle.store_history.specs.Records.{record_count}
use Rattle.store_history.proofs.merge.count_of.Given as goal

abbrev pub invariant-loop-book : goal.invariant-loop-book
invariant-loop-book l = l.count ≡ record_count (take l.book-index l.books)
