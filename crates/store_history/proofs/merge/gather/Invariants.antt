use Rattle.std.proofs.Common.{◌≤◌, ◌+◌, ◌++◌, vec_len, vec_capacity}
use Rattle.std.specs.List.Sorted.{IsPermutation}
use Rattle.store_history.specs.Records.{records_in, record_count}
use Rattle.store_history.proofs.merge.gather.Given as goal

abbrev pub invariant-loop-book : goal.invariant-loop-book
invariant-loop-book l = IsPermutation (records_in l.initial.books.items) (records_in l.books.items ++ l.history.items) × (vec_len l.history + record_count l.books.items ≤ vec_capacity l.history)

abbrev pub decreases-loop-book : goal.decreases-loop-book
decreases-loop-book l = vec_len l.books
