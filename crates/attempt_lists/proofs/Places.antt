-- What a search finds among ascending cells.
use Rattle.std.proofs.Common.{◌≡◌, ℕ, ◌≤◌, length, get_or, Some, None, Result, Ok, Err, IfOk, IfErr, is_ok, is_some, sym, ap, arith}
use Rattle.std.specs.List.Sorted.{IsSearchInRange, IsBinarySearchResult, IsNonDecreasingBy}
use Rattle.std.specs.Ordering.{nat_cmp, ordering_index}
use Rattle.std.proofs.lemmas.Cmp.{ranked}
use Rattle.std.proofs.lemmas.List.Sorted.{IsNonDecreasingBy-from_default}
use Rattle.std.proofs.lemmas.Bool.Decides.{nat_tests}
use Rattle.attempt_lists.specs.Cells.{Entries, word_at, cell_at, IsAscending, IsPlaceOf, IsGapFor}
use Rattle.attempt_lists.specs.Words.{NoneBefore, word_absent, word_present}

module _ (es : Entries) (ascending : IsAscending es) (cell at : ℕ) (place : IsPlaceOf es cell at) where
  -- the cells before the place are smaller, so none is the cell
  none_before_place : NoneBefore es cell at
  none_before_place j lt same = omega (arith, ascending j at lt place.in_range, place.of_cell)

  -- the cell's word is that at its place
  pub word_at_place : word_at es cell ≡ Some (get_or es at (0, 0)).1
  word_at_place = word_present es cell at place.in_range place.of_cell none_before_place

module _ (es : Entries) (cell at : ℕ) (gap : IsGapFor es cell at) where
  -- a cell that has a gap has no word
  pub word_in_gap : word_at es cell ≡ None
  word_in_gap = word_absent es cell (λ j lt same. grind (arith, gap.smaller_before j, gap.greater_after j))

module _ (es : Entries) (ascending : IsAscending es) (cell : ℕ) where
  -- the comparisons with the cell rise along the list, as a binary search asks
  comparisons_rise : IsNonDecreasingBy (λ e. ordering_index (nat_cmp e.0 cell)) es
  comparisons_rise = IsNonDecreasingBy-from_default (λ e. ordering_index (nat_cmp e.0 cell)) es (0, 0) (λ i j le in_range.
      let cells_rise : cell_at es i ≤ cell_at es j = grind (arith, ascending i j, λ (same : i ≡ j). ap (cell_at es) same) in
      grind (arith, nat_tests))

  -- a binary search by cell ends at the cell, or at the gap for it
  pub searched : (r : Result ℕ ℕ) → IsSearchInRange r (length es) → IsBinarySearchResult (λ e. nat_cmp e.0 cell) es r → record { found : IfOk r (IsPlaceOf es cell); absent : IfErr r (IsGapFor es cell); variant : is_ok r ≡ is_some (word_at es cell) }
  searched (Ok at) in_range equal =
      let place : IsPlaceOf es cell at = record { in_range = in_range; of_cell = ranked _ cell _ (sym (equal (0, 0))) } in
      record { found = place; absent = tt; variant = sym (ap is_some (word_at_place es ascending cell at place)) }
  searched (Err at) in_range parted =
      let gap : IsGapFor es cell at = record {
        in_range = in_range;
        smaller_before = λ j lt. ranked _ cell _ (sym ((parted comparisons_rise).0 j (0, 0) (omega arith) lt));
        greater_after = λ j le lt. ranked _ cell _ (sym ((parted comparisons_rise).1 j (0, 0) le lt));
      } in
      record { found = tt; absent = gap; variant = sym (ap is_some (word_in_gap es cell at gap)) }
