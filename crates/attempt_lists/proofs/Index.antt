-- What a scan and an index of the entries' places tell of their words, and how a push keeps the index.
use Rattle.std.proofs.Common.{◌≡◌, ℕ, ◌<◌, ◌≤◌, eqb, length, true, false, Option, Some, None, MatchOption, sym, subst, arith}
use Rattle.std.specs.List.{position, position_or_len}
use Rattle.std.proofs.lemmas.List.Quantifiers.{position-Some}
use Rattle.std.proofs.lemmas.List.Sums.{fails_before_first}
use Rattle.std.proofs.lemmas.Bool.Decides.{nat_tests}
use Rattle.attempt_lists.specs.Cells.{Entries, word_at, word_of, cell_at, NoCellTwice, IsPlaceOf}
use Rattle.attempt_lists.specs.Index.{Passes, AllPass}
use Rattle.attempt_lists.specs.Words.{word_absent, word_present}

-- what a look for the cell answers
abbrev pub Answers : Entries → ℕ → Option ℕ → Type 0
Answers es cell r = MatchOption r (word_at es cell ≡ None) (λ i. (i < length es) × (cell_at es i ≡ cell) × (word_at es cell ≡ Some (word_of es i)))

-- the first entry that passes a scan is the cell's
pub scanned : (es : Entries) (cell : ℕ) (r : Option ℕ) → r ≡ position (λ e. eqb e.0 cell) es → MatchOption r (word_at es cell ≡ None) (IsPlaceOf es cell)
scanned es cell None is = word_absent es cell (λ j lt same.
    let far : length es ≤ position_or_len (λ (e : ℕ × ℕ). eqb e.0 cell) es = grind (arith, nat_tests, is) in
    grind (arith, nat_tests, fails_before_first (λ (e : ℕ × ℕ). eqb e.0 cell) es j (0, 0) (omega arith)))
scanned es cell (Some i) is =
    let found = position-Some (λ (e : ℕ × ℕ). eqb e.0 cell) es i (0, 0) (sym is) in
    record { in_range = found.0; of_cell = grind (arith, nat_tests, found.1) }

-- an entry found at a place of a list without repetitions is the cell's
pub placed : (es : Entries) (cell : ℕ) (r : Option ℕ) → NoCellTwice es → MatchOption r (word_at es cell ≡ None) (IsPlaceOf es cell) → Answers es cell r
placed es cell None once absent = absent
placed es cell (Some i) once place = (place.in_range, place.of_cell, word_present es cell i place.in_range place.of_cell (λ j lt same. once j i lt place.in_range (grind (arith, place.of_cell, same))))

-- a cell that the filter of all entries does not let pass has no word
pub unpassed : (filter : ℕ) (es : Entries) (cell : ℕ) → AllPass filter es → (Passes filter cell → false ≡ true) → word_at es cell ≡ None
unpassed filter es cell pass stopped = word_absent es cell (λ j lt same.
    let wrong : false ≡ true = stopped (subst (Passes filter) same (pass j lt)) in
    cc)
