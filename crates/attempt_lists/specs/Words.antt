-- What word a list of entries has at a cell.
use Rattle.std.proofs.Common.{◌≡◌, ℕ, zero, suc, ◌<◌, ◌≢◌, [], ◌∷◌, ◌++◌, length, get_or, Some, None, refl, arith}
use Rattle.std.proofs.lemmas.Bool.Decides.{nat_tests}
use Rattle.std.proofs.lemmas.Grind.{common_steps}
use Rattle.attempt_lists.specs.Cells.{Entries, word_at, cell_at, NoCellTwice}

-- no entry before place i is of the cell
abbrev pub NoneBefore : Entries → ℕ → ℕ → Type 0
NoneBefore es cell i = (j : ℕ) → j < i → cell_at es j ≢ cell

-- no entry of the tail before the place is of the cell either
none_before_tail : (e : ℕ × ℕ) (es : Entries) (cell i : ℕ) → NoneBefore (e ∷ es) cell (suc i) → NoneBefore es cell i
none_before_tail e es cell i none j lt = none (suc j) (omega arith)

-- a cell that no entry is of has no word
pub word_absent : (es : Entries) (cell : ℕ) → NoneBefore es cell (length es) → word_at es cell ≡ None
word_absent [] cell none = refl
word_absent (e ∷ es) cell none = grind (arith, nat_tests, none 0 (omega arith), word_absent es cell (none_before_tail e es cell _ none))

-- the first entry of the cell gives its word
pub word_present : (es : Entries) (cell i : ℕ) → i < length es → cell_at es i ≡ cell → NoneBefore es cell i → word_at es cell ≡ Some (get_or es i (0, 0)).1
word_present [] cell i in_range here none = absurd (omega arith)
word_present (e ∷ es) cell zero in_range here none = grind (arith, nat_tests, here)
word_present (e ∷ es) cell (suc i) in_range here none = grind (arith, nat_tests, none 0 (omega arith), word_present es cell i (omega arith) here (none_before_tail e es cell i none))

-- where a cell has no word, no entry is of it
pub none_from_word : (es : Entries) (cell : ℕ) → word_at es cell ≡ None → NoneBefore es cell (length es)
none_from_word [] cell absent j lt same = absurd (omega arith)
none_from_word (e ∷ es) cell absent zero lt same = grind (arith, nat_tests, absent, same)
none_from_word (e ∷ es) cell absent (suc j) lt same = none_from_word es cell (grind (arith, nat_tests, absent)) j (omega arith) same

-- the last entry's cell stands nowhere before it
pub last_gone : (es : Entries) (e : ℕ × ℕ) → NoCellTwice (es ++ e ∷ []) → word_at es e.0 ≡ None
last_gone es e once = word_absent es e.0 (λ j lt same. once j (length es) lt (grind (arith, common_steps)) (grind (arith, common_steps, same)))
