-- What a put keeps, and what a list is that is laid over another.
use Rattle.std.proofs.Common.{◌≡◌, ◌≢◌, ℕ, zero, suc, ◌+◌, ◌<◌, ◌≤◌, eqb, [], ◌∷◌, ◌++◌, length, set, if◌then◌else◌, is_some, Some, None, refl, sym, ap, subst, ◌∙◌, inl, inr, arith}
use Rattle.std.specs.Option.{option_or}
use Rattle.std.specs.List.{All}
use Rattle.std.specs.Map.{keys_of}
use Rattle.std.proofs.lemmas.Bool.{cases_lt, cases_eq}
use Rattle.std.proofs.lemmas.Bool.Decides.{nat_tests}
use Rattle.std.proofs.lemmas.List.Elements.{All-head, All-tail}
use Rattle.std.proofs.lemmas.Map.Views.{All-keys-insert_entry}
use Rattle.attempt_lists.specs.Cells.{Entries, word_at, cell_at, put, laid_over, NoCellTwice, IsAscending}
use Rattle.attempt_lists.specs.Levels.{Levels, written, merged}
use Rattle.attempt_lists.specs.Words.{word_absent, none_from_word}

-- P holds of each cell
abbrev pub EachCell : (ℕ → Type 0) → Entries → Type 0
EachCell P es = (i : ℕ) → i < length es → P (cell_at es i)

pub each_cons : (P : ℕ → Type 0) (e : ℕ × ℕ) (es : Entries) → P e.0 → EachCell P es → EachCell P (e ∷ es)
each_cons P e es first rest zero lt = first
each_cons P e es first rest (suc i) lt = rest i (omega arith)

-- a cell that is below all, or that none is, has no word
pub absent_below : (es : Entries) (cell : ℕ) → EachCell (λ c. cell < c) es → word_at es cell ≡ None
absent_below es cell above = word_absent es cell (λ j lt same. omega (arith, above j lt, same))

-- ---- orders

pub ascending_tail : (e : ℕ × ℕ) (es : Entries) → IsAscending (e ∷ es) → IsAscending es
ascending_tail e es ascending i j lt in_range = ascending (suc i) (suc j) (omega arith) (omega arith)

pub above_head : (e : ℕ × ℕ) (es : Entries) → IsAscending (e ∷ es) → EachCell (λ c. e.0 < c) es
above_head e es ascending i lt = ascending 0 (suc i) (omega arith) (omega arith)

pub ascending_cons : (e : ℕ × ℕ) (es : Entries) → EachCell (λ c. e.0 < c) es → IsAscending es → IsAscending (e ∷ es)
ascending_cons e es above ascending i zero lt in_range = absurd (omega arith)
ascending_cons e es above ascending zero (suc j) lt in_range = above j (omega arith)
ascending_cons e es above ascending (suc i) (suc j) lt in_range = ascending i j (omega arith) (omega arith)

pub once_tail : (e : ℕ × ℕ) (es : Entries) → NoCellTwice (e ∷ es) → NoCellTwice es
once_tail e es once i j lt in_range = once (suc i) (suc j) (omega arith) (omega arith)

-- the first cell of a list without repetitions has no word in the rest
pub absent_from_tail : (e : ℕ × ℕ) (es : Entries) → NoCellTwice (e ∷ es) → word_at es e.0 ≡ None
absent_from_tail e es once = word_absent es e.0 (λ j lt same. once 0 (suc j) (omega arith) (omega arith) (sym same))

-- cells that ascend differ
pub once_from_ascending : (es : Entries) → IsAscending es → NoCellTwice es
once_from_ascending es ascending i j lt in_range same = omega (arith, ascending i j lt in_range, same)

-- ---- puts

put_below : (e : ℕ × ℕ) (es : Entries) (cell word : ℕ) → cell < e.0 → put (e ∷ es) cell word ≡ (cell, word) ∷ e ∷ es
put_below e es cell word lt = grind (arith, nat_tests, lt)

put_here : (e : ℕ × ℕ) (es : Entries) (word : ℕ) → put (e ∷ es) e.0 word ≡ (e.0, word) ∷ es
put_here e es word = grind (arith, nat_tests)

put_above : (e : ℕ × ℕ) (es : Entries) (cell word : ℕ) → e.0 < cell → put (e ∷ es) cell word ≡ e ∷ put es cell word
put_above e es cell word lt = grind (arith, nat_tests, lt)

-- the cell has the word that was put, and each other cell its word as before
pub word_at-put : (es : Entries) (cell word q : ℕ) → word_at (put es cell word) q ≡ (if eqb cell q then Some word else word_at es q)
word_at-put [] cell word q = grind (arith, nat_tests)
word_at-put (e ∷ es) cell word q = grind (arith, nat_tests, word_at-put es cell word q)

-- the last word of a cell counts
pub put_twice : (es : Entries) (cell x y : ℕ) → put (put es cell x) cell y ≡ put es cell y
put_twice [] cell x y = grind (arith, nat_tests)
put_twice (e ∷ es) cell x y = grind (arith, nat_tests, put_twice es cell x y)

-- puts of two cells commute
pub put_apart : (es : Entries) (a x b y : ℕ) → a ≢ b → put (put es a x) b y ≡ put (put es b y) a x
put_apart [] a x b y apart = grind (arith, nat_tests, apart)
put_apart (e ∷ es) a x b y apart = grind (arith, nat_tests, apart, put_apart es a x b y apart)

-- a put makes the list longer by one where the cell has no word, and else not
pub length-put : (es : Entries) (cell word : ℕ) → IsAscending es → length (put es cell word) ≡ length es + (if is_some (word_at es cell) then 0 else 1)
length-put [] cell word ascending = refl
length-put (e ∷ es) cell word ascending =
    elim (cases_lt cell e.0) [
      | inl below ↦
          let none : word_at (e ∷ es) cell ≡ None = absent_below (e ∷ es) cell (each_cons (λ c. cell < c) e es below (λ i lt. omega (arith, below, above_head e es ascending i lt))) in
          rw (put_below e es cell word below, none) (omega arith)
      | inr from ↦ grind (arith, nat_tests, from, length-put es cell word (ascending_tail e es ascending))
    ]

-- what holds of each cell and of the new one holds of each cell after the put
pub each_put : (P : ℕ → Type 0) (es : Entries) (cell word : ℕ) → EachCell P es → P cell → EachCell P (put es cell word)
each_put P [] cell word each new = each_cons P (cell, word) [] new each
each_put P (e ∷ es) cell word each new =
    let rest : EachCell P es = λ i lt. each (suc i) (omega arith) in
    elim (cases_lt cell e.0) [
      | inl below ↦ rw (put_below e es cell word below) (each_cons P (cell, word) (e ∷ es) new each)
      | inr from ↦ elim (cases_eq cell e.0) [
        | inl here ↦ rw (here, put_here e es word) (each_cons P (e.0, word) es (each 0 (omega arith)) rest)
        | inr other ↦ rw (put_above e es cell word (omega arith)) (each_cons P e (put es cell word) (each 0 (omega arith)) (each_put P es cell word rest new))
      ]
    ]

-- a put keeps the order
pub ascending_put : (es : Entries) (cell word : ℕ) → IsAscending es → IsAscending (put es cell word)
ascending_put [] cell word ascending = ascending_cons (cell, word) [] (λ i lt. absurd (omega arith)) ascending
ascending_put (e ∷ es) cell word ascending =
    let above = above_head e es ascending in
    let tail = ascending_tail e es ascending in
    elim (cases_lt cell e.0) [
      | inl below ↦ rw (put_below e es cell word below) (ascending_cons (cell, word) (e ∷ es) (each_cons (λ c. cell < c) e es below (λ i lt. omega (arith, below, above i lt))) ascending)
      | inr from ↦ elim (cases_eq cell e.0) [
        | inl here ↦ rw (here, put_here e es word) (ascending_cons (e.0, word) es above tail)
        | inr other ↦
            let higher : e.0 < cell = omega arith in
            rw (put_above e es cell word higher) (ascending_cons e (put es cell word) (each_put (λ c. e.0 < c) es cell word above higher) (ascending_put es cell word tail))
      ]
    ]

-- ---- lists laid over lists

-- one more entry of the upper list is one more put
pub laid_over_more : (lower upper : Entries) (cell word : ℕ) → laid_over lower (upper ++ (cell, word) ∷ []) ≡ put (laid_over lower upper) cell word
laid_over_more lower [] cell word = refl
laid_over_more lower (e ∷ es) cell word = laid_over_more (put lower e.0 e.1) es cell word

-- a put below a list that has not the cell is a put over it
pub put_under : (lower upper : Entries) (cell word : ℕ) → word_at upper cell ≡ None → laid_over (put lower cell word) upper ≡ put (laid_over lower upper) cell word
put_under lower [] cell word absent = refl
put_under lower (e ∷ es) cell word absent =
    let other : cell ≢ e.0 = λ same. none_from_word (e ∷ es) cell absent 0 (omega arith) (sym same) in
    let rest : word_at es cell ≡ None = word_absent es cell (λ j lt same. none_from_word (e ∷ es) cell absent (suc j) (omega arith) same) in
    ap (λ l. laid_over l es) (put_apart lower cell word e.0 e.1 other) ∙ put_under (put lower e.0 e.1) es cell word rest

-- a put over a cell's entry is a put under it, which the entry hides
put_hidden : (lower es : Entries) (cell x word : ℕ) → word_at es cell ≡ None → laid_over (put lower cell word) es ≡ put (laid_over (put lower cell x) es) cell word
put_hidden lower es cell x word absent = ap (λ l. laid_over l es) (sym (put_twice lower cell x word)) ∙ put_under (put lower cell x) es cell word absent

-- another word at an entry's place is a put over all
pub laid_over_set : (lower upper : Entries) (cell word i : ℕ) → NoCellTwice upper → i < length upper → cell_at upper i ≡ cell → laid_over lower (set upper i (cell, word)) ≡ put (laid_over lower upper) cell word
laid_over_set lower [] cell word i once in_range here = absurd (omega arith)
laid_over_set lower (e ∷ es) cell word zero once in_range here =
    subst (λ c. laid_over (put lower c word) es ≡ put (laid_over (put lower e.0 e.1) es) c word) here (put_hidden lower es e.0 e.1 word (absent_from_tail e es once))
laid_over_set lower (e ∷ es) cell word (suc i) once in_range here = laid_over_set (put lower e.0 e.1) es cell word i (once_tail e es once) (omega arith) here

-- the upper list with one more put is one more put over all
pub laid_over_put : (lower upper : Entries) (cell word : ℕ) → IsAscending upper → laid_over lower (put upper cell word) ≡ put (laid_over lower upper) cell word
laid_over_put lower [] cell word ascending = refl
laid_over_put lower (e ∷ es) cell word ascending =
    let above = above_head e es ascending in
    elim (cases_lt cell e.0) [
      | inl below ↦
          let absent = absent_below (e ∷ es) cell (each_cons (λ c. cell < c) e es below (λ i lt. omega (arith, below, above i lt))) in
          rw (put_below e es cell word below) (put_under lower (e ∷ es) cell word absent)
      | inr from ↦ elim (cases_eq cell e.0) [
        | inl here ↦ rw (here, put_here e es word) (put_hidden lower es e.0 e.1 word (absent_below es e.0 above))
        | inr other ↦ rw (put_above e es cell word (omega arith)) (laid_over_put (put lower e.0 e.1) es cell word (ascending_tail e es ascending))
      ]
    ]

-- the upper list's word where it has one, else the lower's
pub word_at-laid_over : (lower upper : Entries) → NoCellTwice upper → (q : ℕ) → word_at (laid_over lower upper) q ≡ option_or (word_at upper q) (word_at lower q)
word_at-laid_over lower [] once q = refl
word_at-laid_over lower (e ∷ es) once q =
    let rest = word_at-laid_over (put lower e.0 e.1) es (once_tail e es once) q in
    let first = word_at-put lower e.0 e.1 q in
    let absent = absent_from_tail e es once in
    grind (arith, nat_tests, rest, first, absent)

pub ascending_laid_over : (lower upper : Entries) → IsAscending lower → IsAscending (laid_over lower upper)
ascending_laid_over lower [] ascending = ascending
ascending_laid_over lower (e ∷ es) ascending = ascending_laid_over (put lower e.0 e.1) es (ascending_put lower e.0 e.1 ascending)

-- it is as long as the lower list at least, and as both together at most
pub length-laid_over : (lower upper : Entries) → IsAscending lower → (length lower ≤ length (laid_over lower upper)) × (length (laid_over lower upper) ≤ length lower + length upper)
length-laid_over lower [] ascending = (omega arith, omega arith)
length-laid_over lower (e ∷ es) ascending =
    let rest = length-laid_over (put lower e.0 e.1) es (ascending_put lower e.0 e.1 ascending) in
    let first = length-put lower e.0 e.1 ascending in
    (grind (arith, rest.0, first), grind (arith, rest.1, first))

put_some : (es : Entries) (cell word : ℕ) → IsAscending es → 0 < length (put es cell word)
put_some [] cell word ascending = omega arith
put_some (e ∷ es) cell word ascending = omega (arith, length-put (e ∷ es) cell word ascending)

-- nothing comes of nothing alone
pub none-laid_over : (lower upper : Entries) → IsAscending lower → length (laid_over lower upper) ≡ 0 → length lower + length upper ≡ 0
none-laid_over lower [] ascending none = omega (arith, none)
none-laid_over lower (e ∷ es) ascending none =
    absurd (omega (arith, none, (length-laid_over (put lower e.0 e.1) es (ascending_put lower e.0 e.1 ascending)).0, put_some lower e.0 e.1 ascending))

-- what holds of the cells of both lists holds of its cells
pub keys-laid_over : (P : ℕ → Type 0) (lower upper : Entries) → All P (keys_of lower) → All P (keys_of upper) → All P (keys_of (laid_over lower upper))
keys-laid_over P lower [] all more = all
keys-laid_over P lower (e ∷ es) all more = keys-laid_over P (put lower e.0 e.1) es (All-keys-insert_entry _ e.0 e.1 P lower all (All-head P e.0 (keys_of es) more)) (All-tail P e.0 (keys_of es) more)

-- ---- the writes of two levels

-- a write of the child is a write to what both write
pub merged_put : (levels : Levels) (cell word : ℕ) → IsAscending levels.child → merged (record levels { child = put levels.child cell word }) ≡ put (merged levels) cell word
merged_put levels cell word ascending = laid_over_put levels.parent levels.child cell word ascending

-- what both write to a cell is what is written to it
pub word_at-merged : (levels : Levels) → IsAscending levels.child → (cell : ℕ) → word_at (merged levels) cell ≡ written levels cell
word_at-merged levels ascending cell = word_at-laid_over levels.parent levels.child (once_from_ascending levels.child ascending) cell
