-- What a list is in ascending order of cells, and what a sort makes of it.
use Rattle.std.proofs.Common.{◌≡◌, ◌≢◌, ℕ, suc, ◌+◌, ◌-◌, ◌<◌, ◌≤◌, eqb, [], ◌∷◌, ◌++◌, length, get_or, set, if◌then◌else◌, is_some, MatchOption, Some, None, Option, refl, sym, ap, ◌∙◌, inl, inr, arith}
use Rattle.std.specs.List.{IsDistinct}
use Rattle.std.specs.List.Sorted.{IsPermutation, IsNonDecreasingBy}
use Rattle.std.specs.Map.{keys_of}
use Rattle.std.specs.Cmp.{nat_eq_equiv}
use Rattle.std.proofs.lemmas.Bool.{cases_lt, cases_eq, eqb-true, eqb-false, ne_eqb}
use Rattle.std.proofs.lemmas.Bool.Decides.{nat_tests}
use Rattle.std.proofs.lemmas.Grind.{common_steps}
use Rattle.std.proofs.lemmas.List.{get_or-map}
use Rattle.std.proofs.lemmas.List.Elements.{All-get_or, All-from_get_or}
use Rattle.std.proofs.lemmas.List.Sorted.{IsPermutation-map, IsPermutation-sym, All-permutation, Contains-permutation}
use Rattle.std.proofs.lemmas.Map.Keys.{IsDistinct-from_apart, apart_from_distinct, IsDistinct-IsPermutation}
use Rattle.std.proofs.lemmas.Map.Entries.{length-keys_of}
use Rattle.std.proofs.lemmas.Map.Views.{Contains-from_lookup, lookup-from_Contains}
use Rattle.attempt_lists.specs.Cells.{Entries, word_at, word_of, cell_at, put, laid_over, in_order, NoCellTwice, IsAscending}
use Rattle.attempt_lists.specs.Index.{Passes, AllPass, Indexes}
use Rattle.attempt_lists.specs.declared.cell_index.CellIndex.{CellIndex}
use Rattle.attempt_lists.proofs.Buckets.{chains_same}
use Rattle.attempt_lists.specs.Laid.{each_cons, absent_below, above_head, ascending_tail, once_tail, once_from_ascending, word_at-put, length-put, laid_over_put, ascending_put, word_at-laid_over, laid_over_set, ascending_laid_over}

-- ---- lists of the same words

-- ascending lists of the same words are the same
pub same_from_words : (xs ys : Entries) → IsAscending xs → IsAscending ys → ((q : ℕ) → word_at xs q ≡ word_at ys q) → xs ≡ ys
same_from_words [] [] up rising same = refl
same_from_words [] (y ∷ ys) up rising same = absurd (grind (arith, nat_tests, same y.0))
same_from_words (x ∷ xs) [] up rising same = absurd (grind (arith, nat_tests, same x.0))
same_from_words (x ∷ xs) (y ∷ ys) up rising same =
    let above = above_head x xs up in
    let over = above_head y ys rising in
    elim (cases_lt x.0 y.0) [
      | inl lower ↦
          let none = absent_below (y ∷ ys) x.0 (each_cons (λ c. x.0 < c) y ys lower (λ i lt. omega (arith, lower, over i lt))) in
          absurd (grind (arith, nat_tests, none, same x.0))
      | inr from ↦ elim (cases_eq x.0 y.0) [
        | inl here ↦
            let none = absent_below xs x.0 above in
            let nothing = absent_below ys y.0 over in
            let word : x.1 ≡ y.1 = grind (arith, nat_tests, here, same x.0) in
            let rest : xs ≡ ys = same_from_words xs ys (ascending_tail x xs up) (ascending_tail y ys rising) (λ q. elim (cases_eq q x.0) [
              | inl at ↦ rw (at, none) (rw here (sym nothing))
              | inr other ↦ grind (arith, nat_tests, here, other, same q)
            ]) in
            grind (arith, here, word, rest)
        | inr other ↦
            let higher : y.0 < x.0 = omega arith in
            let none = absent_below (x ∷ xs) y.0 (each_cons (λ c. y.0 < c) x xs higher (λ i lt. omega (arith, higher, above i lt))) in
            absurd (grind (arith, nat_tests, none, same y.0))
      ]
    ]

nil_ascends : IsAscending []
nil_ascends i j lt in_range = absurd (omega arith)

pub ascending-in_order : (es : Entries) → IsAscending (in_order es)
ascending-in_order es = ascending_laid_over [] es nil_ascends

-- the words stay
pub word_at-in_order : (es : Entries) → NoCellTwice es → (q : ℕ) → word_at (in_order es) q ≡ word_at es q
word_at-in_order es once q = grind (arith, word_at-laid_over [] es once q)

-- a list that ascends is in order
pub in_order_ascending : (es : Entries) → IsAscending es → in_order es ≡ es
in_order_ascending es ascending = same_from_words (in_order es) es (ascending-in_order es) ascending (word_at-in_order es (once_from_ascending es ascending))

-- as many entries, where none of the cells is among those below
length-laid_over_apart : (lower es : Entries) → IsAscending lower → NoCellTwice es → ((i : ℕ) → i < length es → word_at lower (cell_at es i) ≡ None) → length (laid_over lower es) ≡ length lower + length es
length-laid_over_apart lower [] ascending once apart = omega arith
length-laid_over_apart lower (e ∷ es) ascending once apart =
    let first = length-put lower e.0 e.1 ascending in
    let none = apart 0 (omega arith) in
    let rest = length-laid_over_apart (put lower e.0 e.1) es (ascending_put lower e.0 e.1 ascending) (once_tail e es once)
    (λ i lt.
    let other : cell_at es i ≢ e.0 = λ same. once 0 (suc i) (omega arith) (omega arith) (sym same) in
    grind (arith, nat_tests, other, word_at-put lower e.0 e.1 (cell_at es i), apart (suc i) (omega arith))) in
    grind (arith, first, none, rest)

pub length-in_order : (es : Entries) → NoCellTwice es → length (in_order es) ≡ length es
length-in_order es once = omega (arith, length-laid_over_apart [] es nil_ascends once (λ i lt. refl))

-- what is laid over a list may be in any order
laid_over_twice : (lower upper es : Entries) → IsAscending upper → laid_over lower (laid_over upper es) ≡ laid_over (laid_over lower upper) es
laid_over_twice lower upper [] ascending = refl
laid_over_twice lower upper (e ∷ es) ascending =
    laid_over_twice lower (put upper e.0 e.1) es (ascending_put upper e.0 e.1 ascending)
    ∙ ap (λ l. laid_over l es) (laid_over_put lower upper e.0 e.1 ascending)

pub laid_over_in_order : (lower es : Entries) → laid_over lower (in_order es) ≡ laid_over lower es
laid_over_in_order lower es = laid_over_twice lower [] es nil_ascends

-- ---- lists of the same entries in another order

distinct_from_once : (es : Entries) → NoCellTwice es → IsDistinct eqb (keys_of es)
distinct_from_once es once = IsDistinct-from_apart eqb (keys_of es) (λ i j d lt in_range.
    let within : j < length es = rw (← length-keys_of es) in_range in
    let first : get_or (keys_of es) i d ≡ cell_at es i = get_or-map (λ (e : ℕ × ℕ). e.0) es i (0, 0) d (omega arith) in
    let last : get_or (keys_of es) j d ≡ cell_at es j = get_or-map (λ (e : ℕ × ℕ). e.0) es j (0, 0) d within in
    rw (first, last) (ne_eqb (cell_at es i) (cell_at es j) (once i j lt within)))

once_from_distinct : (es : Entries) → IsDistinct eqb (keys_of es) → NoCellTwice es
once_from_distinct es distinct i j lt within same =
    let in_range : j < length (keys_of es) = rw (length-keys_of es) within in
    let first : get_or (keys_of es) i 0 ≡ cell_at es i = get_or-map (λ (e : ℕ × ℕ). e.0) es i (0, 0) 0 (omega arith) in
    let last : get_or (keys_of es) j 0 ≡ cell_at es j = get_or-map (λ (e : ℕ × ℕ). e.0) es j (0, 0) 0 within in
    eqb-false (cell_at es i) (cell_at es j) (rw (← first, ← last) (apart_from_distinct eqb (keys_of es) i j 0 distinct lt in_range)) same

module _ (xs ys : Entries) (moved : IsPermutation xs ys) (once : NoCellTwice xs) where
  distinct_moved : IsDistinct eqb (keys_of ys)
  distinct_moved = IsDistinct-IsPermutation eqb nat_eq_equiv.symm (keys_of xs) (keys_of ys) (IsPermutation-map (λ (e : ℕ × ℕ). e.0) xs ys moved) (distinct_from_once xs once)

  pub once_moved : NoCellTwice ys
  once_moved = once_from_distinct ys distinct_moved

  word_found : (q : ℕ) (word : ℕ) → word_at xs q ≡ Some word → word_at ys q ≡ Some word
  word_found q word is = lookup-from_Contains nat_eq_equiv q word ys distinct_moved (Contains-permutation xs ys (q, word) moved (Contains-from_lookup (λ x y. eqb-true x y) q word xs is))

  word_kept : (q : ℕ) (word : ℕ) → word_at ys q ≡ Some word → word_at xs q ≡ Some word
  word_kept q word is = lookup-from_Contains nat_eq_equiv q word xs (distinct_from_once xs once) (Contains-permutation ys xs (q, word) (IsPermutation-sym xs ys moved) (Contains-from_lookup (λ x y. eqb-true x y) q word ys is))

  words_moved : (q : ℕ) → word_at ys q ≡ word_at xs q
  words_moved q = same (word_at xs q) (word_at ys q) (word_found q) (word_kept q)
    where
      same : (a b : Option ℕ) → ((word : ℕ) → a ≡ Some word → b ≡ Some word) → ((word : ℕ) → b ≡ Some word → a ≡ Some word) → b ≡ a
      same (Some word) b there back = there word refl
      same None (Some word) there back = sym (back word refl)
      same None None there back = refl

  pub pass_moved : (filter : ℕ) → AllPass filter xs → AllPass filter ys
  pass_moved filter pass i in_range = All-get_or (λ (e : ℕ × ℕ). Passes filter e.0) ys i (0, 0) in_range (All-permutation (λ (e : ℕ × ℕ). Passes filter e.0) xs ys moved (All-from_get_or (λ (e : ℕ × ℕ). Passes filter e.0) xs (0, 0) pass))

  -- cells that differ and don't fall ascend
  pub ascending_moved : IsNonDecreasingBy (λ e. e.0) ys → IsAscending ys
  ascending_moved rises i j lt in_range =
      let le : cell_at ys i ≤ cell_at ys j = rises i j (0, 0) (omega arith) in_range in
      let apart = once_moved i j lt in_range in
      grind (arith, le, apart)

  -- what a sort leaves is the list in order
  pub sorted_is : IsNonDecreasingBy (λ e. e.0) ys → ys ≡ in_order xs
  sorted_is rises = same_from_words ys (in_order xs) (ascending_moved rises) (ascending-in_order xs) (λ q. words_moved q ∙ sym (word_at-in_order xs once q))

-- ---- more entries, and other words

-- a cell above the last one keeps the order
pub ascending_more : (es : Entries) (cell word : ℕ) → (0 < length es → cell_at es (length es - 1) < cell) → IsAscending es → IsAscending (es ++ (cell, word) ∷ [])
ascending_more es cell word above ascending i j lt in_range = grind (arith, common_steps, above, ascending i j, ascending i (length es - 1))

-- another word keeps the cells
module _ (es : Entries) (at word : ℕ) (in_range : at < length es) where
  cell_set : (i : ℕ) → cell_at (set es at (cell_at es at, word)) i ≡ cell_at es i
  cell_set i = grind (arith, common_steps, in_range)

  as_long : length (set es at (cell_at es at, word)) ≡ length es
  as_long = grind (arith, common_steps)

  pub once_set : NoCellTwice es → NoCellTwice (set es at (cell_at es at, word))
  once_set once i j lt within same = once i j lt (grind (arith, common_steps, within)) (sym (cell_set i) ∙ same ∙ cell_set j)

  pub pass_set : (filter : ℕ) → AllPass filter es → AllPass filter (set es at (cell_at es at, word))
  pass_set filter pass i within = rw (cell_set i) (pass i (grind (arith, common_steps, within)))

  pub ascending_set : IsAscending es → IsAscending (set es at (cell_at es at, word))
  ascending_set ascending i j lt within = rw (cell_set i, cell_set j) (ascending i j lt (grind (arith, common_steps, within)))

  pub indexes_set : (index : CellIndex) → Indexes index es → Indexes index (set es at (cell_at es at, word))
  indexes_set index indexes = record {
    few = λ inactive unordered. let few = indexes.few inactive unordered in grind (arith, common_steps, few);
    ascending = λ ordered. ascending_set (indexes.ascending ordered);
    chained = λ active. rw as_long (chains_same _ _ es _ (length es) (λ i lt. cell_set i) (indexes.chained active));
  }

-- ---- puts to a list that is in any order

module _ (before after : Entries) (cell word : ℕ) (is : after ≡ put before cell word) where
  pub words_put : (q : ℕ) → word_at after q ≡ (if eqb cell q then Some word else word_at before q)
  words_put q = rw is (word_at-put before cell word q)

  pub length_put : IsAscending before → length after ≡ length before + (if is_some (word_at before cell) then 0 else 1)
  length_put ascending = rw is (length-put before cell word ascending)

-- a look for a cell finds it where it has a word
pub found_with_word : (es : Entries) (cell : ℕ) (place : Option ℕ) → NoCellTwice es → MatchOption place (word_at es cell ≡ None) (λ i. (i < length es) × (cell_at es i ≡ cell) × (word_at es cell ≡ Some (word_of es i))) → is_some place ≡ is_some (word_at (in_order es) cell)
found_with_word es cell (Some i) once found = sym (ap is_some (word_at-in_order es once cell ∙ found.2))
found_with_word es cell None once absent = sym (ap is_some (word_at-in_order es once cell ∙ absent))

-- another word at the cell's place is a put
pub in_order_set : (es : Entries) (cell word i : ℕ) → NoCellTwice es → i < length es → cell_at es i ≡ cell → in_order (set es i (cell_at es i, word)) ≡ put (in_order es) cell word
in_order_set es cell word i once in_range here = ap (λ c. in_order (set es i (c, word))) here ∙ laid_over_set [] es cell word i once in_range here
