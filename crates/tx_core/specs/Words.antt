-- What lists of cells with words say of a cell, and what a list of writes leaves in cells, for the proofs of this crate and of those above.
use Rattle.std.proofs.Common.{◌≡◌, ◌≢◌, ℕ, zero, suc, ◌<◌, eqb, Ordering, List, [], ◌∷◌, ◌++◌, length, get_or, set, if◌then◌else◌, Some, None, refl, sym, ap, ◌∙◌, arith, length-set, get_or-set_other, get_or-set_same}
use mathlib.Core.Logic.{dite}
use native.Mathlib.Decide.{ℕ_discrete}
use Rattle.std.specs.Prelude.{Option}
use Rattle.std.specs.Option.{option_or}
use Rattle.std.specs.Ordering.{nat_cmp, match_ordering}
use Rattle.std.specs.declared.cmp.Ordering.TheVariants.{Less, Equal, Greater}
use Rattle.std.proofs.lemmas.Cmp.{ranked}
use Rattle.std.proofs.lemmas.List.{set_comm, set-set}
use Rattle.std.proofs.lemmas.Bool.Decides.{nat_tests}
use Rattle.cell_table.specs.Cells.{after}
use Rattle.attempt_lists.specs.Cells.{Entries, word_at, cell_at, put, IsAscending}

-- ---- words of lists of cells

pub word_at_put : (es : Entries) (cell word c : ℕ) → word_at (put es cell word) c ≡ (if eqb cell c then Some word else word_at es c)
word_at_put [] cell word c = grind (arith, nat_tests)
word_at_put (e ∷ es) cell word c = grind (arith, nat_tests, word_at_put es cell word c)

pub put_other : (es : Entries) (cell word c : ℕ) → cell ≢ c → word_at (put es cell word) c ≡ word_at es c
put_other es cell word c apart = grind (arith, nat_tests, word_at_put es cell word c, apart)

pub put_same : (es : Entries) (cell word : ℕ) → word_at (put es cell word) cell ≡ Some word
put_same es cell word = grind (arith, nat_tests, word_at_put es cell word cell)

-- the first entry of a cell stays
pub word_at_more : (os more : Entries) (c x : ℕ) → word_at os c ≡ Some x → word_at (os ++ more) c ≡ Some x
word_at_more [] more c x is = absurd (cc)
word_at_more (o ∷ os) more c x is = grind (arith, nat_tests, is, word_at_more os more c x)

observed_last : (os : Entries) (c x : ℕ) → word_at os c ≡ None → word_at (os ++ (c, x) ∷ []) c ≡ Some x
observed_last [] c x none = grind (arith, nat_tests)
observed_last (o ∷ os) c x none = grind (arith, nat_tests, none, observed_last os c x (grind (arith, nat_tests, none)))

-- what was just observed of a cell is known of it
pub known_last : (ws os new : Entries) (c x : ℕ) → word_at ws c ≡ None → word_at os c ≡ None → new ≡ os ++ (c, x) ∷ [] → option_or (word_at ws c) (word_at new c) ≡ Some x
known_last ws os new c x unwritten unobserved is =
    ap (λ (w : Option ℕ). option_or w (word_at new c)) unwritten ∙ ap (λ (es : Entries). word_at es c) is ∙ observed_last os c x unobserved

-- ---- cells after writes

ascending_tail : (e : ℕ × ℕ) (es : Entries) → IsAscending (e ∷ es) → IsAscending es
ascending_tail e es ascending i j lt in_range = ascending (suc i) (suc j) (omega arith) (omega arith)

absent_below : (es : Entries) (cell : ℕ) → ((j : ℕ) → j < length es → cell < cell_at es j) → word_at es cell ≡ None
absent_below [] cell below = refl
absent_below (e ∷ es) cell below = grind (arith, nat_tests, below 0 (omega arith), absent_below es cell (λ j lt. below (suc j) (omega arith)))

below_all : (e : ℕ × ℕ) (es : Entries) (cell : ℕ) → cell < e.0 → IsAscending (e ∷ es) → (j : ℕ) → j < length (e ∷ es) → cell < cell_at (e ∷ es) j
below_all e es cell low ascending zero lt = low
below_all e es cell low ascending (suc j) lt = omega (arith, low, ascending 0 (suc j) (omega arith) lt)

first_absent : (e : ℕ × ℕ) (es : Entries) → IsAscending (e ∷ es) → word_at es e.0 ≡ None
first_absent e es ascending = absent_below es e.0 (λ j lt. ascending 0 (suc j) (omega arith) (omega arith))

pub length_after : (ws : Entries) (cells : List ℕ) → length (after cells ws) ≡ length cells
length_after [] cells = refl
length_after (w ∷ ws) cells = length_after ws (set cells w.0 w.1) ∙ length-set cells w.0 w.1

set_first : (ws : Entries) (cells : List ℕ) (c x : ℕ) → word_at ws c ≡ None → after (set cells c x) ws ≡ set (after cells ws) c x
set_first [] cells c x none = refl
set_first (w ∷ ws) cells c x none =
    let apart : c ≢ w.0 = λ same. grind (arith, nat_tests, none, same) in
    ap (λ (z : List ℕ). after z ws) (set_comm cells c w.0 x w.1 apart) ∙ set_first ws (set cells w.0 w.1) c x (grind (arith, nat_tests, none))

put_here : (w : ℕ × ℕ) (ws : Entries) (cells : List ℕ) (c x : ℕ) → IsAscending (w ∷ ws) → after (set cells w.0 w.1) (put ws c x) ≡ set (after cells (w ∷ ws)) c x
    → (o : Ordering) → nat_cmp c w.0 ≡ o → after cells (match_ordering o ((c, x) ∷ w ∷ ws) ((w.0, x) ∷ ws) (w ∷ put ws c x)) ≡ set (after cells (w ∷ ws)) c x
put_here w ws cells c x ascending rest Less is =
    let low : c < w.0 = ranked c w.0 Less (sym is) in
    set_first (w ∷ ws) cells c x (absent_below (w ∷ ws) c (below_all w ws c low ascending))
put_here w ws cells c x ascending rest Equal is =
    let same : c ≡ w.0 = ranked c w.0 Equal (sym is) in
    let over = set_first ws (set cells w.0 w.1) w.0 x (first_absent w ws ascending) in
    rw same (ap (λ (z : List ℕ). after z ws) (sym (set-set cells w.0 w.1 x)) ∙ over)
put_here w ws cells c x ascending rest Greater is = rest

pub after_put : (ws : Entries) (cells : List ℕ) (c x : ℕ) → IsAscending ws → after cells (put ws c x) ≡ set (after cells ws) c x
after_put [] cells c x ascending = refl
after_put (w ∷ ws) cells c x ascending = put_here w ws cells c x ascending (after_put ws (set cells w.0 w.1) c x (ascending_tail w ws ascending)) (nat_cmp c w.0) refl

-- a cell keeps its word where it isn't written, and has that which was written
pub after_unwritten : (ws : Entries) (cells : List ℕ) (c : ℕ) → word_at ws c ≡ None → get_or (after cells ws) c 0 ≡ get_or cells c 0
after_unwritten [] cells c none = refl
after_unwritten (w ∷ ws) cells c none =
    let rest = after_unwritten ws (set cells w.0 w.1) c (grind (arith, nat_tests, none)) in
    let apart : c ≢ w.0 = λ same. grind (arith, nat_tests, none, same) in
    rest ∙ get_or-set_other cells w.0 c w.1 0 apart

pub after_written : (ws : Entries) (cells : List ℕ) (c x : ℕ) → IsAscending ws → word_at ws c ≡ Some x → c < length cells → get_or (after cells ws) c 0 ≡ x
after_written [] cells c x ascending is lt = absurd (cc)
after_written (w ∷ ws) cells c x ascending is lt = dite (ℕ_discrete c w.0)
    (λ same.
    let gone : word_at ws c ≡ None = rw same (first_absent w ws ascending) in
    let here : get_or (set cells w.0 w.1) c 0 ≡ w.1 = rw same (get_or-set_same cells w.0 w.1 0 (rw (← same) lt)) in
    let word : w.1 ≡ x = grind (arith, nat_tests, is, same) in
    after_unwritten ws (set cells w.0 w.1) c gone ∙ here ∙ word)
    (λ apart. after_written ws (set cells w.0 w.1) c x (ascending_tail w ws ascending) (grind (arith, nat_tests, is, apart)) (omega (arith, length-set cells w.0 w.1, lt)))

-- two lists of writes that say the same of a cell leave the same in it
pub after_same_at : (ws vs : Entries) (cells : List ℕ) (c : ℕ) → IsAscending ws → IsAscending vs → word_at ws c ≡ word_at vs c → c < length cells → get_or (after cells ws) c 0 ≡ get_or (after cells vs) c 0
after_same_at ws vs cells c a b same lt = by (word_at ws c) refl
  where
    by : (w : Option ℕ) → word_at ws c ≡ w → get_or (after cells ws) c 0 ≡ get_or (after cells vs) c 0
    by (Some x) e = after_written ws cells c x a e lt ∙ sym (after_written vs cells c x b (sym same ∙ e) lt)
    by None e = after_unwritten ws cells c e ∙ sym (after_unwritten vs cells c (sym same ∙ e))

-- one more write leaves the other cells
pub after_put_other : (ws : Entries) (cells : List ℕ) (c x d : ℕ) → IsAscending ws → d ≢ c → get_or (after cells (put ws c x)) d 0 ≡ get_or (after cells ws) d 0
after_put_other ws cells c x d ascending apart = ap (λ (z : List ℕ). get_or z d 0) (after_put ws cells c x ascending) ∙ get_or-set_other (after cells ws) c d x 0 apart
