-- The calls of a plain cell.
use Rattle.std.proofs.Common.{◌≡◌, ℕ, ◌+◌, ◌^◌, ◌<◌, ltb, List, length, drop, get_or, ap, sym, ◌∙◌, refl, subst, arith}
use Rattle.std.specs.List.{All}
use Rattle.std.proofs.lemmas.Bool.{cond-true, lt-ltb}
use Rattle.std.proofs.lemmas.List.{get_or-set_same, length-take}
use Rattle.std.proofs.lemmas.List.Elements.{All-from_get_or}
use Rattle.cell_table.specs.Cells.{AllHold, after}
use Rattle.serial_terms.specs.declared.call.Call.TheVariants.{CellGet, CellPut}
use Rattle.serial_terms.specs.declared.call.Reply.TheVariants.{Nothing, Value}
use Rattle.serial_terms.specs.Counts.{with_at}
use Rattle.serial_terms.specs.Facts.{with_at_own}
use Rattle.serial_terms.specs.Renaming.{NamedDone, named}
use Rattle.serial_terms.specs.Serial.{State, IsReplied, step}
use Rattle.store_layout.specs.Laws.{PartsAreApart, WordsAreCells}
use Rattle.store_layout.specs.Shapes.{Shape, the_cell, first_of, size_of}
use Rattle.store_layout.specs.States.{words_of, state_in, IsFormed}
use Rattle.store_meaning.specs.Follows.{Progress, state_with, IsCallOn}
use Rattle.store_parts.specs.Parts.{Touches, WaitsAlike, noted}
use Rattle.store_parts.specs.Laws.{CellCalls}
use Rattle.store_parts.proofs.Touching.{fits, word_below, changes_only}

module _ (cells_law : WordsAreCells) (apart : PartsAreApart) (s : Shape) (c : ℕ) (there : c < s.cells) where
  one : size_of s (the_cell c) ≡ 1
  one = cond-true {A = ℕ} (ltb c s.cells) 1 0 (lt-ltb c s.cells there)

  cell_at : (cells : List ℕ) → (state_in s cells).cells c ≡ get_or cells (first_of s (the_cell c)) 0
  unfolding state_in
  cell_at cells = cells_law.words s (the_cell c) cells 0 (omega (arith, one)) ∙ ap (λ (k : ℕ). get_or cells k 0) (omega arith)

  inside : (cells : List ℕ) → IsFormed s cells → first_of s (the_cell c) < length cells
  inside cells f = omega (arith, one, fits apart s (the_cell c) (omega (arith, one)) cells f)

  below : (cells : List ℕ) (x : ℕ) → get_or cells (first_of s (the_cell c)) 0 ≡ x → x < 2 ^ 64 → All (λ w. w < 2 ^ 64) (words_of s (the_cell c) cells)
  below cells x e lt = All-from_get_or (λ w. w < 2 ^ 64) (words_of s (the_cell c) cells) 0 (λ i in_words.
      let first : i ≡ 0 = omega (arith, one, length-take (size_of s (the_cell c)) (drop (first_of s (the_cell c)) cells)) in
      let at : get_or (words_of s (the_cell c) cells) i 0 ≡ get_or (words_of s (the_cell c) cells) 0 0 = ap (λ (k : ℕ). get_or (words_of s (the_cell c) cells) k 0) first in
      let word = cells_law.words s (the_cell c) cells 0 (omega (arith, one)) in
      let shift : get_or cells (first_of s (the_cell c) + 0) 0 ≡ get_or cells (first_of s (the_cell c)) 0 = ap (λ (k : ℕ). get_or cells k 0) (omega arith) in
      omega arith)

  on_cell : (old new : Progress) (d : NamedDone) (x : ℕ) → Touches s (the_cell c) old new → WaitsAlike old new
      → ((cells : List ℕ) → AllHold cells new.observations → IsFormed s (after cells old.writes) → (get_or (after cells new.writes) (first_of s (the_cell c)) 0 ≡ x) × (x < 2 ^ 64))
      → ((cells : List ℕ) → AllHold cells new.observations → IsFormed s (after cells old.writes) → (st : State) → st.cells c ≡ get_or (after cells old.writes) (first_of s (the_cell c)) 0
      → IsReplied st (named d) × (step st (named d) ≡ (let z : State = record st { cells = with_at st.cells c x } in z)))
      → IsCallOn s (the_cell c) old new d
  unfolding state_with
  on_cell old new d x touches waits has steps = record {
    earlier = touches.earlier;
    changes = λ cells hold f. let h = has cells hold f in changes_only s (the_cell c) old new touches (λ q own. waits q) cells (below (after cells new.writes) x h.0 h.1) tt;
    steps = λ cells hold f.
        let st : State = state_with s (after cells old.writes) old.waiting in
        let y = steps cells hold f st (cell_at (after cells old.writes)) in
        let e : x ≡ (state_in s (after cells new.writes)).cells c = sym (has cells hold f).0 ∙ sym (cell_at (after cells new.writes)) in
        record { replied = y.0; leaves = y.1 ∙ ap (λ (v : ℕ). let z : State = record st { cells = with_at st.cells c v } in z) e };
  }

  pub cell_calls : CellCalls s c
  cell_calls = record {
    get = λ old new x child touches waits explains. on_cell old new (noted (CellGet c) (Value x) child 0) x touches waits
        (λ cells hold f.
        let y = explains cells hold (inside (after cells old.writes) f) in
        let small : get_or (after cells old.writes) (first_of s (the_cell c)) 0 < 2 ^ 64 = word_below (after cells old.writes) (first_of s (the_cell c)) f.words in
        (ap (λ (z : List ℕ). get_or z (first_of s (the_cell c)) 0) y.1 ∙ y.0, subst (λ (z : ℕ). z < 2 ^ 64) y.0 small))
        (λ cells hold f st own.
        let y = explains cells hold (inside (after cells old.writes) f) in
        let e : st.cells c ≡ x = own ∙ y.0 in (
          ap (λ (z : ℕ). Value z) (sym e),
          ap (λ (g : ℕ → ℕ). let z : State = record st { cells = g } in z) (sym (with_at_own st.cells c) ∙ ap (with_at st.cells c) e),
        ));
    put = λ old new x child touches waits small explains. on_cell old new (noted (CellPut c x) Nothing child 0) x touches waits
        (λ cells hold f.
        let y = explains cells hold (inside (after cells old.writes) f) in
        (ap (λ (z : List ℕ). get_or z (first_of s (the_cell c)) 0) y ∙ get_or-set_same (after cells old.writes) (first_of s (the_cell c)) x 0 (inside (after cells old.writes) f), small))
        (λ cells hold f st own. (refl, refl));
  }
