-- What each step tells the seat that makes it: its view afterwards, and what the word found says.
use Rattle.std.specs.Prelude.{◌≡◌, ◌≢◌, ℕ, ◌+◌, ◌*◌, ◌/◌, ◌^◌, ◌<◌, ◌≤◌, false, List, length}
use Rattle.atomic_table.specs.Table.{Me, Step}
use Rattle.cell_table.specs.Sorted.{Each}
use Rattle.cell_table.specs.Cells.{has}
use Rattle.cell_table.specs.declared.view.Record.{Record}
use Rattle.cell_table.specs.declared.view.View.{View}
use Rattle.cell_table.specs.declared.view.Stage.TheVariants.{Open, Drawn}
use Rattle.cell_table.specs.Rule.{cells_of, cell_of_lock, cell_of_value}
use Rattle.cell_table.specs.Steps.{clocked, looked, valued, taken, missed, drawn, first_put, next_put, given, IsWord}
use Rattle.cell_table.specs.Legal.{LegalNow}

module _ {M D : Type 0} (lawful : M → List ℕ → Type 0) (explains : M → List (ℕ × ℕ) → List (ℕ × ℕ) → List D → Type 0) where
  abbrev pub Seat : Type 0
  Seat = Me (Unit {0}) (View M D)

  abbrev pub clock_told : Step (Unit {0}) → Seat → ℕ → Seat → Type 0
  clock_told st me r me' = (me'.0 ≡ clocked me.0 r) × (me.0.known ≤ r) × (me.0.stage ≡ Open → Each (λ t. t.1 ≤ r) me.0.held) × (length me.0.books ≡ me.0.total → r + me.0.draws ≡ me.0.total * 2 ^ 48) × LegalNow lawful explains me'.0 × (me'.1 ≡ me.1)

  abbrev pub lock_told : Step (Unit {0}) → Seat → ℕ → Seat → Type 0
  lock_told st me r me' = (me'.0 ≡ looked me.0 (cell_of_lock st.word) r) × IsWord me.0 (cell_of_lock st.word) r × LegalNow lawful explains me'.0 × (me'.1 ≡ me.1)

  abbrev pub value_told : Step (Unit {0}) → Seat → ℕ → Seat → Type 0
  value_told st me r me' = (me'.0 ≡ valued me.0 (cell_of_value st.word) r) × LegalNow lawful explains me'.0 × (me'.1 ≡ me.1)

  abbrev pub take_told : Step (Unit {0}) → Seat → ℕ → Seat → Type 0
  take_told st me r me' = (r ≡ st.first → (me'.0 ≡ taken me.0 (cell_of_lock st.word) (st.first / 2)) × (has (cell_of_lock st.word) (cells_of me.0.held) ≡ false)) × (r ≢ st.first → me'.0 ≡ missed me.0 (cell_of_lock st.word) r)
      × IsWord me.0 (cell_of_lock st.word) r × LegalNow lawful explains me'.0 × (me'.1 ≡ me.1)

  abbrev pub draw_told : Step (Unit {0}) → Seat → ℕ → Seat → Type 0
  draw_told st me r me' = (me'.0 ≡ drawn me.0 (r + 1)) × (me.0.known ≤ r) × (r + 1 < 2 ^ 61) × Each (λ t. t.1 ≤ r) me.0.held × LegalNow lawful explains me'.0 × (me'.1 ≡ me.1)

  abbrev pub give_told : Step (Unit {0}) → Seat → ℕ → Seat → Type 0
  give_told st me r me' = (me'.0 ≡ given me.0 (cell_of_lock st.word) st.first) × LegalNow lawful explains me'.0 × (me'.1 ≡ me.1)

  abbrev pub first_told : Record D → Step (Unit {0}) → Seat → ℕ → Seat → Type 0
  first_told plan st me r me' = ((u : ℕ) → me.0.stage ≡ Drawn u → me'.0 ≡ first_put me.0 u plan (cell_of_value st.word) st.first) × LegalNow lawful explains me'.0 × (me'.1 ≡ me.1)

  abbrev pub next_told : Step (Unit {0}) → Seat → ℕ → Seat → Type 0
  next_told st me r me' = (me'.0 ≡ next_put me.0 (cell_of_value st.word) st.first) × LegalNow lawful explains me'.0 × (me'.1 ≡ me.1)
