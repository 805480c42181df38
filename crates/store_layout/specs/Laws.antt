-- What is true of every layout.
use Rattle.std.specs.Prelude.{◌≡◌, ◌≢◌, ℕ, ◌+◌, ◌^◌, ◌<◌, List, length, All, slice_index}
use Rattle.serial_terms.specs.declared.store.Layout.{Layout}
use Rattle.serial_terms.specs.Serial.{IsWithinCapacity}
use Rattle.serial_terms.specs.Stores.{opening_of}
use Rattle.store_layout.specs.declared.spot.Spot.{Spot}
use Rattle.store_layout.specs.Shapes.{Shape, Object, shape_of, cells_of, first_of, size_of, IsCellOf, IsLayout}
use Rattle.store_layout.specs.Spots.{IsSpotOf, cell_of}
use Rattle.store_layout.specs.States.{AreOf, words_of, state_in, IsFormed, DifferOnlyIn, with_object}
use Rattle.store_layout.specs.Opening.{opening_words}

-- each cell has one spot, and each spot that is there has a cell
pub record CellsHaveSpots : Type 0 where
  pub some : (s : Shape) (c : ℕ) → c < cells_of s → (spot : Spot) × IsSpotOf s spot × (cell_of s spot ≡ c)
  pub one : (s : Shape) (a b : Spot) → IsSpotOf s a → IsSpotOf s b → cell_of s a ≡ cell_of s b → a ≡ b
  pub there : (s : Shape) (spot : Spot) → IsSpotOf s spot → cell_of s spot < cells_of s

-- no cell is part of two structures, and each is part of one
pub record PartsAreApart : Type 0 where
  pub apart : (s : Shape) (o p : Object) (c : ℕ) → IsCellOf s o c → IsCellOf s p c → o ≡ p
  pub there : (s : Shape) (o : Object) (c : ℕ) → IsCellOf s o c → c < cells_of s
  pub cover : (s : Shape) (c : ℕ) → c < cells_of s → (o : Object) × IsCellOf s o c

-- the words of a structure are those of its cells
pub record WordsAreCells : Type 0 where
  pub sized : (s : Shape) (o : Object) (cells : List ℕ) → length cells ≡ cells_of s → length (words_of s o cells) ≡ size_of s o
  pub words : (s : Shape) (o : Object) (cells : List ℕ) (i : ℕ) → i < size_of s o
      → slice_index (words_of s o cells) i ≡ slice_index cells (first_of s o + i)

-- what changes in the cells of one structure changes that structure alone
pub record ChangesStayInPart : Type 0 where
  pub words : (s : Shape) (o p : Object) (before after : List ℕ) → DifferOnlyIn s o before after → p ≢ o → words_of s p after ≡ words_of s p before
  pub state : (s : Shape) (o : Object) (before after : List ℕ) → DifferOnlyIn s o before after
      → state_in s after ≡ with_object (state_in s before) o (state_in s after)
  pub formed : (s : Shape) (o : Object) (before after : List ℕ) → DifferOnlyIn s o before after → IsFormed s before
      → All (λ w. w < 2 ^ 64) after → AreOf o (words_of s o after) → IsFormed s after

-- the state that cells stand for is within its capacities
abbrev pub FormedIsWithinCapacity : Type 0
FormedIsWithinCapacity = (s : Shape) (cells : List ℕ) → IsFormed s cells → IsWithinCapacity (state_in s cells)

-- the words of the opening stand for the opening state
pub record OpeningStands : Type 0 where
  pub formed : (layout : Layout) → IsLayout layout → IsFormed (shape_of layout) (opening_words layout)
  pub state : (layout : Layout) → IsLayout layout → state_in (shape_of layout) (opening_words layout) ≡ opening_of layout
