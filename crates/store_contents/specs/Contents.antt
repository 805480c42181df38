-- What the cells of a closed store and the keys of its maps hold.
use Rattle.std.specs.Prelude.{◌≡◌, ℕ, zero, suc, ◌<◌, ◌==◌, List, [], length, slice_index, get_or, Option, Some, None, if◌then◌else◌}
use Rattle.key_directory.specs.Directory.{KeyListView, key_held}
use Rattle.key_directory.specs.Words.{capacity_of, word_number, IsPosition}
use Rattle.serial_terms.specs.declared.store.Layout.{Layout}
use Rattle.serial_terms.specs.declared.store.StoreState.{StoreState}
use Rattle.serial_terms.specs.Entries.{OrderedBy, Each}
use Rattle.serial_terms.specs.Renaming.{by_keys}
use Rattle.serial_terms.specs.Stores.{state_of}
use Rattle.store_layout.specs.Shapes.{Shape, shape_of, the_pool}
use Rattle.store_layout.specs.States.{words_of, items_in, state_in}

-- the position of the first n that holds the key; no two do
abbrev pub position_below : KeyListView → ℕ → ℕ → ℕ → Option ℕ
position_below keys map key zero = None
position_below keys map key (suc n) = if slice_index keys.words (word_number keys.capacities map n) == suc key then Some n else position_below keys map key n

-- the name that a map's key has in the cells: its position, if it has one
abbrev pub name_in : KeyListView → ℕ → ℕ → Option ℕ
name_in keys map key = position_below keys map key (capacity_of keys.capacities map)

-- no key of a map is at two positions
abbrev pub KeysAreApart : KeyListView → Type 0
KeysAreApart keys = (map key p q : ℕ) → IsPosition keys.capacities map p → IsPosition keys.capacities map q
    → key_held keys map p ≡ Some key → key_held keys map q ≡ Some key → p ≡ q

-- the keys ascend, and none is there twice
abbrev pub AreByKey : List (ℕ × ℕ) → Type 0
AreByKey = OrderedBy (λ a b. a.0 < b.0)

-- as many structures of each kind as the shape has
pub record HasAll (s : Shape) (contents : StoreState) : Type 0 where
  pub maps : length contents.maps ≡ length s.maps
  pub queues : length contents.queues ≡ length s.queues
  pub pools : length contents.pools ≡ length s.pools
  pub logs : length contents.logs ≡ length s.logs
  pub cells : length contents.cells ≡ s.cells

-- The contents are what the cells and the keys hold: for each layout of this shape they stand for the state of the cells, with keys in
-- the place of their positions. Maps are in key order, and pools have their items in the order of their slots
pub record AreContents (s : Shape) (cells : List ℕ) (keys : KeyListView) (contents : StoreState) : Type 0 where
  pub state : (layout : Layout) → s ≡ shape_of layout → state_of layout contents ≡ by_keys (name_in keys) (state_in s cells)
  pub maps : Each AreByKey contents.maps
  pub slots : (p : ℕ) → p < length s.pools → get_or contents.pools p [] ≡ items_in (words_of s (the_pool p) cells)
  pub counted : HasAll s contents
