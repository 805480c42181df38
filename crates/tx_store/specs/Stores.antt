-- A store, its passes and its attempts as contracts see them.
use Rattle.std.specs.Prelude.{◌≡◌, ◌<◌, ◌≤◌, length, All}
use Rattle.cell_table.specs.Pass.{TableState, PassState, IsPassOf}
use Rattle.key_directory.specs.Directory.{DirectoryView}
use Rattle.key_directory.specs.Directory as keys
use Rattle.serial_terms.specs.Renaming.{NamedDone}
use Rattle.store_meaning.specs.Claims.{BooksAreClaimed}
pub use Rattle.store_meaning.specs.Claims.{AreClaimed}
use Rattle.store_layout.specs.Shapes.{Shape, cells_of, most_cells}
use Rattle.tx_core.specs.Tx.{Attempt}

-- its cells, and the directory of its maps' keys
pub record StoreView (M : Type 0) : Type 0 where
  pub table : TableState M
  pub directory : DirectoryView

-- what is true of every store: its cells are those of the plan, and each map has a region of the directory
pub record IsStore {M : Type 0} (plan : Shape) (table : TableState M) (directory : DirectoryView) : Type 0 where
  pub sized : length table.opening ≡ cells_of plan
  pub small : cells_of plan ≤ most_cells
  pub regions : directory.capacities ≡ plan.maps
  pub callers : directory.callers ≡ table.callers
  -- nothing has a capacity of 0
  pub maps : All (λ c. 0 < c) plan.maps
  pub pools : All (λ c. 0 < c) plan.pools

-- its pass of the cells, whose books have each key by its position, and its pass of the directory
pub record PassView (M : Type 0) : Type 0 where
  pub pass : PassState M NamedDone
  pub keys : keys.PassView

-- a pass of the cells and a pass of the directory for as many callers, where each key in the books has the position that was claimed for it
pub record ArePaired {M : Type 0} (pass : PassState M NamedDone) (k : keys.PassView) : Type 0 where
  pub callers : k.callers ≡ length pass.books
  pub room : k.room ≡ pass.room
  pub claimed : BooksAreClaimed k.claims pass.books

-- the pass is one of the store
pub record IsPassOfStore {M : Type 0} (store : StoreView M) (p : PassView M) : Type 0 where
  pub cells : IsPassOf store.table p.pass
  pub keys : p.keys.directory ≡ store.directory
  pub paired : ArePaired p.pass p.keys

-- an attempt's passes are paired, and each key in its calls has the position that was claimed for it
pub record IsPairedAttempt {M : Type 0} (a : Attempt M NamedDone) (k : keys.PassView) : Type 0 where
  pub pass : ArePaired a.pass k
  pub notes : AreClaimed k.claims a.notes

-- an attempt on the cells of a store, with its pass of the directory
pub record TxView (M : Type 0) : Type 0 where
  pub store : StoreView M
  pub attempt : Attempt M NamedDone
  pub keys : keys.PassView
