-- How a cell is found in a list: by a filter that most other cells don't pass, and in a long list by its order or by chains.
use Rattle.std.specs.Prelude.{◌≡◌, ℕ, ◌+◌, ◌%◌, ◌<◌, ◌≤◌, true, false, length}
use Rattle.std.specs.Int.{bit_at}
use Rattle.std.specs.Vec.{vec_capacity}
use Rattle.attempt_lists.specs.Cells.{Entries, cell_at, IsAscending}
use Rattle.attempt_lists.specs.Buckets.{AreChains}
use Rattle.attempt_lists.specs.declared.cell_index.CellIndex.{CellIndex}
use Rattle.attempt_lists.specs.declared.chains.Chains.{Chains}

-- the cell's bit is set in the filter
abbrev pub Passes : ℕ → ℕ → Type 0
Passes filter cell = bit_at filter (cell % 64) ≡ 1

-- every cell of the entries passes
abbrev pub AllPass : ℕ → Entries → Type 0
AllPass filter entries = (i : ℕ) → i < length entries → Passes filter (cell_at entries i)

-- the entries are few, or they ascend, or the chains have them
pub record Indexes (index : CellIndex) (entries : Entries) : Type 0 where
  pub few : index.active ≡ false → index.ordered ≡ false → length entries ≤ 16
  pub ascending : index.ordered ≡ true → IsAscending entries
  pub chained : index.active ≡ true → AreChains index.chains.heads.items index.chains.links.items entries (length entries)

-- chains of n entries have room, and a bucket
pub record Holds (chains : Chains) (n : ℕ) : Type 0 where
  pub links : n ≤ vec_capacity chains.links
  pub heads : 0 < length chains.heads.items

-- a list of this length may have so many entries more without memory
pub record HasRoom (index : CellIndex) (len more : ℕ) : Type 0 where
  pub chained : index.active ≡ true → Holds index.chains (len + more)
  pub many : 16 < len + more → Holds index.chains (len + more)
