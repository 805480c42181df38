-- The store that the workloads run over.
use Rattle.std.specs.Prelude.{◌<◌, ◌≤◌, length}
use Rattle.store_layout.specs.Shapes.{Shape}
use Rattle.tx_core.specs.Calls.{MayCommit}
use Rattle.store_meaning.specs.declared.meaning.StoreMeaning.{StoreMeaning}
use Rattle.tx_store.specs.Stores.{StoreView, TxView}

-- there is a structure of each kind, and two plain cells
pub record HasEach (s : Shape) : Type 0 where
  pub map : 0 < length s.maps
  pub queue : 0 < length s.queues
  pub pool : 0 < length s.pools
  pub log : 0 < length s.logs
  pub cells : 2 ≤ s.cells

module _ {P K : Type 0} where
  abbrev pub IsOpened : StoreView (StoreMeaning P K) → Type 0
  IsOpened store = HasEach store.table.meaning.plan

  -- further calls may follow, or the commit
  pub record IsReady (t : TxView (StoreMeaning P K)) : Type 0 where
    pub may : MayCommit t.attempt
    pub store : IsOpened t.store
