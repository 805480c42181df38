-- Attempts on the store of a bank.
use Rattle.std.specs.Prelude.{◌≡◌, List}
use Rattle.serial_terms.specs.declared.call.Done.{Done}
use Rattle.serial_terms.specs.Histories.{Runs}
use Rattle.serial_terms.specs.Serial.{State}
use Rattle.store_layout.specs.Shapes.{shape_of}
use Rattle.store_meaning.specs.declared.meaning.StoreMeaning.{StoreMeaning}
use Rattle.tx_core.specs.Calls.{MayCommit}
use Rattle.tx_store.specs.Stores.{StoreView, TxView}
use Rattle.store_bodies.specs.Bank.{IsBank, the_layout}
use Rattle.store_bodies.specs.declared.bank.Bank.{Bank}

module _ {K : Type 0} where
  -- the store is laid out as a bank
  abbrev pub IsBankStore : StoreView (StoreMeaning Bank K) → Type 0
  IsBankStore store = store.table.meaning.plan ≡ shape_of the_layout

  -- further calls may follow, or the commit
  pub record IsReady (t : TxView (StoreMeaning Bank K)) : Type 0 where
    pub may : MayCommit t.attempt
    pub store : IsBankStore t.store

-- the calls run, with these replies, from some state that is a bank
pub record RunsFromBank (dones : List Done) : Type 0 where
  pub state : State
  pub bank : IsBank state
  pub now : State
  pub run : Runs state dones now
