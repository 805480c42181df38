-- What is always true of a bank, and which records keep it.
use Rattle.std.specs.Prelude.{◌≡◌, ℕ, ◌+◌, ◌<◌, ◌≤◌, List, [], ◌∷◌, sum, Option, Some, None}
use Rattle.std.proofs.Common.{sym, subst}
use Rattle.serial_terms.specs.declared.call.Done.{Done}
use Rattle.serial_terms.specs.declared.store.Layout.{Layout}
use Rattle.serial_terms.specs.Histories.{Runs}
use Rattle.serial_terms.specs.Names.{own_calls}
use Rattle.serial_terms.specs.Ranges.{BelowCapacity}
use Rattle.serial_terms.specs.Renaming.{SameButKeys}
use Rattle.serial_terms.specs.Serial.{State}
use Rattle.serial_terms.specs.Stores.{opening_of}
use Rattle.store_layout.specs.Shapes.{IsLayout, shape_of, cells_of, most_cells}

-- what an account has: 100 until it is first set
abbrev pub balance : Option ℕ → ℕ
balance None = 100
balance (Some amount) = amount

-- what the four accounts of a map have together
abbrev pub total : (ℕ → Option ℕ) → ℕ
total accounts = balance (accounts 0) + balance (accounts 1) + balance (accounts 2) + balance (accounts 3)

-- All accounts have 800 together, as at the opening, and the receipts sum to what the receivers gained
pub record IsBank (s : State) : Type 0 where
  pub sums : total (s.maps 0) + total (s.maps 1) ≡ 800
  pub receipts : sum (s.logs 0).items + 400 ≡ total (s.maps 1)

-- the calls lead from a bank to a bank
abbrev pub KeepsBank : List Done → Type 0
KeepsBank dones = (s t : State) → IsBank s → Runs s dones t → IsBank t

-- an account's number is its own position, so that positions in place of keys change nothing
pub renamed_keeps : (dones others : List Done) → SameButKeys BelowCapacity dones others → KeepsBank dones → KeepsBank others
renamed_keeps dones others same keeps = subst KeepsBank (sym (own_calls BelowCapacity (λ c j low. low) dones others same)) keeps

-- two maps of four accounts, a queue of orders and a log of receipts
abbrev pub the_layout : Layout
the_layout = record { maps = 4 ∷ 4 ∷ []; queues = 64 ∷ []; pools = []; logs = 64 ∷ []; cells = 0 }

pub record OpensAsBank : Type 0 where
  pub layout : IsLayout the_layout
  pub some : 0 < cells_of (shape_of the_layout)
  pub few : cells_of (shape_of the_layout) ≤ most_cells
  pub bank : IsBank (opening_of the_layout)
