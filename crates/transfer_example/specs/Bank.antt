-- What the accounts and the receipts have together.
use Rattle.std.specs.Prelude.{◌≡◌, ℕ, zero, suc, ◌+◌, List, [], ◌++◌, length, sum, Option, Some, None}
use Rattle.cell_table.specs.Cells.{after, AllHold}
use Rattle.tx_map.specs.Map.{map_of}
use Rattle.tx_log.specs.Log.{IsLog, values_in}
use Rattle.transfer_example.specs.declared.bank.TheConstants.{SENDERS, RECEIVERS, RECEIPTS}

abbrev pub amount_of : Option ℕ → ℕ
amount_of None = 0
amount_of (Some amount) = amount

-- what the accounts below n have together
abbrev pub total : (ℕ → Option ℕ) → ℕ → ℕ
total accounts zero = 0
total accounts (suc n) = total accounts n + amount_of (accounts n)

-- The accounts have this sum, and the receipts, with those that are to be added, are what the receivers gained
pub record IsBank (sum_of_all : ℕ) (cells adding : List ℕ) : Type 0 where
  pub sized : length cells ≡ 41
  pub log : IsLog RECEIPTS cells
  pub kept : total (map_of SENDERS cells) 4 + total (map_of RECEIVERS cells) 4 ≡ sum_of_all
  pub receipts : sum (values_in RECEIPTS cells ++ adding) + 400 ≡ total (map_of RECEIVERS cells) 4

-- wherever these observations hold, the writes keep the sum, and leave these receipts to be added
abbrev pub Keeps : ℕ → List ℕ → List (ℕ × ℕ) → List (ℕ × ℕ) → Type 0
Keeps sum_of_all adding observations writes = (cells : List ℕ) → IsBank sum_of_all cells [] → AllHold cells observations → IsBank sum_of_all (after cells writes) adding
