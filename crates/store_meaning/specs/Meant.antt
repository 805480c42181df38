-- Which records the cells of a store explain.
use Rattle.std.specs.Prelude.{ℕ, List}
use Rattle.cell_table.specs.Cells.{AllHold, after}
use Rattle.serial_terms.specs.declared.call.Done.{Done}
use Rattle.serial_terms.specs.Histories.{Runs}
use Rattle.serial_terms.specs.Renaming.{NamedDone, by_key, by_name}
use Rattle.serial_terms.specs.Serial.{State}
use Rattle.store_history.specs.Meanings.{Explains, IsLawful}
use Rattle.store_layout.specs.Shapes.{Shape}
use Rattle.store_layout.specs.States.{state_in, IsFormed}

-- What a record observed and wrote explains its calls, which are allowed by their keys and by the keys' positions
pub record IsExplained (allows : List Done → Type 0) (s : Shape) (observations writes : List (ℕ × ℕ)) (dones : List NamedDone) : Type 0 where
  pub leads : Explains (IsFormed s) (state_in s) observations writes (by_name dones)
  pub allowed : allows (by_key dones)
  pub placed : allows (by_name dones)

-- an explained record leaves lawful cells lawful
pub keeps_lawful : (lawful_state : State → Type 0) (allows : List Done → Type 0)
    → ((dones : List Done) (s t : State) → lawful_state s → allows dones → Runs s dones t → lawful_state t)
    → (s : Shape) (cells : List ℕ) (observations writes : List (ℕ × ℕ)) (dones : List NamedDone)
    → IsLawful (IsFormed s) (state_in s) lawful_state cells → AllHold cells observations → IsExplained allows s observations writes dones
    → IsLawful (IsFormed s) (state_in s) lawful_state (after cells writes)
keeps_lawful lawful_state allows ends s cells observations writes dones lawful hold explained =
    let led = explained.leads cells lawful.0 hold in
    (led.0, ends (by_name dones) (state_in s cells) (state_in s (after cells writes)) lawful.1 explained.placed led.1)
