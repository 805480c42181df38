-- What a pass of a store knows of the store's history, and what it vouches for.
use Rattle.std.specs.Prelude.{List, Contains}
use Rattle.cell_table.specs.Pass.{PassState}
use Rattle.cell_table.specs.Steps.{Grows}
use Rattle.key_directory.specs.declared.view.Claim.{Claim}
use Rattle.serial_terms.specs.declared.call.Done.{Done}
use Rattle.serial_terms.specs.Renaming.{NamedDone}
use Rattle.serial_terms.specs.Serial.{State}
use Rattle.serial_terms.specs.Sights.{Seen}
use Rattle.store_meaning.specs.Claims.{IsVouchedFor}
use Rattle.store_history.specs.Histories.{OneHistory, WholeHistory}
use Rattle.store_history.specs.Meanings.{IsLawful}
use Rattle.store_layout.specs.States.{IsFormed, state_in}
use Rattle.store_meaning.specs.declared.meaning.StoreMeaning.{StoreMeaning}
use Rattle.tx_store.specs.Stores.{PassView}

module _ {P K : Type 0} (lawful_state : P → State → Type 0) where
  -- the pass vouches for the sight: its view does, and each key in it has the position that was claimed for it
  abbrev pub Vouches : StoreMeaning P K → PassView (StoreMeaning P K) → Seen NamedDone → Type 0
  Vouches m p seen = IsVouchedFor lawful_state m p.pass p.keys.claims seen

  module _ (allowed : P → List Done → Type 0) where
    -- there is one legal history of allowed records, through lawful states, of which its books are a part, and in which all is seen that it
    -- vouches for
    abbrev pub KnowsHistory : StoreMeaning P K → PassState (StoreMeaning P K) NamedDone → Type 0
    KnowsHistory = OneHistory (λ m. IsLawful (IsFormed m.plan) (state_in m.plan) (lawful_state m.purpose)) (λ notes. notes) (λ m. state_in m.plan)
        (λ m. lawful_state m.purpose) (λ m. allowed m.purpose)

    -- and it has the records of these books and no others
    abbrev pub KnowsWholeHistory : StoreMeaning P K → PassState (StoreMeaning P K) NamedDone → Type 0
    KnowsWholeHistory = WholeHistory (λ m. IsLawful (IsFormed m.plan) (state_in m.plan) (lawful_state m.purpose)) (λ notes. notes) (λ m. state_in m.plan)
        (λ m. lawful_state m.purpose) (λ m. allowed m.purpose)

-- the later pass knows what the earlier one knew, and has its claims: so it vouches for all that the earlier one vouches for
pub record Extends {M : Type 0} (old new : PassView M) : Type 0 where
  pub view : Grows old.pass.view new.pass.view
  pub claims : (c : Claim) → Contains old.keys.claims c → Contains new.keys.claims c
