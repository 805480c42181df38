-- What a pass vouches for was seen of one moment.
use Rattle.std.proofs.Common.{◌≡◌, ℕ, ◌<◌, List, [], ◌∷◌, length, sym, subst}
use Rattle.std.specs.Prelude.{slice_index}
use Rattle.cell_table.specs.Cells.{AllHold}
use Rattle.cell_table.specs.Pass.{PassState}
use Rattle.cell_table.specs.Sorted.{Each}
use Rattle.cell_table.specs.Steps.{Observes}
use Rattle.key_directory.specs.declared.view.Claim.{Claim}
use Rattle.serial_terms.specs.Renaming.{NamedDone}
use Rattle.serial_terms.specs.Serial.{State}
use Rattle.serial_terms.specs.Sights.{Seen}
use Rattle.store_history.specs.Meanings.{IsLawful}
use Rattle.store_layout.specs.States.{IsFormed, state_in}
use Rattle.store_layout.specs.Within.{formed_is_within_capacity}
use Rattle.store_meaning.specs.Claims.{IsVouchedFor}
use Rattle.store_meaning.specs.declared.meaning.StoreMeaning.{StoreMeaning}
use Rattle.tx_store.specs.Sees.{SeesState}

module _ {P K : Type 0} (lawful_state : P → State → Type 0) (m : StoreMeaning P K) (p : PassState (StoreMeaning P K) NamedDone) where
  -- at each place there is one lawful list of cells, in which all stands that the pass observes there
  abbrev pub HasMoments : Type 0
  HasMoments = (place : ℕ) → (cells : List ℕ) × IsLawful (IsFormed m.plan) (state_in m.plan) (lawful_state m.purpose) cells × (length cells ≡ length p.view.opening)
      × ((cell x : ℕ) → cell < length p.view.opening → Observes p.view cell x place → slice_index cells cell ≡ x)

  holds_there : (place : ℕ) (cells : List ℕ) → length cells ≡ length p.view.opening → ((cell x : ℕ) → cell < length p.view.opening → Observes p.view cell x place → slice_index cells cell ≡ x)
      → (os : List (ℕ × ℕ)) → Each (λ o. (o.0 < length p.view.opening) × Observes p.view o.0 o.1 place) os → AllHold cells os
  holds_there place cells sized read [] stand = tt
  holds_there place cells sized read (o ∷ os) stand =
      ((subst (λ (n : ℕ). o.0 < n) (sym sized) stand.0.0, read o.0 o.1 stand.0.0 stand.0.1), holds_there place cells sized read os stand.1)

  pub sees_state : HasMoments → (claims : List Claim) (seen : Seen NamedDone) → IsVouchedFor lawful_state m p claims seen → SeesState lawful_state m seen
  sees_state moments claims seen vouched =
      let there = moments seen.place in
      let view = vouched.view in
      let ran = view.run there.0 there.1 (holds_there seen.place there.0 there.2 there.3 view.observations view.stand) in
      record {
        state = state_in m.plan there.0;
        lawful = there.1.1;
        within = formed_is_within_capacity m.plan there.0 there.1.0;
        now = ran.0;
        run = ran.1;
        ends = ran.2;
      }
