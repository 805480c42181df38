-- What a dropped child saw, as its attempt vouches for it.
use Rattle.std.specs.Prelude.{ℕ, ◌<◌, List, [], ◌∷◌, length, Contains}
use Rattle.std.proofs.Common.{ap, sym, arith, subst}
use Rattle.std.proofs.lemmas.List.Elements.{Contains-append_left}
use Rattle.cell_table.specs.declared.view.View.{View}
use Rattle.cell_table.specs.Pass.{PassState}
use Rattle.cell_table.specs.Sorted.{Each}
use Rattle.key_directory.specs.declared.view.Claim.{Claim}
use Rattle.cell_table.specs.Steps.{Grows, Observes}
use Rattle.serial_terms.specs.declared.sight.SightEnd.TheVariants.{Child}
use Rattle.serial_terms.specs.Renaming.{NamedDone}
use Rattle.serial_terms.specs.Serial.{State}
use Rattle.serial_terms.specs.Sights.{Seen}
use Rattle.store_meaning.specs.Claims.{IsVouchedFor}
use Rattle.store_meaning.specs.ClaimFacts.{claimed_more}
use Rattle.store_meaning.specs.declared.meaning.StoreMeaning.{StoreMeaning}
use Rattle.tx_core.specs.Facts.{observes_grows}
use Rattle.tx_store.specs.Children.{Content, GrowsOn}
use Rattle.tx_store.specs.Stores.{StoreView, TxView}

-- the calls of the parent before the child and the child's own, as a sight at the place, whoever made them
abbrev pub seen_by_child : ℕ → ℕ → ℕ → List NamedDone → Seen NamedDone
seen_by_child caller after place dones = record { caller = caller; after = after; place = place; end = Child; dones = dones }

-- what is observed stays so where more is known
pub stand_on : {M D : Type 0} (v w : View M D) (place : ℕ) (os : List (ℕ × ℕ)) → Grows v w → Each (λ o. (o.0 < length v.opening) × Observes v o.0 o.1 place) os → Each (λ o. (o.0 < length w.opening) × Observes w o.0 o.1 place) os
stand_on v w place [] grows all = tt
stand_on v w place (o ∷ os) grows all =
    let here = all.0 in
    let below : o.0 < length w.opening = omega (arith, ap (λ (cells : List ℕ). length cells) grows.opening, here.0) in
    ((below, observes_grows v w o.0 o.1 place grows here.1), stand_on v w place os grows all.1)

module _ {P K : Type 0} (lawful_state : P → State → Type 0) where
  -- the pass vouches for what the child saw
  abbrev pub SawBy : StoreMeaning P K → PassState (StoreMeaning P K) NamedDone → List Claim → ℕ → List NamedDone → Type 0
  SawBy m p claims place dones = (caller after : ℕ) → IsVouchedFor lawful_state m p claims (seen_by_child caller after place dones)

  abbrev pub SawIn : TxView (StoreMeaning P K) → Content → ℕ → Type 0
  SawIn t c place = SawBy t.store.table.meaning t.attempt.pass t.keys.claims place c.notes

  pub saw_on : (a b : TxView (StoreMeaning P K)) (c : Content) (place : ℕ) → GrowsOn a b → SawIn a c place → SawIn b c place
  saw_on a b c place grows saw = λ caller after.
      let saw_so = saw caller after in
      let view = saw_so.view in
      let v = a.attempt.pass.view in
      let w = b.attempt.pass.view in
      let claims = grows.keys.claims in
      let more : (x : Claim) → Contains a.keys.claims x → Contains b.keys.claims x = λ x there. rw claims.1 (Contains-append_left a.keys.claims claims.0 x there) in
      subst (λ (m : StoreMeaning P K). SawBy m b.attempt.pass b.keys.claims place c.notes) (ap (λ (s : StoreView (StoreMeaning P K)). s.table.meaning) (sym grows.store)) (λ caller after. record {
        view = record {
          observations = view.observations;
          known = omega (arith, view.known, grows.cells.known);
          stand = stand_on v w place view.observations grows.cells view.stand;
          run = view.run;
        };
        claimed = claimed_more a.keys.claims b.keys.claims more c.notes saw_so.claimed;
      }) caller after
