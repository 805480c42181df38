-- What a pass vouches for stays so.
use Rattle.std.proofs.Common.{ℕ, ◌<◌, length, ap, arith}
use Rattle.cell_table.specs.Steps.{Grows, Observes}
use Rattle.cell_table.specs.declared.view.View.{View}
use Rattle.serial_terms.specs.Renaming.{NamedDone}
use Rattle.serial_terms.specs.Serial.{State}
use Rattle.serial_terms.specs.Sights.{Seen}
use Rattle.store_meaning.specs.ClaimFacts.{each_wider, claimed_more}
use Rattle.store_meaning.specs.declared.meaning.StoreMeaning.{StoreMeaning}
use Rattle.tx_store.specs.Known.{Vouches, Extends}
use Rattle.tx_store.specs.Stores.{PassView}

still_observed : {M D : Type 0} (v w : View M D) → Grows v w → (c x p : ℕ) → Observes v c x p → Observes w c x p
still_observed v w g c x p o = (o.0, o.1, g.values (c, o.0, x) o.2, g.validations (c, o.0, o.1) o.3, o.4, o.5)

pub vouching_stays : {P K : Type 0} (lawful_state : P → State → Type 0) (m : StoreMeaning P K) (old new : PassView (StoreMeaning P K)) (seen : Seen NamedDone)
    → Extends old new → Vouches lawful_state m old seen → Vouches lawful_state m new seen
vouching_stays lawful_state m old new seen e v =
    let later = e.view.known in let before = v.view.known in let size = ap length e.view.opening in
    record {
      view = record {
        observations = v.view.observations;
        known = omega arith;
        stand = each_wider (λ o. (o.0 < length old.pass.view.opening) × Observes old.pass.view o.0 o.1 seen.place) (λ o. (o.0 < length new.pass.view.opening) × Observes new.pass.view o.0 o.1 seen.place)
            (λ o s. let low = s.0 in (omega arith, still_observed old.pass.view new.pass.view e.view o.0 o.1 seen.place s.1)) v.view.observations v.view.stand;
        run = v.view.run;
      };
      claimed = claimed_more old.keys.claims new.keys.claims e.claims seen.dones v.claimed;
    }
