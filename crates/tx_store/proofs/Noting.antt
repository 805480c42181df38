-- What a note leaves of an attempt, and what touches no more than a structure.
use Rattle.std.proofs.Common.{◌≡◌, ℕ, List, [], ◌∷◌, ◌++◌, refl, sym, subst}
use Rattle.std.specs.Prelude.{Some, None}
use Rattle.cell_table.specs.Cells.{AllHold}
use Rattle.cell_table.specs.Pass.{trail_of}
use Rattle.store_layout.specs.Shapes.{Shape, Object, IsCellOf}
use Rattle.store_parts.specs.Parts.{progress, Touches}
use Rattle.tx_core.specs.declared.stop.Stop.TheVariants.{Memory}
use Rattle.tx_core.specs.declared.stop.TxState.{TxState}
use Rattle.tx_core.specs.declared.stop.TxState.TheVariants.{Running, Child, ChildStopped, Stopped}
use Rattle.tx_core.specs.Calls.{HoldsAt, TouchesOnly, IsOpen, stopped_from}
use Rattle.tx_core.specs.Facts.{grew_none, goes_none, touches_none}
use Rattle.tx_core.specs.Tx.{Attempt}
use Rattle.attempt_lists.specs.Cells.{Entries}

never_open : (state : TxState) → IsOpen (stopped_from state) → ⊥
never_open Running open_now = absurd (cc)
never_open Child open_now = absurd (cc)
never_open ChildStopped open_now = absurd (cc)
never_open Stopped open_now = absurd (cc)

pub closed : (old new : TxState) → new ≡ stopped_from old → IsOpen new → ⊥
closed old new is open_now = never_open old (subst IsOpen is open_now)

all_earlier : (cells : List ℕ) (os more : Entries) → AllHold cells (os ++ more) → AllHold cells os
all_earlier cells [] more h = tt
all_earlier cells (o ∷ os) more h = (h.0, all_earlier cells os more h.1)

module _ {M D : Type 0} where
  -- notes alone differ
  pub noted_ok : (P : ℕ → Type 0) (a b : Attempt M D) (ds : List D) → b ≡ record a { notes = ds } → HoldsAt P 0 a b None
  noted_ok P a b ds is =
      let c : Attempt M D = record a { notes = ds } in
      subst (λ (z : Attempt M D). HoldsAt P 0 a z None) (sym is) record {
        ends = refl;
        does = record { version = refl; touches = touches_none P a c refl refl refl; pass = goes_none a.pass; steps = grew_none (trail_of a.pass) };
        known = refl;
        began = refl;
      }

  -- the attempt was stopped by want of memory
  pub noted_err : (P : ℕ → Type 0) (a b : Attempt M D) → b ≡ record a { state = stopped_from a.state } → HoldsAt P 0 a b (Some Memory)
  noted_err P a b is =
      let c : Attempt M D = record a { state = stopped_from a.state } in
      subst (λ (z : Attempt M D). HoldsAt P 0 a z (Some Memory)) (sym is) record {
        ends = record { state = refl; of = tt; cause = tt; sole = λ sole. refl };
        does = record { version = refl; touches = touches_none P a c refl refl refl; pass = goes_none a.pass; steps = grew_none (trail_of a.pass) };
        known = refl;
        began = refl;
      }

  -- a call that touches only cells of a structure
  pub touches_part : (s : Shape) (o : Object) (P : ℕ → Type 0) (old new : Attempt M D) → ((c : ℕ) → P c → IsCellOf s o c) → TouchesOnly P old new → Touches s o (progress old) (progress new)
  touches_part s o P old new inside touches = record {
    earlier = λ cells hold. let more = touches.observed in all_earlier cells old.observations more.0 (subst (AllHold cells) more.1 hold);
    others = λ cells c apart. touches.others cells c (λ own. apart (inside c own));
  }
