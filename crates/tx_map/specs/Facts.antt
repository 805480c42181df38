-- Facts of what calls leave of a map, whatever the table's meaning, for the proofs of the crates above.
use Rattle.std.proofs.Common.{ℕ, List, Result, Ok, Err, sym, ◌∙◌}
use Rattle.cell_table.specs.Cells.{after}
use Rattle.tx_core.specs.Tx.{Attempt}
use Rattle.tx_core.specs.Calls.{TouchesOnly}
use Rattle.tx_core.specs.Words.{length_after}
use Rattle.key_directory.specs.Directory.{PassView}
use Rattle.tx_map.specs.declared.part.MapPart.{MapPart}
use Rattle.tx_map.specs.declared.part.MapStop.{MapStop}
use Rattle.tx_map.specs.declared.part.MapStop.TheVariants.{Stop, KeysFull}
use Rattle.tx_map.specs.Calls.{ClaimsKey, IfFull}
use Rattle.tx_map.specs.Map.{IsCellOf, SameCells}

-- a call that touches none of the map's cells leaves the map
pub same_after : {M D : Type 0} (part : MapPart) (P : ℕ → Type 0) (old new : Attempt M D) → TouchesOnly P old new → ((c : ℕ) → IsCellOf part c → P c → ⊥) → (cells : List ℕ) → SameCells part (after cells new.writes) (after cells old.writes)
same_after part P old new touches apart cells = record {
  sized = length_after new.writes cells ∙ sym (length_after old.writes cells);
  words = λ c of. touches.others cells c (apart c of);
}

-- how a call ends after its claim says nothing else of the claim
pub claims_go_on : {A B : Type 0} → (part : MapPart) (passes : ℕ → ℕ → Type 0) (key : ℕ) (old new : PassView) (a : A) (r : Result B MapStop) → IfFull r (λ capacity. ⊥) → ClaimsKey part passes key old new (Ok a) → ClaimsKey part passes key old new r
claims_go_on part passes key old new a (Ok b) never c = record { pass = c.pass; stays = c.stays; only = c.only; trail = c.trail; steps = c.steps; claimed = c.claimed; full = c.full; refused = tt; own_number = c.own_number }
claims_go_on part passes key old new a (Err (Stop stop)) never c = record { pass = c.pass; stays = c.stays; only = c.only; trail = c.trail; steps = c.steps; claimed = c.claimed; full = c.full; refused = tt; own_number = c.own_number }
claims_go_on part passes key old new a (Err (KeysFull capacity)) never c = absurd never

-- and a claim that found the region full is one of each call that it ends
pub claims_full : {A B : Type 0} → (part : MapPart) (passes : ℕ → ℕ → Type 0) (key capacity : ℕ) (old new : PassView) → ClaimsKey part {A = A} passes key old new (Err (KeysFull capacity)) → ClaimsKey part {A = B} passes key old new (Err (KeysFull capacity))
claims_full part passes key capacity old new c = record { pass = c.pass; stays = c.stays; only = c.only; trail = c.trail; steps = c.steps; claimed = c.claimed; full = c.full; refused = c.refused; own_number = c.own_number }
