-- The pass of the directory after a claim, beside an attempt whose keys have their positions.
use Rattle.std.proofs.Common.{◌≡◌, ℕ, List, [], ◌∷◌, ap, sym, ◌∙◌, subst}
use Rattle.std.specs.Prelude.{Ok, Err, None, Contains}
use Rattle.std.proofs.lemmas.List.Elements.{Contains-push, Contains-append_left}
use Rattle.key_directory.specs.Directory as keys
use Rattle.key_directory.specs.Directory.{claim_of}
use Rattle.key_directory.specs.declared.view.Claim.{Claim}
use Rattle.serial_terms.specs.Renaming.{NamedDone}
use Rattle.store_meaning.specs.ClaimFacts.{claimed_more, books_more}
use Rattle.store_parts.specs.Parts.{map_part}
use Rattle.store_layout.specs.Shapes.{Shape}
use Rattle.tx_core.specs.Tx.{Attempt}
use Rattle.tx_map.specs.Calls.{ClaimsKey, position_of, stop_in}
use Rattle.tx_map.specs.declared.part.MapPart.{MapPart}
use Rattle.tx_map.specs.declared.part.MapStop.{MapStop}
use Rattle.tx_map.specs.declared.part.MapStop.TheVariants.{Stop, KeysFull}
use Rattle.tx_store.specs.Stores.{IsPairedAttempt}

-- a pass of the directory for as many callers, with all claims of the earlier one
module _ {M : Type 0} (a : Attempt M NamedDone) (k l : keys.PassView) (callers : l.callers ≡ k.callers) (room : l.room ≡ k.room) (more : (c : Claim) → Contains k.claims c → Contains l.claims c) where
  pub paired_later : IsPairedAttempt a k → IsPairedAttempt a l
  paired_later pair = record {
    pass = record {
      callers = callers ∙ pair.pass.callers;
      room = room ∙ pair.pass.room;
      claimed = books_more k.claims l.claims more a.pass.books pair.pass.claimed;
    };
    notes = claimed_more k.claims l.claims more a.notes pair.notes;
  }

module _ {M : Type 0} (a : Attempt M NamedDone) (passes : ℕ → ℕ → Type 0) (key : ℕ) (part : MapPart) (k l : keys.PassView) where
  -- after a claim that was answered
  pub paired_claimed : (position : ℕ) → ClaimsKey part {A = ℕ} passes key k l (Ok position) → IsPairedAttempt a k → IsPairedAttempt a l
  paired_claimed position claims = paired_later a k l (ap (λ (v : keys.PassView). v.callers) claims.pass) (ap (λ (v : keys.PassView). v.room) claims.pass)
      (λ c there. subst (λ (cs : List Claim). Contains cs c) (sym claims.claimed.claims) (Contains-append_left k.claims (claim_of part.region key (position_of part l key) ∷ []) c there))

  -- and after one that found the map full
  pub paired_full : (full : MapStop) → stop_in {A = ℕ} (Err full) ≡ None → ClaimsKey part {A = ℕ} passes key k l (Err full) → IsPairedAttempt a k → IsPairedAttempt a l
  paired_full (Stop stop) never claims = absurd (cc)
  paired_full (KeysFull capacity) never claims = paired_later a k l (ap (λ (v : keys.PassView). v.callers) claims.pass) (ap (λ (v : keys.PassView). v.room) claims.pass)
      (λ c there. subst (λ (cs : List Claim). Contains cs c) (sym claims.refused.1) there)

-- the key has the position from now on
pub claimed_now : (s : Shape) (m : ℕ) (passes : ℕ → ℕ → Type 0) (key : ℕ) (part : MapPart) (k l : keys.PassView) (position : ℕ) → part ≡ map_part s m → ClaimsKey part {A = ℕ} passes key k l (Ok position)
    → position ≡ position_of part l key → keys.Claimed l.claims m key position
claimed_now s m passes key part k l position is claims named =
    let here : Contains l.claims (claim_of part.region key (position_of part l key)) = subst (λ (cs : List Claim). Contains cs (claim_of part.region key (position_of part l key))) (sym claims.claimed.claims) (Contains-push k.claims (claim_of part.region key (position_of part l key))) in
    let at : Contains l.claims (claim_of part.region key position) = subst (λ (p : ℕ). Contains l.claims (claim_of part.region key p)) (sym named) here in
    subst (λ (r : ℕ). Contains l.claims (claim_of r key position)) (ap (λ (p : MapPart). p.region) is) at
