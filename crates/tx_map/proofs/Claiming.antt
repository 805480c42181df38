-- What a claim leaves, for the call that made it.
use Rattle.std.proofs.Common.{◌≡◌, ℕ, ◌*◌, ◌<◌, ◌≤◌, ◌↔◌, List, [], ◌∷◌, ◌++◌, length, Option, Some, None, IsSome, Result, Ok, Err, Contains, unwrap_or, refl, sym, ap, subst, ◌∙◌, false, true, arith}
use Rattle.std.proofs.lemmas.List.Elements.{Contains-push, Contains-append_left}
use Rattle.key_directory.specs.Words.{capacity_of, OnlyBelow}
use Rattle.key_directory.specs.Directory.{DirectoryView, PassView, Claimed, claim_of, position_in, steps_since, AreAllOthers, Walks}
use Rattle.key_directory.specs.declared.directory.KeysFull.{KeysFull as Full}
use Rattle.key_directory.specs.declared.view.Claim.{Claim}
use Rattle.tx_map.specs.declared.part.MapPart.{MapPart}
use Rattle.tx_map.specs.declared.part.MapStop.TheVariants.{KeysFull}
use Rattle.tx_map.specs.Calls.{IsRegionOf, HasKey, position_of, ClaimsKey}

some_of : (o : Option ℕ) → IsSome o → o ≡ Some (unwrap_or o 0)
some_of (Some x) h = refl
some_of None h = absurd (cc)

-- the steps of a claim are at most two a position of the region
walks_bounded : (capacities : List ℕ) (region key : ℕ) (steps : List _) (result : Result ℕ Full) → Walks capacities region key steps result → length steps ≤ 2 * capacity_of capacities region
walks_bounded capacities region key steps (Ok position) w = let low = w.1 in let few = w.3.bounded in omega arith
walks_bounded capacities region key steps (Err e) w = w.bounded

module _ (claims : List Claim) (positions : (r k p : ℕ) → Claimed claims r k p ↔ (position_in claims r k ≡ Some p)) where
  position_is : (r k p : ℕ) → Claimed claims r k p → unwrap_or (position_in claims r k) 0 ≡ p
  position_is r k p there = ap (λ (o : Option ℕ). unwrap_or o 0) ((positions r k p).0 there)

  has_one : (r k p : ℕ) → Claimed claims r k p → IsSome (position_in claims r k)
  has_one r k p there = rw ((positions r k p).0 there)

module _ (part : MapPart) (passes : ℕ → ℕ → Type 0) (key : ℕ) (old new : PassView) (directory : DirectoryView) (of : old.directory ≡ directory) (region : IsRegionOf part directory)
    (same : (new.directory ≡ old.directory) × (new.callers ≡ old.callers) × (new.room ≡ old.room)) (trail : new.trail ≡ old.trail ++ steps_since old new)
    (positions : (r k p : ℕ) → Claimed old.claims r k p ↔ (position_in old.claims r k ≡ Some p)) (positions' : (r k p : ℕ) → Claimed new.claims r k p ↔ (position_in new.claims r k ≡ Some p)) where
  same_pass : new ≡ record old { claims = new.claims; trail = new.trail }
  same_pass i = record { directory = same.0 i; callers = same.1 i; room = same.2 i; claims = new.claims; trail = new.trail }

  -- a key that had a position has it
  keeps : ((k p : ℕ) → Claimed old.claims part.region k p → Claimed new.claims part.region k p) → (k : ℕ) → HasKey part old k → HasKey part new k × (position_of part new k ≡ position_of part old k)
  keeps grown k has =
      let there = grown k (position_of part old k) ((positions part.region k (position_of part old k)).1 (some_of (position_in old.claims part.region k) has)) in
      (has_one new.claims positions' part.region k (position_of part old k) there, position_is new.claims positions' part.region k (position_of part old k) there)

  only : (k p : ℕ) → Claimed new.claims part.region k p → p ≡ position_of part new k
  only k p there = sym (position_is new.claims positions' part.region k p there)

  abbrev Others : DirectoryView → Type 0
  Others d = AreAllOthers d.capacities (steps_since old new) part.region key

  module _ (result : Result ℕ Full) (walks : Walks directory.capacities part.region key (steps_since old new) result) where
    steps : length (steps_since old new) ≤ 2 * part.capacity
    steps = subst (λ (n : ℕ). length (steps_since old new) ≤ 2 * n) region.1 (walks_bounded directory.capacities part.region key (steps_since old new) result walks)

    -- the claim answered a position
    module _ (position : ℕ) (inside : position < capacity_of directory.capacities part.region) (claims : new.claims ≡ old.claims ++ claim_of part.region key position ∷ []) where
      here : Claimed new.claims part.region key position
      here = subst (λ (cs : List Claim). Contains cs (claim_of part.region key position)) (sym claims) (Contains-push old.claims (claim_of part.region key position))

      grown : (k p : ℕ) → Claimed old.claims part.region k p → Claimed new.claims part.region k p
      grown k p there = subst (λ (cs : List Claim). Claimed cs part.region k p) (sym claims) (Contains-append_left old.claims (claim_of part.region key position ∷ []) (claim_of part.region k p) there)

      pub is_position : position ≡ position_of part new key
      is_position = only key position here

      pub claims_ok : {A : Type 0} → (a : A) → (Others directory → false ≡ true) → (OnlyBelow passes (capacity_of directory.capacities part.region) → position ≡ key) → ClaimsKey part passes key old new (Ok a)
      claims_ok a full own = record {
        pass = same_pass;
        stays = keeps grown;
        only = only;
        trail = trail;
        steps = steps;
        claimed = record {
          has = has_one new.claims positions' part.region key position here;
          inside = subst (λ (p : ℕ). p < part.capacity) is_position (rw (← region.1) inside);
          claims = claims ∙ ap (λ (p : ℕ). old.claims ++ claim_of part.region key p ∷ []) is_position;
        };
        full = (λ none. absurd none, λ all. (let e : false ≡ true = full (subst Others of all) in cc));
        refused = tt;
        own_number = λ below. (λ none. none, sym is_position ∙ own (rw region.1 below));
      }

    -- the claim found the region full
    pub claims_full : {A : Type 0} → (capacity : ℕ) → new.claims ≡ old.claims → capacity ≡ capacity_of directory.capacities part.region → Others directory → (OnlyBelow passes (capacity_of directory.capacities part.region) → ⊥) → ClaimsKey part {A = A} passes key old new (Err (KeysFull capacity))
    claims_full capacity claims names full never = record {
      pass = same_pass;
      stays = keeps (λ k p there. subst (λ (cs : List Claim). Claimed cs part.region k p) (sym claims) there);
      only = only;
      trail = trail;
      steps = steps;
      claimed = tt;
      full = (λ _. subst Others (sym of) full, λ _. tt);
      refused = (names ∙ region.1, claims);
      own_number = λ below. (λ _. never (rw region.1 below), tt);
    }
