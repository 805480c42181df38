-- What the visit of a position tells, and a walk.
use Rattle.std.proofs.Common.{◌≡◌, ◌≢◌, ℕ, zero, suc, ◌+◌, ◌*◌, ◌≤◌, Bool, true, false, eqb, List, [], ◌∷◌, ◌++◌, ◌⊎◌, inl, inr, ⊎_elim, sym, refl, ap, ◌∙◌, subst, arith, eq-eqb, ne_eqb, Contains, append_assoc, length, length-append}
use mathlib.Core.Logic.{dite}
use native.Mathlib.Decide.{ℕ_discrete}
use Rattle.std.proofs.lemmas.List.Elements.{Contains-append_left, Contains-append_right, Contains-push}
use Rattle.key_directory.specs.declared.view.Claim.{Claim}
use Rattle.key_directory.specs.declared.view.Step.{Step}
use Rattle.key_directory.specs.declared.view.Step.TheVariants.{Load, Exchange}
use Rattle.key_directory.specs.declared.view.View.{View}
use Rattle.key_directory.specs.Words.{capacity_of, walk}
use Rattle.key_directory.specs.Moves.{with_step, with_claim, SeatMe, LoadTold, ExchangeTold}
use Rattle.key_directory.specs.Directory.{Found, FoundOther, IsVisit, taken, free, Visits, Looks}
use Rattle.key_directory.specs.Directory.{IsReached}
use Rattle.key_directory.specs.Visits.{Visited, visited_view}

pub suc_of : (n : ℕ) → n ≢ 0 → (k : ℕ) × (n ≡ k + 1)
suc_of zero ne = absurd (ne refl)
suc_of (suc k) ne = (k, omega arith)

pub found_left : (xs ys : List Step) (r p k : ℕ) → Found xs r p k → Found (xs ++ ys) r p k
found_left xs ys r p k f = ⊎_elim (λ (t : Contains xs (Load r p (k + 1))). inl (Contains-append_left xs ys _ t)) (λ (t : Contains xs (Exchange r p (k + 1))). inr (Contains-append_left xs ys _ t)) f

pub found_right : (xs ys : List Step) (r p k : ℕ) → Found ys r p k → Found (xs ++ ys) r p k
found_right xs ys r p k f = ⊎_elim (λ (t : Contains ys (Load r p (k + 1))). inl (Contains-append_right xs ys _ t)) (λ (t : Contains ys (Exchange r p (k + 1))). inr (Contains-append_right xs ys _ t)) f

pub other_left : (xs ys : List Step) (r p k : ℕ) → FoundOther xs r p k → FoundOther (xs ++ ys) r p k
other_left xs ys r p k t = (t.0, t.1, found_left xs ys r p t.0 t.2)

pub other_right : (xs ys : List Step) (r p k : ℕ) → FoundOther ys r p k → FoundOther (xs ++ ys) r p k
other_right xs ys r p k t = (t.0, t.1, found_right xs ys r p t.0 t.2)

pub reached_more : (cs : List ℕ) (trail steps : List Step) (c : Claim) → IsReached cs trail c → IsReached cs (trail ++ steps) c
reached_more cs trail steps c f = record {
  tries = f.tries;
  within = f.within;
  there = f.there;
  before = λ n l. other_left trail steps c.region (walk (capacity_of cs c.region) c.key n) c.key (f.before n l);
}

visit_bounded : {r p : ℕ} {steps : List Step} → IsVisit r p steps → length steps ≤ 2
visit_bounded (taken found l) = omega arith
visit_bounded (free found) = omega arith

visits_bounded : (r c k n : ℕ) (steps : List Step) → Visits r c k n steps → length steps ≤ 2 * n
visits_bounded r c k zero steps v = let e = ap length v in omega arith
visits_bounded r c k (suc n) steps v = let one = visit_bounded v.3 in let more = visits_bounded r c k n v.0 v.2 in let e = ap length v.4 in omega (arith, length-append v.0 v.1)

pub looks : (r c k n : ℕ) (steps : List Step) → Visits r c k n steps → Looks r c k n steps
looks r c k n steps v = record { visits = v; bounded = visits_bounded r c k n steps v }

module _ (passes : ℕ → ℕ → Type 0) (c : Claim) where
  other_found : (step : ℕ → Step) → ((n k : ℕ) → n ≡ k + 1 → Found (step n ∷ []) c.region c.position k) → (n : ℕ) → n ≢ 0 → n ≢ c.key + 1 → FoundOther (step n ∷ []) c.region c.position c.key
  other_found step is n nz ne = let t = suc_of n nz in (t.0, (λ e. ne (let s = t.1 in omega arith)), is n t.0 t.1)

  loaded : (n k : ℕ) → n ≡ k + 1 → Found (Load c.region c.position n ∷ []) c.region c.position k
  loaded n k e = inl (subst (λ (z : ℕ). Contains (Load c.region c.position z ∷ []) (Load c.region c.position (k + 1))) (sym e) (Contains-push [] (Load c.region c.position (k + 1))))

  exchanged_at : (n k : ℕ) → n ≡ k + 1 → Found (Load c.region c.position 0 ∷ Exchange c.region c.position n ∷ []) c.region c.position k
  exchanged_at n k e = inr (subst (λ (z : ℕ). Contains (Load c.region c.position 0 ∷ Exchange c.region c.position z ∷ []) (Exchange c.region c.position (k + 1))) (sym e)
      (Contains-push (Load c.region c.position 0 ∷ []) (Exchange c.region c.position (k + 1))))

  module _ (me me' : SeatMe) (n : ℕ) (told : LoadTold passes c me n me') where
    -- a load that found the position taken
    pub after_load : n ≢ 0 → Visited c (eqb n (c.key + 1)) me.0 me'.0
    after_load nz = dite (ℕ_discrete n (c.key + 1))
        (λ e. subst (λ (b : Bool). Visited c b me.0 me'.0) (sym (eq-eqb n (c.key + 1) e)) record {
          steps = Load c.region c.position n ∷ [];
          view = told.own e;
          visit = taken n (omega arith);
          other = λ f. absurd (cc);
          known = λ _. (refl, ap (λ (z : ℕ). Load c.region c.position z ∷ []) e);
        })
        (λ ne. subst (λ (b : Bool). Visited c b me.0 me'.0) (sym (ne_eqb n (c.key + 1) ne)) record {
          steps = Load c.region c.position n ∷ [];
          view = told.other ne;
          visit = taken n (omega arith);
          other = λ _. other_found (λ z. Load c.region c.position z) loaded n nz ne;
          known = λ m. absurd (ne (told.known m));
        })

    module _ (me'' : SeatMe) (m : ℕ) (then : ExchangeTold passes c me' m me'') (z : n ≡ 0) where
      first : me'.0 ≡ with_step (Load c.region c.position 0) me.0
      first = told.other (λ e. omega arith) ∙ ap (λ (y : ℕ). with_step (Load c.region c.position y) me.0) z

      no_claim : (A : Type 0) → Contains me.0.claims c → A
      no_claim A t = let e = told.known t in absurd (omega arith)

      both : (v : View) (s : Step) → record v { trail = (v.trail ++ Load c.region c.position 0 ∷ []) ++ s ∷ [] } ≡ record v { trail = v.trail ++ Load c.region c.position 0 ∷ s ∷ [] }
      both v s = ap (λ (t : List Step). record v { trail = t }) (append_assoc v.trail (Load c.region c.position 0 ∷ []) (s ∷ []))

      with_both : (v : View) (s : Step) → with_claim c (with_step s (with_step (Load c.region c.position 0) v)) ≡ visited_view c true (Load c.region c.position 0 ∷ s ∷ []) v
      with_both v s = ap (with_claim c) (both v s)

      -- a compare-exchange that found the position free, or the key
      pub after_claim : (m ≡ 0) ⊎ (m ≡ c.key + 1) → Visited c true me.0 me''.0
      after_claim e = record {
        steps = Load c.region c.position 0 ∷ Exchange c.region c.position m ∷ [];
        view = then.own e ∙ (ap (λ (v : View). with_claim c (with_step (Exchange c.region c.position m) v)) first ∙ with_both me.0 (Exchange c.region c.position m));
        visit = free m;
        other = λ f. absurd (cc);
        known = no_claim _;
      }

      pub after_miss : m ≢ 0 → m ≢ c.key + 1 → Visited c false me.0 me''.0
      after_miss nz ne = record {
        steps = Load c.region c.position 0 ∷ Exchange c.region c.position m ∷ [];
        view = then.other nz ne ∙ (ap (with_step (Exchange c.region c.position m)) first ∙ both me.0 (Exchange c.region c.position m));
        visit = free m;
        other = λ _. (let t = suc_of m nz in (t.0, (λ e. ne (let s = t.1 in omega arith)), exchanged_at m t.0 t.1));
        known = no_claim _;
      }

      pub after_free : m ≡ 0 → Visited c (eqb m 0) me.0 me''.0
      after_free e = subst (λ (b : Bool). Visited c b me.0 me''.0) (sym (eq-eqb m 0 e)) (after_claim (inl e))

      pub after_taken : m ≢ 0 → Visited c (eqb m (c.key + 1)) me.0 me''.0
      after_taken nz = dite (ℕ_discrete m (c.key + 1))
          (λ e. subst (λ (b : Bool). Visited c b me.0 me''.0) (sym (eq-eqb m (c.key + 1) e)) (after_claim (inr e)))
          (λ ne. subst (λ (b : Bool). Visited c b me.0 me''.0) (sym (ne_eqb m (c.key + 1) ne)) (after_miss nz ne))
