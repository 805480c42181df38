-- What the claims of a view say together, and what a walk means for the claim that made it.
use Rattle.std.proofs.Common.{◌≡◌, ℕ, suc, ◌+◌, ◌%◌, ◌<◌, List, [], ◌∷◌, ◌++◌, ◌↔◌, length, drop, sym, refl, ap, ◌∙◌, subst, arith, mod-eq_of_lt, Option, Some, None, Result, Ok, IsErr, OnErr, IfOk, IfErr, ok_or}
use Rattle.std.proofs.Math.Seq.{drop-append_seam}
use Rattle.atomic_table.specs.Seated.{TableId}
use Rattle.key_directory.specs.declared.directory.KeysFull.{KeysFull}
use Rattle.key_directory.specs.Layouts.{pass_view}
use Rattle.std.proofs.lemmas.List.Elements.{All-contains, Contains-append_left, Contains-push}
use Rattle.key_directory.specs.declared.view.Claim.{Claim}
use Rattle.key_directory.specs.declared.view.Step.{Step}
use Rattle.key_directory.specs.declared.view.Step.TheVariants.{Load}
use Rattle.key_directory.specs.declared.view.View.{View}
use Rattle.key_directory.specs.Words.{capacity_of, walk, OnlyBelow}
use Rattle.key_directory.specs.Rule.{Stands}
use Rattle.key_directory.specs.Moves.{Knows}
use Rattle.key_directory.specs.Directory.{claim_of, Claimed, FoundOther, Visits, AreOneToOne, PassView, steps_since, IsReached, AreAllOthers, Walks}
use Rattle.key_directory.specs.Visits.{Walked}
use Rattle.key_directory.proofs.Places.{walk_inside, walk_reaches}
use Rattle.key_directory.proofs.Keeping.{found_stands, one_position}
use Rattle.key_directory.proofs.Visiting.{looks}
use Rattle.key_directory.proofs.Walking.{claimed_alone}

module _ (passes : ℕ → ℕ → Type 0) (v : View) (kn : Knows passes v) where
  stands : (r k p : ℕ) → Claimed v.claims r k p → Stands v.capacities kn.words (claim_of r k p)
  stands r k p c = All-contains (Stands v.capacities kn.words) v.claims (claim_of r k p) kn.claims c

  pub one_to_one : AreOneToOne passes v.capacities v.claims
  one_to_one = record {
    there = λ r k p c. (stands r k p c).0;
    allowed = λ r k p c. let s = stands r k p c in (kn.kept.placed r p k s.0 s.1).allowed;
    same = λ r k p q c d. let s = stands r k p c in let t = stands r k q d in one_position passes v.capacities kn.words kn.kept r k p q s.0 t.0 s.1 t.1;
    apart = λ r k l p c d. let s = (stands r k p c).1 in let t = (stands r l p d).1 in omega arith;
    own = λ r k p only c. let s = stands r k p c in (kn.kept.placed r p k s.0 s.1).own only;
  }

  -- where only keys below the capacity pass, the first position of a key's walk holds no other
  pub first_is_free : (r k : ℕ) → OnlyBelow passes (capacity_of v.capacities r) → r < length v.capacities → passes (capacity_of v.capacities r) k
      → FoundOther v.trail r (walk (capacity_of v.capacities r) k 0) k → (A : Type 0) → A
  first_is_free r k only there ok o A = let c : ℕ = capacity_of v.capacities r in let below : k < c = only k ok in
      let m : (k + 0) % c ≡ k = (let z : k + 0 ≡ k = omega arith in ap (λ (y : ℕ). y % c) z ∙ mod-eq_of_lt below) in
      let h = found_stands v.capacities kn.words v.trail kn.trail r (walk c k 0) o.0 o.2 in
      let q : walk c k 0 ≡ o.0 = (kn.kept.placed r (walk c k 0) o.0 (there, walk_inside c k 0 (omega arith)) h).own only in absurd (o.1 (sym q ∙ m))

-- the clauses of a claim
pub record Told (passes : ℕ → ℕ → Type 0) (capacities : List ℕ) (region key : ℕ) (old new : PassView) (result : Result ℕ KeysFull) : Type 0 where
  pub trail : new.trail ≡ old.trail ++ steps_since old new
  pub position : IfOk result (λ position. position < capacity_of capacities region)
  pub claimed : IfOk result (λ position. new.claims ≡ old.claims ++ claim_of region key position ∷ [])
  pub same : IfOk result (λ position. (other : ℕ) → Claimed old.claims region key other → other ≡ position)
  pub other : IfOk result (λ position. (other : ℕ) → Claimed old.claims region other position → other ≡ key)
  pub first : IfOk result (λ position. IsReached capacities (steps_since old new) (claim_of region key position))
  pub own_number : OnlyBelow passes (capacity_of capacities region) → result ≡ Ok key
  pub full : IsErr result ↔ AreAllOthers capacities (steps_since old new) region key
  pub capacity : IfErr result (λ full. full.capacity ≡ capacity_of capacities region)
  pub err : OnErr result (new.claims ≡ old.claims)
  pub steps : Walks capacities region key (steps_since old new) result
  pub quick : Claimed old.claims region key (key % capacity_of capacities region) → steps_since old new ≡ Load region (key % capacity_of capacities region) (key + 1) ∷ []

module _ (passes : ℕ → ℕ → Type 0) (r k : ℕ) (v w : View) (table table' : TableId) (room room' : ℕ) (there : r < length v.capacities) (ok : passes (capacity_of v.capacities r) k) (kn : Knows passes w) where
  abbrev c : ℕ
  c = capacity_of v.capacities r

  abbrev full_of : KeysFull
  full_of = record { capacity = c }

  abbrev old : PassView
  old = pass_view table v room

  abbrev new : PassView
  new = pass_view table' w room'

  since : (steps : List Step) → w.trail ≡ v.trail ++ steps → steps_since old new ≡ steps
  since steps e = ap (drop (length v.trail)) e ∙ drop-append_seam v.trail steps

  before_since : (steps : List Step) → w.trail ≡ v.trail ++ steps → (p : ℕ) → FoundOther steps r p k → FoundOther (steps_since old new) r p k
  before_since steps e p f = subst (λ (z : List Step). FoundOther z r p k) (sym (since steps e)) f

  zeroth : walk c k 0 ≡ k % c
  zeroth = let z : k + 0 ≡ k = omega arith in ap (λ (y : ℕ). y % c) z

  at_first : Claimed v.claims r k (k % c) → Claimed v.claims r k (walk c k 0)
  at_first f = subst (λ (z : ℕ). Claimed v.claims r k z) (sym zeroth) f

  first_load : Load r (walk c k 0) (k + 1) ∷ [] ≡ Load r (k % c) (k + 1) ∷ []
  first_load = ap (λ (z : ℕ). Load r z (k + 1) ∷ []) zeroth

  -- a region in which the pass claimed a position has one
  shown : (w.capacities ≡ v.capacities) → Claimed w.claims r k (walk c k 0) → 0 < c
  shown shape f = let i = ((one_to_one passes w kn).there r k (walk c k 0) f).1 in let same : capacity_of w.capacities r ≡ c = ap (λ (z : List ℕ). capacity_of z r) shape in omega arith

  pub told : (res : Option ℕ) → Walked r c k res v w → Told passes v.capacities r k old new (ok_or res full_of)
  told (Some p) t = let trail : w.trail ≡ v.trail ++ t.steps = ap (λ (u : View). u.trail) t.view in let e = since t.steps trail in
      let claims : w.claims ≡ v.claims ++ claim_of r k p ∷ [] = ap (λ (u : View). u.claims) t.view in let shape : w.capacities ≡ v.capacities = ap (λ (u : View). u.capacities) t.view in let above : Claimed w.claims r k (walk c k 0) → 0 < c = shown shape in
      let low = t.ends.0 in let inside : p < c = subst (λ (z : ℕ). z < c) t.ends.1 (walk_inside c k t.tries (omega arith)) in
      let all = one_to_one passes w kn in let mine : Claimed w.claims r k p = subst (λ (z : List Claim). Claimed z r k p) (sym claims) (Contains-push v.claims (claim_of r k p)) in
      let kept : (l q : ℕ) → Claimed v.claims r l q → Claimed w.claims r l q = λ l q f. subst (λ (z : List Claim). Claimed z r l q) (sym claims) (Contains-append_left v.claims (claim_of r k p ∷ []) (claim_of r l q) f) in
      let only_here : OnlyBelow passes c → OnlyBelow passes (capacity_of w.capacities r) = λ only. subst (λ (z : List ℕ). OnlyBelow passes (capacity_of z r)) (sym shape) only in record {
        trail = trail ∙ ap (λ (z : List Step). v.trail ++ z) (sym e);
        position = inside;
        claimed = claims;
        same = λ q f. all.same r k q p (kept k q f) mine;
        other = λ l f. all.apart r l k p (kept l p f) mine;
        first = record { tries = t.tries; within = t.ends.0; there = t.ends.1; before = λ n l. before_since t.steps trail (walk c k n) (t.before n l) };
        own_number = λ only. ap Ok (all.own r k p (only_here only) mine);
        full = (λ f. absurd (cc), λ f. claimed_alone passes w kn r k p mine (subst (λ (z : List Step). FoundOther z r p k) (sym trail) (Rattle.key_directory.proofs.Visiting.other_right v.trail t.steps r p k (subst (λ (z : List Step). FoundOther z r p k) e (f p inside)))) (IsErr (ok_or (Some p) full_of)));
        capacity = tt;
        err = tt;
        steps = (t.tries, t.ends.0, t.ends.1, looks r c k (suc t.tries) (steps_since old new) (subst (Visits r c k (suc t.tries)) (sym e) t.visits));
        quick = λ f. let g = at_first f in e ∙ (t.known (above (kept k (walk c k 0) g)) g ∙ first_load);
      }
  told None t = let trail : w.trail ≡ v.trail ++ t.steps = ap (λ (u : View). u.trail) t.view in let e = since t.steps trail in
      let claims : w.claims ≡ v.claims = ap (λ (u : View). u.claims) t.view in let shape : w.capacities ≡ v.capacities = ap (λ (u : View). u.capacities) t.view in let above : Claimed w.claims r k (walk c k 0) → 0 < c = shown shape in
      let each : (p : ℕ) → p < c → FoundOther (steps_since old new) r p k = λ p l. let n = walk_reaches c k p l in let m = n.1 in let ends = t.ends in subst (λ (z : ℕ). FoundOther (steps_since old new) r z k) n.2 (before_since t.steps trail (walk c k n.0) (t.before n.0 (omega arith))) in record {
        trail = trail ∙ ap (λ (z : List Step). v.trail ++ z) (sym e);
        position = tt;
        claimed = tt;
        same = tt;
        other = tt;
        first = tt;
        own_number = λ only. let l = only k ok in let ends = t.ends in first_is_free passes w kn r k (subst (λ (z : List ℕ). OnlyBelow passes (capacity_of z r)) (sym shape) only) (subst (λ (z : List ℕ). r < length z) (sym shape) there) (subst (λ (z : List ℕ). passes (capacity_of z r) k) (sym shape) ok)
            (subst (λ (z : List ℕ). FoundOther w.trail r (walk (capacity_of z r) k 0) k) (sym shape) (subst (λ (z : List Step). FoundOther z r (walk c k 0) k) (sym trail) (Rattle.key_directory.proofs.Visiting.other_right v.trail t.steps r (walk c k 0) k (t.before 0 (omega arith))))) (ok_or None full_of ≡ Ok k);
        full = (λ _. each, λ _. cc);
        capacity = refl;
        err = claims;
        steps = looks r c k c (steps_since old new) (subst (λ (z : ℕ). Visits r c k z (steps_since old new)) t.ends (subst (Visits r c k t.tries) (sym e) t.visits));
        quick = λ f. let g = at_first f in e ∙ (t.known (above (subst (λ (z : List Claim). Claimed z r k (walk c k 0)) (sym claims) g)) g ∙ first_load);
      }
