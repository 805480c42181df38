-- What a walk through a region tells.
use Rattle.std.proofs.Common.{◌≡◌, ℕ, zero, suc, ◌+◌, ◌<◌, true, false, List, [], ◌∷◌, ◌++◌, sym, refl, ap, ◌∙◌, subst, arith, Contains, Some, None, append_assoc, append-nil}
use mathlib.Core.Logic.{dite}
use native.Mathlib.Decide.{ℕ_discrete}
use Rattle.std.proofs.lemmas.List.Elements.{All-contains}
use Rattle.key_directory.specs.declared.view.Step.{Step}
use Rattle.key_directory.specs.declared.view.Step.TheVariants.{Load}
use Rattle.key_directory.specs.declared.view.View.{View}
use Rattle.key_directory.specs.Words.{capacity_of, walk}
use Rattle.key_directory.specs.Rule.{Stands}
use Rattle.key_directory.specs.Moves.{Knows}
use Rattle.key_directory.specs.Directory.{FoundOther, claim_of}
use Rattle.key_directory.specs.Directory.{IsReached}
use Rattle.key_directory.specs.Visits.{Visited, visited_view, Passed, Walked}
use Rattle.key_directory.proofs.Keeping.{found_stands}
use Rattle.key_directory.proofs.Visiting.{other_left, other_right}

-- where a pass claimed a position, it never found another key there
pub claimed_alone : (passes : ℕ → ℕ → Type 0) (v : View) → Knows passes v → (r k p : ℕ) → Contains v.claims (claim_of r k p) → FoundOther v.trail r p k → (A : Type 0) → A
claimed_alone passes v kn r k p c o A = let mine = (All-contains (Stands v.capacities kn.words) v.claims (claim_of r k p) kn.claims c).1 in let theirs = found_stands v.capacities kn.words v.trail kn.trail r p o.0 o.2 in absurd (o.1 (omega arith))

module _ (r c k : ℕ) where
  pub start : (v : View) → Passed r c k 0 v v
  start v = record {
    steps = [];
    view = ap (λ (t : List Step). record v { trail = t }) (sym (append-nil v.trail));
    before = λ n l. absurd (omega arith);
    visits = refl;
  }

  added : (xs ys zs : List Step) (v w x : View) → w ≡ record v { trail = xs ++ ys } → x ≡ record w { trail = w.trail ++ zs } → x ≡ record v { trail = xs ++ (ys ++ zs) }
  added xs ys zs v w x e f = f ∙ (ap (λ (u : View). record u { trail = u.trail ++ zs }) e ∙ ap (λ (t : List Step). record v { trail = t }) (append_assoc xs ys zs))

  before_more : (steps last : List Step) (n : ℕ) → ((m : ℕ) → m < n → FoundOther steps r (walk c k m) k) → FoundOther last r (walk c k n) k → (m : ℕ) → m < suc n → FoundOther (steps ++ last) r (walk c k m) k
  before_more steps last n f g m l = dite (ℕ_discrete m n)
      (λ e. subst (λ (z : ℕ). FoundOther (steps ++ last) r (walk c k z) k) (sym e) (other_right steps last r (walk c k n) k g))
      (λ ne. other_left steps last r (walk c k m) k (f m (omega arith)))

  -- one more position was another key's
  pub passed_more : (n : ℕ) (v w x : View) → Passed r c k n v w → Visited (claim_of r k (walk c k n)) false w x → Passed r c k (suc n) v x
  passed_more n v w x p q = record {
    steps = p.steps ++ q.steps;
    view = added v.trail p.steps q.steps v w x p.view q.view;
    before = before_more p.steps q.steps n p.before (q.other refl);
    visits = (p.steps, q.steps, p.visits, q.visit, refl);
  }

  -- the walk has reached the next position
  pub passed_reached : (cs : List ℕ) (n p : ℕ) (v w : View) → c ≡ capacity_of cs r → n < c → p ≡ walk c k n → Passed r c k n v w → IsReached cs w.trail (claim_of r k p)
  passed_reached cs n p v w same l at q = let trail : w.trail ≡ v.trail ++ q.steps = ap (λ (u : View). u.trail) q.view in record {
    tries = n;
    within = omega arith;
    there = ap (λ (z : ℕ). walk z k n) (sym same) ∙ sym at;
    before = λ m b. subst (λ (z : ℕ × List Step). FoundOther z.1 r (walk z.0 k m) k) (λ i. (same i, sym trail i)) (other_right v.trail q.steps r (walk c k m) k (q.before m b));
  }

  module _ (passes : ℕ → ℕ → Type 0) where
    passed_first : (n : ℕ) (v w : View) → Passed r c k (suc n) v w → Knows passes w → (A : Type 0) → Contains v.claims (claim_of r k (walk c k 0)) → A
    passed_first n v w p kn A t = let there : Contains w.claims (claim_of r k (walk c k 0)) = subst (λ (u : View). Contains u.claims (claim_of r k (walk c k 0))) (sym p.view) t in
        let found : FoundOther w.trail r (walk c k 0) k = subst (λ (u : View). FoundOther u.trail r (walk c k 0) k) (sym p.view) (other_right v.trail p.steps r (walk c k 0) k (p.before 0 (omega arith))) in
        claimed_alone passes w kn r k (walk c k 0) there found A

    pub walk_ends : (n : ℕ) (v w x : View) → n < c → Passed r c k n v w → Knows passes w → Visited (claim_of r k (walk c k n)) true w x → Walked r c k (Some (walk c k n)) v x
    walk_ends n v w x l p kn q = record {
      steps = p.steps ++ q.steps;
      tries = n;
      view = q.view ∙ (ap (λ (u : View). visited_view (claim_of r k (walk c k n)) true q.steps u) p.view
          ∙ ap (λ (t : List Step). record v { claims = v.claims ++ claim_of r k (walk c k n) ∷ []; trail = t }) (append_assoc v.trail p.steps q.steps));
      ends = (l, refl);
      before = λ m b. other_left p.steps q.steps r (walk c k m) k (p.before m b);
      visits = (p.steps, q.steps, p.visits, q.visit, refl);
      known = λ _ t. first n p q t;
    } where
      first : (n : ℕ) (p : Passed r c k n v w) (q : Visited (claim_of r k (walk c k n)) true w x) → Contains v.claims (claim_of r k (walk c k 0)) → p.steps ++ q.steps ≡ Load r (walk c k 0) (k + 1) ∷ []
      first zero p q t = let there : Contains w.claims (claim_of r k (walk c k 0)) = subst (λ (u : View). Contains u.claims (claim_of r k (walk c k 0))) (sym p.view) t in
          ap (λ (z : List Step). z ++ q.steps) p.visits ∙ (q.known there).1
      first (suc n) p q t = passed_first n v w p kn (p.steps ++ q.steps ≡ Load r (walk c k 0) (k + 1) ∷ []) t

    pub walk_fails : (v w : View) → Passed r c k c v w → Knows passes w → Walked r c k None v w
    walk_fails v w p kn = record {
      steps = p.steps;
      tries = c;
      view = p.view;
      ends = refl;
      before = p.before;
      visits = p.visits;
      known = λ l t. all c l p t;
    } where
      all : (n : ℕ) → 0 < n → (p : Passed r c k n v w) → Contains v.claims (claim_of r k (walk c k 0)) → p.steps ≡ Load r (walk c k 0) (k + 1) ∷ []
      all zero l p t = absurd (omega arith)
      all (suc n) l p t = passed_first n v w p kn (p.steps ≡ Load r (walk c k 0) (k + 1) ∷ []) t
