-- The opening meets the rule, splits and joins keep it, and what it says at the end.
use Rattle.std.proofs.Common.{◌≡◌, ◌≢◌, ℕ, zero, suc, ◌+◌, ◌-◌, ◌<◌, ◌≤◌, List, [], ◌∷◌, ◌++◌, ◌⊎◌, length, get_or, set, sum, replicate, inl, inr, ⊎_elim, sym, refl, ap, ◌∙◌, subst, arith, All, Contains}
use mathlib.Core.Logic.{dite}
use mathlib.Core.Option.{some}
use native.Mathlib.Decide.{dec_lt}
use lib.ListN.{get_elem?}
use Rattle.std.proofs.lemmas.List.{get_or-replicate, length-replicate}
use Rattle.std.proofs.lemmas.List.Elements.{All-nil, All-push, All-append, Contains-append_left, Contains-append_right}
use Rattle.atomic_table.specs.Table.{State, opening, Splits, Joins, Final, Seen}
use Rattle.atomic_table.proofs.Lists.{at_set, set_here, set_else}
use Rattle.key_directory.specs.declared.view.Claim.{Claim}
use Rattle.key_directory.specs.declared.view.Step.TheVariants.{Meeting}
use Rattle.key_directory.specs.declared.view.View.{View}
use Rattle.key_directory.specs.Words.{word_number, IsPosition, HoldsKey}
use Rattle.key_directory.specs.Rule.{IsKept, Stands, FitsStep, Fits, callers_in, IsClaimedIn, Rule, newcomer}
use Rattle.key_directory.specs.Directory.{claim_of}
use Rattle.key_directory.specs.Moves.{Knows, kept_part, moved_part, both_parts, spent_part}
use Rattle.key_directory.proofs.Steps.{callers_set, callers_at, at_below, claimed_at, claimed_else, claimed_set, seats_stay}

at_end : (l : List View) (a b : View) (j : ℕ) → get_elem? (l ++ a ∷ []) j ≡ some b → (get_elem? l j ≡ some b) ⊎ (a ≡ b)
at_end [] a b zero e = inr (cc)
at_end [] a b (suc j) e = absurd (cc)
at_end (x ∷ xs) a b zero e = inl e
at_end (x ∷ xs) a b (suc j) e = at_end xs a b j e

callers_more : (vs : List View) (w : View) → callers_in (vs ++ w ∷ []) ≡ callers_in vs + w.callers
callers_more [] w = omega arith
callers_more (x ∷ xs) w = let i = callers_more xs w in omega arith

all_zero : (n i : ℕ) → get_or {A = ℕ} (replicate n 0) i 0 ≡ 0
all_zero n i = dite (dec_lt i n) (λ l. get_or-replicate n i 0 0 l) (λ no. Rattle.std.proofs.lemmas.List.get_or_past (replicate n 0) i 0 (let e : length (replicate {A = ℕ} n 0) ≡ n = length-replicate n 0 in omega arith))

claimed_more : (vs ws : List View) (c : Claim) → IsClaimedIn vs c → IsClaimedIn (vs ++ ws) c
claimed_more [] ws c t = absurd t
claimed_more (v ∷ vs) ws c t = ⊎_elim (λ (h : Contains v.claims c). inl h) (λ (h : IsClaimedIn vs c). inr (claimed_more vs ws c h)) t

not_claimed : (v : View) (c : Claim) → v.claims ≡ [] → Contains v.claims c → (A : Type 0) → A
not_claimed v c e t A = let l = t.1 in let n = ap (λ (z : List Claim). length z) e in absurd (omega arith)

-- views without callers have no claims
none_claimed : (vs : List View) (c : Claim) → callers_in vs ≡ 0 → ((j : ℕ) (u : View) → get_elem? vs j ≡ some u → u.callers ≡ 0 → u.claims ≡ []) → IsClaimedIn vs c → (A : Type 0) → A
none_claimed [] c e spent t A = absurd t
none_claimed (v ∷ vs) c e spent t A = ⊎_elim (λ (h : Contains v.claims c). not_claimed v c (spent 0 v refl (omega arith)) h A)
    (λ (h : IsClaimedIn vs c). none_claimed vs c (omega arith) (λ j u at. spent (suc j) u at) h A) t

-- so where one view has every caller, what is claimed is claimed by it
only_claims : (vs : List View) (id : ℕ) (v : View) (c : Claim) → get_elem? vs id ≡ some v → callers_in vs ≡ v.callers → ((j : ℕ) (u : View) → get_elem? vs j ≡ some u → u.callers ≡ 0 → u.claims ≡ []) → IsClaimedIn vs c → Contains v.claims c
only_claims [] id v c e all spent t = absurd t
only_claims (x ∷ xs) zero v c e all spent t = let same : x ≡ v = cc in let n = ap (λ (z : View). z.callers) same in ⊎_elim (λ (h : Contains x.claims c). subst (λ (z : View). Contains z.claims c) same h)
    (λ (h : IsClaimedIn xs c). none_claimed xs c (omega arith) (λ j u at. spent (suc j) u at) h (Contains v.claims c)) t
only_claims (x ∷ xs) (suc id) v c e all spent t = let low = callers_at xs id v e in ⊎_elim (λ (h : Contains x.claims c). not_claimed x c (spent 0 x refl (omega arith)) h (Contains v.claims c))
    (λ (h : IsClaimedIn xs c). only_claims xs id v c e (omega arith) (λ j u at. spent (suc j) u at) h) t

module _ (passes : ℕ → ℕ → Type 0) (cs : List ℕ) (total : ℕ) where
  abbrev S : Type 0
  S = State (Unit {0}) View

  abbrev R : S → Type 0
  R = Rule passes cs total

  start_kept : (n : ℕ) → n ≡ 1 + sum cs → IsKept passes cs (replicate n 0)
  start_kept n e = record {
    wide = length-replicate n 0 ∙ e;
    zeroth = all_zero n 0;
    placed = λ r p k there h. let z = all_zero n (word_number cs r p) in absurd (omega arith);
  }

  start_fits : (words : List ℕ) → Fits cs total words (newcomer cs total)
  start_fits words = record { same = λ _. (refl, refl); spent = λ _. refl; claims = All-nil (Stands cs words); trail = All-nil (FitsStep cs words) }

  start_views : (words : List ℕ) (j : ℕ) (v : View) → get_elem? (newcomer cs total ∷ []) j ≡ some v → Fits cs total words v
  start_views words zero v e = let is : newcomer cs total ≡ v = cc in subst (λ (z : View). Fits cs total words z) is (start_fits words)
  start_views words (suc j) v e = absurd (cc)

  pub starts : (n : ℕ) → n ≡ 1 + sum cs → R (opening (replicate n 0) [] (newcomer cs total))
  starts n e = record { kept = start_kept n e; views = start_views (replicate n 0); callers = omega arith; claimed = λ r p k there h. (let z = all_zero n (word_number cs r p) in absurd (omega arith)) }

  -- the first view knows what the rule says
  pub start_knows : (n : ℕ) → n ≡ 1 + sum cs → Knows passes (newcomer cs total)
  start_knows n e = record { words = replicate n 0; kept = start_kept n e; claims = All-nil (Stands cs (replicate n 0)); trail = All-nil (FitsStep cs (replicate n 0)); callers = omega arith }

  meeting_fits : (words : List ℕ) (v : View) (n : ℕ) → 0 < v.callers → 0 < n → Fits cs total words v → Fits cs total words record v { callers = n; trail = v.trail ++ Meeting ∷ [] }
  meeting_fits words v n acting left f = record { same = λ _. f.same acting; spent = λ z. absurd (omega arith); claims = f.claims; trail = All-push (FitsStep cs words) v.trail Meeting f.trail tt }

  pub splits : (id n : ℕ) (v : View) → 0 < n → n < v.callers → Splits R id v (kept_part n v) (moved_part n v)
  splits id n v some_go some_stay s r at = let f = r.views id v at in let left : View = kept_part n v in let right : View = moved_part n v in let acting : 0 < v.callers = omega arith in record {
    kept = r.kept;
    views = λ j w e. ⊎_elim
        (λ t. seats_stay (λ _ u. Fits cs total s.words u) (λ _ u. Fits cs total s.words u) s.views id left (meeting_fits s.words v (v.callers - n) acting (omega arith) f) (λ i u ne g. g) r.views j w t)
        (λ is. subst (λ (z : View). Fits cs total s.words z) is (meeting_fits s.words v n acting some_go f))
        (at_end (set s.views id left) right w j e);
    callers = (let a = callers_set s.views id v left at in let b = callers_more (set s.views id left) right in let c = r.callers in omega arith);
    claimed = λ q p k there h. claimed_more (set s.views id left) (right ∷ []) (claim_of q k p) (claimed_set s.views id v left (claim_of q k p) at (λ t. t) (r.claimed q p k there h));
  }

  spent_fits : (words : List ℕ) → Fits cs total words spent_part
  spent_fits words = record { same = λ l. absurd (omega arith); spent = λ _. refl; claims = All-nil (Stands cs words); trail = All-nil (FitsStep cs words) }

  both_fit : (words : List ℕ) (v w : View) → 0 < v.callers → Fits cs total words v → Fits cs total words w → Fits cs total words (both_parts v w)
  both_fit words v w acting f g = record {
    same = λ _. f.same acting;
    spent = λ z. absurd (omega arith);
    claims = All-append (Stands cs words) v.claims w.claims f.claims g.claims;
    trail = All-push (FitsStep cs words) (v.trail ++ w.trail) Meeting (All-append (FitsStep cs words) v.trail w.trail f.trail g.trail) tt;
  }

  pub joins : (id other : ℕ) (v w : View) → 0 < v.callers → Joins R id v other w (both_parts v w) spent_part
  joins id other v w acting s r at ne at' = let both : View = both_parts v w in let spent : View = spent_part in
      let there : get_elem? s.views other ≡ some w = ⊎_elim (λ (t : (other ≡ id) × (both ≡ w)). absurd (ne t.0)) (λ (t : (other ≢ id) × (get_elem? s.views other ≡ some w)). t.1) (at_set s.views id other both w at') in
      let f = r.views id v at in let g = r.views other w there in record {
        kept = r.kept;
        views = seats_stay (λ _ u. Fits cs total s.words u) (λ _ u. Fits cs total s.words u) (set s.views id both) other spent (spent_fits s.words) (λ i u n h. h)
            (seats_stay (λ _ u. Fits cs total s.words u) (λ _ u. Fits cs total s.words u) s.views id both (both_fit s.words v w acting f g) (λ i u n h. h) r.views);
        callers = (let a = callers_set s.views id v both at in let b = callers_set (set s.views id both) other w spent at' in let c = r.callers in omega arith);
        claimed = λ q p k here h. let c : Claim = claim_of q k p in let all = claimed_set s.views id v both c at (λ t. Contains-append_left v.claims w.claims c t) (r.claimed q p k here h) in ⊎_elim
            (λ (t : Contains w.claims c). claimed_at (set (set s.views id both) other spent) id both c
            (set_else (set s.views id both) other id spent (λ e. ne (sym e)) ∙ set_here s.views id both (at_below s.views id v at)) (Contains-append_right v.claims w.claims c t))
            (λ (t : IsClaimedIn (set (set s.views id both) other spent) c). t) (claimed_else (set s.views id both) other w spent c at' all);
      }

  -- The words at the end, where one view has every caller: they keep the rule, and the view's claims are what they hold
  pub closes : (ws : List ℕ) (xs : List (Unit {0})) (id : ℕ) (v : View) → 0 < v.callers → v.callers ≡ total → Final (Seen R id v) ws xs
      → IsKept passes cs ws × All (Stands cs ws) v.claims × ((r p k : ℕ) → IsPosition cs r p → HoldsKey cs ws r p k → Contains v.claims (claim_of r k p))
  closes ws xs id v acting sole f = let s : S = f.0 in let r : R s = f.1.0 in let g = r.views id v f.1.1 in let n = r.callers in
      subst (λ (z : List ℕ). IsKept passes cs z × All (Stands cs z) v.claims × ((r p k : ℕ) → IsPosition cs r p → HoldsKey cs z r p k → Contains v.claims (claim_of r k p))) f.2
      (r.kept, g.claims, λ q p k there h. only_claims s.views id v (claim_of q k p) f.1.1 (omega arith) (λ j u at. (r.views j u at).spent) (r.claimed q p k there h))

-- a split changes no fact that the view knows
pub part_knows : (passes : ℕ → ℕ → Type 0) (v : View) (n : ℕ) → n ≤ v.callers → Knows passes v → Knows passes record v { callers = n; trail = v.trail ++ Meeting ∷ [] }
part_knows passes v n l k = record {
  words = k.words;
  kept = k.kept;
  claims = k.claims;
  trail = All-push (FitsStep v.capacities k.words) v.trail Meeting k.trail tt;
  callers = (let a = k.callers in omega arith);
}
