-- What stays where a position is taken: words that aren't 0 don't change.
use Rattle.std.proofs.Common.{◌≡◌, ℕ, zero, suc, ◌+◌, ◌%◌, ◌<◌, List, length, get_or, set, ⊎_elim, sym, refl, ap, ◌∙◌, subst, arith, mod-eq_of_lt, length-set, get_or-set_other, get_or-set_same, All, Contains}
use mathlib.Core.Logic.{dite}
use native.Mathlib.Decide.{ℕ_discrete, dec_lt}
use Rattle.std.proofs.lemmas.List.Elements.{All-weaker, All-contains}
use Rattle.key_directory.specs.declared.view.Step.{Step}
use Rattle.key_directory.specs.declared.view.Step.TheVariants.{Load, Exchange, Meeting}
use Rattle.key_directory.specs.declared.view.View.{View}
use Rattle.key_directory.specs.Words.{capacity_of, word_number, IsPosition, HoldsKey, HoldsOther, walk, OnlyBelow}
use Rattle.key_directory.specs.Rule.{IsPlaced, IsKept, Stands, FitsStep, Fits}
use Rattle.key_directory.specs.Directory.{Found, FoundOther}
use Rattle.key_directory.proofs.Places.{same_word, word_above, walk_inside}

abbrev pub Grows : List ℕ → List ℕ → Type 0
Grows ws ws' = (i key : ℕ) → get_or ws i 0 ≡ key + 1 → get_or ws' i 0 ≡ key + 1

pub grows_set : (ws : List ℕ) (i n : ℕ) → get_or ws i 0 ≡ 0 → Grows ws (set ws i n)
grows_set ws i n free j key e = dite (ℕ_discrete j i)
    (λ is. let f : get_or ws j 0 ≡ get_or ws i 0 = ap (λ (z : ℕ). get_or ws z 0) is in absurd (omega arith))
    (λ ne. get_or-set_other ws i j n 0 ne ∙ e)

module _ (cs ws ws' : List ℕ) (g : Grows ws ws') where
  pub other_grows : (r p k : ℕ) → HoldsOther cs ws r p k → HoldsOther cs ws' r p k
  other_grows r p k h = (h.0, h.1, g (word_number cs r p) h.0 h.2)

  step_grows : (s : Step) → FitsStep cs ws s → FitsStep cs ws' s
  step_grows (Load r p n) f = λ k e. g (word_number cs r p) k (f k e)
  step_grows (Exchange r p n) f = λ k e. g (word_number cs r p) k (f k e)
  step_grows Meeting f = tt

  pub fits_grows : (total : ℕ) (v : View) → Fits cs total ws v → Fits cs total ws' v
  fits_grows total v f = record {
    same = f.same;
    spent = f.spent;
    claims = All-weaker (Stands cs ws) (Stands cs ws') (λ c h. (h.0, g (word_number cs c.region c.position) c.key h.1)) v.claims f.claims;
    trail = All-weaker (FitsStep cs ws) (FitsStep cs ws') step_grows v.trail f.trail;
  }

  pub placed_grows : (passes : ℕ → ℕ → Type 0) (r p k : ℕ) → IsPlaced passes cs ws r p k → IsPlaced passes cs ws' r p k
  placed_grows passes r p k h = record {
    allowed = h.allowed;
    tries = h.tries;
    within = h.within;
    reached = h.reached;
    before = λ n l. other_grows r (walk (capacity_of cs r) k n) k (h.before n l);
    own = h.own;
  }

-- what a trail found stands
pub found_stands : (cs ws : List ℕ) (steps : List Step) → All (FitsStep cs ws) steps → (r p k : ℕ) → Found steps r p k → HoldsKey cs ws r p k
found_stands cs ws steps f r p k t = ⊎_elim
    (λ (c : Contains steps (Load r p (k + 1))). All-contains (FitsStep cs ws) steps (Load r p (k + 1)) f c k refl)
    (λ (c : Contains steps (Exchange r p (k + 1))). All-contains (FitsStep cs ws) steps (Exchange r p (k + 1)) f c k refl) t

pub others_stand : (cs ws : List ℕ) (steps : List Step) → All (FitsStep cs ws) steps → (r p k : ℕ) → FoundOther steps r p k → HoldsOther cs ws r p k
others_stand cs ws steps f r p k t = (t.0, t.1, found_stands cs ws steps f r p t.0 t.2)

module _ (passes : ℕ → ℕ → Type 0) (cs ws : List ℕ) (kept : IsKept passes cs ws) where
  later_first : (r k p q : ℕ) (a : IsPlaced passes cs ws r p k) (b : IsPlaced passes cs ws r q k) → HoldsKey cs ws r p k → a.tries < b.tries → (A : Type 0) → A
  later_first r k p q a b h l A = let o = b.before a.tries l in let e : get_or ws (word_number cs r (walk (capacity_of cs r) k a.tries)) 0 ≡ get_or ws (word_number cs r p) 0 = ap (λ (z : ℕ). get_or ws (word_number cs r z) 0) a.reached in
      let f = o.2 in absurd (o.1 (omega arith))

  -- a key has one position of a region
  pub one_position : (r k p q : ℕ) → IsPosition cs r p → IsPosition cs r q → HoldsKey cs ws r p k → HoldsKey cs ws r q k → p ≡ q
  one_position r k p q there there' h h' = let a = kept.placed r p k there h in let b = kept.placed r q k there' h' in dite (dec_lt a.tries b.tries)
      (λ l. later_first r k p q a b h l (p ≡ q))
      (λ no. dite (dec_lt b.tries a.tries)
      (λ l. later_first r k q p b a h' l (p ≡ q))
      (λ no'. let e : a.tries ≡ b.tries = omega arith in sym a.reached ∙ (ap (walk (capacity_of cs r) k) e ∙ b.reached)))

  -- where only keys below the capacity pass, the first position tried is the key's
  first_is_own : (r p k tries : ℕ) → OnlyBelow passes (capacity_of cs r) → r < length cs → k < capacity_of cs r → walk (capacity_of cs r) k tries ≡ p
      → ((n : ℕ) → n < tries → HoldsOther cs ws r (walk (capacity_of cs r) k n) k) → p ≡ k
  first_is_own r p k zero only there l e before = let m : (k + 0) % capacity_of cs r ≡ k = (let z : k + 0 ≡ k = omega arith in ap (λ (y : ℕ). y % capacity_of cs r) z ∙ mod-eq_of_lt l) in sym e ∙ m
  first_is_own r p k (suc tries) only there l e before = let c : ℕ = capacity_of cs r in let m : (k + 0) % c ≡ k = (let z : k + 0 ≡ k = omega arith in ap (λ (y : ℕ). y % c) z ∙ mod-eq_of_lt l) in
      let o = before 0 (omega arith) in let q : walk c k 0 ≡ o.0 = (kept.placed r (walk c k 0) o.0 (there, walk_inside c k 0 (omega arith)) o.2).own only in absurd (o.1 (sym q ∙ m))

  -- a free position takes the key whose walk has reached it
  pub kept_put : (r p k tries : ℕ) → IsPosition cs r p → get_or ws (word_number cs r p) 0 ≡ 0 → passes (capacity_of cs r) k → tries < capacity_of cs r → walk (capacity_of cs r) k tries ≡ p
      → ((n : ℕ) → n < tries → HoldsOther cs ws r (walk (capacity_of cs r) k n) k) → IsKept passes cs (set ws (word_number cs r p) (k + 1))
  kept_put r p k tries there free ok within reached before = let i : ℕ = word_number cs r p in let ws' : List ℕ = set ws i (k + 1) in let g = grows_set ws i (k + 1) free in
      let here : IsPlaced passes cs ws' r p k = record {
        allowed = ok;
        tries = tries;
        within = within;
        reached = reached;
        before = λ n l. other_grows cs ws ws' g r (walk (capacity_of cs r) k n) k (before n l);
        own = λ only. first_is_own r p k tries only there.0 (only k ok) reached before;
      } in record {
        wide = length-set ws i (k + 1) ∙ kept.wide;
        zeroth = (let up = word_above cs r p in get_or-set_other ws i 0 (k + 1) 0 (λ e. omega arith) ∙ kept.zeroth);
        placed = λ q s l there' h. dite (ℕ_discrete (word_number cs q s) i)
            (λ e. let same = same_word cs q s r p there'.1 there.1 e in let inside : i < length ws = (let w = kept.wide in let t = Rattle.key_directory.proofs.Places.word_inside cs r p there in omega arith) in
            let v = get_or-set_same ws i (k + 1) 0 inside in let f : get_or ws' (word_number cs q s) 0 ≡ get_or ws' i 0 = ap (λ (z : ℕ). get_or ws' z 0) e in let x : l ≡ k = omega arith in
            subst (λ (z : ℕ × ℕ × ℕ). IsPlaced passes cs ws' z.0 z.1 z.2) (λ j. (sym same.0 j, sym same.1 j, sym x j)) here)
            (λ ne. placed_grows cs ws ws' g passes q s l (kept.placed q s l there' (sym (get_or-set_other ws i (word_number cs q s) (k + 1) 0 ne) ∙ h)));
      }
