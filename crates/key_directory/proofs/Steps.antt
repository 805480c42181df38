-- Each kind of step keeps the rule, and tells what its contract says.
use Rattle.std.proofs.Common.{◌≡◌, ◌≢◌, ℕ, zero, suc, ◌+◌, ◌-◌, ◌%◌, ◌<◌, ◌≤◌, Bool, true, false, cond, eqb, List, [], ◌∷◌, ◌++◌, ◌⊎◌, length, get_or, set, sum, inl, inr, ⊎_elim, sym, refl, ap, ◌∙◌, subst, arith, length-set, get_or-set_other, All, Contains}
use mathlib.Core.Logic.{dite}
use mathlib.Core.Option.{some, none}
use native.Mathlib.Decide.{ℕ_discrete}
use lib.ListN.{get_elem?}
use lib.Seq.{set-get_or}
use prog.Atomic.{either}
use Rattle.std.proofs.lemmas.List.Elements.{All-push, All-contains, Contains-append_left, Contains-push}
use Rattle.atomic_table.specs.Table.{State, Act, step, keeps, stepped, Valid, carried_after, Allows}
use Rattle.atomic_table.proofs.Lists.{at_set, set_here, exchanged}
use Rattle.key_directory.specs.declared.view.Claim.{Claim}
use Rattle.key_directory.specs.declared.view.Step.TheVariants.{Load, Exchange, Meeting}
use Rattle.key_directory.specs.declared.view.View.{View}
use Rattle.key_directory.specs.Words.{capacity_of, word_number, IsPosition, HoldsKey, walk}
use Rattle.key_directory.specs.Rule.{IsKept, Stands, FitsStep, Fits, callers_in, IsClaimedIn, Rule}
use Rattle.key_directory.specs.Moves.{with_step, with_claim, Knows, SeatMe, ExchangeTold, load_told, exchange_told, meeting_told}
use Rattle.key_directory.specs.Directory.{claim_of}
use Rattle.key_directory.specs.Directory.{IsReached}
use Rattle.key_directory.proofs.Places.{word_inside, same_word}
use Rattle.key_directory.proofs.Keeping.{Grows, grows_set, fits_grows, others_stand, kept_put}

pub callers_set : (vs : List View) (id : ℕ) (v w : View) → get_elem? vs id ≡ some v → callers_in (set vs id w) + v.callers ≡ callers_in vs + w.callers
callers_set [] id v w e = absurd (cc)
callers_set (x ∷ xs) zero v w e = let same : x ≡ v = cc in let d = ap (λ (z : View). z.callers) same in omega arith
callers_set (x ∷ xs) (suc id) v w e = let i = callers_set xs id v w e in omega arith

pub callers_at : (vs : List View) (id : ℕ) (v : View) → get_elem? vs id ≡ some v → v.callers ≤ callers_in vs
callers_at vs id v e = let w : View = record v { callers = 0 } in let s = callers_set vs id v w e in omega arith

pub at_below : (vs : List View) (id : ℕ) (v : View) → get_elem? vs id ≡ some v → id < length vs
at_below [] id v e = absurd (cc)
at_below (x ∷ xs) zero v e = omega arith
at_below (x ∷ xs) (suc id) v e = let i = at_below xs id v e in omega arith

pub claimed_at : (vs : List View) (id : ℕ) (v : View) (c : Claim) → get_elem? vs id ≡ some v → Contains v.claims c → IsClaimedIn vs c
claimed_at [] id v c e t = absurd (cc)
claimed_at (x ∷ xs) zero v c e t = let same : x ≡ v = cc in inl (subst (λ (z : View). Contains z.claims c) (sym same) t)
claimed_at (x ∷ xs) (suc id) v c e t = inr (claimed_at xs id v c e t)

-- what is claimed in a list of views is claimed by the view at this place, or whatever stands there
pub claimed_else : (vs : List View) (id : ℕ) (v w : View) (c : Claim) → get_elem? vs id ≡ some v → IsClaimedIn vs c → Contains v.claims c ⊎ IsClaimedIn (set vs id w) c
claimed_else [] id v w c e t = absurd (cc)
claimed_else (x ∷ xs) zero v w c e t = let same : x ≡ v = cc in ⊎_elim (λ (h : Contains x.claims c). inl (subst (λ (z : View). Contains z.claims c) same h)) (λ (h : IsClaimedIn xs c). inr (inr h)) t
claimed_else (x ∷ xs) (suc id) v w c e t = ⊎_elim (λ (h : Contains x.claims c). inr (inl h))
    (λ (h : IsClaimedIn xs c). ⊎_elim (λ (m : Contains v.claims c). inl m) (λ (m : IsClaimedIn (set xs id w) c). inr (inr m)) (claimed_else xs id v w c e h)) t

pub claimed_set : (vs : List View) (id : ℕ) (v w : View) (c : Claim) → get_elem? vs id ≡ some v → (Contains v.claims c → Contains w.claims c) → IsClaimedIn vs c → IsClaimedIn (set vs id w) c
claimed_set vs id v w c e grow t = ⊎_elim (λ (h : Contains v.claims c). claimed_at (set vs id w) id w c (set_here vs id w (at_below vs id v e)) (grow h)) (λ (h : IsClaimedIn (set vs id w) c). h) (claimed_else vs id v w c e t)

-- a fact of each view
pub seats_stay : (K L : ℕ → View → Type 0) (vs : List View) (me : ℕ) (w : View) → L me w → ((j : ℕ) (v : View) → j ≢ me → K j v → L j v)
    → ((j : ℕ) (v : View) → get_elem? vs j ≡ some v → K j v) → (j : ℕ) (v : View) → get_elem? (set vs me w) j ≡ some v → L j v
seats_stay K L vs me w mine others was j v e = ⊎_elim (λ (t : (j ≡ me) × (w ≡ v)). subst (λ (x : ℕ × View). L x.0 x.1) (λ i. (sym t.0 i, t.1 i)) mine)
    (λ (t : (j ≢ me) × (get_elem? vs j ≡ some v)). others j v t.0 (was j v t.1)) (at_set vs me j w v e)

module _ (passes : ℕ → ℕ → Type 0) (cs : List ℕ) (total : ℕ) where
  abbrev pub S : Type 0
  S = State (Unit {0}) View

  abbrev pub R : S → Type 0
  R = Rule passes cs total

  pub knows : (s : S) → R s → (w : View) → 0 < w.callers → w.callers ≤ total → Fits cs total s.words w → Knows passes w
  knows s r w acting few f = let same = f.same acting in record {
    words = s.words;
    kept = subst (λ (z : List ℕ). IsKept passes z s.words) (sym same.0) r.kept;
    claims = subst (λ (z : List ℕ). All (Stands z s.words) w.claims) (sym same.0) f.claims;
    trail = subst (λ (z : List ℕ). All (FitsStep z s.words) w.trail) (sym same.0) f.trail;
    callers = (let t = same.1 in omega arith);
  }

  -- the seat's own view changes, and no words or words that grow
  moved : (s : S) → R s → (ws : List ℕ) → IsKept passes cs ws → Grows s.words ws → (id : ℕ) (v w : View) → get_elem? s.views id ≡ some v → w.callers ≡ v.callers → Fits cs total ws w
      → ((c : Claim) → Contains v.claims c → Contains w.claims c) → ((r p k : ℕ) → IsPosition cs r p → HoldsKey cs ws r p k → HoldsKey cs s.words r p k ⊎ Contains w.claims (claim_of r k p)) → R record { words = ws; homes = s.homes; views = set s.views id w }
  moved s r ws kept grows id v w at same f grow fresh = record {
    kept = kept;
    views = seats_stay (λ _ u. Fits cs total s.words u) (λ _ u. Fits cs total ws u) s.views id w f (λ j u ne g. fits_grows cs s.words ws grows total u g) r.views;
    callers = (let a = callers_set s.views id v w at in let b = r.callers in omega arith);
    claimed = λ q p k there h. ⊎_elim (λ (o : HoldsKey cs s.words q p k). claimed_set s.views id v w (claim_of q k p) at (grow (claim_of q k p)) (r.claimed q p k there o))
        (λ (n : Contains w.claims (claim_of q k p)). claimed_at (set s.views id w) id w (claim_of q k p) (set_here s.views id w (at_below s.views id v at)) n) (fresh q p k there h);
  }

  unmoved : (s : S) → R s → (i id : ℕ) (slots : List (ℕ × Unit {0})) (v w : View) → get_elem? s.views id ≡ some v → w.callers ≡ v.callers → Fits cs total s.words w → ((c : Claim) → Contains v.claims c → Contains w.claims c) → R (stepped s i (get_or s.words i 0) id slots w keeps)
  unmoved s r i id slots v w at same f grow = subst (λ (ws : List ℕ). R record { words = ws; homes = s.homes; views = set s.views id w }) (sym (set-get_or s.words i 0))
      (moved s r s.words r.kept (λ j k e. e) id v w at same f grow (λ q p k there h. inl h))

  few : (s : S) → R s → (id : ℕ) (v : View) → get_elem? s.views id ≡ some v → v.callers ≤ total
  few s r id v at = let a = callers_at s.views id v at in let b = r.callers in omega arith

  -- a load of word 0
  pub meets : (slots id : ℕ) (me : SeatMe) → 0 < me.0.callers → Allows R slots id me 0 (λ n. n) (meeting_told passes (step slots 0 0 0 none) me)
  meets slots id me acting s r size at small = let v : View = me.0 in let f = r.views id v at in let w : View = with_step Meeting v in
      let g : Fits cs total s.words w = record { same = f.same; spent = λ z. absurd (omega arith); claims = f.claims; trail = All-push (FitsStep cs s.words) v.trail Meeting f.trail tt } in
      (w, keeps, tt, unmoved s r 0 id me.1 v w at refl g (λ c t. t), (refl, refl, knows s r w acting (few s r id v at) g))

  module _ (c : Claim) (there : IsPosition cs c.region c.position) where
    abbrev pub place : ℕ
    place = word_number cs c.region c.position

    pub loads : (slots id i : ℕ) (me : SeatMe) → 0 < me.0.callers → i ≡ place → Allows R slots id me i (λ n. n) (load_told passes c (step slots i 0 0 none) me)
    loads slots id i me acting is s r size at small = let v : View = me.0 in let f = r.views id v at in let ws : List ℕ = s.words in let n : ℕ = get_or ws i 0 in
        let found : n ≡ get_or ws place 0 = ap (λ (z : ℕ). get_or ws z 0) is in let seen : View = with_step (Load c.region c.position n) v in
        let trail : All (FitsStep cs ws) seen.trail = All-push (FitsStep cs ws) v.trail (Load c.region c.position n) f.trail (λ k e. sym found ∙ e) in
        let g : Fits cs total ws seen = record { same = f.same; spent = λ z. absurd (omega arith); claims = f.claims; trail = trail } in
        let known : Contains v.claims c → n ≡ c.key + 1 = λ m. found ∙ (All-contains (Stands cs ws) v.claims c f.claims m).1 in dite (ℕ_discrete n (c.key + 1))
        (λ e. let w : View = with_claim c seen in let h : Fits cs total ws w = record { same = f.same; spent = λ z. absurd (omega arith); claims = All-push (Stands cs ws) v.claims c f.claims (there, sym found ∙ e); trail = trail } in
        (w, keeps, tt, unmoved s r i id me.1 v w at refl h (λ d t. Contains-append_left v.claims (c ∷ []) d t), record { slots = refl; own = λ _. refl; other = λ ne. absurd (ne e); known = known; knows = knows s r w acting (few s r id v at) h }))
        (λ ne. (seen, keeps, tt, unmoved s r i id me.1 v seen at refl g (λ d t. t), record { slots = refl; own = λ e. absurd (ne e); other = λ _. refl; known = known; knows = knows s r seen acting (few s r id v at) g }))

    -- the walk of the key has reached the position
    pub exchanges : (slots id i : ℕ) (me : SeatMe) → 0 < me.0.callers → i ≡ place → passes (capacity_of cs c.region) c.key → IsReached cs me.0.trail c
        → Allows R slots id me i (λ n. either (eqb n 0) (c.key + 1) n) (exchange_told passes c (step slots i 0 (c.key + 1) none) me)
    exchanges slots id i me acting is ok reached s r size at small = let v : View = me.0 in let f = r.views id v at in let ws : List ℕ = s.words in let n : ℕ = get_or ws i 0 in
        let found : n ≡ get_or ws place 0 = ap (λ (z : ℕ). get_or ws z 0) is in let seen : View = with_step (Exchange c.region c.position n) v in let with : View = with_claim c seen in
        let trail : All (FitsStep cs ws) seen.trail = All-push (FitsStep cs ws) v.trail (Exchange c.region c.position n) f.trail (λ k e. sym found ∙ e) in
        let g : Fits cs total ws seen = record { same = f.same; spent = λ z. absurd (omega arith); claims = f.claims; trail = trail } in
        exchanged n 0 (c.key + 1) (λ (x : ℕ). (w : View) × (a : Act (Unit {0})) × Valid s.homes me.1 a × R (stepped s i x id me.1 w a) × ExchangeTold passes c me n (w, carried_after me.1 a))
        (λ e. let free : get_or ws place 0 ≡ 0 = sym found ∙ e in let ws' : List ℕ = set ws place (c.key + 1) in let grows = grows_set ws place (c.key + 1) free in
        let kept : IsKept passes cs ws' = kept_put passes cs ws r.kept c.region c.position c.key reached.tries there free ok reached.within reached.there
        (λ m l. others_stand cs ws v.trail f.trail c.region (walk (capacity_of cs c.region) c.key m) c.key (reached.before m l)) in
        let inside : place < length ws = (let a = word_inside cs c.region c.position there in let b = r.kept.wide in omega arith) in
        let g' : Fits cs total ws' seen = fits_grows cs ws ws' grows total seen g in
        let h : Fits cs total ws' with = record { same = f.same; spent = λ z. absurd (omega arith); claims = All-push (Stands cs ws') v.claims c g'.claims (there, Rattle.std.proofs.Common.get_or-set_same ws place (c.key + 1) 0 inside); trail = g'.trail } in
        let fresh : (q p k : ℕ) → IsPosition cs q p → HoldsKey cs ws' q p k → HoldsKey cs ws q p k ⊎ Contains with.claims (claim_of q k p) = λ q p k at' h. dite (ℕ_discrete (word_number cs q p) place)
        (λ e. let same = same_word cs q p c.region c.position at'.1 there.1 e in let new = Rattle.std.proofs.Common.get_or-set_same ws place (c.key + 1) 0 inside in
        let o : get_or ws' (word_number cs q p) 0 ≡ get_or ws' place 0 = ap (λ (z : ℕ). get_or ws' z 0) e in let x : k ≡ c.key = omega arith in
        inr (subst (λ (z : ℕ × ℕ × ℕ). Contains with.claims (claim_of z.0 z.1 z.2)) (λ j. (sym same.0 j, sym x j, sym same.1 j)) (Contains-push v.claims c)))
        (λ ne. inl (sym (get_or-set_other ws place (word_number cs q p) (c.key + 1) 0 ne) ∙ h)) in
        let after : R record { words = ws'; homes = s.homes; views = set s.views id with } = moved s r ws' kept grows id v with at refl h (λ d t. Contains-append_left v.claims (c ∷ []) d t) fresh in (
          with,
          keeps,
          tt,
          subst (λ (z : ℕ). R (stepped s z (c.key + 1) id me.1 with keeps)) (sym is) after,
          record { slots = refl; own = λ _. refl; other = λ nz. absurd (nz e); knows = knows record { words = ws'; homes = s.homes; views = set s.views id with } after with acting (few s r id v at) h },
        ))
        (λ nz. dite (ℕ_discrete n (c.key + 1))
        (λ e. let h : Fits cs total ws with = record { same = f.same; spent = λ z. absurd (omega arith); claims = All-push (Stands cs ws) v.claims c f.claims (there, sym found ∙ e); trail = trail } in
        (with, keeps, tt, unmoved s r i id me.1 v with at refl h (λ d t. Contains-append_left v.claims (c ∷ []) d t), record { slots = refl; own = λ _. refl; other = λ _ ne. absurd (ne e); knows = knows s r with acting (few s r id v at) h }))
        (λ ne. (seen, keeps, tt, unmoved s r i id me.1 v seen at refl g (λ d t. t), record { slots = refl; own = λ t. ⊎_elim (λ z. absurd (nz z)) (λ z. absurd (ne z)) t; other = λ _ _. refl; knows = knows s r seen acting (few s r id v at) g })))
