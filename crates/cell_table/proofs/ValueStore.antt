-- A store of a value word keeps the rule. The first one of an attempt decides it.
use Rattle.std.proofs.Common.{◌≡◌, ◌≢◌, ℕ, suc, ◌+◌, ◌-◌, ◌*◌, ◌<◌, ◌≤◌, Bool, true, false, cond, eqb, List, [], ◌∷◌, length, get_or, set, inl, inr, ⊎_elim, sym, refl, ap, ◌∙◌, subst, arith, eq-eqb, ne_eqb, length-set, get_or-set_other, get_or-set_same}
use mathlib.Core.Logic.{dite}
use mathlib.Core.Option.{some, none}
use native.Mathlib.Decide.{ℕ_discrete}
use lib.ListN.{get_elem?}
use Rattle.atomic_table.specs.Table.{State, Me, step, keeps, stepped, Allows}
use Rattle.cell_table.specs.Sorted.{Each}
use Rattle.cell_table.specs.Cells.{writes_to, written, has}
use Rattle.cell_table.specs.History.{Outcome, unused, pending, decided, upd, touches, value_at, version_at, records_by, IsVersion, IsValue, IsNewest, Stands}
use Rattle.cell_table.specs.declared.view.Record.{Record}
use Rattle.cell_table.specs.declared.view.Book.{Book}
use Rattle.cell_table.specs.declared.view.View.{View}
use Rattle.cell_table.specs.declared.view.Stage.TheVariants.{Drawn, Decided}
use Rattle.cell_table.specs.Rule.{clock_of, lock_of, word_of, cells_of, actor, callers_of, newest, value_now, IsClean, FitsStage, Fits, IsAscending, IsRecord, Rule, cell_of_value, lock_place, value_place}
use Rattle.cell_table.specs.Steps.{MayDecide, AllHeld, first_put, enter, Observes}
use Rattle.cell_table.specs.Legal.{LegalNow}
use Rattle.cell_table.specs.Told.{first_told}
use Rattle.cell_table.proofs.Histories.{bool_cases, upd_same, upd_other, version_le, version_aside, value_aside, stays, newer, records_aside, records_more}
use Rattle.cell_table.proofs.Sorted.{each_map, each_both, each_among}
use Rattle.cell_table.proofs.HeldCells.{each_has}
use Rattle.cell_table.proofs.Guarantee.{Guarantee, unstored_stays, seats_stay, other_fits, values_stay, validations_stay, trail_stays, read_stays}
use Rattle.cell_table.proofs.Guarantees.{at_upd, guarantee_decide}
use Rattle.cell_table.proofs.Views.{draws_set, draw_bound, acts, version_is, legal}
use Rattle.cell_table.proofs.ClockAdd.{le_or, records_stand}

-- the word of a cell is set
module _ (ws : List ℕ) (c x : ℕ) where
  abbrev pub stored_in : List ℕ
  stored_in = set ws (value_place c) x

  pub clock_same : clock_of stored_in ≡ clock_of ws
  clock_same = get_or-set_other ws (value_place c) 0 x 0 (λ e. omega arith)

  pub lock_same : (d : ℕ) → lock_of stored_in d ≡ lock_of ws d
  lock_same d = get_or-set_other ws (value_place c) (lock_place d) x 0 (λ e. omega arith)

  pub word_else : (d : ℕ) → d ≢ c → word_of stored_in d ≡ word_of ws d
  word_else d ne = get_or-set_other ws (value_place c) (value_place d) x 0 (λ e. ne (omega arith))

  pub word_here : value_place c < length ws → word_of stored_in c ≡ x
  word_here l = get_or-set_same ws (value_place c) x 0 l

-- what a view observes stands in the history
pub observes_stands : {M D : Type 0} (opening : List ℕ) (h : ℕ → Outcome D) (n : ℕ) (v : View M D) → Each (λ t. (t.1 ≤ n) × IsValue opening h t.0 t.1 t.2) v.values → Each (λ t. (t.2 ≤ n) × IsNewest h t.0 t.1 t.2) v.validations
    → (c x p : ℕ) → Observes v c x p → Stands opening h c x p
observes_stands opening h n v values validations c x p o =
    let u : ℕ = o.0 in let q : ℕ = o.1 in let a = each_among _ (c, u, x) v.values o.2 values in let b = each_among _ (c, u, q) v.validations o.3 validations in
    let low : u ≤ p = o.4 in let high : p ≤ q = o.5 in let e = b.1.0 in
    let one = stays (get_or opening c 0) h c p q (omega arith) high in let two = stays (get_or opening c 0) h c u q (omega arith) (omega arith) in
    (one.0 ∙ (sym two.0 ∙ a.1.1), λ w k H l is. b.1.1 w k H (omega arith) is)

module _ {D : Type 0} (opening : List ℕ) (h : ℕ → Outcome D) (ws : List ℕ) where
  -- the kept version of a clean cell has the word for its value
  pub kept_value : (t : ℕ × ℕ) → IsClean opening h ws t → (t.1 ≤ clock_of ws) × IsValue opening h t.0 t.1 (word_of ws t.0)
  kept_value t f = let n : ℕ = clock_of ws in let e = f.0 in let low = version_le h t.0 n in let l : t.1 ≤ n = omega arith in
      (l, (subst (IsVersion h t.0) f.0 (version_is h t.0 n), (stays (get_or opening t.0 0) h t.0 t.1 n (omega arith) l).0 ∙ sym f.1))

module _ {D : Type 0} where
  -- the acting caller's book is longer by the record
  pub entered : (id total : ℕ) (owner : ℕ → ℕ) (h h' : ℕ → Outcome D) (n n' u d : ℕ) (r : Record D) (bs : List (Book D)) → IsAscending bs
      → (records_by (actor bs d) h' n' ≡ (u, r) ∷ records_by (actor bs d) h n) → ((j : ℕ) → j ≢ actor bs d → records_by j h' n' ≡ records_by j h n)
      → Each (λ b. (owner b.caller ≡ id) × (b.caller < total) × (b.records ≡ records_by b.caller h n)) bs
      → Each (λ b. (owner b.caller ≡ id) × (b.caller < total) × (b.records ≡ records_by b.caller h' n')) (enter u r bs)
  entered id total owner h h' n n' u d r [] o more others f = tt
  entered id total owner h h' n n' u d r (b ∷ bs) o more others f = (
    (f.0.0, f.0.1, ap (λ (z : List (ℕ × Record D)). (u, r) ∷ z) f.0.2 ∙ sym more),
    each_both _ _ _ (λ x l g. (g.0, g.1, g.2 ∙ sym (others x.caller (λ e. omega arith)))) bs o.0 f.1,
  )

  pub enter_ascends : (u : ℕ) (r : Record D) (bs : List (Book D)) → IsAscending bs → IsAscending (enter u r bs)
  enter_ascends u r [] o = tt
  enter_ascends u r (b ∷ bs) o = o

  pub enter_actor : (u d : ℕ) (r : Record D) (bs : List (Book D)) → actor (enter u r bs) d ≡ actor bs d
  enter_actor u d r [] = refl
  enter_actor u d r (b ∷ bs) = refl

module _ {D : Type 0} where
  pub enter_some : (u : ℕ) (r : Record D) (bs : List (Book D)) → 0 < length bs → 0 < length (enter u r bs)
  enter_some u r [] l = l
  enter_some u r (b ∷ bs) l = omega arith

module _ {M D : Type 0} (lawful : M → List ℕ → Type 0) (explains : M → List (ℕ × ℕ) → List (ℕ × ℕ) → List D → Type 0) (m : M) (opening : List ℕ) (total : ℕ) where
  abbrev V : Type 0
  V = View M D

  abbrev S : Type 0
  S = State (Unit {0}) V

  abbrev R : S → Type 0
  R = Rule lawful explains m opening total

  decides : (s : S) (r : R s) (id : ℕ) (v : V) (c x u : ℕ) (plan : Record D) (cs : List (ℕ × Unit {0})) → get_elem? s.views id ≡ some v → c < length opening → v.stage ≡ Drawn u → 0 < length v.books → MayDecide explains v u plan → AllHeld plan.writes v.held
      → writes_to plan.writes c ≡ true → written (get_or opening c 0) plan.writes c ≡ x
      → R (stepped s (value_place c) x id cs (first_put v u plan c x) keeps) × LegalNow lawful explains (first_put v u plan c x)
  decides s r id v c x u plan cs at inside st acting may all_held is_written value =
      let g = r.views id v at in let k : ℕ = actor v.books v.total in let own = acts v.books v.total id total r.owner _ acting g.books in
      let ws : List ℕ = s.words in let ws' : List ℕ = stored_in ws c x in let h : ℕ → Outcome D = r.history in let w : V = first_put v u plan c x in let wide = r.wide in let n : ℕ = clock_of ws in
      let d' : Outcome D = decided k plan in let h' : ℕ → Outcome D = upd h u d' in let H : List ℕ = cells_of v.held in
      let f : FitsStage opening h ws k v.held (Drawn u) = subst (FitsStage opening h ws k v.held) st g.stage in
      let pos : 0 < u = f.0 in let below : u ≤ n = f.1 in let mine : h u ≡ pending k H = f.2 in
      let tick : clock_of ws' ≡ n = clock_same ws c x in
      let here : word_of ws' c ≡ x = word_here ws c x (omega arith) in
      let quiet : (d : ℕ) → touches (h u) d ≡ false = λ d. ap (λ (z : Outcome D). touches z d) mine in
      let owns : (d : ℕ) → writes_to plan.writes d ≡ true → (has d H ≡ true) × (newest opening h ws d < u) × (lock_of ws d ≡ 2 * k + 1) = λ d y. let a = all_held d y in
      let b = each_has _ d v.held a g.locks in let e = each_has _ d v.held a f.3 in let z = e.2.0.0 in let l = e.2.1 in
      (a, subst (λ (i : ℕ). newest opening h ws i < u) e.1 (omega arith), subst (λ (i : ℕ). lock_of ws i ≡ 2 * k + 1) b.1 b.2) in
      let fresh_value : (d : ℕ) → writes_to plan.writes d ≡ true → (version_at h' d n ≡ u) × (value_at (get_or opening d 0) h' d n ≡ written (get_or opening d 0) plan.writes d) = λ d y. newer (get_or opening d 0) h u d' d n pos below (owns d y).1 y in
      let now_here : word_of ws' c ≡ value_now opening h' ws c = here ∙ (sym value ∙ sym (fresh_value c is_written).1) in
      let q : Guarantee opening k h h' ws ws' = guarantee_decide opening k h ws ws' u H plan pos below mine owns tick (lock_same ws c x)
      (λ d. dite (ℕ_discrete d c) (λ e. inr (subst (λ (i : ℕ). (lock_of ws i ≡ 2 * k + 1) × (word_of ws' i ≡ value_now opening h' ws i)) (sym e) ((owns c is_written).2, now_here))) (λ no. inl (word_else ws c x d no))) in
      let aside : (d : ℕ) → writes_to plan.writes d ≡ false → (newest opening h' ws' d ≡ newest opening h ws d) × (value_now opening h' ws' d ≡ value_now opening h ws d) = λ d no. (
        ap (version_at h' d) tick ∙ version_aside h u d' d (quiet d) no n,
        ap (value_at (get_or opening d 0) h' d) tick ∙ value_aside (get_or opening d 0) h u d' d (quiet d) no n,
      ) in
      let clean' : (t : ℕ × ℕ) → writes_to plan.writes t.0 ≡ false → IsClean opening h ws t → IsClean opening h' ws' t = λ t no y. let a = aside t.0 no in
      let other : t.0 ≢ c = λ e. let yes : writes_to plan.writes t.0 ≡ true = subst (λ (i : ℕ). writes_to plan.writes i ≡ true) (sym e) is_written in let bad : true ≡ false = sym yes ∙ no in absurd (cc) in
      (a.0 ∙ y.0, word_else ws c x t.0 other ∙ (y.1 ∙ sym a.1)) in
      let now : h' u ≡ d' = upd_same h u d' in
      let actor' : actor w.books w.total ≡ k = enter_actor u v.total plan v.books in
      let no_record : (j : ℕ) (t : Record D) → h u ≢ decided j t = λ j t e. let bad : pending k H ≡ decided j t = sym mine ∙ e in absurd (cc) in
      let own_fits : Fits m opening total r.owner h' ws' id w = record {
        same = λ _. g.same acting;
        high = g.high;
        spent = λ e. (let l = enter_some u plan v.books acting in let none : length (enter u plan v.books) ≡ 0 = e in absurd (omega arith));
        books = entered id total r.owner h h' n (clock_of ws') u v.total plan v.books g.order (ap (records_by k h') tick ∙ records_more k h u plan pos (no_record k) f.4 n below)
            (λ j ne. ap (records_by j h') tick ∙ records_aside j h u d' (no_record j) (λ t e. let same : j ≡ k = cc in ne same) n) g.books;
        order = enter_ascends u plan v.books g.order;
        known = (let a = g.known in omega arith);
        values = values_stay opening k h h' ws ws' q v.values g.values;
        validations = validations_stay opening k h h' ws ws' q v.validations g.validations;
        trail = (tt, trail_stays opening k h h' ws ws' q v.trail g.trail);
        locks = subst (λ (i : ℕ). Each (λ t. lock_of ws' t.0 ≡ 2 * i + 1) v.held) (sym actor') (each_map _ _ (λ t e. lock_same ws c x t.0 ∙ e) v.held g.locks);
        mine = subst (λ (i : ℕ). (j d : ℕ) → r.owner j ≡ id → lock_of ws' d ≡ 2 * j + 1 → (j ≡ i) × (has d H ≡ true)) (sym actor') (λ j d o e. g.mine j d o (sym (lock_same ws c x d) ∙ e));
        stage = subst (λ (i : ℕ). FitsStage opening h' ws' i v.held (Decided u plan (c ∷ []))) (sym actor') (
          pos,
          omega arith,
          now,
          each_map _ _ (λ t e. (
            λ y. (
              ap (version_at h' t.0) tick ∙ (fresh_value t.0 y).0,
              (λ z. dite (ℕ_discrete c t.0)
                  (λ is. subst (λ (i : ℕ). word_of ws' i ≡ value_now opening h' ws' i) is (now_here ∙ sym (ap (value_at (get_or opening c 0) h' c) tick)))
                  (λ no. let miss : cond (eqb c t.0) true false ≡ false = ap (λ (b : Bool). cond b true false) (ne_eqb c t.0 no) in let bad : true ≡ false = sym z ∙ miss in absurd (cc))),
              λ z. let other : t.0 ≢ c = λ e. let hit : cond (eqb c t.0) true false ≡ true = ap (λ (b : Bool). cond b true false) (eq-eqb c t.0 (sym e)) in let bad : true ≡ false = sym hit ∙ z in absurd (cc) in
                  unstored_stays opening k h h' ws ws' q t (word_else ws c x t.0 other) (kept_value opening h ws t e.0),
            ),
            λ no. clean' t no e.0,
          )) v.held f.3,
        );
        stale = λ j z G e is. ⊎_elim (λ t. let bad : decided k plan ≡ pending j G = t.1 in absurd (cc))
            (λ t. ⊎_elim (λ (y : G ≡ []). inl y) (λ y. let same : Drawn u ≡ Drawn z = sym st ∙ y.0 in let eq : z ≡ u = cc in absurd (t.0 eq)) (g.stale j z G e t.1)) (at_upd h u d' z _ is);
        reading = read_stays opening k h h' ws ws' q v.reading g.reading;
      } in
      let after : R (stepped s (value_place c) x id cs w keeps) = record {
        owner = r.owner;
        placed = λ k. let l = r.placed k in let e = length-set s.views id w in omega arith;
        history = h';
        wide = length-set ws (value_place c) x ∙ r.wide;
        small = r.small;
        lawful_opening = r.lawful_opening;
        fresh = λ z l. let ne : z ≢ u = λ is. omega arith in upd_other h u d' z ne ∙ r.fresh z (omega arith);
        cells = λ d l. ⊎_elim
            (λ t. let even = t.1 in let no : writes_to plan.writes d ≡ false = ⊎_elim (λ y. let odd = (owns d y).2 in absurd (omega arith)) (λ f. f) (bool_cases (writes_to plan.writes d)) in
            inl (t.0, lock_same ws c x d ∙ t.1, clean' (d, t.0) no t.2))
            (λ t. inr (t.0, lock_same ws c x d ∙ t.1, t.2)) (r.cells d l);
        barred = λ z j G d e y. ⊎_elim (λ t. let bad : decided k plan ≡ pending j G = t.1 in absurd (cc)) (λ t. lock_same ws c x d ∙ r.barred z j G d t.1 y) (at_upd h u d' z _ e);
        records = λ z j t e. ⊎_elim
            (λ y. let same : decided k plan ≡ decided j t = y.1 in let what : plan ≡ t = cc in
            subst (λ (i : ℕ × Record D). IsRecord lawful explains m opening h' i.0 i.1) (λ i. (sym y.0 i, what i)) (
              pos,
              may.explained m (g.same acting).0,
              records_stand opening k h h' ws ws' q (u - 1) (omega arith) plan.observations
                  (each_map _ _ (λ o b. (subst (λ (i : List ℕ). o.0 < length i) (g.same acting).1 b.0, observes_stands opening h n v g.values g.validations o.0 o.1 (u - 1) b.1)) plan.observations may.observed),
            ))
            (λ y. let old = r.records z j t y.1 in (
              old.0,
              old.1,
              let low : z ≤ n = ⊎_elim (λ y. y) (λ l. let bad : unused ≡ decided j t = sym (r.fresh z l) ∙ y.1 in absurd (cc)) (le_or z n) in
                  records_stand opening k h h' ws ws' q (z - 1) (omega arith) t.observations old.2,
            )) (at_upd h u d' z _ e);
        callers = λ z j t e. ⊎_elim (λ y. let same : decided k plan ≡ decided j t = y.1 in let who : k ≡ j = cc in let small = own.1 in omega arith) (λ y. r.callers z j t y.1) (at_upd h u d' z _ e);
        views = seats_stay _ _ s.views id w own_fits (λ j y ne _. other_fits m opening total r.owner k id own.1 own.0 h h' ws ws' q j y ne) r.views;
        budget = (let d = draws_set s.views id v w at in let b = r.budget in omega arith);
      } in (after, legal lawful explains m opening total _ after id w (enter_some u plan v.books acting) own_fits (draw_bound lawful explains m opening total s r id v at))

  pub firsts : (slots id c x u : ℕ) (plan : Record D) (me : Me (Unit {0}) V) → c < length opening → me.0.stage ≡ Drawn u → 0 < length me.0.books → MayDecide explains me.0 u plan → AllHeld plan.writes me.0.held
      → writes_to plan.writes c ≡ true → ((y : ℕ) → written y plan.writes c ≡ x)
      → Allows R slots id me (value_place c) (λ _. x) (λ _. first_told lawful explains plan (step slots (value_place c) x 0 none) me x)
  firsts slots id c x u plan me inside st acting may all_held touched value s r _ at _ = let v : V = me.0 in let got = decides s r id v c x u plan me.1 at inside st acting may all_held touched (value _) in let back : cell_of_value (value_place c) ≡ c = omega arith in
      (first_put v u plan c x, keeps, tt, got.0, ((λ z e. let same : Drawn u ≡ Drawn z = sym st ∙ e in let eq : u ≡ z = cc in subst (λ (i : ℕ × ℕ). first_put v u plan c x ≡ first_put v i.0 plan i.1 x) (λ i. (eq i, sym back i)) refl), got.1, refl))

module _ {D : Type 0} where
  enter_callers : (u : ℕ) (r : Record D) (bs : List (Book D)) → callers_of (enter u r bs) ≡ callers_of bs
  enter_callers u r [] = refl
  enter_callers u r (b ∷ bs) = refl

  -- the acting caller is the first number
  pub actor_is : (d x : ℕ) (bs : List (Book D)) (ns : List ℕ) → callers_of bs ≡ ns → 0 < length bs → get_or ns 0 x ≡ actor bs d
  actor_is d x [] ns e l = absurd (omega arith)
  actor_is d x (b ∷ bs) ns e l = sym (ap (λ (z : List ℕ). get_or z 0 x) e)

  pub callers_length : (bs : List (Book D)) → length (callers_of bs) ≡ length bs
  callers_length [] = refl
  callers_length (b ∷ bs) = ap suc (callers_length bs)
