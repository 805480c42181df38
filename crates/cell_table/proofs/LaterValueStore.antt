-- A store of a value word after the first one keeps the rule.
use Rattle.std.proofs.Common.{◌≡◌, ◌≢◌, ℕ, ◌+◌, ◌*◌, ◌<◌, ◌≤◌, Bool, true, false, cond, List, [], ◌∷◌, length, get_or, inl, inr, ⊎_elim, sym, refl, ap, ◌∙◌, subst, arith, ne_eqb, length-set}
use mathlib.Core.Logic.{dite}
use mathlib.Core.Option.{some, none}
use native.Mathlib.Decide.{ℕ_discrete}
use lib.ListN.{get_elem?}
use Rattle.atomic_table.specs.Table.{State, Me, step, keeps, stepped, Allows}
use Rattle.cell_table.specs.Sorted.{Each}
use Rattle.cell_table.specs.Cells.{writes_to, written, has}
use Rattle.cell_table.specs.History.{Outcome, decided, touches, left_in, value_at, version_at, records_by}
use Rattle.cell_table.specs.declared.view.Record.{Record}
use Rattle.cell_table.specs.declared.view.View.{View}
use Rattle.cell_table.specs.declared.view.Stage.{Stage}
use Rattle.cell_table.specs.declared.view.Stage.TheVariants.{Open, Drawn, Decided}
use Rattle.cell_table.specs.Rule.{clock_of, lock_of, word_of, actor, newest, value_now, IsClean, FitsStage, Fits, Rule, cell_of_value, value_place}
use Rattle.cell_table.specs.Steps.{more_stored, MayStore, next_put}
use Rattle.cell_table.specs.Legal.{LegalNow}
use Rattle.cell_table.specs.Told.{next_told}
use Rattle.cell_table.proofs.Histories.{stays, value_of_version}
use Rattle.cell_table.proofs.Sorted.{each_map}
use Rattle.cell_table.proofs.HeldCells.{each_has, has_first}
use Rattle.cell_table.proofs.Guarantee.{Guarantee, unstored_stays, seats_stay, other_fits, values_stay, validations_stay, trail_stays, read_stays}
use Rattle.cell_table.proofs.Guarantees.{guarantee_words}
use Rattle.cell_table.proofs.Views.{draws_set, draw_bound, acts, legal, low}
use Rattle.cell_table.proofs.ValueStore.{stored_in, clock_same, lock_same, word_else, word_here}

module _ {D : Type 0} (opening : List ℕ) (h : ℕ → Outcome D) (ws : List ℕ) where
  -- a written cell that is settled has the value of the record
  pub planned_value : (c u k : ℕ) (r : Record D) → 0 < u → u ≤ clock_of ws → h u ≡ decided k r → writes_to r.writes c ≡ true → newest opening h ws c ≡ u → value_now opening h ws c ≡ written (get_or opening c 0) r.writes c
  planned_value c u k r pos low is touched new = let n : ℕ = clock_of ws in let t : touches (h u) c ≡ true = ap (λ (z : Outcome D). touches z c) is ∙ touched in
      sym (stays (get_or opening c 0) h c u n (omega arith) low).0 ∙ (value_of_version (get_or opening c 0) h c u pos t ∙ ap (λ (z : Outcome D). left_in z c (get_or opening c 0)) is)

module _ {M D : Type 0} (lawful : M → List ℕ → Type 0) (explains : M → List (ℕ × ℕ) → List (ℕ × ℕ) → List D → Type 0) (m : M) (opening : List ℕ) (total : ℕ) where
  abbrev V : Type 0
  V = View M D

  abbrev S : Type 0
  S = State (Unit {0}) V

  abbrev R : S → Type 0
  R = Rule lawful explains m opening total

  puts_at : (s : S) (r : R s) (id : ℕ) (v : V) (c x : ℕ) (cs : List (ℕ × Unit {0})) → get_elem? s.views id ≡ some v → c < length opening → 0 < length v.books → (st : Stage D) → v.stage ≡ st → MayStore c x v.held st
      → R (stepped s (value_place c) x id cs (next_put v c x) keeps) × LegalNow lawful explains (next_put v c x)
  puts_at s r id v c x cs at inside acting Open e may = absurd may
  puts_at s r id v c x cs at inside acting (Drawn u) e may = absurd may
  puts_at s r id v c x cs at inside acting (Decided u p stored) st may =
      let g = r.views id v at in let k : ℕ = actor v.books v.total in let own = acts v.books v.total id total r.owner _ acting g.books in
      let ws : List ℕ = s.words in let ws' : List ℕ = stored_in ws c x in let h : ℕ → Outcome D = r.history in let w : V = next_put v c x in let wide = r.wide in let n : ℕ = clock_of ws in
      let f : FitsStage opening h ws k v.held (Decided u p stored) = subst (FitsStage opening h ws k v.held) st g.stage in let below = f.1 in
      let tick : clock_of ws' ≡ n = clock_same ws c x in
      let here : word_of ws' c ≡ x = word_here ws c x (omega arith) in
      let a = each_has _ c v.held may.0 g.locks in let b = each_has _ c v.held may.0 f.3 in
      let lock : lock_of ws c ≡ 2 * k + 1 = subst (λ (i : ℕ). lock_of ws i ≡ 2 * k + 1) a.1 a.2 in
      let new : newest opening h ws c ≡ u = subst (λ (i : ℕ). newest opening h ws i ≡ u) b.1 (b.2.0 (subst (λ (i : ℕ). writes_to p.writes i ≡ true) (sym b.1) may.1.0)).0 in
      let good : word_of ws' c ≡ value_now opening h ws c = here ∙ (sym (may.1.1 _) ∙ sym (planned_value opening h ws c u k p f.0 f.1 f.2 may.1.0 new)) in
      let q : Guarantee opening k h h ws ws' = guarantee_words opening k h ws ws' tick (λ d j ne e. lock_same ws c x d ∙ e) (λ d j ne e. sym (lock_same ws c x d) ∙ e)
      (λ d. dite (ℕ_discrete d c) (λ e. inr (subst (λ (i : ℕ). (lock_of ws i ≡ 2 * k + 1) × (word_of ws' i ≡ value_now opening h ws i)) (sym e) (lock, good))) (λ no. inl (word_else ws c x d no))) in
      let val : (d : ℕ) → value_now opening h ws' d ≡ value_now opening h ws d = λ d. ap (value_at (get_or opening d 0) h d) tick in
      let word' : (d : ℕ) → word_of ws d ≡ value_now opening h ws d → word_of ws' d ≡ value_now opening h ws' d = λ d e. dite (ℕ_discrete d c)
      (λ is. subst (λ (i : ℕ). word_of ws' i ≡ value_now opening h ws' i) (sym is) (good ∙ sym (val c))) (λ no. word_else ws c x d no ∙ (e ∙ sym (val d))) in
      let clean' : (t : ℕ × ℕ) → IsClean opening h ws t → IsClean opening h ws' t = λ t y. (ap (version_at h t.0) tick ∙ y.0, word' t.0 y.1) in
      let next : w.stage ≡ Decided u p (c ∷ stored) = ap (more_stored c) st in
      let own_fits : Fits m opening total r.owner h ws' id w = record {
        same = g.same;
        high = g.high;
        spent = g.spent;
        books = subst (λ (i : ℕ). Each (λ b. (r.owner b.caller ≡ id) × (b.caller < total) × (b.records ≡ records_by b.caller h i)) v.books) (sym tick) g.books;
        order = g.order;
        known = (let a = g.known in omega arith);
        values = values_stay opening k h h ws ws' q v.values g.values;
        validations = validations_stay opening k h h ws ws' q v.validations g.validations;
        trail = (tt, trail_stays opening k h h ws ws' q v.trail g.trail);
        locks = each_map _ _ (λ t e. lock_same ws c x t.0 ∙ e) v.held g.locks;
        mine = λ j d o e. g.mine j d o (sym (lock_same ws c x d) ∙ e);
        stage = subst (FitsStage opening h ws' k v.held) (sym next) (
          f.0,
          omega arith,
          f.2,
          each_map _ _ (λ t e. (
            λ y. (
              ap (version_at h t.0) tick ∙ (e.0 y).0,
              (λ z. dite (ℕ_discrete c t.0)
                  (λ is. subst (λ (i : ℕ). word_of ws' i ≡ value_now opening h ws' i) is (good ∙ sym (val c)))
                  (λ no. word' t.0 ((e.0 y).1 (sym (ap (λ (b : Bool). cond b true (has t.0 stored)) (ne_eqb c t.0 no)) ∙ z)))),
              λ z. let other : t.0 ≢ c = λ is. let hit : has t.0 (c ∷ stored) ≡ true = has_first t.0 c stored (sym is) in let bad : true ≡ false = sym hit ∙ z in absurd (cc) in
                  let not_yet : has t.0 stored ≡ false = sym (ap (λ (b : Bool). cond b true (has t.0 stored)) (ne_eqb c t.0 (λ is. other (sym is)))) ∙ z in
                  unstored_stays opening k h h ws ws' q t (word_else ws c x t.0 other) ((e.0 y).2 not_yet),
            ),
            λ no. clean' t (e.1 no),
          )) v.held f.3,
        );
        stale = λ j z G e is. ⊎_elim (λ (y : G ≡ []). inl y) (λ y. let bad : Decided u p stored ≡ Drawn z = sym st ∙ y.0 in absurd (cc)) (g.stale j z G e is);
        reading = read_stays opening k h h ws ws' q v.reading g.reading;
      } in
      let after : R (stepped s (value_place c) x id cs w keeps) = record {
        owner = r.owner;
        placed = λ k. let l = r.placed k in let e = length-set s.views id w in omega arith;
        history = h;
        wide = length-set ws (value_place c) x ∙ r.wide;
        small = r.small;
        lawful_opening = r.lawful_opening;
        fresh = λ z l. r.fresh z (omega arith);
        cells = λ d l. ⊎_elim (λ t. inl (t.0, lock_same ws c x d ∙ t.1, clean' (d, t.0) t.2)) (λ t. inr (t.0, lock_same ws c x d ∙ t.1, t.2)) (r.cells d l);
        barred = λ z j G d e y. lock_same ws c x d ∙ r.barred z j G d e y;
        records = r.records;
        callers = r.callers;
        views = seats_stay _ _ s.views id w own_fits (λ j y ne _. other_fits m opening total r.owner k id own.1 own.0 h h ws ws' q j y ne) r.views;
        budget = (let d = draws_set s.views id v w at in let b = r.budget in omega arith);
      } in (after, legal lawful explains m opening total _ after id w acting own_fits (draw_bound lawful explains m opening total s r id v at))

  pub nexts : (slots id c x : ℕ) (me : Me (Unit {0}) V) → c < length opening → 0 < length me.0.books → MayStore c x me.0.held me.0.stage
      → Allows R slots id me (value_place c) (λ _. x) (λ _. next_told lawful explains (step slots (value_place c) x 0 none) me x)
  nexts slots id c x me inside acting may s r _ at _ = let v : V = me.0 in let got = puts_at s r id v c x me.1 at inside acting v.stage refl may in let back : cell_of_value (value_place c) ≡ c = omega arith in
      (next_put v c x, keeps, tt, got.0, (subst (λ (z : ℕ). next_put v c x ≡ next_put v z x) (sym back) refl, got.1, refl))
