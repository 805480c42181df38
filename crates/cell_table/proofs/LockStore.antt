-- A store of a lock word, which gives a cell back, keeps the rule.
use Rattle.std.proofs.Common.{◌≡◌, ◌≢◌, ℕ, ◌+◌, ◌-◌, ◌*◌, ◌<◌, ◌≤◌, Bool, true, false, cond, List, [], ◌∷◌, ◌⊎◌, length, get_or, inl, inr, ⊎_elim, sym, refl, ap, ◌∙◌, subst, arith, length-set}
use mathlib.Core.Logic.{dite}
use mathlib.Core.Option.{some, none}
use native.Mathlib.Decide.{ℕ_discrete}
use lib.ListN.{get_elem?}
use Rattle.atomic_table.specs.Table.{State, Me, step, keeps, stepped, Allows}
use Rattle.cell_table.specs.Sorted.{Each}
use Rattle.cell_table.specs.Cells.{writes_to, has}
use Rattle.cell_table.specs.History.{Outcome, unused, pending, decided, upd, touches, value_at, version_at, records_by}
use Rattle.cell_table.specs.declared.view.Record.{Record}
use Rattle.cell_table.specs.declared.view.View.{View}
use Rattle.cell_table.specs.declared.view.Stage.{Stage}
use Rattle.cell_table.specs.declared.view.Stage.TheVariants.{Open, Drawn, Decided}
use Rattle.cell_table.specs.Rule.{clock_of, lock_of, cells_of, without, actor, IsClean, IsUnstored, IsSettled, FitsStage, Fits, Rule, cell_of_lock, lock_place}
use Rattle.cell_table.specs.Steps.{after_release, kept_in, due, IsStoredOrUndecided, given}
use Rattle.cell_table.specs.Legal.{LegalNow}
use Rattle.cell_table.specs.Told.{give_told}
use Rattle.cell_table.proofs.Histories.{bool_cases, upd_same, upd_other, version_aside, value_aside, records_aside}
use Rattle.cell_table.proofs.Sorted.{each_map, each_among}
use Rattle.cell_table.proofs.HeldCells.{each_has, each_without, has_without, still_has, kept_among}
use Rattle.cell_table.proofs.Guarantee.{Guarantee, seats_stay, other_fits, values_stay, validations_stay, trail_stays, read_stays}
use Rattle.cell_table.proofs.Guarantees.{at_upd, guarantee_words, guarantee_release}
use Rattle.cell_table.proofs.Views.{draws_set, draw_bound, acts, legal}
use Rattle.cell_table.proofs.LockExchange.{locked, clock_kept, word_kept, lock_else, lock_here}
use Rattle.cell_table.proofs.ClockAdd.{le_or, records_stand}

module _ {D : Type 0} where
  release_fits : (opening : List ℕ) (h : ℕ → Outcome D) (ws : List ℕ) (k : ℕ) (ts : List (ℕ × ℕ)) (st : Stage D) → FitsStage opening h ws k ts st → FitsStage opening h ws k ts (after_release ts st)
  release_fits opening h ws k [] st f = tt
  release_fits opening h ws k (t ∷ ts) st f = f

  release_drawn : (ts : List (ℕ × ℕ)) (st : Stage D) (z : ℕ) (G : List ℕ) → cells_of ts ≡ G → st ≡ Drawn z → (G ≡ []) ⊎ (after_release ts st ≡ Drawn z)
  release_drawn [] st z G e s = inl (sym e)
  release_drawn (t ∷ ts) st z G e s = inr s

module _ {M D : Type 0} (lawful : M → List ℕ → Type 0) (explains : M → List (ℕ × ℕ) → List (ℕ × ℕ) → List D → Type 0) (m : M) (opening : List ℕ) (total : ℕ) where
  abbrev V : Type 0
  V = View M D

  abbrev S : Type 0
  S = State (Unit {0}) V

  abbrev R : S → Type 0
  R = Rule lawful explains m opening total

  abbrev Given : (s : S) → ℕ → V → ℕ → ℕ → List (ℕ × Unit {0}) → Type 0
  Given s id v c n cs = R (stepped s (lock_place c) (2 * n) id cs (given v c (2 * n)) keeps) × LegalNow lawful explains (given v c (2 * n))

  -- h' is the history afterwards
  gives_with : (s : S) (r : R s) (id : ℕ) (v : V) (c n : ℕ) (cs : List (ℕ × Unit {0})) → get_elem? s.views id ≡ some v → c < length opening → 0 < length v.books
      → lock_of s.words c ≡ 2 * actor v.books v.total + 1 → IsClean opening r.history s.words (c, n)
      → (h' : ℕ → Outcome D) → Guarantee opening (actor v.books v.total) r.history h' s.words (locked s.words c (2 * n))
      → ((d p : ℕ) → version_at h' d p ≡ version_at r.history d p) → ((x d p : ℕ) → value_at x h' d p ≡ value_at x r.history d p)
      → ((z : ℕ) → r.history z ≡ unused → h' z ≡ unused)
      → ((z j : ℕ) (t : Record D) → h' z ≡ decided j t → r.history z ≡ decided j t)
      → ((z j : ℕ) (G : List ℕ) → h' z ≡ pending j G → ((r.history z ≡ pending j G) × (v.stage ≡ Drawn z → ⊥)) ⊎ ((v.stage ≡ Drawn z) × (j ≡ actor v.books v.total) × (cells_of (without c v.held) ≡ G)))
      → ((j : ℕ) → records_by j h' (clock_of s.words) ≡ records_by j r.history (clock_of s.words))
      → FitsStage opening h' (locked s.words c (2 * n)) (actor v.books v.total) (without c v.held) v.stage
      → Given s id v c n cs
  gives_with s r id v c n cs at inside acting lock good h' q vers vals unuseds decs pends recs stage =
      let g = r.views id v at in let k : ℕ = actor v.books v.total in let own = acts v.books v.total id total r.owner _ acting g.books in
      let ws : List ℕ = s.words in let ws' : List ℕ = locked ws c (2 * n) in let h : ℕ → Outcome D = r.history in let w : V = given v c (2 * n) in let wide = r.wide in
      let tick : clock_of ws' ≡ clock_of ws = clock_kept ws c (2 * n) in
      let here : lock_of ws' c ≡ 2 * n = lock_here ws c (2 * n) (omega arith) in
      let clean' : (t : ℕ × ℕ) → IsClean opening h ws t → IsClean opening h' ws' t = λ t f. (
        ap (version_at h' t.0) tick ∙ (vers t.0 (clock_of ws) ∙ f.0),
        word_kept ws c (2 * n) t.0 ∙ (f.1 ∙ sym (ap (value_at (get_or opening t.0 0) h' t.0) tick ∙ vals (get_or opening t.0 0) t.0 (clock_of ws))),
      ) in
      let not_odd : (d j : ℕ) → lock_of ws' d ≡ 2 * j + 1 → d ≢ c = λ d j e is. let x : lock_of ws' c ≡ 2 * j + 1 = subst (λ (z : ℕ). lock_of ws' z ≡ 2 * j + 1) is e in omega arith in
      let left : Each (λ t. (t.0 ≢ c) × (lock_of ws t.0 ≡ 2 * k + 1)) (without c v.held) = each_without _ c v.held g.locks in
      let locks : Each (λ t. lock_of ws' t.0 ≡ 2 * k + 1) (without c v.held) = each_map _ _ (λ t e. lock_else ws c (2 * n) t.0 e.0 ∙ e.1) (without c v.held) left in
      let own_fits : Fits m opening total r.owner h' ws' id w = record {
        same = g.same;
        high = g.high;
        spent = g.spent;
        books = each_map _ _ (λ b f. (f.0, f.1, f.2 ∙ sym (ap (records_by b.caller h') tick ∙ recs b.caller))) v.books g.books;
        order = g.order;
        known = (let a = g.known in omega arith);
        values = values_stay opening k h h' ws ws' q v.values g.values;
        validations = validations_stay opening k h h' ws ws' q v.validations g.validations;
        trail = (tt, trail_stays opening k h h' ws ws' q v.trail g.trail);
        locks = locks;
        mine = λ j d o e. let a = g.mine j d o (sym (lock_else ws c (2 * n) d (not_odd d j e)) ∙ e) in (a.0, still_has c d v.held (not_odd d j e) a.1);
        stage = release_fits opening h' ws' k (without c v.held) v.stage stage;
        stale = λ j z G e is. ⊎_elim (λ t. ⊎_elim (λ (f : G ≡ []). inl f) (λ f. absurd (t.1 f.0)) (g.stale j z G e t.0))
            (λ t. ⊎_elim (λ (f : G ≡ []). inl f) (λ f. inr (f, t.1)) (release_drawn (without c v.held) v.stage z G t.2 t.0)) (pends z j G is);
        reading = read_stays opening k h h' ws ws' q v.reading g.reading;
      } in
      let after : R (stepped s (lock_place c) (2 * n) id cs w keeps) = record {
        owner = r.owner;
        placed = λ k. let l = r.placed k in let e = length-set s.views id w in omega arith;
        history = h';
        wide = length-set ws (lock_place c) (2 * n) ∙ r.wide;
        small = r.small;
        lawful_opening = r.lawful_opening;
        fresh = λ z l. unuseds z (r.fresh z (omega arith));
        cells = λ d l. dite (ℕ_discrete d c) (λ is. let got : (lock_of ws' d ≡ 2 * n) × IsClean opening h' ws' (d, n) = subst (λ (z : ℕ). (lock_of ws' z ≡ 2 * n) × IsClean opening h' ws' (z, n)) (sym is) (here, clean' (c, n) good) in inl (n, got.0, got.1))
            (λ no. ⊎_elim (λ t. inl (t.0, lock_else ws c (2 * n) d no ∙ t.1, clean' (d, t.0) t.2)) (λ t. inr (t.0, lock_else ws c (2 * n) d no ∙ t.1, t.2)) (r.cells d l));
        barred = λ z j G d e y. ⊎_elim
            (λ t. let o = r.barred z j G d t.0 y in let ne : d ≢ c = λ is. let x : lock_of ws c ≡ 2 * j + 1 = subst (λ (i : ℕ). lock_of ws i ≡ 2 * j + 1) is o in let same : j ≡ k = omega arith in
            ⊎_elim (λ (f : G ≡ []). let no : has d G ≡ false = ap (has d) f in let bad : true ≡ false = sym y ∙ no in absurd (cc)) (λ f. t.1 f.0) (g.stale j z G (ap r.owner same ∙ own.0) t.0) in lock_else ws c (2 * n) d ne ∙ o)
            (λ t. let got = each_has _ d (without c v.held) (subst (λ (i : List ℕ). has d i ≡ true) (sym t.2) y) locks in subst (λ (i : ℕ × ℕ). lock_of ws' i.0 ≡ 2 * i.1 + 1) (λ i. (got.1 i, sym t.1 i)) got.2) (pends z j G e);
        records = λ z j t e. let is = decs z j t e in let old = r.records z j t is in (
          old.0,
          old.1,
          let below : z ≤ clock_of ws = ⊎_elim (λ y. y) (λ y. let bad : unused ≡ decided j t = sym (r.fresh z y) ∙ is in absurd (cc)) (le_or z (clock_of ws)) in
              records_stand opening k h h' ws ws' q (z - 1) (omega arith) t.observations old.2,
        );
        callers = λ z j t e. r.callers z j t (decs z j t e);
        views = seats_stay _ _ s.views id w own_fits (λ j y ne _. other_fits m opening total r.owner k id own.1 own.0 h h' ws ws' q j y ne) r.views;
        budget = (let d = draws_set s.views id v w at in let b = r.budget in omega arith);
      } in (after, legal lawful explains m opening total _ after id w acting own_fits (draw_bound lawful explains m opening total s r id v at))

  -- the lock's word, and what is known of the cell
  due_clean : (s : S) (r : R s) (id : ℕ) (v : V) (c : ℕ) → get_elem? s.views id ≡ some v → (st : Stage D) → v.stage ≡ st → has c (cells_of v.held) ≡ true → IsStoredOrUndecided st
      → (lock_of s.words c ≡ 2 * actor v.books v.total + 1) × IsClean opening r.history s.words (c, due c v.held st)
  due_clean s r id v c at Open e holds stored = let g = r.views id v at in let f = subst (FitsStage opening r.history s.words (actor v.books v.total) v.held) e g.stage in let there = kept_among c v.held holds in
      (each_among _ (c, kept_in c v.held) v.held there g.locks, each_among _ (c, kept_in c v.held) v.held there f)
  due_clean s r id v c at (Drawn u) e holds stored = let g = r.views id v at in let f = subst (FitsStage opening r.history s.words (actor v.books v.total) v.held) e g.stage in let there = kept_among c v.held holds in
      (each_among _ (c, kept_in c v.held) v.held there g.locks, (each_among _ (c, kept_in c v.held) v.held there f.3).0)
  due_clean s r id v c at (Decided u t stored) e holds all = let g = r.views id v at in let f = subst (FitsStage opening r.history s.words (actor v.books v.total) v.held) e g.stage in
      let there = kept_among c v.held holds in let n : ℕ = kept_in c v.held in let b = each_among _ (c, n) v.held there f.3 in (
        each_among _ (c, n) v.held there g.locks,
        ⊎_elim (λ y. let got = b.0 y in subst (λ (z : ℕ). IsClean opening r.history s.words (c, z)) (sym (ap (λ (z : Bool). cond z u n) y)) (got.0, got.1 (all c y)))
            (λ no. subst (λ (z : ℕ). IsClean opening r.history s.words (c, z)) (sym (ap (λ (z : Bool). cond z u n) no)) (b.1 no)) (bool_cases (writes_to t.writes c)),
      )

  settled_still : (opening : List ℕ) (h : ℕ → Outcome D) (ws : List ℕ) (c n u : ℕ) (t : Record D) (stored : List ℕ) (x : ℕ × ℕ) → IsSettled opening h ws u t stored x → IsSettled opening h (locked ws c n) u t stored x
  settled_still opening h ws c n u t stored x f = let tick = clock_kept ws c n in let val = ap (value_at (get_or opening x.0 0) h x.0) tick in
      let clean' : IsClean opening h ws x → IsClean opening h (locked ws c n) x = λ y. (ap (version_at h x.0) tick ∙ y.0, word_kept ws c n x.0 ∙ (y.1 ∙ sym val)) in
      let unstored' : IsUnstored opening h ws x → IsUnstored opening h (locked ws c n) x = λ y. let l = y.0 in (omega arith, (y.1.0, y.1.1 ∙ sym (word_kept ws c n x.0))) in
      (λ y. (ap (version_at h x.0) tick ∙ (f.0 y).0, (λ z. word_kept ws c n x.0 ∙ ((f.0 y).1 z ∙ sym val)), λ z. unstored' ((f.0 y).2 z)), λ y. clean' (f.1 y))

  still : (opening : List ℕ) (h : ℕ → Outcome D) (ws : List ℕ) (c n : ℕ) (x : ℕ × ℕ) → IsClean opening h ws x → IsClean opening h (locked ws c n) x
  still opening h ws c n x y = let tick = clock_kept ws c n in (ap (version_at h x.0) tick ∙ y.0, word_kept ws c n x.0 ∙ (y.1 ∙ sym (ap (value_at (get_or opening x.0 0) h x.0) tick)))

  by_stage : (s : S) (r : R s) (id : ℕ) (v : V) (c n : ℕ) (cs : List (ℕ × Unit {0})) → get_elem? s.views id ≡ some v → c < length opening → 0 < length v.books → (st : Stage D) → v.stage ≡ st
      → lock_of s.words c ≡ 2 * actor v.books v.total + 1 → IsClean opening r.history s.words (c, n)
      → ((d j : ℕ) → j ≢ actor v.books v.total → lock_of s.words d ≡ 2 * j + 1 → lock_of (locked s.words c (2 * n)) d ≡ 2 * j + 1)
      → ((d j : ℕ) → j ≢ actor v.books v.total → lock_of (locked s.words c (2 * n)) d ≡ 2 * j + 1 → lock_of s.words d ≡ 2 * j + 1)
      → FitsStage opening r.history s.words (actor v.books v.total) v.held st
      → (((z : ℕ) → st ≡ Drawn z → ⊥) → FitsStage opening r.history (locked s.words c (2 * n)) (actor v.books v.total) (without c v.held) st → Given s id v c n cs)
      → Given s id v c n cs
  by_stage s r id v c n cs at inside acting Open e lock good kept was fits unchanged =
      unchanged (λ z b. absurd (cc)) (each_map _ _ (λ t f. still opening r.history s.words c (2 * n) t f.1) (without c v.held) (each_without _ c v.held fits))
  by_stage s r id v c n cs at inside acting (Decided u t stored) e lock good kept was fits unchanged = let tick = clock_kept s.words c (2 * n) in let a = fits.0 in let b = fits.1 in
      unchanged (λ z b. absurd (cc)) (a, omega arith, fits.2, each_map _ _ (λ x f. settled_still opening r.history s.words c (2 * n) u t stored x f.1) (without c v.held) (each_without _ c v.held fits.3))
  by_stage s r id v c n cs at inside acting (Drawn u) e lock good kept was fits unchanged =
      let k : ℕ = actor v.books v.total in let h : ℕ → Outcome D = r.history in let ws : List ℕ = s.words in let ws' : List ℕ = locked ws c (2 * n) in let H : List ℕ = cells_of v.held in let G : List ℕ = cells_of (without c v.held) in
      let d' : Outcome D = pending k G in let h' : ℕ → Outcome D = upd h u d' in let tick = clock_kept ws c (2 * n) in let a = fits.0 in let b = fits.1 in let mine : h u ≡ pending k H = fits.2 in
      let quiet : (d : ℕ) → touches (h u) d ≡ false = λ d. ap (λ (z : Outcome D). touches z d) mine in
      let q : Guarantee opening k h h' ws ws' = guarantee_release opening k h ws ws' u H G mine (λ d y. has_without c d v.held y) tick kept was (word_kept ws c (2 * n)) in
      let vers : (d p : ℕ) → version_at h' d p ≡ version_at h d p = λ d p. version_aside h u d' d (quiet d) refl p in
      let vals : (x d p : ℕ) → value_at x h' d p ≡ value_at x h d p = λ x d p. value_aside x h u d' d (quiet d) refl p in
      let clean' : (t : ℕ × ℕ) → IsClean opening h ws t → IsClean opening h' ws' t = λ t f. (
        ap (version_at h' t.0) tick ∙ (vers t.0 (clock_of ws) ∙ f.0),
        word_kept ws c (2 * n) t.0 ∙ (f.1 ∙ sym (ap (value_at (get_or opening t.0 0) h' t.0) tick ∙ vals (get_or opening t.0 0) t.0 (clock_of ws))),
      ) in
      gives_with s r id v c n cs at inside acting lock good h' q vers vals
      (λ z f. let ne : z ≢ u = λ is. let bad : unused ≡ pending k H = sym f ∙ (ap h is ∙ mine) in absurd (cc) in upd_other h u d' z ne ∙ f)
      (λ z j t f. ⊎_elim (λ y. let bad : pending k G ≡ decided j t = y.1 in absurd (cc)) (λ y. y.1) (at_upd h u d' z _ f))
      (λ z j F f. ⊎_elim (λ y. let same : pending k G ≡ pending j F = y.1 in let who : j ≡ k = cc in let what : G ≡ F = cc in inr (e ∙ ap (λ (i : ℕ). Drawn i) (sym y.0), who, what))
      (λ y. inl (y.1, λ x. let same : Drawn u ≡ Drawn z = sym e ∙ x in let eq : z ≡ u = cc in y.0 eq)) (at_upd h u d' z _ f))
      (λ j. records_aside j h u d' (λ t f. let bad : pending k H ≡ decided j t = sym mine ∙ f in absurd (cc)) (λ t f. absurd (cc)) (clock_of ws))
      (subst (FitsStage opening h' ws' k (without c v.held)) (sym e) (
        a,
        omega arith,
        upd_same h u d',
        each_map _ _ (λ t f. (clean' t f.1.0, f.1.1)) (without c v.held) (each_without _ c v.held fits.3),
        λ z t l f. let ne : z ≢ u = λ is. omega arith in fits.4 z t l (sym (upd_other h u d' z ne) ∙ f),
      ))

  gives_at : (s : S) (r : R s) (id : ℕ) (v : V) (c : ℕ) (cs : List (ℕ × Unit {0})) → get_elem? s.views id ≡ some v → c < length opening → 0 < length v.books → (st : Stage D) → v.stage ≡ st → has c (cells_of v.held) ≡ true → IsStoredOrUndecided st
      → Given s id v c (due c v.held st) cs
  gives_at s r id v c cs at inside acting st e holds stored =
      let n : ℕ = due c v.held st in let g = r.views id v at in let k : ℕ = actor v.books v.total in let h : ℕ → Outcome D = r.history in let ws : List ℕ = s.words in let ws' : List ℕ = locked ws c (2 * n) in
      let got = due_clean s r id v c at st e holds stored in let wide = r.wide in
      let here : lock_of ws' c ≡ 2 * n = lock_here ws c (2 * n) (omega arith) in
      let kept : (d j : ℕ) → j ≢ k → lock_of ws d ≡ 2 * j + 1 → lock_of ws' d ≡ 2 * j + 1 = λ d j ne f. let lock = got.0 in
      let other : d ≢ c = λ is. let x : lock_of ws c ≡ 2 * j + 1 = subst (λ (z : ℕ). lock_of ws z ≡ 2 * j + 1) is f in ne (omega arith) in lock_else ws c (2 * n) d other ∙ f in
      let was : (d j : ℕ) → j ≢ k → lock_of ws' d ≡ 2 * j + 1 → lock_of ws d ≡ 2 * j + 1 = λ d j ne f.
      let other : d ≢ c = λ is. let x : lock_of ws' c ≡ 2 * j + 1 = subst (λ (z : ℕ). lock_of ws' z ≡ 2 * j + 1) is f in omega arith in sym (lock_else ws c (2 * n) d other) ∙ f in
      let plain : Guarantee opening k h h ws ws' = guarantee_words opening k h ws ws' (clock_kept ws c (2 * n)) kept was (λ d. inl (word_kept ws c (2 * n) d)) in
      let fits : FitsStage opening h ws k v.held st = subst (FitsStage opening h ws k v.held) e g.stage in
      let unchanged : ((z : ℕ) → st ≡ Drawn z → ⊥) → FitsStage opening h ws' k (without c v.held) st → Given s id v c n cs = λ not_drawn f.
      gives_with s r id v c n cs at inside acting got.0 got.1 h plain (λ d p. refl) (λ x d p. refl) (λ z b. b) (λ z j t b. b) (λ z j G b. inl (b, λ x. not_drawn z (sym e ∙ x))) (λ j. refl)
      (subst (FitsStage opening h ws' k (without c v.held)) (sym e) f) in
      by_stage s r id v c n cs at inside acting st e got.0 got.1 kept was fits unchanged

  pub gives : (slots id c : ℕ) (me : Me (Unit {0}) V) → c < length opening → 0 < length me.0.books → has c (cells_of me.0.held) ≡ true → IsStoredOrUndecided me.0.stage
      → Allows R slots id me (lock_place c) (λ _. 2 * due c me.0.held me.0.stage) (λ _. give_told lawful explains (step slots (lock_place c) (2 * due c me.0.held me.0.stage) 0 none) me (2 * due c me.0.held me.0.stage))
  gives slots id c me inside acting holds stored s r _ at _ = let v : V = me.0 in let n : ℕ = due c v.held v.stage in let got = gives_at s r id v c me.1 at inside acting v.stage refl holds stored in let back : cell_of_lock (lock_place c) ≡ c = omega arith in
      (given v c (2 * n), keeps, tt, got.0, (subst (λ (z : ℕ). given v c (2 * n) ≡ given v z (2 * n)) (sym back) refl, got.1, refl))

  pub gives_word : (slots id c n : ℕ) (me : Me (Unit {0}) V) → n ≡ 2 * due c me.0.held me.0.stage → c < length opening → 0 < length me.0.books → has c (cells_of me.0.held) ≡ true → IsStoredOrUndecided me.0.stage
      → Allows R slots id me (lock_place c) (λ _. n) (λ _. give_told lawful explains (step slots (lock_place c) n 0 none) me n)
  gives_word slots id c n me is inside acting holds stored = subst (λ (z : ℕ). Allows R slots id me (lock_place c) (λ _. z) (λ _. give_told lawful explains (step slots (lock_place c) z 0 none) me z)) (sym is) (gives slots id c me inside acting holds stored)
