-- A fetch_add of the clock, which draws a version, keeps the rule.
use Rattle.std.proofs.Common.{◌≡◌, ◌≢◌, ℕ, suc, ◌+◌, ◌-◌, ◌*◌, ◌%◌, ◌^◌, ◌<◌, ◌≤◌, true, false, cond, List, [], ◌⊎◌, length, get_or, set, inl, inr, ⊎_elim, sym, refl, ap, ◌∙◌, subst, arith, length-set, get_or-set_other, get_or-set_same}
use mathlib.Core.Logic.{dite}
use mathlib.Core.Option.{some, none}
use native.Mathlib.Decide.{dec_le}
use lib.ListN.{get_elem?}
use Rattle.atomic_table.specs.Table.{State, Me, step, keeps, stepped, Allows}
use Rattle.cell_table.specs.Sorted.{Each}
use Rattle.cell_table.specs.Cells.{has}
use Rattle.cell_table.specs.History.{Outcome, unused, pending, decided, upd, touches, left_in, noted, value_at, version_at, records_by, Unheld, IsNewest, Stands}
use Rattle.cell_table.specs.declared.view.View.{View}
use Rattle.cell_table.specs.declared.view.Stage.TheVariants.{Open, Drawn}
use Rattle.cell_table.specs.Rule.{clock_of, lock_of, word_of, cells_of, actor, newest, value_now, IsClean, FitsStage, Fits, Rule}
use Rattle.cell_table.specs.Steps.{drawn}
use Rattle.cell_table.specs.Legal.{LegalNow}
use Rattle.cell_table.specs.Told.{draw_told}
use Rattle.cell_table.proofs.Histories.{bool_cases, upd_same, upd_other, version_le, version_aside, value_aside, records_aside}
use Rattle.cell_table.proofs.Sorted.{each_map, each_both}
use Rattle.cell_table.proofs.HeldCells.{each_has}
use Rattle.cell_table.proofs.Guarantee.{Guarantee, seats_stay, other_fits, values_stay, validations_stay, trail_stays, read_stays}
use Rattle.cell_table.proofs.Guarantees.{at_upd, guarantee_draw}
use Rattle.cell_table.proofs.Views.{draws_set, draws_at_most, draw_bound, acts, legal, held_newest}
use Rattle.cell_table.proofs.ClockLoad.{validated_all}

-- the clock is set
module _ (ws : List ℕ) (n : ℕ) where
  abbrev pub ticked : List ℕ
  ticked = set ws 0 n

  pub clock_here : 0 < length ws → clock_of ticked ≡ n
  clock_here l = get_or-set_same ws 0 n 0 l

  pub tick_word : (d : ℕ) → word_of ticked d ≡ word_of ws d
  tick_word d = get_or-set_other ws 0 (2 * d + 2) n 0 (λ e. omega arith)

  pub tick_lock : (d : ℕ) → lock_of ticked d ≡ lock_of ws d
  tick_lock d = get_or-set_other ws 0 (2 * d + 1) n 0 (λ e. omega arith)

pub le_or : (a b : ℕ) → (a ≤ b) ⊎ (b < a)
le_or a b = dite (dec_le a b) (λ y. inl y) (λ n. inr (omega arith))

-- records stand as they did
pub records_stand : {D : Type 0} (opening : List ℕ) (k : ℕ) (h h' : ℕ → Outcome D) (ws ws' : List ℕ) → Guarantee opening k h h' ws ws' → (p : ℕ) → p ≤ clock_of ws → (os : List (ℕ × ℕ))
    → Each (λ o. (o.0 < length opening) × Stands opening h o.0 o.1 p) os → Each (λ o. (o.0 < length opening) × Stands opening h' o.0 o.1 p) os
records_stand opening k h h' ws ws' q p l = each_map _ _ (λ o f. let a = q.past o.0 p l f.1.1 in (f.0, (a.0 _ ∙ f.1.0, a.2)))

module _ {M D : Type 0} (lawful : M → List ℕ → Type 0) (explains : M → List (ℕ × ℕ) → List (ℕ × ℕ) → List D → Type 0) (m : M) (opening : List ℕ) (total : ℕ) where
  abbrev V : Type 0
  V = View M D

  abbrev S : Type 0
  S = State (Unit {0}) V

  abbrev R : S → Type 0
  R = Rule lawful explains m opening total

  draws_at : (s : S) (r : R s) (id : ℕ) (v : V) (cs : List (ℕ × Unit {0})) (x : ℕ) → x ≡ suc (clock_of s.words) → get_elem? s.views id ≡ some v → v.stage ≡ Open → 0 < length v.books → 0 < v.draws
      → R (stepped s 0 x id cs (drawn v x) keeps) × LegalNow lawful explains (drawn v x)
  draws_at s r id v cs x next at undrawn acting some_left =
      let g = r.views id v at in let k : ℕ = actor v.books v.total in let own = acts v.books v.total id total r.owner _ acting g.books in
      let ws : List ℕ = s.words in let ws' : List ℕ = ticked ws x in let h : ℕ → Outcome D = r.history in let w : V = drawn v x in let wide = r.wide in
      let n : ℕ = clock_of ws in let u : ℕ = suc n in let H : List ℕ = cells_of v.held in let h' : ℕ → Outcome D = upd h u (pending k H) in
      let none_yet : h u ≡ unused = r.fresh u (omega arith) in
      let here : clock_of ws' ≡ x = clock_here ws x (omega arith) in
      let here' : clock_of ws' ≡ u = here ∙ next in
      let q : Guarantee opening k h h' ws ws' = guarantee_draw opening k h ws ws' H none_yet here' (tick_lock ws x) (tick_word ws x) in
      let quiet : (c : ℕ) → touches (h u) c ≡ false = λ c. ap (λ (z : Outcome D). touches z c) none_yet in
      let same_version : (c : ℕ) → newest opening h' ws' c ≡ newest opening h ws c = λ c. ap (version_at h' c) here' ∙ (version_aside h u (pending k H) c (quiet c) refl u ∙ ap (λ (z : Outcome D). cond (touches z c) u (version_at h c n)) none_yet) in
      let same_value : (c : ℕ) → value_now opening h' ws' c ≡ value_now opening h ws c = λ c. ap (value_at (get_or opening c 0) h' c) here'
      ∙ (value_aside (get_or opening c 0) h u (pending k H) c (quiet c) refl u ∙ ap (λ (z : Outcome D). left_in z c (value_at (get_or opening c 0) h c n)) none_yet) in
      let clean' : (t : ℕ × ℕ) → IsClean opening h ws t → IsClean opening h' ws' t = λ t f. (same_version t.0 ∙ f.0, tick_word ws x t.0 ∙ (f.1 ∙ sym (same_value t.0))) in
      let stage : Each (IsClean opening h ws) v.held = subst (FitsStage opening h ws k v.held) undrawn g.stage in
      let open_stage : (z : ℕ) (A : Type 0) → v.stage ≡ Drawn z → A = λ z A e. let bad : Open ≡ Drawn z = sym undrawn ∙ e in absurd (cc) in
      let free : (c : ℕ) → lock_of ws c ≡ 2 * k + 1 → Unheld h c n = λ c lock z j G l is. ⊎_elim
      (λ y. let b = r.barred z j G c is y in let same : j ≡ k = omega arith in ⊎_elim (λ (e : G ≡ []). ap (has c) e) (λ t. open_stage z _ t.0) (g.stale j z G (ap r.owner same ∙ own.0) is)) (λ f. f) (bool_cases (has c G)) in
      let validations : Each (λ t. (t.2 ≤ clock_of ws') × IsNewest h' t.0 t.1 t.2) w.validations = validated_all h' (clock_of ws') (x - 1) v.held v.validations (omega arith)
      (each_both _ _ _ (λ t lock c. let a = q.past t.0 n (omega arith) (free t.0 lock) in let e : x - 1 ≡ n = omega arith in subst (IsNewest h' t.0 t.1) (sym e) (a.1 ∙ c.0, a.2)) v.held g.locks stage)
      (validations_stay opening k h h' ws ws' q v.validations g.validations) in
      let now : h' x ≡ pending k H = subst (λ (z : ℕ). h' z ≡ pending k H) (sym next) (upd_same h u (pending k H)) in
      let own_fits : Fits m opening total r.owner h' ws' id w = record {
        same = g.same;
        high = g.high;
        spent = λ e. (let z = g.spent e in omega arith);
        books = each_map _ _ (λ b f. (
          f.0,
          f.1,
          f.2 ∙ sym (ap (records_by b.caller h') here' ∙ (records_aside b.caller h u (pending k H) (λ t e. let bad : unused ≡ decided b.caller t = sym none_yet ∙ e in absurd (cc)) (λ t e. absurd (cc)) u
              ∙ ap (λ (z : Outcome D). noted b.caller z u (records_by b.caller h n)) none_yet)),
        )) v.books g.books;
        order = g.order;
        known = omega arith;
        values = values_stay opening k h h' ws ws' q v.values g.values;
        validations = validations;
        trail = ((omega arith), trail_stays opening k h h' ws ws' q v.trail g.trail);
        locks = each_map _ _ (λ t e. tick_lock ws x t.0 ∙ e) v.held g.locks;
        mine = λ j d o e. g.mine j d o (sym (tick_lock ws x d) ∙ e);
        stage = (
          omega arith,
          omega arith,
          now,
          each_map _ _ (λ t f. (clean' t f, let a = f.0 in let b = version_le h t.0 n in omega arith)) v.held stage,
          λ z t l e. let ne : z ≢ u = λ is. omega arith in let bad : unused ≡ decided k t = sym (r.fresh z (omega arith)) ∙ (sym (upd_other h u (pending k H) z ne) ∙ e) in absurd (cc),
        );
        stale = λ j z G e is. ⊎_elim (λ t. let same : pending k H ≡ pending j G = t.1 in let me : j ≡ k = cc in inr (subst (λ (y : ℕ). w.stage ≡ Drawn y) (next ∙ sym t.0) refl, me))
            (λ t. ⊎_elim (λ (f : G ≡ []). inl f) (λ f. open_stage z _ f.0) (g.stale j z G e t.1)) (at_upd h u (pending k H) z _ is);
        reading = read_stays opening k h h' ws ws' q v.reading g.reading;
      } in
      let after : R (stepped s 0 x id cs w keeps) = record {
        owner = r.owner;
        placed = λ k. let l = r.placed k in let e = length-set s.views id w in omega arith;
        history = h';
        wide = length-set ws 0 x ∙ r.wide;
        small = r.small;
        lawful_opening = r.lawful_opening;
        fresh = λ z l. let ne : z ≢ u = λ is. omega arith in upd_other h u (pending k H) z ne ∙ r.fresh z (omega arith);
        cells = λ d l. ⊎_elim (λ t. inl (t.0, tick_lock ws x d ∙ t.1, clean' (d, t.0) t.2)) (λ t. inr (t.0, tick_lock ws x d ∙ t.1, t.2)) (r.cells d l);
        barred = λ z j G d e y. ⊎_elim
            (λ t. let same : pending k H ≡ pending j G = t.1 in let me : j ≡ k = cc in let what : H ≡ G = cc in let got = each_has _ d v.held (subst (λ (i : List ℕ). has d i ≡ true) (sym what) y) g.locks in
            tick_lock ws x d ∙ subst (λ (i : ℕ × ℕ). lock_of ws i.0 ≡ 2 * i.1 + 1) (λ i. (got.1 i, sym me i)) got.2)
            (λ t. tick_lock ws x d ∙ r.barred z j G d t.1 y) (at_upd h u (pending k H) z _ e);
        records = λ z j t e. ⊎_elim (λ f. let bad : pending k H ≡ decided j t = f.1 in absurd (cc))
            (λ f. let old = r.records z j t f.1 in (
              old.0,
              old.1,
              let below : z ≤ n = ⊎_elim (λ y. y) (λ y. let bad : unused ≡ decided j t = sym (r.fresh z y) ∙ f.1 in absurd (cc)) (le_or z n) in
                  records_stand opening k h h' ws ws' q (z - 1) (omega arith) t.observations old.2,
            )) (at_upd h u (pending k H) z _ e);
        callers = λ z j t e. ⊎_elim (λ f. let bad : pending k H ≡ decided j t = f.1 in absurd (cc)) (λ f. r.callers z j t f.1) (at_upd h u (pending k H) z _ e);
        views = seats_stay _ _ s.views id w own_fits (λ j y ne _. other_fits m opening total r.owner k id own.1 own.0 h h' ws ws' q j y ne) r.views;
        budget = (let d = draws_set s.views id v w at in let b = r.budget in omega arith);
      } in (after, legal lawful explains m opening total _ after id w acting own_fits (let d = draw_bound lawful explains m opening total s r id v at in omega arith))

  pub draws : (slots id : ℕ) (me : Me (Unit {0}) V) → me.0.stage ≡ Open → 0 < length me.0.books → 0 < me.0.draws
      → Allows R slots id me 0 (λ n. (n + 1) % 2 ^ 64) (draw_told lawful explains (step slots 0 1 0 none) me)
  draws slots id me undrawn acting some_left s r _ at _ = let v : V = me.0 in let n : ℕ = clock_of s.words in let g = r.views id v at in let known = g.known in
      let d = draws_set s.views id v v at in let b = r.budget in let small = r.small in let all = draws_at_most s.views id v at in
      let fits : n + 1 < 2 ^ 61 = omega arith in let x : ℕ = (n + 1) % 2 ^ 64 in let next : x ≡ suc n = omega arith in let plain : x ≡ n + 1 = omega arith in
      let got = draws_at s r id v me.1 x next at undrawn acting some_left in (
        drawn v x,
        keeps,
        tt,
        got.0,
        (
          ap (drawn v) plain,
          known,
          fits,
          each_map _ _ (λ t x. x.0) v.held (held_newest lawful explains m opening total s r id v at acting undrawn),
          got.1,
          refl,
        ),
      )
