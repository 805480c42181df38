-- A compare-exchange of a lock word keeps the rule.
use Rattle.std.proofs.Common.{◌≡◌, ◌≢◌, ℕ, ◌+◌, ◌*◌, ◌/◌, ◌%◌, ◌<◌, ◌≤◌, Bool, false, cond, eqb, List, length, get_or, set, inl, inr, ⊎_elim, sym, refl, ap, ◌∙◌, subst, arith, eq-eqb, ne_eqb, length-set, get_or-set_other, get_or-set_same}
use mathlib.Core.Logic.{dite}
use mathlib.Core.Option.{some, none}
use native.Mathlib.Decide.{ℕ_discrete}
use lib.ListN.{get_elem?}
use prog.Atomic.{either}
use Rattle.atomic_table.specs.Table.{State, Me, Act, step, keeps, stepped, Allows}
use Rattle.atomic_table.proofs.Lists.{exchanged}
use Rattle.cell_table.specs.Sorted.{Each}
use Rattle.cell_table.specs.Cells.{has}
use Rattle.cell_table.specs.History.{Outcome, unused, value_at, version_at, records_by, IsVersion, IsNewest}
use Rattle.cell_table.specs.declared.view.View.{View}
use Rattle.cell_table.specs.declared.view.Stage.TheVariants.{Open}
use Rattle.cell_table.specs.Rule.{clock_of, lock_of, word_of, cells_of, actor, IsClean, FitsStage, Fits, Rule, cell_of_lock, lock_place, value_place}
use Rattle.cell_table.specs.Steps.{Triples, cell_key, add_validation, taken, missed, IsWord}
use Rattle.cell_table.specs.Legal.{LegalNow}
use Rattle.cell_table.specs.Told.{take_told}
use Rattle.cell_table.proofs.Histories.{bool_cases}
use Rattle.cell_table.proofs.Sorted.{each_map, each_insert}
use Rattle.cell_table.proofs.HeldCells.{each_has, has_insert, has_inserted}
use Rattle.cell_table.proofs.Guarantee.{Guarantee, seats_stay, other_fits, values_stay, validations_stay, trail_stays, read_stays}
use Rattle.cell_table.proofs.Guarantees.{guarantee_words}
use Rattle.cell_table.proofs.Views.{draws_set, draw_bound, acts, legal, unmoved, clean, low, version, validated, word_is}

-- a word of a lock is set
module _ (ws : List ℕ) (c n : ℕ) where
  abbrev pub locked : List ℕ
  locked = set ws (lock_place c) n

  pub clock_kept : clock_of locked ≡ clock_of ws
  clock_kept = get_or-set_other ws (lock_place c) 0 n 0 (λ e. omega arith)

  pub word_kept : (d : ℕ) → word_of locked d ≡ word_of ws d
  word_kept d = get_or-set_other ws (lock_place c) (value_place d) n 0 (λ e. omega arith)

  pub lock_else : (d : ℕ) → d ≢ c → lock_of locked d ≡ lock_of ws d
  lock_else d ne = get_or-set_other ws (lock_place c) (lock_place d) n 0 (λ e. ne (omega arith))

  pub lock_here : lock_place c < length ws → lock_of locked c ≡ n
  lock_here l = get_or-set_same ws (lock_place c) n 0 l

  pub still_clean : {D : Type 0} (opening : List ℕ) (h : ℕ → Outcome D) (t : ℕ × ℕ) → IsClean opening h ws t → IsClean opening h locked t
  still_clean opening h t f = (ap (version_at h t.0) clock_kept ∙ f.0, word_kept t.0 ∙ (f.1 ∙ sym (ap (value_at (get_or opening t.0 0) h t.0) clock_kept)))

module _ {M D : Type 0} (lawful : M → List ℕ → Type 0) (explains : M → List (ℕ × ℕ) → List (ℕ × ℕ) → List D → Type 0) (m : M) (opening : List ℕ) (total : ℕ) where
  abbrev V : Type 0
  V = View M D

  abbrev S : Type 0
  S = State (Unit {0}) V

  abbrev R : S → Type 0
  R = Rule lawful explains m opening total

  abbrev FitsIn : (s : S) → R s → ℕ → V → Type 0
  FitsIn s r id v = Fits m opening total r.owner r.history s.words id v

  abbrev LockTaken : (s : S) → R s → ℕ → V → ℕ → ℕ → List (ℕ × Unit {0}) → Type 0
  LockTaken s r id v c f cs = let w : V = taken v c f in R (stepped s (lock_place c) (2 * actor v.books v.total + 1) id cs w keeps) × LegalNow lawful explains w

  hits : (s : S) (r : R s) (id : ℕ) (v : V) (c f : ℕ) (cs : List (ℕ × Unit {0})) → get_elem? s.views id ≡ some v → c < length opening → lock_of s.words c ≡ 2 * f → v.stage ≡ Open → 0 < length v.books → LockTaken s r id v c f cs × (has c (cells_of v.held) ≡ false)
  hits s r id v c f cs at inside free undrawn acting =
      let g = r.views id v at in let k : ℕ = actor v.books v.total in let own = acts v.books v.total id total r.owner _ acting g.books in
      let ws : List ℕ = s.words in let ws' : List ℕ = locked ws c (2 * k + 1) in let h : ℕ → Outcome D = r.history in let w : V = taken v c f in let wide = r.wide in
      let here : lock_of ws' c ≡ 2 * k + 1 = lock_here ws c (2 * k + 1) (omega arith) in
      let was_odd : (d j : ℕ) → lock_of ws d ≡ 2 * j + 1 → d ≢ c = λ d j e is. let x : lock_of ws c ≡ 2 * j + 1 = subst (λ (z : ℕ). lock_of ws z ≡ 2 * j + 1) is e in omega arith in
      let q : Guarantee opening k h h ws ws' = guarantee_words opening k h ws ws' (clock_kept ws c (2 * k + 1))
      (λ d j ne e. lock_else ws c (2 * k + 1) d (was_odd d j e) ∙ e)
      (λ d j ne e. dite (ℕ_discrete d c) (λ is. let x : lock_of ws' c ≡ 2 * j + 1 = subst (λ (z : ℕ). lock_of ws' z ≡ 2 * j + 1) is e in absurd (ne (omega arith))) (λ no. sym (lock_else ws c (2 * k + 1) d no) ∙ e))
      (λ d. inl (word_kept ws c (2 * k + 1) d)) in
      let validations : Each (λ t. (t.2 ≤ clock_of ws) × IsNewest h t.0 t.1 t.2) w.validations = validated lawful explains m opening total s r c f inside free v.known g.known v.validations g.validations in
      let stage : FitsStage opening h ws k v.held Open = subst (FitsStage opening h ws k v.held) undrawn g.stage in
      let own_fits : Fits m opening total r.owner h ws' id w = record {
        same = g.same;
        high = g.high;
        spent = g.spent;
        books = subst (λ (n : ℕ). Each (λ b. (r.owner b.caller ≡ id) × (b.caller < total) × (b.records ≡ records_by b.caller h n)) v.books) (sym (clock_kept ws c (2 * k + 1))) g.books;
        order = g.order;
        known = (let a = g.known in let b = q.grows in omega arith);
        values = values_stay opening k h h ws ws' q v.values g.values;
        validations = validations_stay opening k h h ws ws' q w.validations validations;
        trail = (
          (λ u is. let same : u ≡ f = omega arith in let a = low lawful explains m opening total s r c f inside free in let b = q.grows in
              (omega arith, subst (IsVersion h c) (sym same) (version lawful explains m opening total s r c f inside free))),
          trail_stays opening k h h ws ws' q v.trail g.trail,
        );
        locks = each_insert cell_key _ (c, f) v.held here (each_map _ _ (λ t e. lock_else ws c (2 * k + 1) t.0 (was_odd t.0 k e) ∙ e) v.held g.locks);
        mine = λ j d o e. dite (ℕ_discrete d c) (λ is. let x : lock_of ws' c ≡ 2 * j + 1 = subst (λ (z : ℕ). lock_of ws' z ≡ 2 * j + 1) is e in let same : j ≡ k = omega arith in (same, has_inserted c f d v.held is))
            (λ no. let a = g.mine j d o (sym (lock_else ws c (2 * k + 1) d no) ∙ e) in (a.0, has_insert c f d v.held a.1));
        stage = subst (FitsStage opening h ws' k w.held) (sym undrawn) (each_insert cell_key _ (c, f) v.held (still_clean ws c (2 * k + 1) opening h (c, f) (clean lawful explains m opening total s r c f inside free)) (each_map _ _ (still_clean ws c (2 * k + 1) opening h) v.held stage));
        stale = g.stale;
        reading = read_stays opening k h h ws ws' q v.reading g.reading;
      } in
      let after : R (stepped s (lock_place c) (2 * k + 1) id cs w keeps) = record {
        owner = r.owner;
        placed = λ k. let l = r.placed k in let e = length-set s.views id w in omega arith;
        history = h;
        wide = length-set ws (lock_place c) (2 * k + 1) ∙ r.wide;
        small = r.small;
        lawful_opening = r.lawful_opening;
        fresh = subst (λ (n : ℕ). (u : ℕ) → n < u → h u ≡ unused) (sym (clock_kept ws c (2 * k + 1))) r.fresh;
        cells = λ d l. dite (ℕ_discrete d c) (λ is. inr (k, subst (λ (z : ℕ). lock_of ws' z ≡ 2 * k + 1) (sym is) here, own.1))
            (λ no. ⊎_elim (λ t. inl (t.0, lock_else ws c (2 * k + 1) d no ∙ t.1, still_clean ws c (2 * k + 1) opening h (d, t.0) t.2)) (λ t. inr (t.0, lock_else ws c (2 * k + 1) d no ∙ t.1, t.2)) (r.cells d l));
        barred = λ u j H d e x. let o = r.barred u j H d e x in lock_else ws c (2 * k + 1) d (was_odd d j o) ∙ o;
        records = r.records;
        callers = r.callers;
        views = seats_stay _ _ s.views id w own_fits (λ j u ne _. other_fits m opening total r.owner k id own.1 own.0 h h ws ws' q j u ne) r.views;
        budget = (let d = draws_set s.views id v w at in let b = r.budget in let e = clock_kept ws c (2 * k + 1) in omega arith);
      } in (
        (after, legal lawful explains m opening total _ after id w acting own_fits (draw_bound lawful explains m opening total s r id v at)),
        ⊎_elim (λ y. let x = each_has _ c v.held y g.locks in let odd : lock_of ws c ≡ 2 * k + 1 = subst (λ (z : ℕ). lock_of ws z ≡ 2 * k + 1) x.1 x.2 in absurd (omega arith)) (λ y. y) (bool_cases (has c (cells_of v.held))),
      )

  even_miss : (v : V) (c n : ℕ) → n % 2 ≡ 0 → (missed v c n).validations ≡ add_validation c (n / 2) v.known v.validations
  even_miss v c n e = ap (λ (b : Bool). cond b (add_validation c (n / 2) v.known v.validations) v.validations) (eq-eqb (n % 2) 0 e)

  odd_miss : (v : V) (c n : ℕ) → n % 2 ≢ 0 → (missed v c n).validations ≡ v.validations
  odd_miss v c n e = ap (λ (b : Bool). cond b (add_validation c (n / 2) v.known v.validations) v.validations) (ne_eqb (n % 2) 0 e)

  -- what a free word that was found says
  miss_validations : (s : S) (r : R s) (id c : ℕ) (v : V) → get_elem? s.views id ≡ some v → c < length opening → Each (λ t. (t.2 ≤ clock_of s.words) × IsNewest r.history t.0 t.1 t.2) (missed v c (lock_of s.words c)).validations
  miss_validations s r id c v at inside = let n : ℕ = lock_of s.words c in let f = r.views id v at in let Q : Triples → Type 0 = Each (λ t. (t.2 ≤ clock_of s.words) × IsNewest r.history t.0 t.1 t.2) in ⊎_elim
      (λ t. let u : ℕ = n / 2 in let even = t.1 in let free : n ≡ 2 * u = omega arith in subst Q (sym (even_miss v c n (omega arith))) (validated lawful explains m opening total s r c u inside free v.known f.known v.validations f.validations))
      (λ t. let odd = t.1 in subst Q (sym (odd_miss v c n (λ e. omega arith))) f.validations)
      (r.cells c inside)

  pub takes : (slots id c f : ℕ) (me : Me (Unit {0}) V) → c < length opening → me.0.stage ≡ Open → 0 < length me.0.books
      → Allows R slots id me (lock_place c) (λ n. either (eqb n (2 * f)) (2 * actor me.0.books me.0.total + 1) n) (take_told lawful explains (step slots (lock_place c) (2 * f) (2 * actor me.0.books me.0.total + 1) none) me)
  takes slots id c f me inside undrawn acting s r _ at _ = let v : V = me.0 in let n : ℕ = lock_of s.words c in let k : ℕ = actor v.books v.total in let g = r.views id v at in
      let back : cell_of_lock (lock_place c) ≡ c = omega arith in let half : 2 * f / 2 ≡ f = omega arith in
      let word : IsWord v c n = word_is lawful explains m opening total s r id c v at acting inside in
      exchanged n (2 * f) (2 * k + 1) (λ z. (w : V) × (a : Rattle.atomic_table.specs.Table.Act (Unit {0})) × Rattle.atomic_table.specs.Table.Valid s.homes me.1 a × R (stepped s (lock_place c) z id me.1 w a) × take_told lawful explains (step slots (lock_place c) (2 * f) (2 * k + 1) none) me n (w, Rattle.atomic_table.specs.Table.carried_after me.1 a))
      (λ hit. let got = hits s r id v c f me.1 at inside hit undrawn acting in (
        taken v c f,
        keeps,
        tt,
        got.0.0,
        (
          (λ _. (subst (λ (z : ℕ × ℕ). taken v c f ≡ taken v z.0 z.1) (λ i. (sym back i, sym half i)) refl, subst (λ (z : ℕ). has z (cells_of v.held) ≡ false) (sym back) got.1)),
          (λ no. absurd (no hit)),
          subst (λ (z : ℕ). IsWord v z n) (sym back) word,
          got.0.1,
          refl,
        ),
      ))
      (λ miss. let w : V = missed v c n in let tot = (g.same acting).2 in let own = acts v.books v.total id total r.owner _ acting g.books in
      let o : FitsIn s r id w = record {
        same = g.same;
        high = g.high;
        spent = g.spent;
        books = g.books;
        order = g.order;
        known = g.known;
        values = g.values;
        validations = miss_validations s r id c v at inside;
        trail = ((λ u is. let lo = low lawful explains m opening total s r c u inside is in (lo, version lawful explains m opening total s r c u inside is)), g.trail);
        locks = g.locks;
        mine = g.mine;
        stage = g.stage;
        stale = g.stale;
        reading = g.reading;
      } in (
        w,
        keeps,
        tt,
        unmoved lawful explains m opening total s r (lock_place c) id me.1 v w at refl o,
        ((λ hit. absurd (miss hit)), (λ _. subst (λ (z : ℕ). w ≡ missed v z n) (sym back) refl), subst (λ (z : ℕ). IsWord v z n) (sym back) word, legal lawful explains m opening total s r id w acting o (draw_bound lawful explains m opening total s r id v at), refl),
      ))

  pub takes_from : (slots id c from mine : ℕ) (me : Me (Unit {0}) V) → c < length opening → me.0.stage ≡ Open → 0 < length me.0.books → from ≡ 2 * (from / 2) → mine ≡ 2 * actor me.0.books me.0.total + 1
      → Allows R slots id me (lock_place c) (λ n. either (eqb n from) mine n) (take_told lawful explains (step slots (lock_place c) from mine none) me)
  takes_from slots id c from mine me inside undrawn acting even odd =
      subst (λ (z : ℕ × ℕ). Allows R slots id me (lock_place c) (λ n. either (eqb n z.0) z.1 n) (take_told lawful explains (step slots (lock_place c) z.0 z.1 none) me)) (λ i. (sym even i, sym odd i)) (takes slots id c (from / 2) me inside undrawn acting)
