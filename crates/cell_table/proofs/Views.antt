-- What the rule says of a view and of a lock word.
use Rattle.std.proofs.Common.{◌≡◌, ℕ, zero, suc, ◌+◌, ◌*◌, ◌^◌, ◌<◌, ◌≤◌, Bool, true, false, cond, eqb, leb, List, [], ◌∷◌, length, reverse, get_or, set, inl, inr, ⊎_elim, sym, refl, ap, ◌∙◌, subst, arith, eq-eqb, ne_eqb, length-set}
use mathlib.Core.Logic.{dite}
use mathlib.Core.Option.{some}
use native.Mathlib.Decide.{ℕ_discrete, dec_le}
use lib.ListN.{get_elem?}
use lib.Seq.{set-get_or}
use Rattle.std.proofs.lemmas.Bool.{le-leb, lt-leb}
use Rattle.atomic_table.specs.Table.{State, keeps, stepped}
use Rattle.cell_table.specs.Sorted.{Each}
use Rattle.cell_table.specs.Cells.{has}
use Rattle.cell_table.specs.History.{Outcome, unused, decided, touches, value_at, version_at, Unheld, IsVersion, IsValue, IsNewest}
use Rattle.cell_table.specs.declared.view.Record.{Record}
use Rattle.cell_table.specs.declared.view.Book.{Book}
use Rattle.cell_table.specs.declared.view.Event.{Event}
use Rattle.cell_table.specs.declared.view.Event.TheVariants.{LockLoaded, LockExchanged}
use Rattle.cell_table.specs.declared.view.View.{View}
use Rattle.cell_table.specs.declared.view.Stage.TheVariants.{Open, Drawn}
use Rattle.cell_table.specs.declared.view.OpenRead.{OpenRead}
use Rattle.cell_table.specs.declared.view.OpenRead.TheVariants.{NoRead, LockRead, ValueRead}
use Rattle.cell_table.specs.Rule.{clock_of, lock_of, cells_of, actor, callers_of, newest, value_now, IsClean, FitsStage, FitsRead, FitsEvent, Fits, draws_left, IsRecord, Rule}
use Rattle.cell_table.specs.Steps.{Triples, add_validation, add_read, FoundFree, IsWord}
use Rattle.cell_table.specs.Legal.{LegalNow}
use Rattle.cell_table.proofs.Histories.{bool_cases, version_le, version_top, stays}
use Rattle.cell_table.proofs.Sorted.{each_map, each_both, each_reverse, each_at}
use Rattle.cell_table.proofs.HeldCells.{each_has}
use Rattle.cell_table.proofs.Guarantee.{seats_stay}

module _ {M D : Type 0} where
  pub draws_set : (vs : List (View M D)) (id : ℕ) (v w : View M D) → get_elem? vs id ≡ some v → draws_left (set vs id w) + v.draws ≡ draws_left vs + w.draws
  draws_set [] id v w e = absurd (cc)
  draws_set (x ∷ xs) zero v w e = let same : x ≡ v = cc in let d = ap (λ (z : View M D). z.draws) same in omega arith
  draws_set (x ∷ xs) (suc id) v w e = let i = draws_set xs id v w e in omega arith

module _ {M D : Type 0} where
  pub draws_at_most : (vs : List (View M D)) (id : ℕ) (v : View M D) → get_elem? vs id ≡ some v → v.draws ≤ draws_left vs
  draws_at_most [] id v e = absurd (cc)
  draws_at_most (x ∷ xs) zero v e = let same : x ≡ v = cc in let d = ap (λ (z : View M D). z.draws) same in omega arith
  draws_at_most (x ∷ xs) (suc id) v e = let i = draws_at_most xs id v e in omega arith

pub acts : {D : Type 0} (bs : List (Book D)) (d id total : ℕ) (owner : ℕ → ℕ) (P : Book D → Type 0) → 0 < length bs → Each (λ b. (owner b.caller ≡ id) × (b.caller < total) × P b) bs → (owner (actor bs d) ≡ id) × (actor bs d < total)
acts [] d id total owner P l e = absurd (omega arith)
acts (b ∷ bs) d id total owner P l e = (e.0.0, e.0.1)

module _ {D : Type 0} where
  -- a caller of the books
  pub in_callers : (P : ℕ → Type 0) (k : ℕ) (bs : List (Book D)) → has k (callers_of bs) ≡ true → Each (λ b. P b.caller) bs → P k
  in_callers P k [] h e = absurd (cc)
  in_callers P k (b ∷ bs) h e = dite (ℕ_discrete b.caller k) (λ is. subst P is e.0) (λ n. in_callers P k bs (sym (ap (λ (z : Bool). cond z true (has k (callers_of bs))) (ne_eqb b.caller k n)) ∙ h) e.1)

-- a version that was found free is at most the newest one
found_low : {D : Type 0} (h : ℕ → Outcome D) (n c w : ℕ) (trail : List Event) → Each (FitsEvent h n) trail → FoundFree (reverse trail) c w → w ≤ version_at h c n
found_low h n c w trail f found = let fits : Each (FitsEvent h n) (reverse trail) = each_reverse (FitsEvent h n) trail f in
    let top : (w ≤ n) × IsVersion h c w = ⊎_elim (λ e. each_at (FitsEvent h n) (reverse trail) found.0 (LockLoaded c (2 * w)) fits e w refl) (λ e. each_at (FitsEvent h n) (reverse trail) found.0 (LockExchanged c (2 * w)) fits e w refl) found.1 in
    version_top h c w n top.0 top.1

-- the newest version is one
pub version_is : {D : Type 0} (h : ℕ → Outcome D) (c p : ℕ) → IsVersion h c (version_at h c p)
version_is h c zero = inl refl
version_is h c (suc p) = ⊎_elim
    (λ t. subst (λ (n : ℕ). IsVersion h c n) (sym (ap (λ (b : Bool). cond b (suc p) (version_at h c p)) t)) (inr (omega arith, t)))
    (λ f. subst (λ (n : ℕ). IsVersion h c n) (sym (ap (λ (b : Bool). cond b (suc p) (version_at h c p)) f)) (version_is h c p)) (bool_cases (touches (h (suc p)) c))

module _ {M D : Type 0} (lawful : M → List ℕ → Type 0) (explains : M → List (ℕ × ℕ) → List (ℕ × ℕ) → List D → Type 0) (m : M) (opening : List ℕ) (total : ℕ) where
  abbrev pub V : Type 0
  V = View M D

  abbrev pub S : Type 0
  S = State (Unit {0}) V

  abbrev pub R : S → Type 0
  R = Rule lawful explains m opening total

  abbrev pub FitsIn : (s : S) → R s → ℕ → V → Type 0
  FitsIn s r id v = Fits m opening total r.owner r.history s.words id v

  unfoldable pub legal : (s : S) (r : R s) (id : ℕ) (w : V) → 0 < length w.books → FitsIn s r id w → w.draws ≤ total * 2 ^ 48 → LegalNow lawful explains w
  legal s r id w acting f most = let same = f.same acting in record {
    meaning = m;
    is = same.0;
    history = r.history;
    clock = clock_of s.words;
    known = f.known;
    few = (let a = same.2 in let b = r.small in omega arith);
    draws = subst (λ (z : ℕ). w.draws ≤ z * 2 ^ 48) (sym same.2) most;
    lawful_opening = subst (λ (z : List ℕ). lawful m z) (sym same.1) r.lawful_opening;
    records = subst (λ (z : List ℕ). (u k : ℕ) (t : Record D) → r.history u ≡ decided k t → IsRecord lawful explains m z r.history u t) (sym same.1) r.records;
    callers = λ u k t e. (dite (dec_le u (clock_of s.words)) (λ y. y) (λ no. let bad : unused ≡ decided k t = sym (r.fresh u (omega arith)) ∙ e in absurd (cc)), (let l = r.callers u k t e in let q = same.2 in omega arith));
    order = f.order;
    books = each_map _ _ (λ b g. (subst (λ (z : ℕ). b.caller < z) (sym same.2) g.1, g.2)) w.books f.books;
    values = subst (λ (o : List ℕ). Each (λ t. (t.1 ≤ clock_of s.words) × IsValue o r.history t.0 t.1 t.2) w.values) (sym same.1) f.values;
    validations = f.validations;
    trail = f.trail;
  }

  pub draw_bound : (s : S) (r : R s) (id : ℕ) (v : V) → get_elem? s.views id ≡ some v → v.draws ≤ total * 2 ^ 48
  draw_bound s r id v at = let a = draws_at_most s.views id v at in let b = r.budget in omega arith

  -- a step that changes no word
  pub unmoved : (s : S) (r : R s) (i id : ℕ) (cs : List (ℕ × Unit {0})) (v w : V) → get_elem? s.views id ≡ some v → w.draws ≡ v.draws → FitsIn s r id w → R (stepped s i (get_or s.words i 0) id cs w keeps)
  unmoved s r i id cs v w at same f = subst (λ (ws : List ℕ). R record { words = ws; homes = s.homes; views = set s.views id w }) (sym (set-get_or s.words i 0)) record {
    owner = r.owner;
    placed = λ k. let l = r.placed k in let e = length-set s.views id w in omega arith;
    history = r.history;
    wide = r.wide;
    small = r.small;
    lawful_opening = r.lawful_opening;
    fresh = r.fresh;
    cells = r.cells;
    barred = r.barred;
    records = r.records;
    callers = r.callers;
    views = seats_stay _ _ s.views id w f (λ j u _ _ g. g) r.views;
    budget = (let d = draws_set s.views id v w at in let b = r.budget in omega arith);
  }

  cond_is : {A : Type 0} (b t : Bool) (x y : A) (P : A → Type 0) → b ≡ t → P (cond t x y) → P (cond b x y)
  cond_is b t x y P e p = subst (λ (z : Bool). P (cond z x y)) (sym e) p

  -- the cell is free, with the version u
  module _ (s : S) (r : R s) (c u : ℕ) (inside : c < length opening) (free : lock_of s.words c ≡ 2 * u) where
    abbrev h : ℕ → Outcome D
    h = r.history

    abbrev n : ℕ
    n = clock_of s.words

    pub clean : IsClean opening h s.words (c, u)
    clean = ⊎_elim (λ t. let a = t.1 in let same : t.0 ≡ u = omega arith in subst (λ (z : ℕ). IsClean opening h s.words (c, z)) same t.2) (λ t. let a = t.1 in absurd (omega arith)) (r.cells c inside)

    pub low : u ≤ n
    low = let a = version_le h c n in let b = clean.0 in omega arith

    pub version : IsVersion h c u
    version = subst (IsVersion h c) clean.0 (version_is h c n)

    pub unheld : (p : ℕ) → Unheld h c p
    unheld p w k H l is = ⊎_elim (λ t. let a = r.barred w k H c is t in absurd (omega arith)) (λ f. f) (bool_cases (has c H))

    pub newest_from : (p : ℕ) → u ≤ p → p ≤ n → IsNewest h c u p
    newest_from p a b = let e = clean.0 in let k = stays 0 h c p n (omega arith) b in (k.1 ∙ clean.0, unheld p)

    pub value_there : value_at (get_or opening c 0) h c u ≡ value_now opening h s.words c
    value_there = let e = clean.0 in (stays (get_or opening c 0) h c u n (omega arith) low).0

    abbrev pub AreNewest : Triples → Type 0
    AreNewest ss = Each (λ t. (t.2 ≤ n) × IsNewest h t.0 t.1 t.2) ss

    abbrev Values : Triples → Type 0
    Values vs = Each (λ t. (t.1 ≤ n) × IsValue opening h t.0 t.1 t.2) vs

    pub validated : (known : ℕ) → known ≤ n → (ss : Triples) → AreNewest ss → AreNewest (add_validation c u known ss)
    validated known l ss f = let yes : Triples = (c, u, known) ∷ ss in dite (dec_le u known) (λ y. cond_is (leb u known) true yes ss AreNewest (le-leb u known y) ((l, newest_from known y l), f))
        (λ no. cond_is (leb u known) false yes ss AreNewest (lt-leb u known (omega arith)) f)

    pub read_added : (l : OpenRead) → FitsRead opening h s.words l → (vs : Triples) → Values vs → Values (add_read l c u vs)
    read_added NoRead f vs e = e
    read_added (LockRead d w) f vs e = e
    read_added (ValueRead d w x) f vs e = let yes : Triples = (c, u, x) ∷ vs in let inner : Triples = cond (eqb w u) yes vs in dite (ℕ_discrete d c)
        (λ y. cond_is (eqb d c) true inner vs Values (eq-eqb d c y) (dite (ℕ_discrete w u)
        (λ z. let is : newest opening h s.words d ≡ w = subst (λ (k : ℕ). newest opening h s.words k ≡ w) (sym y) (clean.0 ∙ sym z) in
        let v : value_at (get_or opening c 0) h c u ≡ x = value_there ∙ sym (subst (λ (k : ℕ). x ≡ value_now opening h s.words k) y (f.2 is)) in
        cond_is (eqb w u) true yes vs Values (eq-eqb w u z) ((low, (version, v)), e))
        (λ nz. cond_is (eqb w u) false yes vs Values (ne_eqb w u nz) e)))
        (λ ny. cond_is (eqb d c) false inner vs Values (ne_eqb d c ny) e)

  -- each lock word is a version or a caller number, and the view's own is the acting one
  pub word_is : (s : S) (r : R s) (id c : ℕ) (v : V) → get_elem? s.views id ≡ some v → 0 < length v.books → c < length opening → IsWord v c (lock_of s.words c)
  word_is s r id c v at acting inside = let f = r.views id v at in let own = acts v.books v.total id total r.owner _ acting f.books in let tot = (f.same acting).2 in let k : ℕ = actor v.books v.total in
      let held_by : has c (cells_of v.held) ≡ true → lock_of s.words c ≡ 2 * k + 1 = λ h. let a = each_has _ c v.held h f.locks in subst (λ (z : ℕ). lock_of s.words z ≡ 2 * k + 1) a.1 a.2 in ⊎_elim
      (λ t. let even = t.1 in inl (
        t.0,
        t.1,
        ⊎_elim (λ y. let odd = held_by y in absurd (omega arith)) (λ n. n) (bool_cases (has c (cells_of v.held))),
        λ w found. let e = (clean s r c t.0 inside t.1).0 in let low = found_low r.history (clock_of s.words) c w v.trail f.trail found in omega arith,
      ))
      (λ t. let odd = t.1 in let small = t.2 in inr (
        t.0,
        t.1,
        omega arith,
        (λ h. let own_word = held_by h in omega arith),
        λ h. f.mine t.0 c (in_callers (λ j. r.owner j ≡ id) t.0 v.books h (each_map _ _ (λ b g. g.0) v.books f.books)) t.1,
      )) (r.cells c inside)

  -- while nothing is drawn, the version of a held cell is the newest one, and no one else can change that
  pub held_newest : (s : S) (r : R s) (id : ℕ) (v : V) → get_elem? s.views id ≡ some v → 0 < length v.books → v.stage ≡ Open → Each (λ t. (t.1 ≤ clock_of s.words) × IsNewest r.history t.0 t.1 (clock_of s.words)) v.held
  held_newest s r id v at acting undrawn =
      let g = r.views id v at in let k : ℕ = actor v.books v.total in let own = acts v.books v.total id total r.owner _ acting g.books in
      let n : ℕ = clock_of s.words in let h : ℕ → Outcome D = r.history in
      let stage : Each (IsClean opening h s.words) v.held = subst (FitsStage opening h s.words k v.held) undrawn g.stage in
      let free : (c : ℕ) → lock_of s.words c ≡ 2 * k + 1 → Unheld h c n = λ c lock z j G l is. ⊎_elim
      (λ y. let b = r.barred z j G c is y in let same : j ≡ k = omega arith in ⊎_elim (λ (e : G ≡ []). ap (has c) e)
      (λ t. let bad : Open ≡ Drawn z = sym undrawn ∙ t.0 in absurd (cc)) (g.stale j z G (ap r.owner same ∙ own.0) is)) (λ f. f) (bool_cases (has c G)) in
      each_both _ _ _ (λ t lock c. let e = c.0 in let b = version_le h t.0 n in (omega arith, (c.0, free t.0 lock))) v.held g.locks stage
