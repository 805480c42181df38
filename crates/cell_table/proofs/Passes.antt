-- What a step keeps of a pass.
use Rattle.std.proofs.Common.{◌≡◌, ◌≢◌, ℕ, ◌+◌, ◌-◌, ◌*◌, ◌/◌, ◌%◌, ◌<◌, ◌≤◌, Bool, cond, eqb, leb, List, [], ◌∷◌, length, inl, inr, ⊎_elim, sym, refl, ap, ◌∙◌, subst, arith, eq-eqb, ne_eqb, Some, None, Option}
use mathlib.Core.Logic.{dite}
use native.Mathlib.Decide.{ℕ_discrete}
use Rattle.std.proofs.lemmas.Bool.{le-leb}
use Rattle.atomic_table.specs.Seated.{TableId}
use Rattle.cell_table.specs.Rule.{cell_of_lock, cell_of_value, lock_place, value_place}
use Rattle.cell_table.specs.Sorted.{Each, Among}
use Rattle.cell_table.specs.declared.view.Record.{Record}
use Rattle.cell_table.specs.declared.view.Book.{Book}
use Rattle.cell_table.specs.declared.view.NotedBook.{NotedBook}
use Rattle.cell_table.specs.declared.view.View.{View}
use Rattle.cell_table.specs.declared.view.Stage.{Stage}
use Rattle.cell_table.specs.declared.view.Stage.TheVariants.{Open, Drawn, Decided}
use Rattle.cell_table.specs.declared.view.OpenRead.{OpenRead}
use Rattle.cell_table.specs.declared.view.OpenRead.TheVariants.{NoRead, LockRead, ValueRead}
use Rattle.cell_table.specs.declared.entry.HeldCell.{HeldCell}
use Rattle.cell_table.specs.Steps.{Triples, add_validation, validate_all, validate_open, add_read, add_kept, add_held, clocked, free_look, held_look, looked, valued, taken, missed, drawn, first_put, next_put, given, Observes, Reads, Validated, HeldStand, Grows, MayDecide, FoundFree, IsWord}
use Rattle.cell_table.specs.Legal.{LegalNow}
use Rattle.cell_table.specs.Pass.{PassState, TableState, trail_of}
use Rattle.cell_table.specs.IsPass.{IsPass, IsReader, IsPlanned, AreWritten}
use Rattle.cell_table.specs.Seats.{Tied}
use Rattle.cell_table.proofs.Histories.{bool_cases}
use Rattle.cell_table.proofs.Sorted.{each_map}

among_validate : (t : ℕ × ℕ × ℕ) (held : List (ℕ × ℕ)) (p : ℕ) (ss : Triples) → Among t ss → Among t (validate_all held p ss)
among_validate t [] p ss a = a
among_validate t (h ∷ hs) p ss a = inr (among_validate t hs p ss a)

among_validated : (c u : ℕ) (held : List (ℕ × ℕ)) (p : ℕ) (ss : Triples) → Among (c, u) held → Among (c, u, p) (validate_all held p ss)
among_validated c u [] p ss a = absurd a
among_validated c u (h ∷ hs) p ss a = ⊎_elim (λ is. inl (λ i. ((is i).0, (is i).1, p))) (λ l. inr (among_validated c u hs p ss l)) a

among_kept : (t : ℕ × ℕ × ℕ) (held : List (ℕ × ℕ)) (c x : ℕ) (vs : Triples) → Among t vs → Among t (add_kept held c x vs)
among_kept t [] c x vs a = a
among_kept t (h ∷ hs) c x vs a = let i = among_kept t hs c x vs a in let P : Bool → Type 0 = λ z. Among t (cond z ((h.0, h.1, x) ∷ add_kept hs c x vs) (add_kept hs c x vs)) in
    ⊎_elim (λ y. subst P (sym y) (inr i)) (λ y. subst P (sym y) i) (bool_cases (eqb h.0 c))

even_half : (r u : ℕ) → r ≡ 2 * u → (r % 2 ≡ 0) × (r / 2 ≡ u)
even_half r u e = (omega arith, omega arith)

pub added_validation : (c u known : ℕ) (ss : Triples) → u ≤ known → Among (c, u, known) (add_validation c u known ss)
added_validation c u known ss l = subst (λ (b : Bool). Among (c, u, known) (cond b ((c, u, known) ∷ ss) ss)) (sym (le-leb u known l)) (inl refl)

module _ {D : Type 0} where
  among_open : (t : ℕ × ℕ × ℕ) (st : Stage D) (held : List (ℕ × ℕ)) (p : ℕ) (ss : Triples) → Among t ss → Among t (validate_open st held p ss)
  among_open t Open held p ss a = among_validate t held p ss a
  among_open t (Drawn u) held p ss a = a
  among_open t (Decided u r stored) held p ss a = a

  among_held : (t : ℕ × ℕ × ℕ) (st : Stage D) (held : List (ℕ × ℕ)) (c x : ℕ) (vs : Triples) → Among t vs → Among t (add_held st held c x vs)
  among_held t Open held c x vs a = among_kept t held c x vs a
  among_held t (Drawn u) held c x vs a = among_kept t held c x vs a
  among_held t (Decided u r stored) held c x vs a = a

among_read : (t : ℕ × ℕ × ℕ) (l : OpenRead) (c u : ℕ) (vs : Triples) → Among t vs → Among t (add_read l c u vs)
among_read t NoRead c u vs a = a
among_read t (LockRead d w) c u vs a = a
among_read t (ValueRead d w x) c u vs a = ⊎_elim
    (λ y. subst (λ (b : Bool). Among t (cond b (cond (eqb w u) ((c, u, x) ∷ vs) vs) vs)) (sym y) (⊎_elim
    (λ z. subst (λ (b : Bool). Among t (cond b ((c, u, x) ∷ vs) vs)) (sym z) (inr a))
    (λ z. subst (λ (b : Bool). Among t (cond b ((c, u, x) ∷ vs) vs)) (sym z) a) (bool_cases (eqb w u))))
    (λ y. subst (λ (b : Bool). Among t (cond b (cond (eqb w u) ((c, u, x) ∷ vs) vs) vs)) (sym y) a) (bool_cases (eqb d c))

among_validation : (t : ℕ × ℕ × ℕ) (c u known : ℕ) (ss : Triples) → Among t ss → Among t (add_validation c u known ss)
among_validation t c u known ss a = ⊎_elim (λ y. subst (λ (b : Bool). Among t (cond b ((c, u, known) ∷ ss) ss)) (sym y) (inr a)) (λ y. subst (λ (b : Bool). Among t (cond b ((c, u, known) ∷ ss) ss)) (sym y) a) (bool_cases (leb u known))

module _ {M D : Type 0} where
  -- what each step leaves for good
  pub grows_clocked : (v : View M D) (r : ℕ) → v.known ≤ r → Grows v (clocked v r)
  grows_clocked v r l = record { meaning = refl; opening = refl; total = refl; known = l; values = λ t a. a; validations = λ t a. among_open t v.stage v.held r v.validations a }

  grows_free : (v : View M D) (c r : ℕ) → Grows v (free_look v c r)
  grows_free v c r = record { meaning = refl; opening = refl; total = refl; known = omega arith; values = λ t a. among_read t v.reading c (r / 2) v.values a; validations = λ t a. among_validation t c (r / 2) v.known v.validations a }

  grows_held : (v : View M D) (c r : ℕ) → Grows v (held_look v c r)
  grows_held v c r = record { meaning = refl; opening = refl; total = refl; known = omega arith; values = λ t a. a; validations = λ t a. a }

  pub by_parity : (P : View M D → Type 0) (v : View M D) (c r : ℕ) → (r % 2 ≡ 0 → P (free_look v c r)) → (r % 2 ≢ 0 → P (held_look v c r)) → P (looked v c r)
  by_parity P v c r even odd = dite (ℕ_discrete (r % 2) 0)
      (λ e. subst (λ (b : Bool). P (cond b (free_look v c r) (held_look v c r))) (sym (eq-eqb (r % 2) 0 e)) (even e))
      (λ e. subst (λ (b : Bool). P (cond b (free_look v c r) (held_look v c r))) (sym (ne_eqb (r % 2) 0 e)) (odd e))

  pub grows_looked : (v : View M D) (c r : ℕ) → Grows v (looked v c r)
  grows_looked v c r = by_parity (Grows v) v c r (λ e. grows_free v c r) (λ e. grows_held v c r)

  pub grows_valued : (v : View M D) (c x : ℕ) → Grows v (valued v c x)
  grows_valued v c x = record { meaning = refl; opening = refl; total = refl; known = omega arith; values = λ t a. among_held t v.stage v.held c x v.values a; validations = λ t a. a }

  pub grows_taken : (v : View M D) (c u : ℕ) → Grows v (taken v c u)
  grows_taken v c u = record { meaning = refl; opening = refl; total = refl; known = omega arith; values = λ t a. a; validations = λ t a. among_validation t c u v.known v.validations a }

  pub grows_missed : (v : View M D) (c r : ℕ) → Grows v (missed v c r)
  grows_missed v c r = record {
    meaning = refl;
    opening = refl;
    total = refl;
    known = omega arith;
    values = λ t a. a;
    validations = λ t a. let P : Bool → Type 0 = λ b. Among t (cond b (add_validation c (r / 2) v.known v.validations) v.validations) in
        ⊎_elim (λ y. subst P (sym y) (among_validation t c (r / 2) v.known v.validations a)) (λ y. subst P (sym y) a) (bool_cases (eqb (r % 2) 0));
  }

  pub grows_drawn : (v : View M D) (u : ℕ) → v.known ≤ u → Grows v (drawn v u)
  grows_drawn v u l = record { meaning = refl; opening = refl; total = refl; known = l; values = λ t a. a; validations = λ t a. among_validate t v.held (u - 1) v.validations a }

  pub grows_first_put : (v : View M D) (u : ℕ) (r : Record D) (c x : ℕ) → Grows v (first_put v u r c x)
  grows_first_put v u r c x = record { meaning = refl; opening = refl; total = refl; known = omega arith; values = λ t a. a; validations = λ t a. a }

  pub grows_next_put : (v : View M D) (c x : ℕ) → Grows v (next_put v c x)
  grows_next_put v c x = record { meaning = refl; opening = refl; total = refl; known = omega arith; values = λ t a. a; validations = λ t a. a }

  pub grows_given : (v : View M D) (c n : ℕ) → Grows v (given v c n)
  grows_given v c n = record { meaning = refl; opening = refl; total = refl; known = omega arith; values = λ t a. a; validations = λ t a. a }

  -- the place that a step gives is one for each held cell whose value is known
  pub clock_holds : (v : View M D) (r : ℕ) → v.stage ≡ Open → Each (λ t. t.1 ≤ r) v.held → HeldStand v (clocked v r) r
  clock_holds v r st low c u x a reads = let l = Rattle.cell_table.proofs.Sorted.each_among (λ t. t.1 ≤ r) (c, u) v.held a low in
      (u, r, reads, subst (λ (z : Stage D). Among (c, u, r) (validate_open z v.held r v.validations)) (sym st) (among_validated c u v.held r v.validations a), l, omega arith)

  pub draw_holds : (v : View M D) (u : ℕ) → Each (λ t. t.1 ≤ u - 1) v.held → HeldStand v (drawn v u) (u - 1)
  draw_holds v u low c w x a reads = let l = Rattle.cell_table.proofs.Sorted.each_among (λ t. t.1 ≤ u - 1) (c, w) v.held a low in
      (w, u - 1, reads, among_validated c w v.held (u - 1) v.validations a, l, omega arith)

  pub observes_on : (v w : View M D) → Grows v w → (c x p : ℕ) → Observes v c x p → Observes w c x p
  observes_on v w g c x p o = (o.0, o.1, g.values _ o.2, g.validations _ o.3, o.4, o.5)

  pub may_decide_on : (explains : M → List (ℕ × ℕ) → List (ℕ × ℕ) → List D → Type 0) (v w : View M D) → Grows v w → (u : ℕ) (r : Record D) → MayDecide explains v u r → MayDecide explains w u r
  may_decide_on explains v w g u r f = record {
    explained = λ m e. f.explained m (sym g.meaning ∙ e);
    observed = each_map _ _ (λ o a. (subst (λ (z : List ℕ). o.0 < length z) (sym g.opening) a.0, observes_on v w g o.0 o.1 (u - 1) a.1)) r.observations f.observed;
  }

  pub readers_on : (explains : M → List (ℕ × ℕ) → List (ℕ × ℕ) → List D → Type 0) (v w : View M D) → Grows v w → (bs : List (NotedBook D)) → Each (λ b. Each (IsReader explains v) b.entries) bs → Each (λ b. Each (IsReader explains w) b.entries) bs
  readers_on explains v w g = each_map _ _ (λ b f. each_map _ _ (λ e h is. let a = h is in let low = a.0 in let up = g.known in (
    omega arith,
    a.1,
    (λ m s. a.2 m (sym g.meaning ∙ s)),
    each_map _ _ (λ o x. (subst (λ (z : List ℕ). o.0 < length z) (sym g.opening) x.0, observes_on v w g o.0 o.1 e.place x.1)) e.content.observations a.3,
  )) b.entries f)

  module _ (lawful : M → List ℕ → Type 0) (explains : M → List (ℕ × ℕ) → List (ℕ × ℕ) → List D → Type 0) where
    planned_on : (p : PassState M D) (w : View M D) (t : TableId) (places : ℕ) → Grows p.view w → w.stage ≡ p.view.stage → (plan : Option (Record D)) → IsPlanned explains p plan → IsPlanned explains (record p { view = w; table = t; places = places }) plan
    planned_on p w t places g st None f = tt
    planned_on p w t places g st (Some r) f = (f.0, st ∙ f.1, may_decide_on explains p.view w g f.0 r f.2, f.3)

    -- a step that leaves the books and how far the attempt has come
    pub pass_on : (p : PassState M D) (w : View M D) (t : TableId) (places : ℕ) → IsPass lawful explains p → Grows p.view w → w.books ≡ p.view.books → w.stage ≡ p.view.stage → LegalNow lawful explains w → IsPass lawful explains (record p { view = w; table = t; places = places })
    pass_on p w t places f g books st legal = record {
      acting = subst (λ (z : List (Book D)). 0 < length z) (sym books) f.acting;
      books = f.books ∙ sym books;
      seen = (let a = f.seen in let b = g.known in omega arith);
      drawn = λ u e. let a = f.drawn u (sym st ∙ e) in let l = a.0 in let h = a.1 in let b = g.known in (omega arith, omega arith);
      places = f.places;
      ascending = f.ascending;
      readers = readers_on explains p.view w g p.books f.readers;
      planned = planned_on p w t places g st p.plan f.planned;
      written = subst AreWritten (sym st) f.written;
      legal = legal;
    }

  -- a step that leaves the held cells, the draws and how far the attempt has come
  pub tied_on : (v w : View M D) (hs : List HeldCell) (d n : ℕ) → Tied v hs d n → w.draws ≡ v.draws → w.held ≡ v.held → w.stage ≡ v.stage → Tied w hs d n
  tied_on v w hs d n f draws held st = record {
    draws = f.draws ∙ sym draws;
    held = f.held ∙ sym held;
    sorted = f.sorted;
    flags = subst (λ (z : Stage D). Rattle.cell_table.specs.Seats.FitsFlags z hs) (sym st) f.flags;
    drawn = subst (λ (z : Stage D). Rattle.cell_table.specs.Seats.FitsDrawn z d) (sym st) f.drawn;
    small = f.small;
    fits = f.fits;
  }

module _ {M D : Type 0} (lawful : M → List ℕ → Type 0) (explains : M → List (ℕ × ℕ) → List (ℕ × ℕ) → List D → Type 0) where
  pub pass_by : (p : PassState M D) (w x : View M D) (t : TableId) (places : ℕ) → IsPass lawful explains p → w ≡ x → Grows p.view x → x.books ≡ p.view.books → x.stage ≡ p.view.stage → LegalNow lawful explains w → IsPass lawful explains (record p { view = w; table = t; places = places })
  pass_by p w x t places f e g books st legal = pass_on lawful explains p w t places f (subst (λ (z : View M D). Grows p.view z) (sym e) g) (ap (λ (z : View M D). z.books) e ∙ books) (ap (λ (z : View M D). z.stage) e ∙ st) legal

module _ {M D : Type 0} where
  pub tied_by : (v w x : View M D) (hs : List HeldCell) (d n : ℕ) → Tied v hs d n → w ≡ x → x.draws ≡ v.draws → x.held ≡ v.held → x.stage ≡ v.stage → Tied w hs d n
  tied_by v w x hs d n f e draws held st = tied_on v w hs d n f (ap (λ (z : View M D). z.draws) e ∙ draws) (ap (λ (z : View M D). z.held) e ∙ held) (ap (λ (z : View M D). z.stage) e ∙ st)

  -- the pass is one of the table, as their fields have it
  pub same_table : (p q : PassState M D) (t u : TableState M) → p ≡ q → t ≡ u → q.table ≡ u.id → p.table ≡ t.id
  same_table p q t u e f is = ap (λ (z : PassState M D). z.table) e ∙ (is ∙ sym (ap (λ (z : TableState M). z.id) f))

  pub clock_held : (p q : PassState M D) (w : View M D) (r : ℕ) → p ≡ q → w ≡ clocked p.view r → (p.view.stage ≡ Open → Each (λ t. t.1 ≤ r) p.view.held) → q.view.stage ≡ Open → HeldStand q.view w r
  clock_held p q w r e f low = subst (λ (z : PassState M D). z.view.stage ≡ Open → HeldStand z.view w r) e (λ st. subst (λ (z : View M D). HeldStand p.view z r) (sym f) (clock_holds p.view r st (low st)))

  pub draw_held : (p q : PassState M D) (w : View M D) (r : ℕ) → p ≡ q → w ≡ drawn p.view (r + 1) → Each (λ t. t.1 ≤ r) p.view.held → HeldStand q.view w (r + 1 - 1)
  draw_held p q w r e f low = let back : r ≡ r + 1 - 1 = omega arith in subst (λ (z : PassState M D). HeldStand z.view w (r + 1 - 1)) e (subst (λ (z : View M D). HeldStand p.view z (r + 1 - 1)) (sym f) (draw_holds p.view (r + 1) (subst (λ (n : ℕ). Each (λ t. t.1 ≤ n) p.view.held) back low)))

  pub draw_above : (p q : PassState M D) (r : ℕ) → p ≡ q → Each (λ t. t.1 ≤ r) p.view.held → Each (λ t. t.1 < r + 1) q.view.held
  draw_above p q r e low = subst (λ (z : PassState M D). Each (λ t. t.1 < r + 1) z.view.held) e (each_map _ _ (λ t l. omega arith) p.view.held low)

module _ {M : Type 0} where
  pub cell_inside : (t u : TableState M) (c : ℕ) → t ≡ u → c < length u.opening → c < length t.opening
  cell_inside t u c f l = subst (λ (z : TableState M). c < length z.opening) (sym f) l

module _ {M D : Type 0} where
  look_first : (v : View M D) (c r u : ℕ) → r ≡ 2 * u → (looked v c r).reading ≡ LockRead c u
  look_first v c r u e = by_parity (λ w. w.reading ≡ LockRead c u) v c r (λ y. ap (LockRead c) (even_half r u e).1) (λ n. absurd (n (even_half r u e).0))

  look_read : (v : View M D) (c r u x : ℕ) → r ≡ 2 * u → v.reading ≡ ValueRead c u x → Reads (looked v c r) c u x
  look_read v c r u x e st = by_parity (λ w. Reads w c u x) v c r
      (λ y. subst (λ (l : OpenRead). Among (c, u, x) (add_read l c (r / 2) v.values)) (sym st) (subst (λ (z : ℕ). Among (c, u, x) (add_read (ValueRead c u x) c z v.values)) (sym (even_half r u e).1)
      (subst (λ (b : Bool). Among (c, u, x) (cond b (cond (eqb u u) ((c, u, x) ∷ v.values) v.values) v.values)) (sym (eq-eqb c c refl)) (subst (λ (b : Bool). Among (c, u, x) (cond b ((c, u, x) ∷ v.values) v.values)) (sym (eq-eqb u u refl)) (inl refl)))))
      (λ n. absurd (n (even_half r u e).0))

  look_still : (v : View M D) (c r u : ℕ) → r ≡ 2 * u → u ≤ v.known → Validated (looked v c r) c u v.known
  look_still v c r u e l = by_parity (λ w. Validated w c u v.known) v c r
      (λ y. subst (λ (z : ℕ). Among (c, u, v.known) (add_validation c z v.known v.validations)) (sym (even_half r u e).1) (added_validation c u v.known v.validations l))
      (λ n. absurd (n (even_half r u e).0))

  pub missed_still : (v : View M D) (c r u : ℕ) → r ≡ 2 * u → u ≤ v.known → Validated (missed v c r) c u v.known
  missed_still v c r u e l = subst (λ (b : Bool). Among (c, u, v.known) (cond b (add_validation c (r / 2) v.known v.validations) v.validations)) (sym (eq-eqb (r % 2) 0 (even_half r u e).0))
      (subst (λ (z : ℕ). Among (c, u, v.known) (add_validation c z v.known v.validations)) (sym (even_half r u e).1) (added_validation c u v.known v.validations l))

  -- the same for the view that a contract names
  pub grows_by : (p q : PassState M D) (w x : View M D) → p ≡ q → w ≡ x → Grows p.view x → Grows q.view w
  grows_by p q w x e f g = subst (λ (z : PassState M D). Grows z.view w) e (subst (λ (z : View M D). Grows p.view z) (sym f) g)

  pub taken_validated : (p q : PassState M D) (w : View M D) (c r : ℕ) → p ≡ q → w ≡ taken p.view c (r / 2) → (u : ℕ) → r ≡ 2 * u → u ≤ q.view.known → Validated w c u q.view.known
  taken_validated p q w c r e f u is = subst (λ (z : PassState M D). u ≤ z.view.known → Validated w c u z.view.known) e
      (λ l. subst (λ (z : View M D). Validated z c u p.view.known) (sym f) (subst (λ (z : ℕ). Among (c, u, p.view.known) (add_validation c z p.view.known p.view.validations)) (sym (even_half r u is).1) (added_validation c u p.view.known p.view.validations l)))

  pub missed_validated : (p q : PassState M D) (w : View M D) (c r : ℕ) → p ≡ q → w ≡ missed p.view c r → (u : ℕ) → r ≡ 2 * u → u ≤ q.view.known → Validated w c u q.view.known
  missed_validated p q w c r e f u is = subst (λ (z : PassState M D). u ≤ z.view.known → Validated w c u z.view.known) e (λ l. subst (λ (z : View M D). Validated z c u p.view.known) (sym f) (missed_still p.view c r u is l))

  -- no version of the trail is above a free word that is found
  pub never_falls : (p q : PassState M D) (c r : ℕ) → p ≡ q → IsWord p.view c r → (u w : ℕ) → r ≡ 2 * u → FoundFree (trail_of q) c w → w ≤ u
  never_falls p q c r e word u w even = subst (λ (z : PassState M D). FoundFree (trail_of z) c w → w ≤ u) e
      (λ found. ⊎_elim (λ t. let free = t.1 in let low = t.3 w found in omega arith) (λ t. let odd = t.1 in absurd (omega arith)) word)

  pub looked_first : (w v : View M D) (c r u : ℕ) → w ≡ looked v c r → r ≡ 2 * u → w.reading ≡ LockRead c u
  looked_first w v c r u e is = ap (λ (z : View M D). z.reading) e ∙ look_first v c r u is

  pub looked_read : (p q : PassState M D) (w : View M D) (c r u x : ℕ) → p ≡ q → w ≡ looked p.view c r → r ≡ 2 * u → q.view.reading ≡ ValueRead c u x → Reads w c u x
  looked_read p q w c r u x e f is st = subst (λ (z : View M D). Reads z c u x) (sym f) (look_read p.view c r u x is (ap (λ (z : PassState M D). z.view.reading) e ∙ st))

  pub looked_still : (p q : PassState M D) (w : View M D) (c r u : ℕ) → p ≡ q → w ≡ looked p.view c r → r ≡ 2 * u → u ≤ q.view.known → Validated w c u q.view.known
  looked_still p q w c r u e f is = subst (λ (y : PassState M D). u ≤ y.view.known → Validated w c u y.view.known) e (λ l. subst (λ (z : View M D). Validated z c u p.view.known) (sym f) (look_still p.view c r u is l))

  pub looked_books : (v : View M D) (c r : ℕ) → ((looked v c r).books ≡ v.books) × ((looked v c r).stage ≡ v.stage) × ((looked v c r).draws ≡ v.draws) × ((looked v c r).held ≡ v.held)
  looked_books v c r = by_parity (λ w. (w.books ≡ v.books) × (w.stage ≡ v.stage) × (w.draws ≡ v.draws) × (w.held ≡ v.held)) v c r (λ y. (refl, refl, refl, refl)) (λ n. (refl, refl, refl, refl))

  pub looked_trail : (v : View M D) (c r : ℕ) → (looked v c r).trail ≡ Rattle.cell_table.specs.declared.view.Event.TheVariants.LockLoaded c r ∷ v.trail
  looked_trail v c r = by_parity (λ w. w.trail ≡ Rattle.cell_table.specs.declared.view.Event.TheVariants.LockLoaded c r ∷ v.trail) v c r (λ y. refl) (λ n. refl)

-- the cell that a word belongs to
pub at_lock : (P : ℕ → Type 0) (c : ℕ) → P (cell_of_lock (lock_place c)) → P c
at_lock P c p = let e : cell_of_lock (lock_place c) ≡ c = omega arith in subst P e p

pub at_value : (P : ℕ → Type 0) (c : ℕ) → P (cell_of_value (value_place c)) → P c
at_value P c p = let e : cell_of_value (value_place c) ≡ c = omega arith in subst P e p

module _ {M D : Type 0} where
  pub look_of : (p q : PassState M D) (w : View M D) (t : TableId) (c r : ℕ) → p ≡ q → t ≡ p.table → w ≡ looked p.view c r → record p { view = w; table = t } ≡ record q { view = looked q.view c r }
  look_of p q w t c r e same f = (λ i. record p { view = f i; table = same i }) ∙ ap (λ (z : PassState M D). record z { view = looked z.view c r }) e

  pub look_word : (p q : PassState M D) (c r : ℕ) → p ≡ q → IsWord p.view c r → IsWord q.view c r
  look_word p q c r e f = subst (λ (z : PassState M D). IsWord z.view c r) e f

module _ {M D : Type 0} where
  pub value_of : (p q : PassState M D) (w : View M D) (t : TableId) (c x : ℕ) → p ≡ q → t ≡ p.table → w ≡ valued p.view c x → record p { view = w; table = t } ≡ record q { view = valued q.view c x }
  value_of p q w t c x e same f = (λ i. record p { view = f i; table = same i }) ∙ ap (λ (z : PassState M D). record z { view = valued z.view c x }) e

  pub taken_of : (p q : PassState M D) (w : View M D) (t : TableId) (c u places : ℕ) → p ≡ q → t ≡ p.table → w ≡ taken p.view c u → places ≡ p.places - 1 → record p { view = w; table = t; places = places } ≡ record q { view = taken q.view c u; places = q.places - 1 }
  taken_of p q w t c u places e same f less = (λ i. record p { view = f i; table = same i; places = less i }) ∙ ap (λ (z : PassState M D). record z { view = taken z.view c u; places = z.places - 1 }) e

  pub missed_of : (p q : PassState M D) (w : View M D) (t : TableId) (c r : ℕ) → p ≡ q → t ≡ p.table → w ≡ missed p.view c r → record p { view = w; table = t } ≡ record q { view = missed q.view c r }
  missed_of p q w t c r e same f = (λ i. record p { view = f i; table = same i }) ∙ ap (λ (z : PassState M D). record z { view = missed z.view c r }) e
