-- A load of a lock word keeps the rule.
use Rattle.std.proofs.Common.{◌≡◌, ◌≢◌, ℕ, ◌*◌, ◌/◌, ◌%◌, ◌<◌, ◌≤◌, Bool, cond, List, length, ⊎_elim, sym, refl, ap, subst, arith, eq-eqb, ne_eqb}
use mathlib.Core.Logic.{dite}
use mathlib.Core.Option.{some, none}
use native.Mathlib.Decide.{ℕ_discrete}
use lib.ListN.{get_elem?}
use Rattle.atomic_table.specs.Table.{State, Me, step, keeps, Allows}
use Rattle.cell_table.specs.History.{IsVersion}
use Rattle.cell_table.specs.declared.view.View.{View}
use Rattle.cell_table.specs.Rule.{clock_of, lock_of, Fits, Rule, cell_of_lock, lock_place}
use Rattle.cell_table.specs.Steps.{free_look, held_look, looked, IsWord}
use Rattle.cell_table.specs.Told.{lock_told}
use Rattle.cell_table.proofs.Views.{draw_bound, legal, unmoved, clean, low, version, validated, read_added, word_is}

module _ {M D : Type 0} (lawful : M → List ℕ → Type 0) (explains : M → List (ℕ × ℕ) → List (ℕ × ℕ) → List D → Type 0) (m : M) (opening : List ℕ) (total : ℕ) where
  abbrev V : Type 0
  V = View M D

  abbrev S : Type 0
  S = State (Unit {0}) V

  abbrev R : S → Type 0
  R = Rule lawful explains m opening total

  abbrev FitsIn : (s : S) → R s → ℕ → V → Type 0
  FitsIn s r id v = Fits m opening total r.owner r.history s.words id v

  -- the word is an even number or an odd one
  even_look : (v : V) (c n : ℕ) → n % 2 ≡ 0 → looked v c n ≡ free_look v c n
  even_look v c n e = ap (λ (b : Bool). cond b (free_look v c n) (held_look v c n)) (eq-eqb (n % 2) 0 e)

  odd_look : (v : V) (c n : ℕ) → n % 2 ≢ 0 → looked v c n ≡ held_look v c n
  odd_look v c n e = ap (λ (b : Bool). cond b (free_look v c n) (held_look v c n)) (ne_eqb (n % 2) 0 e)

  look_fits : (s : S) (r : R s) (id c : ℕ) (v : V) → get_elem? s.views id ≡ some v → c < length opening → FitsIn s r id (looked v c (lock_of s.words c))
  look_fits s r id c v at inside = let n : ℕ = lock_of s.words c in let f = r.views id v at in ⊎_elim
      (λ t. let u : ℕ = n / 2 in let odd = t.1 in let free : n ≡ 2 * u = omega arith in let cl = clean lawful explains m opening total s r c u inside free in let lo = low lawful explains m opening total s r c u inside free in
      let g : FitsIn s r id (free_look v c n) = record {
        same = f.same;
        high = f.high;
        spent = f.spent;
        books = f.books;
        order = f.order;
        known = f.known;
        values = read_added lawful explains m opening total s r c u inside free v.reading f.reading v.values f.values;
        validations = validated lawful explains m opening total s r c u inside free v.known f.known v.validations f.validations;
        trail = ((λ z is. let same : z ≡ u = omega arith in subst (λ (y : ℕ). (y ≤ clock_of s.words) × IsVersion r.history c y) (sym same) (lo, version lawful explains m opening total s r c u inside free)), f.trail);
        locks = f.locks;
        mine = f.mine;
        stage = f.stage;
        stale = f.stale;
        reading = (inside, (let e = cl.0 in omega arith), λ _. cl.1);
      } in subst (FitsIn s r id) (sym (even_look v c n (omega arith))) g)
      (λ t. let odd = t.1 in
      let g : FitsIn s r id (held_look v c n) = record {
        same = f.same;
        high = f.high;
        spent = f.spent;
        books = f.books;
        order = f.order;
        known = f.known;
        values = f.values;
        validations = f.validations;
        trail = ((λ z is. absurd (omega arith)), f.trail);
        locks = f.locks;
        mine = f.mine;
        stage = f.stage;
        stale = f.stale;
        reading = f.reading;
      } in subst (FitsIn s r id) (sym (odd_look v c n (λ e. omega arith))) g)
      (r.cells c inside)

  look_books : (v : V) (c n : ℕ) → (0 < length v.books → 0 < length (looked v c n).books) × ((looked v c n).draws ≡ v.draws)
  look_books v c n = let Q : V → Type 0 = λ w. (0 < length v.books → 0 < length w.books) × (w.draws ≡ v.draws) in dite (ℕ_discrete (n % 2) 0)
      (λ e. subst Q (sym (even_look v c n e)) ((λ l. l), refl)) (λ e. subst Q (sym (odd_look v c n e)) ((λ l. l), refl))

  pub looks : (slots id c : ℕ) (me : Me (Unit {0}) V) → c < length opening → 0 < length me.0.books → Allows R slots id me (lock_place c) (λ n. n) (lock_told lawful explains (step slots (lock_place c) 0 0 none) me)
  looks slots id c me inside acting s r _ at _ = let v : V = me.0 in let n : ℕ = lock_of s.words c in let w : V = looked v c n in let b = look_books v c n in let back : cell_of_lock (lock_place c) ≡ c = omega arith in
      let g : FitsIn s r id w = look_fits s r id c v at inside in (
        w,
        keeps,
        tt,
        unmoved lawful explains m opening total s r (lock_place c) id me.1 v w at b.1 g,
        (
          subst (λ (z : ℕ). w ≡ looked v z n) (sym back) refl,
          subst (λ (z : ℕ). IsWord v z n) (sym back) (word_is lawful explains m opening total s r id c v at acting inside),
          legal lawful explains m opening total s r id w (b.0 acting) g (let e = b.1 in let d = draw_bound lawful explains m opening total s r id v at in omega arith),
          refl,
        ),
      )
