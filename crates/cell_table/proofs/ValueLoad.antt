-- A load of a value word keeps the rule.
use Rattle.std.proofs.Common.{◌≡◌, ℕ, ◌<◌, ◌≤◌, Bool, cond, List, [], ◌∷◌, length, sym, refl, ap, ◌∙◌, subst, arith, eq-eqb, ne_eqb}
use mathlib.Core.Logic.{dite}
use mathlib.Core.Option.{none}
use native.Mathlib.Decide.{ℕ_discrete}
use Rattle.atomic_table.specs.Table.{State, Me, step, keeps, Allows}
use Rattle.cell_table.specs.Sorted.{Each}
use Rattle.cell_table.specs.History.{Outcome, IsValue}
use Rattle.cell_table.specs.declared.view.View.{View}
use Rattle.cell_table.specs.declared.view.Stage.{Stage}
use Rattle.cell_table.specs.declared.view.Stage.TheVariants.{Open, Drawn, Decided}
use Rattle.cell_table.specs.declared.view.OpenRead.{OpenRead}
use Rattle.cell_table.specs.declared.view.OpenRead.TheVariants.{NoRead, LockRead, ValueRead}
use Rattle.cell_table.specs.Rule.{clock_of, word_of, IsClean, FitsStage, FitsRead, Fits, Rule, cell_of_value, value_place}
use Rattle.cell_table.specs.Steps.{Triples, add_kept, add_held, next_read, valued}
use Rattle.cell_table.specs.Told.{value_told}
use Rattle.cell_table.proofs.Sorted.{each_map}
use Rattle.cell_table.proofs.Views.{draw_bound, legal, unmoved}
use Rattle.cell_table.proofs.ValueStore.{kept_value}

module _ {D : Type 0} (opening : List ℕ) (h : ℕ → Outcome D) (ws : List ℕ) where
  abbrev Vals : Triples → Type 0
  Vals vs = Each (λ t. (t.1 ≤ clock_of ws) × IsValue opening h t.0 t.1 t.2) vs

  kept_added : (ts : List (ℕ × ℕ)) (c : ℕ) (vs : Triples) → Each (IsClean opening h ws) ts → Vals vs → Vals (add_kept ts c (word_of ws c) vs)
  kept_added [] c vs f e = e
  kept_added (t ∷ ts) c vs f e = let more = kept_added ts c vs f.1 e in let x : ℕ = word_of ws c in dite (ℕ_discrete t.0 c)
      (λ y. subst (λ (b : Bool). Vals (cond b ((t.0, t.1, x) ∷ add_kept ts c x vs) (add_kept ts c x vs))) (sym (eq-eqb t.0 c y)) (subst (λ (z : ℕ). (t.1 ≤ clock_of ws) × IsValue opening h t.0 t.1 (word_of ws z)) y (kept_value opening h ws t f.0), more))
      (λ n. subst (λ (b : Bool). Vals (cond b ((t.0, t.1, x) ∷ add_kept ts c x vs) (add_kept ts c x vs))) (sym (ne_eqb t.0 c n)) more)

  pub held_added : (k : ℕ) (st : Stage D) (ts : List (ℕ × ℕ)) (c : ℕ) (vs : Triples) → FitsStage opening h ws k ts st → Vals vs → Vals (add_held st ts c (word_of ws c) vs)
  held_added k Open ts c vs f e = kept_added ts c vs f e
  held_added k (Drawn u) ts c vs f e = kept_added ts c vs (each_map _ _ (λ t y. y.0) ts f.3) e
  held_added k (Decided u r stored) ts c vs f e = e

  pub reads_on : (l : OpenRead) (c : ℕ) → FitsRead opening h ws l → FitsRead opening h ws (next_read l c (word_of ws c))
  reads_on NoRead c f = tt
  reads_on (LockRead d u) c f = dite (ℕ_discrete d c)
      (λ y. subst (λ (b : Bool). FitsRead opening h ws (cond b (ValueRead d u (word_of ws c)) NoRead)) (sym (eq-eqb d c y)) (f.0, f.1, λ e. ap (word_of ws) (sym y) ∙ f.2 e))
      (λ n. subst (λ (b : Bool). FitsRead opening h ws (cond b (ValueRead d u (word_of ws c)) NoRead)) (sym (ne_eqb d c n)) tt)
  reads_on (ValueRead d u x) c f = tt

module _ {M D : Type 0} (lawful : M → List ℕ → Type 0) (explains : M → List (ℕ × ℕ) → List (ℕ × ℕ) → List D → Type 0) (m : M) (opening : List ℕ) (total : ℕ) where
  abbrev V : Type 0
  V = View M D

  abbrev S : Type 0
  S = State (Unit {0}) V

  abbrev R : S → Type 0
  R = Rule lawful explains m opening total

  pub loads : (slots id c : ℕ) (me : Me (Unit {0}) V) → c < length opening → 0 < length me.0.books → Allows R slots id me (value_place c) (λ n. n) (value_told lawful explains (step slots (value_place c) 0 0 none) me)
  loads slots id c me inside acting s r _ at _ = let v : V = me.0 in let f = r.views id v at in let x : ℕ = word_of s.words c in let w : V = valued v c x in let back : cell_of_value (value_place c) ≡ c = omega arith in
      let g : Fits m opening total r.owner r.history s.words id w = record {
        same = f.same;
        high = f.high;
        spent = f.spent;
        books = f.books;
        order = f.order;
        known = f.known;
        values = held_added opening r.history s.words _ v.stage v.held c v.values f.stage f.values;
        validations = f.validations;
        trail = (tt, f.trail);
        locks = f.locks;
        mine = f.mine;
        stage = f.stage;
        stale = f.stale;
        reading = reads_on opening r.history s.words v.reading c f.reading;
      } in (w, keeps, tt, unmoved lawful explains m opening total s r (value_place c) id me.1 v w at refl g, (subst (λ (z : ℕ). w ≡ valued v z x) (sym back) refl, legal lawful explains m opening total s r id w acting g (draw_bound lawful explains m opening total s r id v at), refl))
