-- A load of the clock keeps the rule.
use Rattle.std.proofs.Common.{◌≡◌, ℕ, ◌+◌, ◌*◌, ◌^◌, ◌<◌, ◌≤◌, List, [], ◌∷◌, length, refl, sym, subst, arith}
use mathlib.Core.Option.{none}
use Rattle.atomic_table.specs.Table.{State, Me, step, keeps, Allows}
use Rattle.cell_table.specs.Sorted.{Each}
use Rattle.cell_table.specs.History.{Outcome, IsNewest}
use Rattle.cell_table.specs.declared.view.View.{View}
use Rattle.cell_table.specs.declared.view.Stage.{Stage}
use Rattle.cell_table.specs.declared.view.Stage.TheVariants.{Open, Drawn, Decided}
use Rattle.cell_table.specs.Rule.{clock_of, Fits, Rule}
use Rattle.cell_table.specs.Steps.{Triples, validate_all, validate_open, clocked}
use Rattle.cell_table.specs.Told.{clock_told}
use Rattle.cell_table.proofs.Sorted.{each_map}
use Rattle.cell_table.proofs.Views.{draw_bound, legal, unmoved, held_newest}
use Rattle.cell_table.proofs.DrawsMade.{draws_made}

pub validated_all : {D : Type 0} (h : ℕ → Outcome D) (n p : ℕ) (held : List (ℕ × ℕ)) (ss : Triples) → p ≤ n → Each (λ t. IsNewest h t.0 t.1 p) held → Each (λ t. (t.2 ≤ n) × IsNewest h t.0 t.1 t.2) ss
    → Each (λ t. (t.2 ≤ n) × IsNewest h t.0 t.1 t.2) (validate_all held p ss)
validated_all h n p [] ss l e f = f
validated_all h n p (t ∷ ts) ss l e f = ((l, e.0), validated_all h n p ts ss l e.1 f)

module _ {M D : Type 0} (lawful : M → List ℕ → Type 0) (explains : M → List (ℕ × ℕ) → List (ℕ × ℕ) → List D → Type 0) (m : M) (opening : List ℕ) (total : ℕ) where
  abbrev V : Type 0
  V = View M D

  abbrev S : Type 0
  S = State (Unit {0}) V

  abbrev R : S → Type 0
  R = Rule lawful explains m opening total

  abbrev FitsIn : (s : S) → R s → ℕ → V → Type 0
  FitsIn s r id v = Fits m opening total r.owner r.history s.words id v

  validated_open : (s : S) (r : R s) (st : Stage D) (held : List (ℕ × ℕ)) (n p : ℕ) (ss : Triples) → p ≤ n → (st ≡ Open → Each (λ t. IsNewest r.history t.0 t.1 p) held) → Each (λ t. (t.2 ≤ n) × IsNewest r.history t.0 t.1 t.2) ss
      → Each (λ t. (t.2 ≤ n) × IsNewest r.history t.0 t.1 t.2) (validate_open st held p ss)
  validated_open s r Open held n p ss l e f = validated_all r.history n p held ss l (e refl) f
  validated_open s r (Drawn u) held n p ss l e f = f
  validated_open s r (Decided u t stored) held n p ss l e f = f

  pub clocks : (slots id : ℕ) (me : Me (Unit {0}) V) → 0 < length me.0.books → Allows R slots id me 0 (λ n. n) (clock_told lawful explains (step slots 0 0 0 none) me)
  clocks slots id me acting s r _ at _ = let v : V = me.0 in let n : ℕ = clock_of s.words in let f = r.views id v at in let w : V = clocked v n in
      let newest_now : v.stage ≡ Open → Each (λ t. IsNewest r.history t.0 t.1 n) v.held = λ e. each_map _ _ (λ t x. x.1) v.held (held_newest lawful explains m opening total s r id v at acting e) in
      let g : FitsIn s r id w = record {
        same = f.same;
        high = f.high;
        spent = f.spent;
        books = f.books;
        order = f.order;
        known = omega arith;
        values = f.values;
        validations = validated_open s r v.stage v.held n n v.validations (omega arith) newest_now f.validations;
        trail = (omega arith, f.trail);
        locks = f.locks;
        mine = f.mine;
        stage = f.stage;
        stale = f.stale;
        reading = f.reading;
      } in (w, keeps, tt, unmoved lawful explains m opening total s r 0 id me.1 v w at refl g, (refl, f.known, (λ e. each_map _ _ (λ t x. x.0) v.held (held_newest lawful explains m opening total s r id v at acting e)), (λ sole. let a = draws_made lawful explains m opening total s r id v at acting sole in let tot = (f.same acting).2 in subst (λ (t : ℕ). n + v.draws ≡ t * 2 ^ 48) (sym tot) a), legal lawful explains m opening total s r id w acting g (draw_bound lawful explains m opening total s r id v at), refl))
