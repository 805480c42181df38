-- A split and a join of seats keep the rule.
use Rattle.std.proofs.Common.{◌≡◌, ◌≢◌, ℕ, zero, suc, ◌+◌, ◌*◌, ◌<◌, ◌≤◌, Bool, true, false, cond, eqb, List, [], ◌∷◌, ◌++◌, ◌⊎◌, length, set, inl, inr, ⊎_elim, sym, refl, ap, ◌∙◌, subst, arith, eq-eqb, ne_eqb, length-set}
use mathlib.Core.Logic.{dite}
use mathlib.Core.Option.{some}
use native.Mathlib.Decide.{ℕ_discrete}
use lib.ListN.{get_elem?}
use Rattle.atomic_table.specs.Table.{State}
use Rattle.cell_table.specs.Sorted.{Each, merge_by}
use Rattle.cell_table.specs.Cells.{has}
use Rattle.cell_table.specs.History.{Outcome, pending}
use Rattle.cell_table.specs.declared.view.Book.{Book}
use Rattle.cell_table.specs.declared.view.View.{View}
use Rattle.cell_table.specs.declared.view.Stage.TheVariants.{Open, Drawn}
use Rattle.cell_table.specs.Rule.{lock_of, cells_of, actor, IsClean, FitsStage, Fits, IsAscending, draws_left, Rule}
use Rattle.cell_table.specs.Steps.{caller_key}
use Rattle.cell_table.proofs.Histories.{bool_cases}
use Rattle.cell_table.proofs.Ledgers.{merge_length}
use Rattle.cell_table.proofs.Sorted.{each_map, each_both, each_append, each_merge, merge_ascends}
use Rattle.cell_table.proofs.Guarantee.{seats_stay}
use Rattle.cell_table.proofs.Guarantees.{true_false}
use Rattle.cell_table.proofs.Views.{draws_set}
use Rattle.std.proofs.Common.{length-append}
use Rattle.atomic_table.specs.Table.{Splits, Joins}
use Rattle.atomic_table.proofs.Lists.{at_set}
use Rattle.cell_table.specs.Steps.{first_books, last_books, kept_part, new_part, both_parts, spent_part, IsIdle}

module _ {A : Type 0} where
  pub at_end : (l : List A) (a b : A) (j : ℕ) → get_elem? (l ++ a ∷ []) j ≡ some b → (get_elem? l j ≡ some b) ⊎ ((a ≡ b) × (j ≡ length l))
  at_end [] a b zero e = inr (cc, refl)
  at_end [] a b (suc j) e = absurd (cc)
  at_end (x ∷ xs) a b zero e = inl e
  at_end (x ∷ xs) a b (suc j) e = ⊎_elim (λ y. inl y) (λ y. let z = y.1 in inr (y.0, omega arith)) (at_end xs a b j e)

  pub at_below : (l : List A) (j : ℕ) (b : A) → get_elem? l j ≡ some b → j < length l
  at_below [] j b e = absurd (cc)
  at_below (x ∷ xs) zero b e = omega arith
  at_below (x ∷ xs) (suc j) b e = let i = at_below xs j b e in omega arith

  set_there : (l : List A) (i j : ℕ) (a b : A) → j ≢ i → get_elem? (set l i a) j ≡ some b → get_elem? l j ≡ some b
  set_there l i j a b ne e = ⊎_elim (λ t. absurd (ne t.0)) (λ t. t.1) (at_set l i j a b e)

module _ {D : Type 0} where
  abbrev pub in_books : ℕ → List (Book D) → Bool
  in_books k [] = false
  in_books k (b ∷ bs) = cond (eqb b.caller k) true (in_books k bs)

  pub in_first : (k : ℕ) (b : Book D) (bs : List (Book D)) → b.caller ≡ k → in_books k (b ∷ bs) ≡ true
  in_first k b bs e = ap (λ (z : Bool). cond z true (in_books k bs)) (eq-eqb b.caller k e)

  pub in_later : (k : ℕ) (b : Book D) (bs : List (Book D)) → in_books k bs ≡ true → in_books k (b ∷ bs) ≡ true
  in_later k b bs h = dite (ℕ_discrete b.caller k) (λ e. in_first k b bs e) (λ n. ap (λ (z : Bool). cond z true (in_books k bs)) (ne_eqb b.caller k n) ∙ h)

  pub in_each : (P : ℕ → Type 0) (k : ℕ) (bs : List (Book D)) → in_books k bs ≡ true → Each (λ b. P b.caller) bs → P k
  in_each P k [] h e = absurd (cc)
  in_each P k (b ∷ bs) h e = dite (ℕ_discrete b.caller k) (λ is. subst P is e.0) (λ n. in_each P k bs (sym (ap (λ (z : Bool). cond z true (in_books k bs)) (ne_eqb b.caller k n)) ∙ h) e.1)

  -- some books stay, and some go
  pub first_some : (n : ℕ) (bs : List (Book D)) → 0 < n → n < length bs → 0 < length (first_books n bs)
  first_some zero bs a b = absurd (omega arith)
  first_some (suc n) [] a b = absurd (omega arith)
  first_some (suc n) (x ∷ xs) a b = omega arith

  pub last_some : (n : ℕ) (bs : List (Book D)) → n < length bs → 0 < length (last_books n bs)
  last_some zero bs b = b
  last_some (suc n) [] b = absurd (omega arith)
  last_some (suc n) (x ∷ xs) b = last_some n xs (omega arith)

  all_in : (bs : List (Book D)) → Each (λ b. in_books b.caller bs ≡ true) bs
  all_in [] = tt
  all_in (b ∷ bs) = (in_first b.caller b bs refl, each_map _ _ (λ c h. in_later c.caller b bs h) bs (all_in bs))

  not_in : (k : ℕ) (bs : List (Book D)) → Each (λ b. b.caller ≢ k) bs → in_books k bs ≡ false
  not_in k bs e = ⊎_elim (λ t. absurd (in_each (λ j. j ≢ k) k bs t e refl)) (λ f. f) (bool_cases (in_books k bs))

  pub first_each : (P : Book D → Type 0) (n : ℕ) (bs : List (Book D)) → Each P bs → Each P (first_books n bs)
  first_each P zero bs e = tt
  first_each P (suc n) [] e = tt
  first_each P (suc n) (b ∷ bs) e = (e.0, first_each P n bs e.1)

  pub last_each : (P : Book D → Type 0) (n : ℕ) (bs : List (Book D)) → Each P bs → Each P (last_books n bs)
  last_each P zero bs e = e
  last_each P (suc n) [] e = tt
  last_each P (suc n) (b ∷ bs) e = last_each P n bs e.1

  pub first_order : (n : ℕ) (bs : List (Book D)) → IsAscending bs → IsAscending (first_books n bs)
  first_order zero bs e = tt
  first_order (suc n) [] e = tt
  first_order (suc n) (b ∷ bs) e = (first_each _ n bs e.0, first_order n bs e.1)

  pub last_order : (n : ℕ) (bs : List (Book D)) → IsAscending bs → IsAscending (last_books n bs)
  last_order zero bs e = e
  last_order (suc n) [] e = tt
  last_order (suc n) (b ∷ bs) e = last_order n bs e.1

  apart : (n : ℕ) (bs : List (Book D)) → IsAscending bs → Each (λ b. in_books b.caller (last_books n bs) ≡ false) (first_books n bs)
  apart zero bs e = tt
  apart (suc n) [] e = tt
  apart (suc n) (b ∷ bs) e = (not_in b.caller (last_books n bs) (each_map _ _ (λ c l is. omega arith) (last_books n bs) (last_each _ n bs e.0)), apart n bs e.1)

module _ {M D : Type 0} where
  pub draws_more : (vs : List (View M D)) (w : View M D) → draws_left (vs ++ w ∷ []) ≡ draws_left vs + w.draws
  draws_more [] w = omega arith
  draws_more (x ∷ xs) w = let i = draws_more xs w in omega arith

  -- the owners of others' callers change
  owner_fits : (m : M) (opening : List ℕ) (total : ℕ) (owner owner' : ℕ → ℕ) (h : ℕ → Outcome D) (ws : List ℕ) (j : ℕ) (v : View M D) → ((k : ℕ) → owner k ≡ j → owner' k ≡ j) → ((k : ℕ) → owner' k ≡ j → owner k ≡ j)
      → Fits m opening total owner h ws j v → Fits m opening total owner' h ws j v
  owner_fits m opening total owner owner' h ws j v there back f = record {
    same = f.same;
    high = f.high;
    spent = f.spent;
    books = each_map _ _ (λ b g. (there b.caller g.0, g.1, g.2)) v.books f.books;
    order = f.order;
    known = f.known;
    values = f.values;
    validations = f.validations;
    trail = f.trail;
    locks = f.locks;
    mine = λ i c o e. f.mine i c (back i o) e;
    stage = f.stage;
    stale = λ i w H o e. f.stale i w H (back i o) e;
    reading = f.reading;
  }

  -- no lock is held and no draw is pending under a caller of an idle view
  pub idle_mine : (m : M) (opening : List ℕ) (total : ℕ) (owner : ℕ → ℕ) (h : ℕ → Outcome D) (ws : List ℕ) (id : ℕ) (v : View M D) → IsIdle v → Fits m opening total owner h ws id v
      → (A : Type 0) (j c : ℕ) → owner j ≡ id → lock_of ws c ≡ 2 * j + 1 → A
  idle_mine m opening total owner h ws id v idle f A j c o e = let a = (f.mine j c o e).1 in let none : has c (cells_of v.held) ≡ false = ap (λ (z : List (ℕ × ℕ)). has c (cells_of z)) idle.1 in true_false _ a none

  idle_stale : (m : M) (opening : List ℕ) (total : ℕ) (owner : ℕ → ℕ) (h : ℕ → Outcome D) (ws : List ℕ) (id : ℕ) (v : View M D) → IsIdle v → Fits m opening total owner h ws id v
      → (j w : ℕ) (H : List ℕ) → owner j ≡ id → h w ≡ pending j H → H ≡ []
  idle_stale m opening total owner h ws id v idle f j w H o e = ⊎_elim (λ (y : H ≡ []). y) (λ y. let bad : Open ≡ Drawn w = sym idle.0 ∙ y.0 in absurd (cc)) (f.stale j w H o e)

module _ {M D : Type 0} (lawful : M → List ℕ → Type 0) (explains : M → List (ℕ × ℕ) → List (ℕ × ℕ) → List D → Type 0) (m : M) (opening : List ℕ) (total : ℕ) where
  abbrev V : Type 0
  V = View M D

  abbrev S : Type 0
  S = State (Unit {0}) V

  abbrev R : S → Type 0
  R = Rule lawful explains m opening total

  pub splits : (id n d : ℕ) (v : V) → IsIdle v → 0 < n → n < length v.books → d ≤ v.draws → Splits R id v (kept_part n d v) (new_part n d v)
  splits id n d v idle some_left some_moved enough s r at =
      let f = r.views id v at in let ws : List ℕ = s.words in let h : ℕ → Outcome D = r.history in let moved : List (Book D) = last_books n v.books in let new : ℕ = length s.views in
      let left : V = kept_part n d v in let right : V = new_part n d v in let below = at_below s.views id v at in
      let owner' : ℕ → ℕ = λ k. cond (in_books k moved) new (r.owner k) in
      let was : (k : ℕ) → in_books k moved ≡ true → r.owner k ≡ id = λ k t. in_each (λ j. r.owner j ≡ id) k moved t (each_map _ _ (λ b g. g.0) moved (last_each _ n v.books f.books)) in
      let yes : (k : ℕ) → in_books k moved ≡ true → owner' k ≡ new = λ k t. ap (λ (z : Bool). cond z new (r.owner k)) t in
      let no : (k : ℕ) → in_books k moved ≡ false → owner' k ≡ r.owner k = λ k t. ap (λ (z : Bool). cond z new (r.owner k)) t in
      let back : (j k : ℕ) → j ≢ new → owner' k ≡ j → r.owner k ≡ j = λ j k ne e. ⊎_elim (λ t. absurd (ne (sym e ∙ yes k t))) (λ t. sym (no k t) ∙ e) (bool_cases (in_books k moved)) in
      let there : (j k : ℕ) → j ≢ id → r.owner k ≡ j → owner' k ≡ j = λ j k ne e. ⊎_elim (λ t. absurd (ne (sym e ∙ was k t))) (λ t. no k t ∙ e) (bool_cases (in_books k moved)) in
      let new_back : (k : ℕ) → owner' k ≡ new → r.owner k ≡ id = λ k e. ⊎_elim (λ t. was k t) (λ t. let o = r.placed k in let x = no k t in absurd (omega arith)) (bool_cases (in_books k moved)) in
      let apart_id : id ≢ new = λ e. omega arith in
      let stage : FitsStage opening h ws 0 v.held Open = subst (λ (z : List (ℕ × ℕ)). FitsStage opening h ws 0 z Open) (sym idle.1) tt in
      let stage' : (k : ℕ) → FitsStage opening h ws k v.held v.stage = λ k. subst (FitsStage opening h ws k v.held) (sym idle.0) stage in
      let locks : (k : ℕ) → Each (λ t. lock_of ws t.0 ≡ 2 * k + 1) v.held = λ k. subst (Each (λ t. lock_of ws t.0 ≡ 2 * k + 1)) (sym idle.1) tt in
      let some_books : 0 < length v.books = omega arith in
      let left_fits : Fits m opening total owner' h ws id left = record {
        same = λ _. f.same some_books;
        high = f.high;
        spent = λ e. (let l = first_some n v.books some_left some_moved in let none : length (first_books n v.books) ≡ 0 = e in absurd (omega arith));
        books = each_both _ _ _ (λ b a g. (no b.caller a ∙ g.0, g.1, g.2)) (first_books n v.books) (apart n v.books f.order) (first_each _ n v.books f.books);
        order = first_order n v.books f.order;
        known = f.known;
        values = f.values;
        validations = f.validations;
        trail = (tt, f.trail);
        locks = locks _;
        mine = λ i c o e. idle_mine m opening total r.owner h ws id v idle f _ i c (back id i apart_id o) e;
        stage = stage' _;
        stale = λ i w H o e. inl (idle_stale m opening total r.owner h ws id v idle f i w H (back id i apart_id o) e);
        reading = tt;
      } in
      let right_fits : Fits m opening total owner' h ws new right = record {
        same = λ _. f.same some_books;
        high = f.high;
        spent = λ e. (let l = last_some n v.books some_moved in let none : length (last_books n v.books) ≡ 0 = e in absurd (omega arith));
        books = each_both _ _ _ (λ b a g. (yes b.caller a, g.1, g.2)) moved (all_in moved) (last_each _ n v.books f.books);
        order = last_order n v.books f.order;
        known = f.known;
        values = f.values;
        validations = f.validations;
        trail = (tt, f.trail);
        locks = tt;
        mine = λ i c o e. idle_mine m opening total r.owner h ws id v idle f _ i c (new_back i o) e;
        stage = tt;
        stale = λ i w H o e. inl (idle_stale m opening total r.owner h ws id v idle f i w H (new_back i o) e);
        reading = tt;
      } in
      let size : length (set s.views id left ++ right ∷ []) ≡ new + 1 = length-append (set s.views id left) (right ∷ []) ∙ (let e = length-set s.views id left in omega arith) in record {
        owner = owner';
        placed = λ k. ⊎_elim (λ t. let x = yes k t in omega arith) (λ t. let x = no k t in let l = r.placed k in omega arith) (bool_cases (in_books k moved));
        history = h;
        wide = r.wide;
        small = r.small;
        lawful_opening = r.lawful_opening;
        fresh = r.fresh;
        cells = r.cells;
        barred = r.barred;
        records = r.records;
        callers = r.callers;
        views = λ j w e. ⊎_elim
            (λ t. let l = at_below _ j w t in let size' = length-set s.views id left in let old : j ≢ new = λ e. omega arith in
            seats_stay (Fits m opening total r.owner h ws) (λ i u. i ≢ new → Fits m opening total owner' h ws i u) s.views id left (λ _. left_fits)
            (λ i u ne _ g other. owner_fits m opening total r.owner owner' h ws i u (λ k o. there i k ne o) (λ k o. back i k other o) g) r.views j w t old)
            (λ t. let size' = length-set s.views id left in let where_is : j ≡ new = t.1 ∙ size' in subst (λ (z : ℕ × V). Fits m opening total owner' h ws z.0 z.1) (λ i. (sym where_is i, t.0 i)) right_fits)
            (at_end (set s.views id left) right w j e);
        budget = (let d1 = draws_set s.views id v left at in let d2 = draws_more (set s.views id left) right in let b = r.budget in omega arith);
      }

  pub joins : (id other : ℕ) (v w : V) → IsIdle v → IsIdle w → 0 < length v.books → Joins R id v other w (both_parts v w) spent_part
  joins id other v w idle idle' acting s r at ne at' =
      let ws : List ℕ = s.words in let h : ℕ → Outcome D = r.history in let both : V = both_parts v w in let spent : V = spent_part in
      let there_w : get_elem? s.views other ≡ some w = set_there s.views id other both w ne at' in
      let f = r.views id v at in let g = r.views other w there_w in
      let owner' : ℕ → ℕ = λ k. cond (in_books k w.books) id (r.owner k) in
      let was : (k : ℕ) → in_books k w.books ≡ true → r.owner k ≡ other = λ k t. in_each (λ j. r.owner j ≡ other) k w.books t (each_map _ _ (λ b x. x.0) w.books g.books) in
      let yes : (k : ℕ) → in_books k w.books ≡ true → owner' k ≡ id = λ k t. ap (λ (z : Bool). cond z id (r.owner k)) t in
      let no : (k : ℕ) → in_books k w.books ≡ false → owner' k ≡ r.owner k = λ k t. ap (λ (z : Bool). cond z id (r.owner k)) t in
      let to_id : (k : ℕ) → owner' k ≡ id → (r.owner k ≡ id) ⊎ (r.owner k ≡ other) = λ k e. ⊎_elim (λ t. inr (was k t)) (λ t. inl (sym (no k t) ∙ e)) (bool_cases (in_books k w.books)) in
      let back : (j k : ℕ) → j ≢ id → owner' k ≡ j → r.owner k ≡ j = λ j k n e. ⊎_elim (λ t. absurd (n (sym e ∙ yes k t))) (λ t. sym (no k t) ∙ e) (bool_cases (in_books k w.books)) in
      let there : (j k : ℕ) → j ≢ other → r.owner k ≡ j → owner' k ≡ j = λ j k n e. ⊎_elim (λ t. absurd (n (sym e ∙ was k t))) (λ t. no k t ∙ e) (bool_cases (in_books k w.books)) in
      let free : (A : Type 0) (j c : ℕ) → owner' j ≡ id → lock_of ws c ≡ 2 * j + 1 → A = λ A j c o e. ⊎_elim (λ x. idle_mine m opening total r.owner h ws id v idle f A j c x e) (λ x. idle_mine m opening total r.owner h ws other w idle' g A j c x e) (to_id j o) in
      let none : (j z : ℕ) (H : List ℕ) → owner' j ≡ id → h z ≡ pending j H → H ≡ [] = λ j z H o e. ⊎_elim (λ x. idle_stale m opening total r.owner h ws id v idle f j z H x e) (λ x. idle_stale m opening total r.owner h ws other w idle' g j z H x e) (to_id j o) in
      let stage : (k : ℕ) → FitsStage opening h ws k v.held v.stage = λ k. subst (FitsStage opening h ws k v.held) (sym idle.0) (subst (λ (z : List (ℕ × ℕ)). Each (IsClean opening h ws) z) (sym idle.1) tt) in
      let both_fits : Fits m opening total owner' h ws id both = record {
        same = λ _. f.same acting;
        high = f.high;
        spent = λ e. (let l = merge_length caller_key w.books v.books in let none : length (merge_by caller_key w.books v.books) ≡ 0 = e in absurd (omega arith));
        books = each_merge caller_key _ w.books v.books (each_both _ _ _ (λ b a x. (yes b.caller a, x.1, x.2)) w.books (all_in w.books) g.books)
            (each_map _ _ (λ b x. (⊎_elim (λ t. yes b.caller t) (λ t. no b.caller t ∙ x.0) (bool_cases (in_books b.caller w.books)), x.1, x.2)) v.books f.books);
        order = merge_ascends caller_key w.books v.books g.order f.order (each_map _ _ (λ b x. each_map _ _ (λ c y is. ne (sym x.0 ∙ (ap r.owner (sym is) ∙ y.0))) v.books f.books) w.books g.books);
        known = (let a = f.known in let b = g.known in omega arith);
        values = each_append _ v.values w.values f.values g.values;
        validations = each_append _ v.validations w.validations f.validations g.validations;
        trail = (tt, each_append _ w.trail v.trail g.trail f.trail);
        locks = subst (Each (λ t. lock_of ws t.0 ≡ 2 * actor both.books both.total + 1)) (sym idle.1) tt;
        mine = λ i c o e. free _ i c o e;
        stage = stage _;
        stale = λ i z H o e. inl (none i z H o e);
        reading = tt;
      } in
      let spent_fits : Fits m opening total owner' h ws other spent = record {
        same = λ l. absurd (omega arith);
        high = r.small;
        spent = λ e. refl;
        books = tt;
        order = tt;
        known = omega arith;
        values = tt;
        validations = tt;
        trail = tt;
        locks = tt;
        mine = λ i c o e. idle_mine m opening total r.owner h ws other w idle' g _ i c (back other i ne o) e;
        stage = tt;
        stale = λ i z H o e. inl (idle_stale m opening total r.owner h ws other w idle' g i z H (back other i ne o) e);
        reading = tt;
      } in record {
        owner = owner';
        placed = λ k. let a = length-set s.views id both in let b = length-set (set s.views id both) other spent in let l = at_below s.views id v at in ⊎_elim (λ t. let x = yes k t in omega arith) (λ t. let x = no k t in let y = r.placed k in omega arith) (bool_cases (in_books k w.books));
        history = h;
        wide = r.wide;
        small = r.small;
        lawful_opening = r.lawful_opening;
        fresh = r.fresh;
        cells = r.cells;
        barred = r.barred;
        records = r.records;
        callers = r.callers;
        views = λ j u e. ⊎_elim
            (λ (t : (j ≡ other) × (spent ≡ u)). subst (λ (z : ℕ × V). Fits m opening total owner' h ws z.0 z.1) (λ i. (sym t.0 i, t.1 i)) spent_fits)
            (λ (t : (j ≢ other) × (get_elem? (set s.views id both) j ≡ some u)). ⊎_elim
            (λ (y : (j ≡ id) × (both ≡ u)). subst (λ (z : ℕ × V). Fits m opening total owner' h ws z.0 z.1) (λ i. (sym y.0 i, y.1 i)) both_fits)
            (λ (y : (j ≢ id) × (get_elem? s.views j ≡ some u)). owner_fits m opening total r.owner owner' h ws j u (λ k o. there j k t.0 o) (λ k o. back j k y.0 o) (r.views j u y.1)) (at_set s.views id j both u t.1))
            (at_set (set s.views id both) other j spent u e);
        budget = (let d1 = draws_set s.views id v both at in let d2 = draws_set (set s.views id both) other w spent at' in let b = r.budget in omega arith);
      }
