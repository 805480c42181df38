-- The history of a table that has the books of a pass: at any moment, and at the end.
use Rattle.std.proofs.Common.{◌≡◌, ℕ, suc, ◌+◌, ◌-◌, ◌<◌, ◌≤◌, true, false, eqb, List, [], ◌∷◌, ◌⊎◌, length, Some, inl, inr, ⊎_elim, sym, refl, ap, ◌∙◌, subst, arith, eq-eqb, ne_eqb}
use Rattle.std.proofs.lemmas.Bool.{cond-true, cond-false}
use mathlib.Core.Logic.{dite}
use native.Mathlib.Decide.{ℕ_discrete}
use Rattle.cell_table.specs.Sorted.{Each as EachOf, IsAscendingBy}
use Rattle.cell_table.specs.Cells.{AllHold, has}
use Rattle.cell_table.specs.History.{Outcome, decided, cells_at, records_by}
use Rattle.cell_table.specs.IsPass.{IsPass, PlacesFrom, writers_after, writer_books}
use Rattle.cell_table.specs.Moments.{Moments}
use Rattle.cell_table.specs.Pass.{PassState, IsSole, book_key}
use Rattle.cell_table.specs.Rule.{IsAscending, callers_of}
use Rattle.cell_table.specs.Settled.{Settled, Words}
use Rattle.cell_table.specs.Steps.{Observes}
use Rattle.cell_table.specs.declared.view.Book.{Book}
use Rattle.cell_table.specs.declared.view.NotedBook.{NotedBook}
use Rattle.cell_table.specs.declared.view.Record.{Record}
use Rattle.cell_table.specs.declared.view.View.{View}
use Rattle.store_history.proofs.Lists.{each_of_map, each_of_both}

module _ {D : Type 0} where
  each_written : (P : Book D → Type 0) (bs : List (NotedBook D)) → EachOf P (writer_books bs) → EachOf (λ b. P (record { caller = b.caller; records = writers_after [] b.entries })) bs
  each_written P [] a = tt
  each_written P (b ∷ bs) a = (a.0, each_written P bs a.1)

  ascending : (bs : List (NotedBook D)) → IsAscending (writer_books bs) → IsAscendingBy book_key bs
  ascending [] a = tt
  ascending (b ∷ bs) a = (each_written (λ c. b.caller < c.caller) bs a.0, ascending bs a.1)

  -- ---- as many books as caller numbers

  least : (lo total : ℕ) (bs : List (Book D)) → IsAscending bs → EachOf (λ b. (lo ≤ b.caller) × (b.caller < total)) bs → length bs + lo ≤ total ⊎ (bs ≡ [])
  least lo total [] o e = inr refl
  least lo total (b ∷ bs) o e = let a = e.0.0 in let c = e.0.1 in
      let up = each_of_both (λ x. b.caller < x.caller) (λ x. (lo ≤ x.caller) × (x.caller < total)) (λ x. (b.caller + 1 ≤ x.caller) × (x.caller < total)) (λ x l y. let z = y.1 in (omega arith, omega arith)) bs o.0 e.1 in
      inl (⊎_elim (λ l. omega arith) (λ z. let n : length bs ≡ 0 = ap length z in omega arith) (least (b.caller + 1) total bs o.1 up))

  -- each number has one
  all_books : (lo total : ℕ) (bs : List (Book D)) → IsAscending bs → EachOf (λ b. (lo ≤ b.caller) × (b.caller < total)) bs → length bs + lo ≡ total → (j : ℕ) → lo ≤ j → j < total → has j (callers_of bs) ≡ true
  all_books lo total [] o e n j a b = absurd (omega arith)
  all_books lo total (b ∷ bs) o e n j low high = let a = e.0.0 in let c = e.0.1 in
      let up = each_of_both (λ x. b.caller < x.caller) (λ x. (lo ≤ x.caller) × (x.caller < total)) (λ x. (b.caller + 1 ≤ x.caller) × (x.caller < total)) (λ x l y. let z = y.1 in (omega arith, omega arith)) bs o.0 e.1 in
      let tight : b.caller ≡ lo = ⊎_elim (λ l. omega arith) (λ z. let s : length bs ≡ 0 = ap length z in omega arith) (least (b.caller + 1) total bs o.1 up) in
      dite (ℕ_discrete b.caller j) (λ is. cond-true (eqb b.caller j) true (has j (callers_of bs)) (eq-eqb b.caller j is))
      (λ no. cond-false (eqb b.caller j) true (has j (callers_of bs)) (ne_eqb b.caller j no) ∙ all_books (b.caller + 1) total bs o.1 up (omega arith) j (omega arith) high)

  as_many : (bs : List (NotedBook D)) → length (writer_books bs) ≡ length bs
  as_many [] = refl
  as_many (b ∷ bs) = ap suc (as_many bs)

module _ {M D : Type 0} (lawful : M → List ℕ → Type 0) (explains : M → List (ℕ × ℕ) → List (ℕ × ℕ) → List D → Type 0) where
  -- these books are part of the history, which has so many places, and what their readers read stands at their places
  pub record Fits (m : M) (opening : List ℕ) (h : ℕ → Outcome D) (clock : ℕ) (bs : List (NotedBook D)) : Type 0 where
    pub there : (q : ℕ) → lawful m (cells_at opening h q)
    pub writers : (w k : ℕ) (r : Record D) → h w ≡ decided k r → explains m r.observations r.writes r.dones × AllHold (cells_at opening h (w - 1)) r.observations
    pub ascending : IsAscendingBy book_key bs
    pub rises : EachOf (λ b. PlacesFrom 0 b.entries) bs
    pub places : EachOf (λ b. EachOf (λ e. e.place ≤ clock) b.entries) bs
    pub readers : EachOf (λ b. EachOf (λ e. e.writer ≡ false → explains m e.content.observations [] e.content.dones × AllHold (cells_at opening h e.place) e.content.observations) b.entries) bs
    pub records : EachOf (λ b. writers_after [] b.entries ≡ records_by b.caller h clock) bs

  -- what a view observes at a place holds in the cells there
  pub holds_there : (m : M) (v : View M D) (h : ℕ → Outcome D) → Moments lawful explains m v h → (q : ℕ) (os : List (ℕ × ℕ)) → EachOf (λ o. (o.0 < length v.opening) × Observes v o.0 o.1 q) os → AllHold (cells_at v.opening h q) os
  holds_there m v h t q os a = each_of_map (λ o. (o.0 < length v.opening) × Observes v o.0 o.1 q) _ (λ o b. let z = t.sized q in let l = b.0 in (omega arith, t.observed o.0 o.1 q b.0 b.1)) os a

  pub ascends : (p : PassState M D) → IsPass lawful explains p → IsAscendingBy book_key p.books
  ascends p f = ascending p.books (subst IsAscending (sym f.books) f.legal.order)

  pub every : (p : PassState M D) → IsPass lawful explains p → IsSole p → (j : ℕ) → j < p.view.total → has j (callers_of p.view.books) ≡ true
  every p f sole j l = let k = f.legal in let a = ap length f.books in let b = as_many p.books in
      all_books 0 p.view.total p.view.books k.order (each_of_map _ _ (λ b x. (omega arith, x.0)) p.view.books k.books) (omega arith) j (omega arith) l

  module _ (p : PassState M D) (f : IsPass lawful explains p) (m : M) (is : p.view.meaning ≡ Some m) where
    one : (n : M) → p.view.meaning ≡ Some n → n ≡ m
    one n it = let same : Some n ≡ Some m = sym it ∙ is in cc

    low : (n : ℕ) → p.view.known ≤ n → EachOf (λ b. EachOf (λ e. e.place ≤ n) b.entries) p.books
    low n l = let s = f.seen in each_of_map _ _ (λ b a. each_of_map _ _ (λ e c. omega arith) b.entries a) p.books f.places

    pub at_one : (n : M) (h : ℕ → Outcome D) → p.view.meaning ≡ Some n → Moments lawful explains n p.view h → Moments lawful explains m p.view h
    at_one n h it t = subst (λ (z : M). Moments lawful explains z p.view h) (one n it) t

    pub fits_now : Moments lawful explains m p.view f.legal.history → Fits m p.view.opening f.legal.history f.legal.clock p.books
    fits_now t = let k = f.legal in record {
      there = t.lawful_there;
      writers = t.writers;
      ascending = ascends p f;
      rises = f.ascending;
      places = low k.clock k.known;
      readers = each_of_map _ _ (λ b a. each_of_map _ _ (λ e r w. let x = r w in (x.2 m is, holds_there m p.view k.history t e.place e.content.observations x.3)) b.entries a) p.books f.readers;
      records = each_of_map _ _ (λ b a. a.1) p.books (each_written (λ b. (b.caller < p.view.total) × (b.records ≡ records_by b.caller k.history k.clock)) p.books (subst (EachOf _) (sym f.books) k.books));
    }

    pub fits_last : (words : Words) (s : Settled lawful explains p words) → Moments lawful explains m p.view s.history → Fits m p.view.opening s.history s.clock p.books
    fits_last words s t = record {
      there = t.lawful_there;
      writers = t.writers;
      ascending = ascends p f;
      rises = f.ascending;
      places = low s.clock s.known;
      readers = each_of_map _ _ (λ b a. each_of_map _ _ (λ e r w. let x = r w in (subst (λ (z : M). explains z e.content.observations [] e.content.dones) (one s.meaning s.is) x.2, x.3)) b.entries a) p.books s.readers;
      records = each_of_map _ _ (λ b a. a.1) p.books (each_written (λ b. (b.caller < p.view.total) × (b.records ≡ records_by b.caller s.history s.clock)) p.books (subst (EachOf _) (sym f.books) s.books));
    }
