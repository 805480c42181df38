-- The records of a table place by place have those of each caller's book, each once and in the book's order.
use Rattle.std.proofs.Common.{◌≡◌, ◌≢◌, ℕ, zero, suc, ◌<◌, ◌≤◌, true, cond, eqb, List, [], ◌∷◌, ◌++◌, ◌⊎◌, inl, inr, ⊎_elim, sym, refl, ap, ◌∙◌, subst, arith, eq-eqb, ne_eqb}
use Rattle.std.specs.Prelude.{option_to_list}
use Rattle.std.proofs.lemmas.Bool.{cond-true, cond-false, cases_Bool}
use Rattle.std.proofs.lemmas.Bool.Decides.{nat_tests, leb_tells}
use Rattle.std.proofs.lemmas.List.{append-nil}
use mathlib.Core.Logic.{dite}
use native.Mathlib.Decide.{ℕ_discrete}
use Rattle.serial_terms.specs.Entries.{Entry, IsIn, by_caller}
use Rattle.cell_table.specs.Sorted.{Each, IsAscendingBy}
use Rattle.cell_table.specs.History.{Outcome, unused, pending, decided, records_by, noted}
use Rattle.cell_table.specs.IsPass.{writers_after, PlacesFrom}
use Rattle.cell_table.specs.Pass.{book_key}
use Rattle.cell_table.specs.declared.view.Record.{Record}
use Rattle.cell_table.specs.declared.view.Noted.{Noted}
use Rattle.cell_table.specs.declared.view.NotedBook.{NotedBook}
use Rattle.store_history.proofs.Lists.{in_each_of}
use Rattle.store_history.proofs.Numbered.{own, other, by_append}
use Rattle.store_history.proofs.Places.{writers_there, readers_there, below, entry, entries, writer_at, readers_of, all_of}

module _ {D : Type 0} where
  below_all : (p : ℕ) (es : List (Noted D)) → Each (λ e. e.place ≤ p) es → below p es ≡ es
  below_all p [] a = refl
  below_all p (e ∷ es) a = let i = below_all p es a.1 in let l = a.0 in grind (arith, nat_tests)

  -- where the places of a book begin at q, nothing stands below q
  below_none : (p q : ℕ) (es : List (Noted D)) → PlacesFrom q es → p < q → (below p es ≡ []) × (writers_there p es ≡ []) × (readers_there p es ≡ [])
  below_none p q [] r l = (refl, refl, refl)
  below_none p q (e ∷ es) r l = let a = r.0 in let i = below_none p e.place es r.2 (omega arith) in let x = i.0 in let y = i.1 in let z = i.2 in (grind (arith, nat_tests), grind (arith, nat_tests), grind (arith, nat_tests))

  -- after a record at p no writer at p follows
  no_writers : (p : ℕ) (es : List (Noted D)) → PlacesFrom p es → writers_there p es ≡ []
  no_writers p [] r = refl
  no_writers p (e ∷ es) r = ⊎_elim
      (λ w. let l : p < e.place = r.1 w in let i = below_none p e.place es r.2 l in let x = i.1 in grind (arith, nat_tests))
      (λ w. dite (ℕ_discrete e.place p)
      (λ is. let i = no_writers p es (subst (λ (z : ℕ). PlacesFrom z es) is r.2) in grind (arith, nat_tests))
      (λ no. let l = r.0 in let i = below_none p e.place es r.2 (omega arith) in let x = i.1 in grind (arith, nat_tests)))
      (cases_Bool e.writer)

  -- a book splits at a place: the writer there, then the readers there
  below_more : (p q : ℕ) (es : List (Noted D)) → PlacesFrom q es → below (suc p) es ≡ below p es ++ (writers_there (suc p) es ++ readers_there (suc p) es)
  below_more p q [] r = refl
  below_more p q (e ∷ es) r = dite (ℕ_discrete e.place (suc p))
      (λ is. let n = below_none p e.place es r.2 (omega arith) in let w = no_writers (suc p) es (subst (λ (z : ℕ). PlacesFrom z es) is r.2) in let i = below_more p e.place es r.2 in let x = n.0 in
      ⊎_elim (λ y. grind (arith, nat_tests)) (λ y. grind (arith, nat_tests)) (cases_Bool e.writer))
      (λ no. ⊎_elim
      (λ t. let l = t.1 in let i = below_more p e.place es r.2 in ⊎_elim (λ y. grind (arith, nat_tests)) (λ y. grind (arith, nat_tests)) (cases_Bool e.writer))
      (λ t. let l = t.1 in let n = below_none p e.place es r.2 (omega arith) in let m = below_none (suc p) e.place es r.2 (omega arith) in let x = n.0 in let y = m.0 in let z = m.1 in let u = m.2 in
      ⊎_elim (λ y. grind (arith, nat_tests)) (λ y. grind (arith, nat_tests)) (cases_Bool e.writer))
      (leb_tells e.place p))

  below_zero : (q : ℕ) (es : List (Noted D)) → PlacesFrom q es → below 0 es ≡ readers_there 0 es
  below_zero q [] r = refl
  below_zero q (e ∷ es) r = let i = below_zero e.place es r.2 in ⊎_elim
      (λ w. let l : q < e.place = r.1 w in grind (arith, nat_tests))
      (λ w. dite (ℕ_discrete e.place 0) (λ y. grind (arith, nat_tests)) (λ n. grind (arith, nat_tests)))
      (cases_Bool e.writer)

  -- the writers of a book at one place, from its writers newest first
  abbrev pick : ℕ → List (ℕ × Record D) → List (ℕ × Record D)
  pick p [] = []
  pick p (t ∷ ts) = cond (eqb t.0 p) (t ∷ pick p ts) (pick p ts)

  pick_writers : (p : ℕ) (es : List (Noted D)) (rs : List (ℕ × Record D)) → pick p (writers_after rs es) ≡ writers_after (pick p rs) (writers_there p es)
  pick_writers p [] rs = refl
  pick_writers p (e ∷ es) rs = ⊎_elim
      (λ w. let i = pick_writers p es ((e.place, e.content) ∷ rs) in dite (ℕ_discrete e.place p) (λ y. grind (arith, nat_tests)) (λ n. grind (arith, nat_tests)))
      (λ w. let i = pick_writers p es rs in grind (arith, nat_tests))
      (cases_Bool e.writer)

  pick_same : (k p : ℕ) (d : Outcome D) (rs : List (ℕ × Record D)) → pick p (noted k d p rs) ≡ noted k d p (pick p rs)
  pick_same k p unused rs = refl
  pick_same k p (pending j H) rs = refl
  pick_same k p (decided j r) rs = let e = eq-eqb p p refl in grind (arith, nat_tests)

  pick_other : (k p w : ℕ) (d : Outcome D) (rs : List (ℕ × Record D)) → w ≢ p → pick p (noted k d w rs) ≡ pick p rs
  pick_other k p w unused rs n = refl
  pick_other k p w (pending j H) rs n = refl
  pick_other k p w (decided j r) rs n = let e = ne_eqb w p n in grind (arith, nat_tests)

  pick_late : (k p n : ℕ) (h : ℕ → Outcome D) → n < p → pick p (records_by k h n) ≡ []
  pick_late k p zero h l = refl
  pick_late k p (suc n) h l = pick_other k p (suc n) (h (suc n)) (records_by k h n) (λ e. omega arith) ∙ pick_late k p n h (omega arith)

  pick_records : (k p n : ℕ) (h : ℕ → Outcome D) → 0 < p → p ≤ n → pick p (records_by k h n) ≡ noted k (h p) p []
  pick_records k p zero h a b = absurd (omega arith)
  pick_records k p (suc n) h a b = dite (ℕ_discrete p (suc n))
      (λ e. subst (λ (z : ℕ). pick z (records_by k h (suc n)) ≡ noted k (h z) z []) (sym e)
      (pick_same k (suc n) (h (suc n)) (records_by k h n) ∙ ap (noted k (h (suc n)) (suc n)) (pick_late k (suc n) n h (omega arith))))
      (λ no. pick_other k p (suc n) (h (suc n)) (records_by k h n) (λ e. no (sym e)) ∙ pick_records k p n h a (omega arith))

  -- a book has at most one writer at a place
  abbrev HasOneWriter : ℕ → List (Noted D) → Type 0
  HasOneWriter p es = (writers_there p es ≡ []) ⊎ ((e : Noted D) × (writers_there p es ≡ e ∷ []) × (e.writer ≡ true) × (e.place ≡ p))

  one_writer : (p q : ℕ) (es : List (Noted D)) → PlacesFrom q es → HasOneWriter p es
  one_writer p q [] r = inl refl
  one_writer p q (e ∷ es) r = ⊎_elim
      (λ w. dite (ℕ_discrete e.place p)
      (λ is. let n = no_writers p es (subst (λ (z : ℕ). PlacesFrom z es) is r.2) in inr (e, grind (arith, nat_tests), w, is))
      (λ no. let same : writers_there p (e ∷ es) ≡ writers_there p es = grind (arith, nat_tests) in ⊎_elim (λ y. inl (same ∙ y)) (λ y. inr (y.0, same ∙ y.1, y.2, y.3)) (one_writer p e.place es r.2)))
      (λ w. let same : writers_there p (e ∷ es) ≡ writers_there p es = grind (arith, nat_tests) in ⊎_elim (λ y. inl (same ∙ y)) (λ y. inr (y.0, same ∙ y.1, y.2, y.3)) (one_writer p e.place es r.2))
      (cases_Bool e.writer)

module _ {D X : Type 0} (calls : List D → List X) where
  entries_append : (k : ℕ) (xs ys : List (Noted D)) → entries calls k (xs ++ ys) ≡ entries calls k xs ++ entries calls k ys
  entries_append k [] ys = refl
  entries_append k (x ∷ xs) ys = ap (λ (z : List (Entry X)). entry calls k x ∷ z) (entries_append k xs ys)

  by_same : (k : ℕ) (es : List (Noted D)) → by_caller k (entries calls k es) ≡ entries calls k es
  by_same k [] = refl
  by_same k (e ∷ es) = own k (entry calls k e) (entries calls k es) refl ∙ ap (λ (z : List (Entry X)). entry calls k e ∷ z) (by_same k es)

  by_other : (j k : ℕ) (es : List (Noted D)) → j ≢ k → by_caller k (entries calls j es) ≡ []
  by_other j k [] n = refl
  by_other j k (e ∷ es) n = other k (entry calls j e) (entries calls j es) n ∙ by_other j k es n

  abbrev writers_of : ℕ → Outcome D → List (Entry X)
  writers_of p d = option_to_list (writer_at calls p d)

  none_by : (k p : ℕ) (d : Outcome D) → noted k d p [] ≡ [] → by_caller k (writers_of p d) ≡ []
  none_by k p unused e = refl
  none_by k p (pending j H) e = refl
  none_by k p (decided j r) e = dite (ℕ_discrete j k)
      (λ y. let z : (p, r) ∷ [] ≡ [] = sym (cond-true (eqb j k) ((p, r) ∷ []) [] (eq-eqb j k y)) ∙ e in absurd (cc))
      (λ n. other k _ [] n)

  some_by : (k p : ℕ) (d : Outcome D) (r : Record D) → noted k d p [] ≡ (p, r) ∷ [] → by_caller k (writers_of p d) ≡ record { caller = k; index = 0; place = p; writer = true; dones = calls r.dones } ∷ []
  some_by k p unused r e = absurd (cc)
  some_by k p (pending j H) r e = absurd (cc)
  some_by k p (decided j t) r e = dite (ℕ_discrete j k)
      (λ y. let z : (p, t) ∷ [] ≡ (p, r) ∷ [] = sym (cond-true (eqb j k) ((p, t) ∷ []) [] (eq-eqb j k y)) ∙ e in let pair : (p, t) ≡ (p, r) = cc in let same : t ≡ r = ap (λ (x : ℕ × Record D). x.1) pair in
      own k _ [] y ∙ (λ i. record { caller = y i; index = 0; place = p; writer = true; dones = calls (same i).dones } ∷ []))
      (λ n. let z : [] ≡ (p, r) ∷ [] = sym (cond-false (eqb j k) ((p, t) ∷ []) [] (ne_eqb j k n)) ∙ e in absurd (cc))

  -- the writer of a place, as its caller's book has it
  writer_by : (k p : ℕ) (d : Outcome D) (es : List (Noted D)) → HasOneWriter p es → writers_after [] (writers_there p es) ≡ noted k d p [] → by_caller k (writers_of p d) ≡ entries calls k (writers_there p es)
  writer_by k p d es c f = ⊎_elim
      (λ y. none_by k p d (sym f ∙ ap (writers_after []) y) ∙ sym (ap (entries calls k) y))
      (λ y. let e : Noted D = y.0 in let a : writers_after [] (e ∷ []) ≡ (p, e.content) ∷ [] = cond-true e.writer ((e.place, e.content) ∷ []) [] y.2 ∙ (λ i. (y.3 i, e.content) ∷ []) in
      some_by k p d e.content (sym f ∙ (ap (writers_after []) y.1 ∙ a)) ∙ ((λ i. record { caller = k; index = 0; place = sym y.3 i; writer = sym y.2 i; dones = calls e.content.dones } ∷ []) ∙ sym (ap (entries calls k) y.1)))
      c

  readers_none : (k p : ℕ) (bs : List (NotedBook D)) → Each (λ c. k < c.caller) bs → by_caller k (readers_of calls bs p) ≡ []
  readers_none k p [] a = refl
  readers_none k p (b ∷ bs) a = let z = a.0 in by_append k (entries calls b.caller (readers_there p b.entries)) (readers_of calls bs p) ∙ ((λ i. by_other b.caller k (readers_there p b.entries) (λ e. omega arith) i ++ readers_none k p bs a.1 i))

  readers_by : (p : ℕ) (b : NotedBook D) (bs : List (NotedBook D)) → IsAscendingBy book_key bs → IsIn b bs → by_caller b.caller (readers_of calls bs p) ≡ entries calls b.caller (readers_there p b.entries)
  readers_by p b [] a i = absurd i
  readers_by p b (c ∷ cs) a i = by_append b.caller (entries calls c.caller (readers_there p c.entries)) (readers_of calls cs p) ∙ ⊎_elim
      (λ e. subst (λ (z : NotedBook D). by_caller z.caller (entries calls c.caller (readers_there p c.entries)) ++ by_caller z.caller (readers_of calls cs p) ≡ entries calls z.caller (readers_there p z.entries)) e
      ((λ i. by_same c.caller (readers_there p c.entries) i ++ readers_none c.caller p cs a.0 i) ∙ append-nil (entries calls c.caller (readers_there p c.entries))))
      (λ j. let up = in_each_of (λ (z : NotedBook D). c.caller < z.caller) b cs j a.0 in (λ i. by_other c.caller b.caller (readers_there p c.entries) (λ e. omega arith) i ++ readers_by p b cs a.1 j i))
      i

  -- each book stands among all records, each record once and in order
  part_of : (h : ℕ → Outcome D) (bs : List (NotedBook D)) (b : NotedBook D) (n : ℕ) → IsAscendingBy book_key bs → IsIn b bs → PlacesFrom 0 b.entries → writers_after [] b.entries ≡ records_by b.caller h n
      → (p : ℕ) → p ≤ n → by_caller b.caller (all_of calls h bs p) ≡ entries calls b.caller (below p b.entries)
  part_of h bs b n asc among rise books zero low = readers_by 0 b bs asc among ∙ ap (entries calls b.caller) (sym (below_zero 0 b.entries rise))
  part_of h bs b n asc among rise books (suc p) low = let k : ℕ = b.caller in let es : List (Noted D) = b.entries in
      let here : writers_after [] (writers_there (suc p) es) ≡ noted k (h (suc p)) (suc p) [] = sym (pick_writers (suc p) es []) ∙ (ap (pick (suc p)) books ∙ pick_records k (suc p) n h (omega arith) low) in
      let w = writer_by k (suc p) (h (suc p)) es (one_writer (suc p) 0 es rise) here in
      by_append k (all_of calls h bs p) (writers_of (suc p) (h (suc p)) ++ readers_of calls bs (suc p))
      ∙ ((λ i. part_of h bs b n asc among rise books p (omega arith) i ++ (by_append k (writers_of (suc p) (h (suc p))) (readers_of calls bs (suc p)) ∙ (λ j. w j ++ readers_by (suc p) b bs asc among j)) i)
      ∙ (ap (λ (z : List (Entry X)). entries calls k (below p es) ++ z) (sym (entries_append k (writers_there (suc p) es) (readers_there (suc p) es)))
      ∙ (sym (entries_append k (below p es) (writers_there (suc p) es ++ readers_there (suc p) es)) ∙ ap (entries calls k) (sym (below_more p 0 es rise)))))

  pub whole_book : (h : ℕ → Outcome D) (bs : List (NotedBook D)) (b : NotedBook D) (n : ℕ) → IsAscendingBy book_key bs → IsIn b bs → PlacesFrom 0 b.entries → Each (λ e. e.place ≤ n) b.entries → writers_after [] b.entries ≡ records_by b.caller h n
      → by_caller b.caller (all_of calls h bs n) ≡ entries calls b.caller b.entries
  whole_book h bs b n asc among rise low books = part_of h bs b n asc among rise books n (omega arith) ∙ ap (entries calls b.caller) (below_all n b.entries low)
