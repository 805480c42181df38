-- What the rule says at the end.
use Rattle.std.proofs.Common.{◌≡◌, ℕ, zero, suc, ◌+◌, ◌-◌, ◌*◌, ◌/◌, ◌^◌, ◌<◌, ◌≤◌, true, List, [], ◌∷◌, length, get_or, ⊎_elim, sym, refl, ap, ◌∙◌, subst, arith}
use mathlib.Core.Option.{some}
use lib.ListN.{get_elem?}
use Rattle.atomic_table.specs.Table.{State}
use Rattle.cell_table.specs.Sorted.{Each}
use Rattle.cell_table.specs.Cells.{has}
use Rattle.cell_table.specs.History.{Outcome, decided, value_at, version_at, records_by}
use Rattle.cell_table.specs.declared.view.Record.{Record}
use Rattle.cell_table.specs.declared.view.View.{View}
use Rattle.cell_table.specs.Rule.{clock_of, lock_of, word_of, callers_of, newest, value_now, Rule}
use Rattle.cell_table.specs.Steps.{Observes}
use Rattle.cell_table.specs.Legal.{LegalNow}
use Rattle.atomic_table.specs.Table.{Final, Seen}
use Rattle.cell_table.specs.Cells.{AllHold, after}
use Rattle.cell_table.specs.History.{cells_at}
use Rattle.cell_table.specs.Rule.{values_after, versions_after, values_in, versions_in}
use Rattle.cell_table.specs.declared.view.NotedBook.{NotedBook}
use Rattle.cell_table.specs.Steps.{IsIdle}
use Rattle.cell_table.specs.Pass.{PassState, IsSole}
use Rattle.cell_table.specs.IsPass.{IsPass, writer_books}
use Rattle.cell_table.specs.Writers.{in_order, writers_in, up_to, replay, newest_in}
use Rattle.cell_table.specs.Settled.{Words, Settled}
use Rattle.cell_table.proofs.Sorted.{each_map}
use Rattle.cell_table.proofs.Callers.{all_books}
use Rattle.cell_table.proofs.DrawsMade.{draws_made}
use Rattle.cell_table.proofs.Views.{legal, draw_bound, in_callers}
use Rattle.cell_table.proofs.ValueStore.{observes_stands}
use Rattle.cell_table.proofs.SeatMove.{idle_mine}
use Rattle.cell_table.proofs.Laws.{cells_value, cells_length, moments}
use Rattle.cell_table.proofs.Replay.{tells_cells, left_cells, left_versions}

same_list : (xs ys : List ℕ) → length xs ≡ length ys → ((c : ℕ) → c < length xs → get_or xs c 0 ≡ get_or ys c 0) → xs ≡ ys
same_list [] [] l e = refl
same_list [] (y ∷ ys) l e = absurd (omega arith)
same_list (x ∷ xs) [] l e = absurd (omega arith)
same_list (x ∷ xs) (y ∷ ys) l e = let h : x ≡ y = e 0 (omega arith) in let t = same_list xs ys (omega arith) (λ c m. e (suc c) (omega arith)) in λ i. h i ∷ t i

after_value : (ws : List ℕ) (c : ℕ) → get_or (values_after ws) c 0 ≡ get_or ws (2 * c + 1) 0
after_value [] c = refl
after_value (l ∷ []) c = let e : 2 * c + 1 ≡ suc (2 * c) = omega arith in subst (λ (i : ℕ). 0 ≡ get_or (l ∷ []) i 0) (sym e) refl
after_value (l ∷ x ∷ ws) zero = refl
after_value (l ∷ x ∷ ws) (suc c) = let e : 2 * suc c + 1 ≡ suc (suc (2 * c + 1)) = omega arith in subst (λ (i : ℕ). get_or (values_after ws) c 0 ≡ get_or (l ∷ x ∷ ws) i 0) (sym e) (after_value ws c)

after_version : (ws : List ℕ) (n c : ℕ) → length ws ≡ 2 * n → get_or (versions_after ws) c 0 ≡ get_or ws (2 * c) 0 / 2
after_version [] n c l = refl
after_version (x ∷ []) n c l = absurd (omega arith)
after_version (x ∷ y ∷ ws) n zero l = refl
after_version (x ∷ y ∷ ws) n (suc c) l = let e : 2 * suc c ≡ suc (suc (2 * c)) = omega arith in subst (λ (i : ℕ). get_or (versions_after ws) c 0 ≡ get_or (x ∷ y ∷ ws) i 0 / 2) (sym e) (after_version ws (n - 1) c (omega arith))

after_length : (ws : List ℕ) (n : ℕ) → length ws ≡ 2 * n → length (values_after ws) ≡ n
after_length [] n l = omega arith
after_length (x ∷ []) n l = absurd (omega arith)
after_length (x ∷ y ∷ ws) n l = let i = after_length ws (n - 1) (omega arith) in omega arith

pub value_among : (ws : List ℕ) (c : ℕ) → get_or (values_in ws) c 0 ≡ word_of ws c
value_among [] c = refl
value_among (n ∷ ws) c = let e : 2 * c + 2 ≡ suc (2 * c + 1) = omega arith in subst (λ (i : ℕ). get_or (values_after ws) c 0 ≡ get_or (n ∷ ws) i 0) (sym e) (after_value ws c)

pub version_among : (ws : List ℕ) (n c : ℕ) → length ws ≡ 2 * n + 1 → get_or (versions_in ws) c 0 ≡ lock_of ws c / 2
version_among [] n c l = absurd (omega arith)
version_among (x ∷ ws) n c l = let e : 2 * c + 1 ≡ suc (2 * c) = omega arith in subst (λ (i : ℕ). get_or (versions_after ws) c 0 ≡ get_or (x ∷ ws) i 0 / 2) (sym e) (after_version ws n c (omega arith))

pub values_length : (ws : List ℕ) (n : ℕ) → length ws ≡ 2 * n + 1 → length (values_in ws) ≡ n
values_length [] n l = absurd (omega arith)
values_length (x ∷ ws) n l = after_length ws n (omega arith)

module _ {D : Type 0} where
  same_length : (bs : List (NotedBook D)) → length (writer_books bs) ≡ length bs
  same_length [] = refl
  same_length (b ∷ bs) = ap suc (same_length bs)

module _ {M D : Type 0} (lawful : M → List ℕ → Type 0) (explains : M → List (ℕ × ℕ) → List (ℕ × ℕ) → List D → Type 0)
    (law : (m : M) (cells : List ℕ) (os ws : List (ℕ × ℕ)) (ds : List D) → lawful m cells → AllHold cells os → explains m os ws ds → lawful m (after cells ws)) (m : M) (opening : List ℕ) (total : ℕ) where
  settles : (s : State (Unit {0}) (View M D)) (r : Rule lawful explains m opening total s) (id : ℕ) (p : PassState M D) (w : Words) → get_elem? s.views id ≡ some p.view → IsIdle p.view → length p.view.books ≡ p.view.total → IsPass lawful explains p
      → w.values ≡ values_in s.words → w.versions ≡ versions_in s.words → Settled lawful explains p w
  unfolding legal
  settles s r id p w at idle sole pass vals vers =
      let v : View M D = p.view in let f = r.views id v at in let acting : 0 < length v.books = pass.acting in let same = f.same acting in let g : ℕ → Outcome D = r.history in let n : ℕ = clock_of s.words in let tot = same.2 in let wide = r.wide in
      let k : LegalNow lawful explains v = legal lawful explains m opening total s r id v acting f (draw_bound lawful explains m opening total s r id v at) in
      let size : length opening ≡ length v.opening = ap length (sym same.1) in
      let every : (j : ℕ) → j < v.total → has j (callers_of v.books) ≡ true = λ j l. all_books 0 v.total v.books f.order (each_map _ _ (λ b x. let y = x.1 in (omega arith, omega arith)) v.books f.books) (omega arith) j (omega arith) l in
      let mine : (j : ℕ) → j < total → r.owner j ≡ id = λ j l. in_callers (λ i. r.owner i ≡ id) j v.books (every j (omega arith)) (each_map _ _ (λ b x. x.0) v.books f.books) in
      let free : (c : ℕ) → c < length opening → (lock_of s.words c ≡ 2 * newest opening g s.words c) × (word_of s.words c ≡ value_now opening g s.words c) = λ c l. ⊎_elim
      (λ t. let a = t.1 in let b = t.2.0 in (omega arith, t.2.1)) (λ t. idle_mine m opening total r.owner g s.words id v idle f _ t.0 c (mine t.0 t.2) t.1) (r.cells c l) in
      let hold : (c x q : ℕ) → c < length v.opening → Observes v c x q → (c < length (cells_at v.opening g q)) × (get_or (cells_at v.opening g q) c 0 ≡ x) = λ c x q l o. let z = cells_length v.opening g q in
      (omega arith, (cells_value v.opening g c l q).0 ∙ (observes_stands v.opening g n v k.values k.validations c x q o).0) in
      let own : Each (λ b. b.records ≡ records_by b.caller g n) v.books = each_map _ _ (λ b x. x.1) v.books k.books in
      let told : (u j : ℕ) (t : Record D) → g u ≡ decided j t → (u ≤ n) × (has j (callers_of v.books) ≡ true) = λ u j t e. let a = k.callers u j t e in (a.0, every j a.1) in
      let noted : writers_in p.books ≡ in_order v.books = ap in_order pass.books in
      let values : w.values ≡ cells_at v.opening g n = vals ∙ same_list (values_in s.words) (cells_at v.opening g n) (let a = values_length s.words (length opening) wide in let b = cells_length v.opening g n in omega arith)
      (λ c l. let a = values_length s.words (length opening) wide in let inside : c < length opening = omega arith in value_among s.words c ∙ ((free c inside).1
      ∙ (ap (λ (o : List ℕ). value_at (get_or o c 0) g c n) (sym same.1) ∙ sym (cells_value v.opening g c (omega arith) n).0))) in
      let versions : (c : ℕ) → c < length v.opening → get_or w.versions c 0 ≡ version_at g c n = λ c l. let inside : c < length opening = omega arith in let e = version_among s.words (length opening) c wide in let lock = (free c inside).0 in ap (λ (z : List ℕ). get_or z c 0) vers ∙ (e ∙ (omega arith)) in record {
        meaning = m;
        history = g;
        clock = n;
        draws = draws_made lawful explains m opening total s r id v at acting sole ∙ ap (λ (z : ℕ). z * 2 ^ 48) (sym tot);
        is = same.0;
        known = f.known;
        books = k.books;
        callers = λ u j t e. let a = k.callers u j t e in let b = k.records u j t e in (b.0, a.0, a.1);
        every = every;
        moments = moments lawful explains law v k;
        readers = each_map _ _ (λ b x. each_map _ _ (λ e y is. let a = y is in let low = a.0 in let up = f.known in (
          omega arith,
          a.1,
          a.2 m same.0,
          each_map _ _ (λ o z. hold o.0 o.1 e.place z.0 z.1) e.content.observations a.3,
        )) b.entries x) p.books pass.readers;
        values = values;
        versions = versions;
        replayed = λ q. sym (ap (λ (z : List (ℕ × Record D)). replay v.opening (up_to q z)) noted ∙ tells_cells g n v.books k.order own told v.opening q);
        values_left = values ∙ sym (ap (replay v.opening) noted ∙ left_cells g n v.books k.order own told v.opening);
        versions_left = λ c l. versions c l ∙ sym (ap (λ (z : List (ℕ × Record D)). newest_in z c) noted ∙ left_versions g n v.books k.order own told c);
      }

  -- at the close
  pub closes : (ws : List ℕ) (xs : List (Unit {0})) (id : ℕ) (p : PassState M D) (w : Words) → Final (Seen (Rule lawful explains m opening total) id p.view) ws xs → IsIdle p.view → length p.view.books ≡ p.view.total → IsPass lawful explains p
      → w.values ≡ values_in ws → w.versions ≡ versions_in ws → Settled lawful explains p w
  closes ws xs id p w f idle sole pass vals vers = settles f.0 f.1.0 id p w f.1.1 idle sole pass (vals ∙ ap values_in (sym f.2)) (vers ∙ ap versions_in (sym f.2))

  -- the same for the pass and the words that the contract names
  pub closes_as : (ws : List ℕ) (xs : List (Unit {0})) (id : ℕ) (p q : PassState M D) → Final (Seen (Rule lawful explains m opening total) id p.view) ws xs → p ≡ q → IsIdle q.view → IsSole q → IsPass lawful explains p → Settled lawful explains q (record { values = values_in ws; versions = versions_in ws })
  closes_as ws xs id p q f e idle sole pass = subst (λ (z : PassState M D). IsIdle z.view → IsSole z → Settled lawful explains z (record { values = values_in ws; versions = versions_in ws })) e
      (λ i s. closes ws xs id p (record { values = values_in ws; versions = versions_in ws }) f i (let a = ap length pass.books in let b = same_length p.books in omega arith) pass refl refl) idle sole

  -- how many words there are
  pub closed_wide : (ws : List ℕ) (xs : List (Unit {0})) (id : ℕ) (v : View M D) → Final (Seen (Rule lawful explains m opening total) id v) ws xs → (length ws ≡ 2 * length (values_in ws) + 1) × (length (values_in ws) ≡ length opening)
  closed_wide ws xs id v f = let a : length ws ≡ 2 * length opening + 1 = sym (ap length f.2) ∙ f.1.0.wide in let b = values_length ws (length opening) a in (omega arith, b)

module _ {A : Type 0} where
  pub at_get : (l : List A) (i : ℕ) (a d : A) → get_elem? l i ≡ some a → a ≡ get_or l i d
  at_get [] i a d e = absurd (cc)
  at_get (x ∷ xs) zero a d e = cc
  at_get (x ∷ xs) (suc i) a d e = at_get xs i a d e

pub value_read : (ws : List ℕ) (c x : ℕ) (w : Words) → record { values = values_in ws; versions = versions_in ws } ≡ w → x ≡ word_of ws c → x ≡ get_or w.values c 0
value_read ws c x w e f = f ∙ (sym (value_among ws c) ∙ ap (λ (z : Words). get_or z.values c 0) e)

pub version_read : (ws : List ℕ) (c x : ℕ) (w : Words) → record { values = values_in ws; versions = versions_in ws } ≡ w → length ws ≡ 2 * length (values_in ws) + 1 → x ≡ lock_of ws c → x / 2 ≡ get_or w.versions c 0
version_read ws c x w e l f = ap (λ (z : ℕ). z / 2) f ∙ (sym (version_among ws (length (values_in ws)) c l) ∙ ap (λ (z : Words). get_or z.versions c 0) e)
