-- The history at the end with keys in the place of their names.
use Rattle.std.proofs.Common.{◌≡◌, ◌≢◌, ℕ, ◌+◌, ◌<◌, List, [], ◌∷◌, inl, inr, ⊎_elim, sym, refl, ap, subst, arith}
use Rattle.std.specs.Prelude.{Option}
use Rattle.serial_terms.specs.declared.call.Done.{Done}
use Rattle.serial_terms.specs.Entries.{Entry, Each, IsIn, Book, AreBooks, IsBookFrom, IsHistoryOf}
use Rattle.serial_terms.specs.Laws.{OneBookIsAHistory, OrderIsUnique, RenamingKeepsHistories}
use Rattle.serial_terms.specs.Purposes.{LawfulRunsAreLegal}
use Rattle.serial_terms.specs.Renaming.{NamedDone, IsOneToOne, AreNamesOfKeys, AreNamesIn, by_key, entry_with, entries_with}
use Rattle.serial_terms.specs.Serial.{State}
use Rattle.cell_table.specs.Sorted.{Each as EachOf, IsAscendingBy}
use Rattle.cell_table.specs.IsPass.{PlacesFrom}
use Rattle.cell_table.specs.Pass.{PassState, book_key}
use Rattle.cell_table.specs.declared.view.Noted.{Noted}
use Rattle.cell_table.specs.declared.view.NotedBook.{NotedBook}
use Rattle.store_history.specs.Books.{records_from, books_of}
use Rattle.store_history.specs.Histories.{LastHistory}
use Rattle.store_history.specs.Keyed.{book_with, books_with, IsKeyedHistory, KeyedHistory}
use Rattle.store_history.proofs.Lists.{in_each, each_in}

module _ {A B : Type 0} (f : List A → List B) where
  with_in : (e : Entry A) (es : List (Entry A)) → IsIn e es → IsIn (entry_with f e) (entries_with f es)
  with_in e [] i = absurd i
  with_in e (x ∷ xs) i = ⊎_elim (λ q. inl (ap (entry_with f) q)) (λ j. inr (with_in e xs j)) i

  of_with : (y : Entry B) (es : List (Entry A)) → IsIn y (entries_with f es) → (e : Entry A) × IsIn e es × (entry_with f e ≡ y)
  of_with y [] i = absurd i
  of_with y (x ∷ xs) i = ⊎_elim (λ q. (x, inl refl, q)) (λ j. let r = of_with y xs j in (r.0, inr r.1, r.2)) i

  book_in : (b : Book A) (bs : List (Book A)) → IsIn b bs → IsIn (book_with f b) (books_with f bs)
  book_in b [] i = absurd i
  book_in b (c ∷ cs) i = ⊎_elim (λ q. inl (ap (book_with f) q)) (λ j. inr (book_in b cs j)) i

  of_book : (c : Book B) (bs : List (Book A)) → IsIn c (books_with f bs) → (b : Book A) × IsIn b bs × (book_with f b ≡ c)
  of_book c [] i = absurd i
  of_book c (b ∷ bs) i = ⊎_elim (λ q. (b, inl refl, q)) (λ j. let r = of_book c bs j in (r.0, inr r.1, r.2)) i

  module _ (bs : List (Book A)) (h : List (Entry A)) (is : IsHistoryOf bs h) (g : List (Entry B)) (of : IsHistoryOf (books_with f bs) g) where
    pub there : (x : Entry B) → IsIn x g → IsIn x (entries_with f h)
    there x i = let o = of.only x i in let b = of_book o.0 bs o.1 in
        let e = of_with x b.0.records (subst (λ (z : Book B). IsIn x z.records) (sym b.2) o.2) in
        subst (λ (z : Entry B). IsIn z (entries_with f h)) e.2 (with_in e.0 h (is.all b.0 e.0 b.1 e.1))

    pub back : (x : Entry B) → IsIn x (entries_with f h) → IsIn x g
    back x i = let e = of_with x h i in let o = is.only e.0 e.1 in
        subst (λ (z : Entry B). IsIn z g) e.2 (of.all (book_with f o.0) (entry_with f e.0) (book_in o.0 bs o.1) (with_in e.0 o.0.records o.2))

module _ {M D : Type 0} (lawful : M → List ℕ → Type 0) (named : List D → List NamedDone) (state_of : M → List ℕ → State) (lawful_state : M → State → Type 0) (allows : M → List Done → Type 0)
    (m : M) (p : PassState M D) (values : List ℕ)
    (unique : OrderIsUnique) (renamed : (name : ℕ → ℕ → Option ℕ) → IsOneToOne name → RenamingKeepsHistories name) (legal : LawfulRunsAreLegal (lawful_state m)) where
  pub keyed : LastHistory lawful named state_of lawful_state allows m p values → KeyedHistory lawful named state_of allows m p values
  keyed last name one names history of =
      let h : List (Entry NamedDone) = last.0 in let is = last.1.records in let told = last.1.one in let start : State = state_of m p.view.opening in let end : State = state_of m values in
      let in_names : AreNamesIn name h = each_in (λ e. AreNamesOfKeys name e.dones) h (λ e i. let o = is.only e i in
      in_each (λ x. AreNamesOfKeys name x.dones) e o.0.records o.2 (in_each (λ b. AreNamesIn name b.records) o.0 (books_of named p.books) o.1 names)) in
      let kept = renamed name one in
      let by_keys_legal = kept.histories h in_names start end told.legal in
      let same : entries_with by_key h ≡ history = sym (unique history (entries_with by_key h) of.order by_keys_legal.order (there by_key (books_of named p.books) h is history of) (back by_key (books_of named p.books) h is history of)) in
      subst (IsKeyedHistory lawful named state_of allows m p values name) same (record {
        legal = by_keys_legal;
        allowed = told.allowed;
        sights = λ queues seen y n. let s = told.sights queues seen y in kept.sights h in_names seen n queues start (s.state, legal start s.state _ s.there.1, s.run);
      })

-- ---- the books by key are books

module _ {D : Type 0} (named : List D → List NamedDone) where
  book_from : (k n p : ℕ) (es : List (Noted D)) → PlacesFrom p es → IsBookFrom k n p (entries_with by_key (records_from named k n es))
  book_from k n p [] r = tt
  book_from k n p (e ∷ es) r = (refl, refl, r.0, r.1, book_from k (n + 1) e.place es r.2)

  of_caller : (k n : ℕ) (es : List (Noted D)) → Each (λ e. e.caller ≡ k) (entries_with by_key (records_from named k n es))
  of_caller k n [] = tt
  of_caller k n (e ∷ es) = (refl, of_caller k (n + 1) es)

  others : (k : ℕ) (bs : List (NotedBook D)) → EachOf (λ b. k < b.caller) bs → Each (λ c. k ≢ c.caller) (books_with by_key (books_of named bs))
  others k [] a = tt
  others k (b ∷ bs) a = let l = a.0 in ((λ e. omega arith), others k bs a.1)

  pub are_books : OneBookIsAHistory → (bs : List (NotedBook D)) → IsAscendingBy book_key bs → EachOf (λ b. PlacesFrom 0 b.entries) bs → AreBooks (books_with by_key (books_of named bs))
  are_books law [] a r = tt
  are_books law (b ∷ bs) a r = (of_caller b.caller 0 b.entries, (law b.caller (entries_with by_key (records_from named b.caller 0 b.entries)) (book_from b.caller 0 0 b.entries r.0)).0, others b.caller bs a.0, are_books law bs a.1 r.1)
