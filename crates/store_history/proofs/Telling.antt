-- From the history of a table to the one history of the store.
use Rattle.std.proofs.Common.{◌≡◌, ℕ, suc, ◌+◌, ◌-◌, ◌≤◌, true, false, eqb, List, [], ◌∷◌, inl, inr, ⊎_elim, sym, refl, ap, ◌∙◌, subst, arith, ne_eqb}
use Rattle.std.proofs.lemmas.Bool.{cond-false}
use mathlib.Core.Logic.{dite}
use native.Mathlib.Decide.{ℕ_discrete}
use Rattle.serial_terms.specs.declared.call.Done.{Done}
use Rattle.serial_terms.specs.Entries.{Entry, Each, IsIn, Book, by_caller, up_to, numbered, IsHistoryOf}
use Rattle.serial_terms.specs.Histories.{IsLegalHistory, RunsLawfully, IsRunning}
use Rattle.serial_terms.specs.Purposes.{MergedIsRunning, RunningIsLegal, RunningStaysLawful}
use Rattle.serial_terms.specs.Renaming.{NamedDone, by_key, by_name, entries_with, seen_with}
use Rattle.serial_terms.specs.Runs.{RunsBy, WriterRuns, ExplainThemselves}
use Rattle.serial_terms.specs.Serial.{State, IsReplied, step, IsWithinCapacity}
use Rattle.serial_terms.specs.Sights.{Seen}
use Rattle.cell_table.specs.Sorted.{Each as EachOf}
use Rattle.cell_table.specs.Cells.{AllHold, has}
use Rattle.cell_table.specs.History.{Outcome, unused, pending, decided, effect, cells_at}
use Rattle.cell_table.specs.IsPass.{writer_books}
use Rattle.cell_table.specs.Moments.{Moments}
use Rattle.cell_table.specs.Pass.{PassState}
use Rattle.cell_table.specs.Rule.{callers_of}
use Rattle.cell_table.specs.declared.view.Noted.{Noted}
use Rattle.cell_table.specs.declared.view.NotedBook.{NotedBook}
use Rattle.cell_table.specs.declared.view.Record.{Record}
use Rattle.cell_table.specs.declared.view.View.{View}
use Rattle.store_history.specs.Meanings.{Explains, IsLawful}
use Rattle.store_history.specs.Books.{records_from, book_of, books_of}
use Rattle.store_history.specs.Histories.{IsSeen, VouchesFor, IsOneHistory, IsWholeHistory}
use Rattle.store_history.proofs.Lists.{in_each, each_in, in_each_of}
use Rattle.store_history.proofs.Numbered.{from_by, to_by, recounted, numbered_by, numbered_each, numbered_runs, with_numbered, order_back}
use Rattle.store_history.proofs.Places.{entries, writer_at, readers_of, all_of}
use Rattle.store_history.proofs.Books.{whole_book}
use Rattle.store_history.proofs.Merging.{readers_all, readers_callers, all_each, of_places, with_all}
use Rattle.store_history.proofs.Fitting.{Fits, holds_there}

module _ {D : Type 0} (named : List D → List NamedDone) where
  recounted_entries : (k n : ℕ) (es : List (Noted D)) → recounted n (entries named k es) ≡ records_from named k n es
  recounted_entries k n [] = refl
  recounted_entries k n (e ∷ es) = ap (λ (z : List (Entry NamedDone)). record { caller = k; index = n; place = e.place; writer = e.writer; dones = named e.content.dones } ∷ z) (recounted_entries k (n + 1) es)

  each_book : (P : Book NamedDone → Type 0) (bs : List (NotedBook D)) → ((b : NotedBook D) → IsIn b bs → P (book_of named b)) → Each P (books_of named bs)
  each_book P [] f = tt
  each_book P (b ∷ bs) f = (f b (inl refl), each_book P bs (λ c i. f c (inr i)))

  book_in : (b : NotedBook D) (bs : List (NotedBook D)) → IsIn b bs → IsIn (book_of named b) (books_of named bs)
  book_in b [] i = absurd i
  book_in b (c ∷ cs) i = ⊎_elim (λ e. inl (ap (book_of named) e)) (λ j. inr (book_in b cs j)) i

  places_from : (seen k n : ℕ) (es : List (Noted D)) → EachOf (λ e. e.place ≤ seen) es → Each (λ x. x.place ≤ seen) (records_from named k n es)
  places_from seen k n [] a = tt
  places_from seen k n (e ∷ es) a = (a.0, places_from seen k (n + 1) es a.1)

  places_low : (seen : ℕ) (bs : List (NotedBook D)) → EachOf (λ b. EachOf (λ e. e.place ≤ seen) b.entries) bs → Each (λ c. Each (λ x. x.place ≤ seen) c.records) (books_of named bs)
  places_low seen [] a = tt
  places_low seen (b ∷ bs) a = (places_from seen b.caller 0 b.entries a.0, places_low seen bs a.1)

  -- a caller of the books has its book
  pub book_of_caller : (k : ℕ) (bs : List (NotedBook D)) → has k (callers_of (writer_books bs)) ≡ true → (b : Book NamedDone) × IsIn b (books_of named bs) × (b.caller ≡ k)
  book_of_caller k [] e = absurd (cc)
  book_of_caller k (b ∷ bs) e = dite (ℕ_discrete b.caller k)
      (λ q. (book_of named b, inl refl, q))
      (λ q. let r = book_of_caller k bs (sym (cond-false (eqb b.caller k) true (has k (callers_of (writer_books bs))) (ne_eqb b.caller k q)) ∙ e) in (r.0, inr r.1, r.2))

module _ {M D : Type 0} (lawful : M → List ℕ → Type 0) (explains : M → List (ℕ × ℕ) → List (ℕ × ℕ) → List D → Type 0)
    (named : List D → List NamedDone) (formed : M → List ℕ → Type 0) (state_of : M → List ℕ → State) (lawful_state : M → State → Type 0) (allows : M → List Done → Type 0)
    (within : (m : M) (cells : List ℕ) → formed m cells → IsWithinCapacity (state_of m cells))
    (lawful_means : (m : M) (cells : List ℕ) → lawful m cells → IsLawful (formed m) (state_of m) (lawful_state m) cells)
    (explains_means : (m : M) (os ws : List (ℕ × ℕ)) (ds : List D) → explains m os ws ds → (allows m (by_key (named ds)) × allows m (by_name (named ds))) × Explains (formed m) (state_of m) os ws (by_name (named ds))) where
  abbrev by_names : List D → List Done
  by_names ds = by_name (named ds)

  abbrev by_keys : List D → List Done
  by_keys ds = by_key (named ds)

  module _ (m : M) (pass : PassState M D) (h : ℕ → Outcome D) (n : ℕ) (f : Fits lawful explains m pass.view.opening h n pass.books)
      (running : MergedIsRunning (lawful_state m)) (legal : RunningIsLegal (lawful_state m)) (stays : RunningStaysLawful (lawful_state m)) where
    abbrev v : View M D
    v = pass.view

    abbrev bs : List (NotedBook D)
    bs = pass.books

    abbrev cells : ℕ → List ℕ
    cells p = cells_at v.opening h p

    abbrev state : ℕ → State
    state p = state_of m (cells p)

    meant : (p : ℕ) → IsLawful (formed m) (state_of m) (lawful_state m) (cells p)
    meant p = lawful_means m (cells p) (f.there p)

    writer_runs : (p : ℕ) (d : Outcome D) → h (suc p) ≡ d → WriterRuns IsReplied step (state p) (writer_at by_names (suc p) d) (state_of m (effect d (cells p)))
    writer_runs p unused e = refl
    writer_runs p (pending k H) e = refl
    writer_runs p (decided k r) e = let x = f.writers (suc p) k r e in let back : suc p - 1 ≡ p = omega arith in
        ((explains_means m r.observations r.writes r.dones x.0).1 (cells p) (meant p).0 (subst (λ (z : ℕ). AllHold (cells z) r.observations) back x.1)).1

    -- what a reader's entry owes
    abbrev IsRead : Noted D → Type 0
    IsRead e = e.writer ≡ false → explains m e.content.observations [] e.content.dones × AllHold (cells e.place) e.content.observations

    reader_runs : (p : ℕ) (e : Noted D) → (e.place ≡ p) × (e.writer ≡ false) × IsRead e → RunsBy IsReplied step (state p) (by_names e.content.dones) (state p)
    reader_runs p e a = let x = a.2 a.1 in ((explains_means m e.content.observations [] e.content.dones x.0).1 (cells p) (meant p).0 (subst (λ (z : ℕ). AllHold (cells z) e.content.observations) a.0 x.1)).1

    explain_themselves : ExplainThemselves IsReplied step (λ s. IsWithinCapacity s × lawful_state m s) state (λ p. writer_at by_names p (h p)) (readers_of by_names bs)
    explain_themselves = record {
      are_good = λ p. (within m (cells p) (meant p).0, (meant p).1);
      writer_runs = λ p. writer_runs p (h (suc p)) refl;
      readers_run = λ p. readers_all by_names IsRead (λ e. RunsBy IsReplied step (state p) e.dones (state p)) p (λ k e a. reader_runs p e a) bs f.readers;
    }

    -- all records, with the names of their keys, and the history
    abbrev told : List (Entry Done)
    told = all_of by_names h bs n

    abbrev pub history : List (Entry NamedDone)
    history = numbered (λ k. 0) (all_of named h bs n)

    runs_on : IsRunning (lawful_state m) (state 0) told (state n) × ((t : ℕ) → t ≤ n → RunsLawfully (lawful_state m) (state 0) (up_to t told) (state t))
    runs_on = running (λ p. writer_at by_names p (h p)) (readers_of by_names bs) state (of_places by_names h bs f.ascending) explain_themselves n

    by_names_told : numbered (λ k. 0) told ≡ entries_with by_name history
    by_names_told = sym (with_numbered by_name (λ k. 0) (all_of named h bs n) ∙ ap (numbered (λ k. 0)) (with_all by_name named h bs n))

    by_keys_told : numbered (λ k. 0) (all_of by_keys h bs n) ≡ entries_with by_key history
    by_keys_told = sym (with_numbered by_key (λ k. 0) (all_of named h bs n) ∙ ap (numbered (λ k. 0)) (with_all by_key named h bs n))

    is_legal : IsLegalHistory (state 0) (entries_with by_name history) (state n)
    is_legal = subst (λ (z : List (Entry Done)). IsLegalHistory (state 0) z (state n)) by_names_told (legal (state 0) (state n) told runs_on.0).0

    -- up to a place the history runs as the records do
    runs_to : (t : ℕ) (s : State) → RunsLawfully (lawful_state m) (state 0) (up_to t told) s → RunsLawfully (lawful_state m) (state 0) (up_to t (entries_with by_name history)) s
    runs_to t s r = subst (λ (z : List (Entry Done)). RunsLawfully (lawful_state m) (state 0) (up_to t z) s) by_names_told
        (numbered_runs IsReplied step (λ s. IsWithinCapacity s × lawful_state m s) t (λ k. 0) told (state 0) s r)

    -- where each explained record is allowed by these of its calls, so are the records of the history
    allowed_by : (calls : List D → List Done) → ((os ws : List (ℕ × ℕ)) (ds : List D) → explains m os ws ds → allows m (calls ds)) → Each (λ e. allows m e.dones) (numbered (λ k. 0) (all_of calls h bs n))
    allowed_by calls why = numbered_each (λ e. allows m e.dones) (λ e i a. a) (λ k. 0) (all_of calls h bs n)
        (all_each calls (λ e. allows m e.dones) h bs
        (λ p k r e. why r.observations r.writes r.dones (f.writers p k r e).0)
        (λ p. readers_all calls IsRead (λ e. allows m e.dones) p (λ k e a. why e.content.observations [] e.content.dones (a.2 a.1).0) bs f.readers) n)

    all_allowed : Each (λ e. allows m e.dones) (entries_with by_key history)
    all_allowed = subst (Each (λ e. allows m e.dones)) by_keys_told (allowed_by by_keys (λ os ws ds x. (explains_means m os ws ds x).0.0))

    all_placed : Each (λ e. allows m e.dones) (entries_with by_name history)
    all_placed = subst (Each (λ e. allows m e.dones)) by_names_told (allowed_by by_names (λ os ws ds x. (explains_means m os ws ds x).0.1))

    own_books : Each (λ b. by_caller b.caller history ≡ b.records) (books_of named bs)
    own_books = each_book named (λ b. by_caller b.caller history ≡ b.records) bs (λ b i.
        numbered_by b.caller (λ k. 0) (all_of named h bs n)
        ∙ (ap (recounted 0) (whole_book named h bs b n f.ascending i (in_each_of _ b bs i f.rises) (in_each_of _ b bs i f.places) (in_each_of _ b bs i f.records))
        ∙ recounted_entries named b.caller 0 b.entries))

    module _ (low : v.known ≤ n) (moments : Moments lawful explains m v h) where
      sees : (queues : ℕ) (seen : Seen NamedDone) → VouchesFor lawful named state_of m v queues seen → IsSeen (lawful_state m) queues (state 0) (entries_with by_name history) (seen_with by_name seen)
      sees queues seen y = let q : ℕ = seen.place in let l = y.known in record {
        state = state q;
        there = ((meant q).1, runs_to q (state q) (runs_on.1 q (omega arith)));
        run = y.run (cells q) (f.there q) (holds_there lawful explains m v h moments q y.observations y.stand);
      }

      pub one_history : IsOneHistory lawful named state_of lawful_state allows m pass history (state n)
      one_history = record {
        legal = is_legal;
        lawful_end = (meant n).1;
        lawful_there = λ t. let s = (stays (state 0) (state n) told runs_on.0 (meant 0).1).1 t in (s.0, (s.2, runs_to t s.0 s.1));
        allowed = all_allowed;
        placed = all_placed;
        own = own_books;
        sights = sees;
      }

    -- ---- where each caller has its book

    abbrev HasBook : ℕ → Type 0
    HasBook k = (b : Book NamedDone) × IsIn b (books_of named bs) × (b.caller ≡ k)

    module _ (every : (w k : ℕ) (r : Record D) → h w ≡ decided k r → HasBook k) where
      all_have_books : Each (λ e. HasBook e.caller) history
      all_have_books = numbered_each (λ e. HasBook e.caller) (λ e i b. b) (λ k. 0) (all_of named h bs n)
          (all_each named (λ e. HasBook e.caller) h bs every (λ p. readers_callers named HasBook p bs (λ b i. (book_of named b, book_in named b bs i, refl))) n)

      only_books : IsHistoryOf (books_of named bs) history
      only_books = record {
        order = order_back by_name history is_legal.order;
        all = λ b e i j. from_by b.caller e history (subst (IsIn e) (sym (in_each (λ c. by_caller c.caller history ≡ c.records) b (books_of named bs) i own_books)) j);
        only = λ e i. let c : HasBook e.caller = in_each (λ x. HasBook x.caller) e history i all_have_books in
            (c.0, c.1, subst (IsIn e) (in_each (λ b. by_caller b.caller history ≡ b.records) c.0 (books_of named bs) c.1 own_books) (to_by c.0.caller e history (sym c.2) i));
      }

      pub whole_history : EachOf (λ b. EachOf (λ e. e.place ≤ pass.seen) b.entries) bs → (low : v.known ≤ n) → Moments lawful explains m v h → IsWholeHistory lawful named state_of lawful_state allows m pass history (state n)
      whole_history places low moments = let seen : ℕ = pass.seen in record {
        one = one_history low moments;
        records = only_books;
        places = each_in (λ e. e.place ≤ seen) history (λ e i. let b = only_books.only e i in
            in_each (λ x. x.place ≤ seen) e b.0.records b.2 (in_each (λ c. Each (λ x. x.place ≤ seen) c.records) b.0 (books_of named bs) b.1 (places_low named seen bs places)));
      }
