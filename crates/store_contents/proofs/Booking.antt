-- The books of a pass as records.
use Rattle.std.proofs.Common.{◌≡◌, ℕ, zero, suc, ◌+◌, ◌<◌, ◌≤◌, List, [], ◌∷◌, ◌++◌, length, take, get_or, refl, ap, sym, ◌∙◌, subst, arith}
use Rattle.std.proofs.lemmas.List.{take_more, length-take-le}
use Rattle.std.proofs.Math.Seq.{take-length}
use Rattle.cell_table.specs.History.{records_by}
use Rattle.cell_table.specs.IsPass.{IsPass, writer_books}
use Rattle.cell_table.specs.Pass.{PassState, IsSole}
use Rattle.cell_table.specs.Rule.{IsAscending}
use Rattle.cell_table.specs.Seats.{noted_of, noted_all}
use Rattle.cell_table.specs.Sorted.{Each}
use Rattle.cell_table.specs.declared.entry.Entry.{Entry as Noting}
use Rattle.cell_table.specs.declared.view.Book.{Book}
use Rattle.cell_table.specs.declared.view.Noted.{Noted}
use Rattle.cell_table.specs.declared.view.NotedBook.{NotedBook}
use Rattle.serial_terms.specs.declared.call.Done.{Done}
use Rattle.serial_terms.specs.declared.committed.Record.{Record}
use Rattle.serial_terms.specs.Entries.{Entry}
use Rattle.serial_terms.specs.Entries as entries
use Rattle.serial_terms.specs.Histories.{entry_of, entries_of}
use Rattle.serial_terms.specs.Renaming.{NamedDone, by_key, entries_with}
use Rattle.store_history.specs.Books.{records_from, book_of, books_of}
use Rattle.store_history.specs.Keyed.{book_with, books_with}
use Rattle.store_history.specs.Records.{books_in}
use Rattle.store_history.specs.declared.merge.RecordBook.{RecordBook}

abbrev notes_as_they_are : List NamedDone → List NamedDone
notes_as_they_are notes = notes

keys_added : (ds : List NamedDone) (d : NamedDone) → by_key (ds ++ d ∷ []) ≡ by_key ds ++ d.done ∷ []
keys_added [] d = refl
keys_added (x ∷ ds) d = ap (λ (z : List Done). x.done ∷ z) (keys_added ds d)

pub done_more : (notes : List NamedDone) (i : ℕ) (d : NamedDone) (dones new : List Done) → i < length notes → d ≡ get_or notes i d → dones ≡ by_key (take i notes)
    → new ≡ dones ++ d.done ∷ [] → new ≡ by_key (take (i + 1) notes)
done_more notes i d dones new less at is added =
    added ∙ (ap (λ (z : List Done). z ++ d.done ∷ []) is ∙ (sym (keys_added (take i notes) d) ∙ ap by_key (ap (λ (z : NamedDone). take i notes ++ z ∷ []) at ∙ sym (take_more notes i d less))))

noted_added : (es : List (Noting NamedDone)) (e : Noting NamedDone) → noted_all (es ++ e ∷ []) ≡ noted_all es ++ noted_of e ∷ []
noted_added [] e = refl
noted_added (x ∷ es) e = ap (λ (z : List (Noted NamedDone)). noted_of x ∷ z) (noted_added es e)

records_added : (caller n : ℕ) (es : List (Noted NamedDone)) (e : Noted NamedDone)
    → entries_with by_key (records_from notes_as_they_are caller n (es ++ e ∷ [])) ≡ entries_with by_key (records_from notes_as_they_are caller n es) ++ record { caller = caller; index = n + length es; place = e.place; writer = e.writer; dones = by_key e.content.dones } ∷ []
records_added caller n [] e = let z : n ≡ n + 0 = omega arith in ap (λ (i : ℕ). record { caller = caller; index = i; place = e.place; writer = e.writer; dones = by_key e.content.dones } ∷ []) z
records_added caller n (x ∷ es) e =
    let z : n + 1 + length es ≡ n + suc (length es) = omega arith in
    ap (λ (t : List (Entry Done)). record { caller = caller; index = n; place = x.place; writer = x.writer; dones = by_key x.content.dones } ∷ t)
    (records_added caller (n + 1) es e ∙ ap (λ (i : ℕ). entries_with by_key (records_from notes_as_they_are caller (n + 1) es) ++ record { caller = caller; index = i; place = e.place; writer = e.writer; dones = by_key e.content.dones } ∷ []) z)

noted_count : (es : List (Noting NamedDone)) → length (noted_all es) ≡ length es
noted_count [] = refl
noted_count (x ∷ es) = ap (λ (n : ℕ). suc n) (noted_count es)

entries_added : (rs : List Record) (r : Record) → entries_of (rs ++ r ∷ []) ≡ entries_of rs ++ entry_of r ∷ []
entries_added [] r = refl
entries_added (x ∷ rs) r = ap (λ (z : List (Entry Done)). entry_of x ∷ z) (entries_added rs r)

pub record_more : (caller : ℕ) (es : List (Noting NamedDone)) (i : ℕ) (d : Noting NamedDone) (r : Record) (records new : List Record) → i < length es
    → r ≡ record { caller = caller; index = i; place = (get_or es i d).place; writer = (get_or es i d).writer; dones = by_key (get_or es i d).dones.items }
    → entries_of records ≡ entries_with by_key (records_from (λ notes. notes) caller 0 (noted_all (take i es))) → new ≡ records ++ r ∷ []
    → entries_of new ≡ entries_with by_key (records_from (λ notes. notes) caller 0 (noted_all (take (i + 1) es)))
record_more caller es i d r records new less made is added =
    let e = get_or es i d in
    let count : 0 + length (noted_all (take i es)) ≡ i = omega (arith, noted_count (take i es), length-take-le i es (omega arith)) in
    let next : noted_all (take (i + 1) es) ≡ noted_all (take i es) ++ noted_of e ∷ [] = ap noted_all (take_more es i d less) ∙ noted_added (take i es) e in
    ap entries_of added ∙ (entries_added records r ∙ (ap (λ (z : List (Entry Done)). z ++ entry_of r ∷ []) is
    ∙ (ap (λ (z : Record). entries_with by_key (records_from notes_as_they_are caller 0 (noted_all (take i es))) ++ entry_of z ∷ []) made
    ∙ (ap (λ (n : ℕ). entries_with by_key (records_from notes_as_they_are caller 0 (noted_all (take i es))) ++ record { caller = caller; index = n; place = e.place; writer = e.writer; dones = by_key e.dones.items } ∷ []) (sym count)
    ∙ (sym (records_added caller 0 (noted_all (take i es)) (noted_of e)) ∙ ap (λ (z : List (Noted NamedDone)). entries_with by_key (records_from notes_as_they_are caller 0 z)) (sym next))))))

-- ---- the callers of a pass that has all

module _ {D : Type 0} where
  above : (a c : ℕ) → a ≤ c → (ws : List (Book D)) → Each (λ y. c < y.caller) ws → Each (λ y. a + 1 ≤ y.caller) ws
  above a c le [] e = tt
  above a c le (w ∷ ws) e = (let l = e.0 in omega arith, above a c le ws e.1)

  -- numbers that ascend from a, as many as there are below the limit
  counted_from : (a : ℕ) (bs : List (NotedBook D)) → IsAscending (writer_books bs) → Each (λ b. a ≤ b.caller) (writer_books bs) → Each (λ b. b.caller < a + length bs) (writer_books bs)
      → (i : ℕ) (d : NotedBook D) → i < length bs → (get_or bs i d).caller ≡ a + i
  counted_from a [] up low high i d less = absurd (omega arith)
  counted_from a (b ∷ bs) up low high (suc i) d less =
      let e : a + length (b ∷ bs) ≡ a + 1 + length bs = omega arith in let n : a + 1 + i ≡ a + suc i = omega arith in
      counted_from (a + 1) bs up.1 (above a b.caller low.0 (writer_books bs) up.0) (subst (λ (z : ℕ). Each (λ b. b.caller < z) (writer_books bs)) e high.1) i d (omega arith) ∙ n
  counted_from a (b ∷ []) up low high zero d less = let l = low.0 in let h = high.0 in omega arith
  counted_from a (b ∷ c ∷ cs) up low high zero d less =
      let l = low.0 in let z : a + length (b ∷ c ∷ cs) ≡ a + 1 + length (c ∷ cs) = omega arith in
      let behind : c.caller ≡ a + 1 + 0 = counted_from (a + 1) (c ∷ cs) up.1 (above a b.caller l (writer_books (c ∷ cs)) up.0) (subst (λ (n : ℕ). Each (λ b. b.caller < n) (writer_books (c ∷ cs))) z high.1) 0 c (omega arith) in
      let s = up.0.0 in omega arith

module _ {M D : Type 0} (lawful : M → List ℕ → Type 0) (explains : M → List (ℕ × ℕ) → List (ℕ × ℕ) → List D → Type 0) where
  pub caller_is : (p : PassState M D) → IsPass lawful explains p → IsSole p → (i : ℕ) (d : NotedBook D) → i < length p.books → (get_or p.books i d).caller ≡ i
  caller_is p is sole i d less =
      let order : IsAscending (writer_books p.books) = subst IsAscending (sym is.books) is.legal.order in
      let low = each_all (λ (b : Book D). 0 ≤ b.caller) (λ b. omega arith) (writer_books p.books) in
      let high = subst (λ (bs : List (Book D)). Each (λ b. b.caller < 0 + length p.books) bs) (sym is.books) (each_from (λ b. (b.caller < p.view.total) × (b.records ≡ records_by b.caller is.legal.history is.legal.clock)) (λ (b : Book D). b.caller < 0 + length p.books) (λ b e. let l = e.0 in let s = sole in omega arith) p.view.books is.legal.books) in
      counted_from 0 p.books order low high i d less ∙ (let z : 0 + i ≡ i = omega arith in z)
    where
      each_all : (P : Book D → Type 0) → ((b : Book D) → P b) → (bs : List (Book D)) → Each P bs
      each_all P f [] = tt
      each_all P f (b ∷ bs) = (f b, each_all P f bs)

      each_from : (P Q : Book D → Type 0) → ((b : Book D) → P b → Q b) → (bs : List (Book D)) → Each P bs → Each Q bs
      each_from P Q f [] a = tt
      each_from P Q f (b ∷ bs) a = (f b a.0, each_from P Q f bs a.1)

-- ---- one book more

books_added : (bs : List RecordBook) (b : RecordBook) → books_in (bs ++ b ∷ []) ≡ books_in bs ++ record { caller = b.caller; records = entries_of b.records.items } ∷ []
books_added [] b = refl
books_added (x ∷ bs) b = ap (λ (z : List (entries.Book Done)). record { caller = x.caller; records = entries_of x.records.items } ∷ z) (books_added bs b)

keyed_added : (bs : List (NotedBook NamedDone)) (b : NotedBook NamedDone) → books_with by_key (books_of notes_as_they_are (bs ++ b ∷ [])) ≡ books_with by_key (books_of notes_as_they_are bs) ++ book_with by_key (book_of notes_as_they_are b) ∷ []
keyed_added [] b = refl
keyed_added (x ∷ bs) b = ap (λ (z : List (entries.Book Done)). book_with by_key (book_of notes_as_they_are x) ∷ z) (keyed_added bs b)

pub book_more : (all : List (NotedBook NamedDone)) (i : ℕ) (d : NotedBook NamedDone) (books new : List RecordBook) (b : RecordBook) → i < length all → (get_or all i d).caller ≡ i → b.caller ≡ i
    → entries_of b.records.items ≡ entries_with by_key (records_from (λ notes. notes) i 0 (get_or all i d).entries)
    → books_in books ≡ books_with by_key (books_of (λ notes. notes) (take i all)) → new ≡ books ++ b ∷ [] → books_in new ≡ books_with by_key (books_of (λ notes. notes) (take (i + 1) all))
book_more all i d books new b less own caller records is added =
    let x = get_or all i d in
    let same : records_from notes_as_they_are i 0 x.entries ≡ records_from notes_as_they_are x.caller 0 x.entries = ap (λ (c : ℕ). records_from notes_as_they_are c 0 x.entries) (sym own) in
    ap books_in added ∙ (books_added books b
    ∙ ((λ j. is j ++ record { caller = (caller ∙ sym own) j; records = (records ∙ ap (entries_with by_key) same) j } ∷ [])
    ∙ (sym (keyed_added (take i all) x) ∙ ap (λ (z : List (NotedBook NamedDone)). books_with by_key (books_of notes_as_they_are z)) (sym (take_more all i d less)))))

pub all_books : (n : ℕ) (all : List (NotedBook NamedDone)) (books : List RecordBook) → n ≡ length all → books_in books ≡ books_with by_key (books_of (λ notes. notes) (take n all))
    → books_in books ≡ books_with by_key (books_of (λ notes. notes) all)
all_books n all books whole is = is ∙ ap (λ (z : List (NotedBook NamedDone)). books_with by_key (books_of notes_as_they_are z)) (ap (λ (m : ℕ). take m all) whole ∙ take-length all)
