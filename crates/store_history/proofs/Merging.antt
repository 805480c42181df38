-- The records of a table are of their places, and what is true of each of them.
use Rattle.std.proofs.Common.{◌≡◌, ℕ, zero, suc, ◌<◌, Bool, true, false, cond, eqb, List, [], ◌∷◌, ◌++◌, inl, inr, ⊎_elim, sym, refl, ap, ◌∙◌, subst, arith, eq-eqb, ne_eqb}
use Rattle.std.specs.Prelude.{option_to_list}
use Rattle.std.proofs.lemmas.Bool.{cases_Bool}
use mathlib.Core.Logic.{dite}
use native.Mathlib.Decide.{ℕ_discrete}
use Rattle.serial_terms.specs.Entries.{Entry, Each, IsIn, OrderedBy, StandsBefore, IsWriterAt, IsReaderAt, AreOfTheirPlaces}
use Rattle.serial_terms.specs.Facts.{each_append}
use Rattle.serial_terms.specs.Renaming.{entries_with}
use Rattle.cell_table.specs.Sorted.{Each as EachOf, IsAscendingBy}
use Rattle.cell_table.specs.History.{Outcome, unused, pending, decided}
use Rattle.cell_table.specs.Pass.{book_key}
use Rattle.cell_table.specs.declared.view.Record.{Record}
use Rattle.cell_table.specs.declared.view.Noted.{Noted}
use Rattle.cell_table.specs.declared.view.NotedBook.{NotedBook}
use Rattle.store_history.proofs.Lists.{each_map, each_of_all}
use Rattle.store_history.proofs.Numbered.{with_append}
use Rattle.store_history.proofs.Places.{readers_there, entry, entries, writer_at, readers_of, all_of}

readers_each : {D : Type 0} (P : Noted D → Type 0) (p : ℕ) (es : List (Noted D)) → EachOf P es → EachOf (λ e. (e.place ≡ p) × (e.writer ≡ false) × P e) (readers_there p es)
readers_each P p [] a = tt
readers_each P p (e ∷ es) a = let Q : List (Noted _) → Type 0 = EachOf (λ e. (e.place ≡ p) × (e.writer ≡ false) × P e) in let i = readers_each P p es a.1 in ⊎_elim
    (λ w. subst (λ (b : Bool). Q (cond b (readers_there p es) (cond (eqb e.place p) (e ∷ readers_there p es) (readers_there p es)))) (sym w) i)
    (λ w. subst (λ (b : Bool). Q (cond b (readers_there p es) (cond (eqb e.place p) (e ∷ readers_there p es) (readers_there p es)))) (sym w) (dite (ℕ_discrete e.place p)
    (λ y. subst (λ (b : Bool). Q (cond b (e ∷ readers_there p es) (readers_there p es))) (sym (eq-eqb e.place p y)) ((y, w, a.0), i))
    (λ n. subst (λ (b : Bool). Q (cond b (e ∷ readers_there p es) (readers_there p es))) (sym (ne_eqb e.place p n)) i)))
    (cases_Bool e.writer)

order_append : {A : Type 0} (R : A → A → Type 0) (xs ys : List A) → OrderedBy R xs → OrderedBy R ys → Each (λ x. Each (R x) ys) xs → OrderedBy R (xs ++ ys)
order_append R [] ys a b c = b
order_append R (x ∷ xs) ys a b c = (each_append (R x) xs ys a.0 c.0, order_append R xs ys a.1 b c.1)

module _ {X : Type 0} where
  -- readers of one caller at one place
  same_caller : (k p : ℕ) (es : List (Entry X)) → Each (λ e. IsReaderAt p e × (e.caller ≡ k)) es → OrderedBy StandsBefore es
  same_caller k p [] a = tt
  same_caller k p (e ∷ es) a = (each_map (λ e. IsReaderAt p e × (e.caller ≡ k)) (StandsBefore e) (λ f b. let u = a.0.1 in let w = b.1 in inr (a.0.0.0 ∙ sym b.0.0, inr (a.0.0.1 ∙ sym b.0.1, omega arith))) es a.1, same_caller k p es a.1)

module _ {D X : Type 0} (calls : List D → List X) where
  entries_each : (P : Noted D → Type 0) (Q : Entry X → Type 0) (k : ℕ) → ((e : Noted D) → P e → Q (entry calls k e)) → (es : List (Noted D)) → EachOf P es → Each Q (entries calls k es)
  entries_each P Q k f [] a = tt
  entries_each P Q k f (e ∷ es) a = (f e a.0, entries_each P Q k f es a.1)

  -- what is true of each reader at a place
  pub readers_all : (P : Noted D → Type 0) (Q : Entry X → Type 0) (p : ℕ) → ((k : ℕ) (e : Noted D) → (e.place ≡ p) × (e.writer ≡ false) × P e → Q (entry calls k e)) → (bs : List (NotedBook D)) → EachOf (λ b. EachOf P b.entries) bs → Each Q (readers_of calls bs p)
  readers_all P Q p f [] a = tt
  readers_all P Q p f (b ∷ bs) a = each_append Q (entries calls b.caller (readers_there p b.entries)) (readers_of calls bs p)
      (entries_each (λ e. (e.place ≡ p) × (e.writer ≡ false) × P e) Q b.caller (f b.caller) (readers_there p b.entries) (readers_each P p b.entries a.0)) (readers_all P Q p f bs a.1)

  -- the readers at a place have the callers of the books
  pub readers_callers : (Q : ℕ → Type 0) (p : ℕ) (bs : List (NotedBook D)) → ((b : NotedBook D) → IsIn b bs → Q b.caller) → Each (λ e. Q e.caller) (readers_of calls bs p)
  readers_callers Q p [] f = tt
  readers_callers Q p (b ∷ bs) f = each_append (λ e. Q e.caller) (entries calls b.caller (readers_there p b.entries)) (readers_of calls bs p)
      (entries_each (λ e. Unit {0}) (λ e. Q e.caller) b.caller (λ e a. f b (inl refl)) (readers_there p b.entries) (each_of_all (λ e. Unit {0}) (readers_there p b.entries) (λ e. tt)))
      (readers_callers Q p bs (λ c i. f c (inr i)))

  writer_each : (Q : Entry X → Type 0) (p : ℕ) (d : Outcome D) → ((k : ℕ) (r : Record D) → d ≡ decided k r → Q (record { caller = k; index = 0; place = p; writer = true; dones = calls r.dones })) → Each Q (option_to_list (writer_at calls p d))
  writer_each Q p unused f = tt
  writer_each Q p (pending k H) f = tt
  writer_each Q p (decided k r) f = (f k r refl, tt)

  -- what is true of each record
  pub all_each : (Q : Entry X → Type 0) (h : ℕ → Outcome D) (bs : List (NotedBook D)) → ((p k : ℕ) (r : Record D) → h p ≡ decided k r → Q (record { caller = k; index = 0; place = p; writer = true; dones = calls r.dones })) → ((p : ℕ) → Each Q (readers_of calls bs p)) → (p : ℕ) → Each Q (all_of calls h bs p)
  all_each Q h bs f g zero = g 0
  all_each Q h bs f g (suc p) = each_append Q (all_of calls h bs p) (option_to_list (writer_at calls (suc p) (h (suc p))) ++ readers_of calls bs (suc p)) (all_each Q h bs f g p)
      (each_append Q (option_to_list (writer_at calls (suc p) (h (suc p)))) (readers_of calls bs (suc p)) (writer_each Q (suc p) (h (suc p)) (f (suc p))) (g (suc p)))

  -- ---- their order

  reads_in : (k p : ℕ) (es : List (Noted D)) → Each (λ e. IsReaderAt p e × (e.caller ≡ k)) (entries calls k (readers_there p es))
  reads_in k p es = entries_each (λ e. (e.place ≡ p) × (e.writer ≡ false) × Unit {0}) (λ e. IsReaderAt p e × (e.caller ≡ k)) k (λ e a. ((a.0, a.1), refl)) (readers_there p es) (readers_each (λ e. Unit {0}) p es (each_of_all (λ e. Unit {0}) es (λ e. tt)))

  reads_above : (k p : ℕ) (bs : List (NotedBook D)) → EachOf (λ c. k < c.caller) bs → Each (λ e. IsReaderAt p e × (k < e.caller)) (readers_of calls bs p)
  reads_above k p [] a = tt
  reads_above k p (b ∷ bs) a = each_append (λ e. IsReaderAt p e × (k < e.caller)) (entries calls b.caller (readers_there p b.entries)) (readers_of calls bs p)
      (each_map (λ e. IsReaderAt p e × (e.caller ≡ b.caller)) (λ e. IsReaderAt p e × (k < e.caller)) (λ e c. let x = c.1 in let y = a.0 in (c.0, omega arith)) _ (reads_in b.caller p b.entries)) (reads_above k p bs a.1)

  readers_order : (p : ℕ) (bs : List (NotedBook D)) → IsAscendingBy book_key bs → OrderedBy StandsBefore (readers_of calls bs p)
  readers_order p [] a = tt
  readers_order p (b ∷ bs) a = order_append StandsBefore (entries calls b.caller (readers_there p b.entries)) (readers_of calls bs p) (same_caller b.caller p _ (reads_in b.caller p b.entries)) (readers_order p bs a.1)
      (each_map (λ e. IsReaderAt p e × (e.caller ≡ b.caller)) (λ x. Each (StandsBefore x) (readers_of calls bs p))
      (λ x c. each_map (λ e. IsReaderAt p e × (b.caller < e.caller)) (StandsBefore x) (λ y d. let u = c.1 in let w = d.1 in inr (c.0.0 ∙ sym d.0.0, inr (c.0.1 ∙ sym d.0.1, omega arith))) (readers_of calls bs p) (reads_above b.caller p bs a.0)) _ (reads_in b.caller p b.entries))

  writer_there : (p : ℕ) (d : Outcome D) → Each (IsWriterAt p) (option_to_list (writer_at calls p d))
  writer_there p unused = tt
  writer_there p (pending k H) = tt
  writer_there p (decided k r) = ((refl, refl), tt)

  pub of_places : (h : ℕ → Outcome D) (bs : List (NotedBook D)) → IsAscendingBy book_key bs → AreOfTheirPlaces StandsBefore (λ p. writer_at calls p (h p)) (readers_of calls bs)
  of_places h bs a = record {
    of_writers = λ p. writer_there p (h p);
    of_readers = λ p. readers_all (λ e. Unit {0}) (IsReaderAt p) p (λ k e b. (b.0, b.1)) bs (each_of_all (λ b. EachOf (λ e. Unit {0}) b.entries) bs (λ b. each_of_all (λ e. Unit {0}) b.entries (λ e. tt)));
    ordered = λ p. readers_order p bs a;
  }

-- ---- the same with other calls

module _ {D A B : Type 0} (f : List A → List B) (calls : List D → List A) where
  abbrev other_calls : List D → List B
  other_calls ds = f (calls ds)

  with_entries : (k : ℕ) (es : List (Noted D)) → entries_with f (entries calls k es) ≡ entries other_calls k es
  with_entries k [] = refl
  with_entries k (e ∷ es) = ap (λ (z : List (Entry B)). entry other_calls k e ∷ z) (with_entries k es)

  with_readers : (bs : List (NotedBook D)) (p : ℕ) → entries_with f (readers_of calls bs p) ≡ readers_of other_calls bs p
  with_readers [] p = refl
  with_readers (b ∷ bs) p = with_append f (entries calls b.caller (readers_there p b.entries)) (readers_of calls bs p) ∙ (λ i. with_entries b.caller (readers_there p b.entries) i ++ with_readers bs p i)

  with_writer : (p : ℕ) (d : Outcome D) → entries_with f (option_to_list (writer_at calls p d)) ≡ option_to_list (writer_at other_calls p d)
  with_writer p unused = refl
  with_writer p (pending k H) = refl
  with_writer p (decided k r) = refl

  pub with_all : (h : ℕ → Outcome D) (bs : List (NotedBook D)) (p : ℕ) → entries_with f (all_of calls h bs p) ≡ all_of other_calls h bs p
  with_all h bs zero = with_readers bs 0
  with_all h bs (suc p) = with_append f (all_of calls h bs p) (option_to_list (writer_at calls (suc p) (h (suc p))) ++ readers_of calls bs (suc p))
      ∙ (λ i. with_all h bs p i ++ (with_append f (option_to_list (writer_at calls (suc p) (h (suc p)))) (readers_of calls bs (suc p)) ∙ (λ j. with_writer (suc p) (h (suc p)) j ++ with_readers bs (suc p) j)) i)
