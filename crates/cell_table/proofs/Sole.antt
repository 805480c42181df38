-- A pass with every caller number finds each lock word free that is not its own, at a version of its own books.
use Rattle.std.proofs.Common.{◌≡◌, ℕ, zero, suc, ◌+◌, ◌*◌, ◌/◌, ◌%◌, ◌^◌, ◌<◌, ◌≤◌, Bool, true, false, cond, eqb, List, [], ◌∷◌, length, get_or, inl, inr, ⊎_elim, sym, refl, ap, ◌∙◌, subst, arith, eq-eqb, ne_eqb, IsTrue}
use mathlib.Core.Logic.{dite}
use native.Mathlib.Decide.{ℕ_discrete}
use Rattle.cell_table.specs.Sorted.{Each, Among}
use Rattle.cell_table.specs.Cells.{has}
use Rattle.cell_table.specs.History.{Outcome, unused, pending, decided, touches, noted, records_by, IsVersion}
use Rattle.cell_table.specs.declared.view.Record.{Record}
use Rattle.cell_table.specs.declared.view.Book.{Book}
use Rattle.cell_table.specs.declared.view.Noted.{Noted}
use Rattle.cell_table.specs.declared.view.NotedBook.{NotedBook}
use Rattle.cell_table.specs.declared.view.View.{View}
use Rattle.cell_table.specs.declared.view.Event.{Event}
use Rattle.cell_table.specs.declared.view.Event.TheVariants.{LockLoaded, LockExchanged}
use Rattle.cell_table.specs.Rule.{callers_of, cells_of, FitsEvent}
use Rattle.cell_table.specs.Steps.{add_validation, looked, taken, missed, Validated, IsWord}
use Rattle.cell_table.specs.Legal.{LegalNow}
use Rattle.cell_table.specs.Pass.{PassState, IsSole}
use Rattle.cell_table.specs.IsPass.{IsPass, writers_after, writer_books}
use Rattle.cell_table.proofs.Histories.{bool_cases}
use Rattle.cell_table.specs.Writers.{place_key, in_order, writers_in, up_to, replay, newest_in, Alone}
use Rattle.cell_table.proofs.Sorted.{each_map, each_both, each_among, each_merge}
use Rattle.cell_table.proofs.Laws.{cells_value}
use Rattle.cell_table.proofs.ValueStore.{observes_stands}
use Rattle.cell_table.proofs.Replay.{up_to_all, tells_cells, tells_versions}
use Rattle.cell_table.proofs.Views.{in_callers}
use Rattle.cell_table.proofs.Callers.{all_books, books_few}
use Rattle.cell_table.proofs.Passes.{added_validation, looked_trail, looked_books, looked_still, missed_still, grows_looked, grows_taken, grows_missed, pass_by}

module _ {D : Type 0} where
  -- a decided record stands in its caller's list
  noted_more : (k : ℕ) (d : Outcome D) (p : ℕ) (rs : List (ℕ × Record D)) (t : ℕ × Record D) → Among t rs → Among t (noted k d p rs)
  noted_more k unused p rs t a = a
  noted_more k (pending j H) p rs t a = a
  noted_more k (decided j r) p rs t a = ⊎_elim (λ y. subst (λ (b : Bool). Among t (cond b ((p, r) ∷ rs) rs)) (sym y) (inr a)) (λ y. subst (λ (b : Bool). Among t (cond b ((p, r) ∷ rs) rs)) (sym y) a) (bool_cases (eqb j k))

  pub among_records : (k : ℕ) (h : ℕ → Outcome D) (u : ℕ) (r : Record D) → 0 < u → h u ≡ decided k r → (p : ℕ) → u ≤ p → Among (u, r) (records_by k h p)
  among_records k h u r pos is zero l = absurd (omega arith)
  among_records k h u r pos is (suc p) l = dite (ℕ_discrete u (suc p))
      (λ e. subst (λ (d : Outcome D). Among (u, r) (noted k d (suc p) (records_by k h p))) (sym (ap h (sym e) ∙ is))
      (subst (λ (b : Bool). Among (u, r) (cond b ((suc p, r) ∷ records_by k h p) (records_by k h p))) (sym (eq-eqb k k refl)) (inl (λ i. (sym e i, r)))))
      (λ ne. noted_more k (h (suc p)) (suc p) (records_by k h p) (u, r) (among_records k h u r pos is p (omega arith)))

  writers_places : (s : ℕ) (es : List (Noted D)) (rs : List (ℕ × Record D)) → Each (λ e. e.place ≤ s) es → Each (λ t. t.0 ≤ s) rs → Each (λ t. t.0 ≤ s) (writers_after rs es)
  writers_places s [] rs f g = g
  writers_places s (e ∷ es) rs f g = let P : Bool → Type 0 = λ b. Each (λ t. t.0 ≤ s) (cond b ((e.place, e.content) ∷ rs) rs) in
      writers_places s es _ f.1 (⊎_elim (λ y. subst P (sym y) (f.0, g)) (λ y. subst P (sym y) g) (bool_cases e.writer))

  pub book_places : (s : ℕ) (bs : List (NotedBook D)) → Each (λ b. Each (λ e. e.place ≤ s) b.entries) bs → Each (λ b. Each (λ t. t.0 ≤ s) b.records) (writer_books bs)
  book_places s [] f = tt
  book_places s (b ∷ bs) f = (writers_places s b.entries [] f.0 tt, book_places s bs f.1)

  pub books_length : (bs : List (NotedBook D)) → length (writer_books bs) ≡ length bs
  books_length [] = refl
  books_length (b ∷ bs) = ap suc (books_length bs)

  touched_by : (d : Outcome D) (c : ℕ) → touches d c ≡ true → (k : ℕ) × (r : Record D) × (d ≡ decided k r)
  touched_by unused c t = absurd (cc)
  touched_by (pending k H) c t = absurd (cc)
  touched_by (decided k r) c t = (k, r, refl)

module _ {M D : Type 0} (lawful : M → List ℕ → Type 0) (explains : M → List (ℕ × ℕ) → List (ℕ × ℕ) → List D → Type 0) where
  -- every caller number has its book in a sole pass
  pub every : (p : PassState M D) → IsPass lawful explains p → IsSole p → (j : ℕ) → j < p.view.total → has j (callers_of p.view.books) ≡ true
  every p f sole j l = let k = f.legal in let a = ap length f.books in let b = books_length p.books in
      all_books 0 p.view.total p.view.books k.order (each_map _ _ (λ b x. let y = x.0 in (omega arith, omega arith)) p.view.books k.books) (omega arith) j (omega arith) l

  -- the version of a decided write is one of its places
  version_seen : (p : PassState M D) (f : IsPass lawful explains p) → IsSole p → (c u : ℕ) → u ≤ f.legal.clock → IsVersion f.legal.history c u → u ≤ p.seen
  version_seen p f sole c u low is = ⊎_elim (λ e. omega arith) (λ t. let k = f.legal in let by = touched_by (k.history u) c t.1 in let at = k.callers u by.0 by.1 by.2 in
      let places : Each (λ b. Each (λ t. t.0 ≤ p.seen) b.records) p.view.books = subst (Each (λ b. Each (λ t. t.0 ≤ p.seen) b.records)) f.books (book_places p.seen p.books f.places) in
      let all : Each (λ b. Each (λ t. t.0 ≤ p.seen) (records_by b.caller k.history k.clock)) p.view.books = each_both _ _ _ (λ b x y. subst (Each (λ t. t.0 ≤ p.seen)) y.1 x) p.view.books places k.books in
      let own : Each (λ t. t.0 ≤ p.seen) (records_by by.0 k.history k.clock) = in_callers (λ j. Each (λ t. t.0 ≤ p.seen) (records_by j k.history k.clock)) by.0 p.view.books (every p f sole by.0 at.1) all in
      each_among (λ t. t.0 ≤ p.seen) (u, by.1) (records_by by.0 k.history k.clock) (among_records by.0 k.history u by.1 t.0 by.2 k.clock low) own) is

  in_order_places : (s : ℕ) (bs : List (Book D)) → Each (λ b. Each (λ t. t.0 ≤ s) b.records) bs → Each (λ t. t.0 ≤ s) (in_order bs)
  in_order_places s [] f = tt
  in_order_places s (b ∷ bs) f = each_merge place_key _ b.records (in_order bs) f.0 (in_order_places s bs f.1)

  -- what a pass with every caller number knows
  pub alone : (p : PassState M D) → IsPass lawful explains p → IsSole p → Alone p
  alone p f sole = let k = f.legal in let n : ℕ = k.clock in let h : ℕ → Outcome D = k.history in
      let same : writers_in p.books ≡ in_order p.view.books = ap in_order f.books in
      let books : Each (λ b. b.records ≡ records_by b.caller h n) p.view.books = each_map _ _ (λ b x. x.1) p.view.books k.books in
      let known : (w j : ℕ) (r : Record D) → h w ≡ decided j r → (w ≤ n) × (has j (callers_of p.view.books) ≡ true) = λ w j r e. let a = k.callers w j r e in (a.0, every p f sole j a.1) in record {
        all = λ q l. up_to_all q (writers_in p.books) (each_map _ _ (λ t m. omega arith) (writers_in p.books) (in_order_places p.seen (writer_books p.books) (book_places p.seen p.books f.places)));
        newest = λ c u q a. ap (λ (z : List (ℕ × Record D)). newest_in (up_to q z) c) same ∙ (tells_versions h n p.view.books k.order books known c q ∙ (each_among _ (c, u, q) p.view.validations a k.validations).1.0);
        observed = λ c x q l o. ap (λ (z : List (ℕ × Record D)). get_or (replay p.view.opening (up_to q z)) c 0) same ∙ (ap (λ (z : List ℕ). get_or z c 0) (tells_cells h n p.view.books k.order books known p.view.opening q)
            ∙ ((cells_value p.view.opening h c l q).0 ∙ (observes_stands p.view.opening h n p.view k.values k.validations c x q o).0));
      }

  -- what a load of the clock tells a view with every caller number, as its pass has it
  pub draws_told : (p q : PassState M D) (r callers : ℕ) → p ≡ q → IsPass lawful explains p → q.view.total ≡ callers → (length p.view.books ≡ p.view.total → r + p.view.draws ≡ p.view.total * 2 ^ 48) → IsSole q → r + q.view.draws ≡ callers * 2 ^ 48
  draws_told p q r callers e f total told = subst (λ (z : PassState M D). z.view.total ≡ callers → IsSole z → r + z.view.draws ≡ callers * 2 ^ 48) e
      (λ t sole. let a = ap length f.books in let b = books_length p.books in subst (λ (n : ℕ). r + p.view.draws ≡ n * 2 ^ 48) t (told (omega arith))) total

  abbrev IsLast : PassState M D → ℕ → ℕ → Type 0
  IsLast p c r = IsSole p → has c (cells_of p.view.held) ≡ false → (r % 2 ≡ 0) × (r ≤ 2 * p.seen) × (r ≡ 2 * newest_in (writers_in p.books) c)

  -- p is the pass before a step that found r in a lock, and q the one after
  sole_word : (p q : PassState M D) (c r : ℕ) → q.books ≡ p.books → q.seen ≡ p.seen → q.view.total ≡ p.view.total → IsPass lawful explains p → (g : IsPass lawful explains q)
      → ((u : ℕ) → r ≡ 2 * u → (u ≤ g.legal.clock) × IsVersion g.legal.history c u) → ((u : ℕ) → r ≡ 2 * u → u ≤ p.view.known → Validated q.view c u p.view.known) → IsWord p.view c r → IsLast p c r
  sole_word p q c r books seen total f g fits still word sole free = let sole' : IsSole q = ap (λ (z : List (NotedBook D)). length z) books ∙ (sole ∙ sym total) in ⊎_elim
      (λ t. let u : ℕ = t.0 in let even = t.1 in let found = fits u t.1 in let low = version_seen q g sole' c u found.0 found.1 in let near = f.seen in let s = alone q g sole' in
      let last : newest_in (writers_in q.books) c ≡ u = ap (λ (z : List (ℕ × Record D)). newest_in z c) (sym (s.all p.view.known (omega arith))) ∙ s.newest c u p.view.known (still u t.1 (omega arith)) in
      (omega arith, omega arith, t.1 ∙ ap (λ (z : ℕ). 2 * z) (sym last ∙ ap (λ (z : List (NotedBook D)). newest_in (writers_in z) c) books)))
      (λ t. let own = t.4 (every p f sole t.0 t.2) in let bad : true ≡ false = sym own.1 ∙ free in absurd (cc)) word

  event_last : (p : PassState M D) (w : View M D) (places c r : ℕ) (e : Event) → IsPass lawful explains p → w.total ≡ p.view.total → w.trail ≡ e ∷ p.view.trail → ((h : ℕ → Outcome D) (n u : ℕ) → FitsEvent h n e → r ≡ 2 * u → (u ≤ n) × IsVersion h c u)
      → IsPass lawful explains (record p { view = w; table = p.table; places = places }) → ((u : ℕ) → r ≡ 2 * u → u ≤ p.view.known → Validated w c u p.view.known) → IsWord p.view c r → IsLast p c r
  event_last p w places c r e f total trail tells g still word = let k = g.legal in let events : Each (FitsEvent k.history k.clock) (e ∷ p.view.trail) = subst (Each (FitsEvent k.history k.clock)) trail k.trail in
      sole_word p (record p { view = w; table = p.table; places = places }) c r refl refl total f g (λ u is. tells k.history k.clock u events.0 is) still word

  pub looked_sole : (p n : PassState M D) (w : View M D) (c r : ℕ) → p ≡ n → w ≡ looked p.view c r → LegalNow lawful explains w → IsPass lawful explains p → IsWord p.view c r → IsLast n c r
  looked_sole p n w c r e is legal f word = subst (λ (z : PassState M D). IsLast z c r) e
      (let same = looked_books p.view c r in event_last p w p.places c r (LockLoaded c r) f (ap (λ (z : View M D). z.total) is ∙ (grows_looked p.view c r).total) (ap (λ (z : View M D). z.trail) is ∙ looked_trail p.view c r)
      (λ h n u fits even. fits u even) (pass_by lawful explains p w (looked p.view c r) p.table p.places f is (grows_looked p.view c r) same.0 same.1 legal) (λ u even low. looked_still p p w c r u refl is even low) word)

  pub taken_sole : (p n : PassState M D) (w : View M D) (c r : ℕ) → p ≡ n → r ≡ 2 * (r / 2) → w ≡ taken p.view c (r / 2) → LegalNow lawful explains w → IsPass lawful explains p → IsWord p.view c r → IsLast n c r
  taken_sole p n w c r e half is legal f word = let v : ℕ = r / 2 in subst (λ (z : PassState M D). IsLast z c r) e
      (event_last p w p.places c r (LockExchanged c (2 * v)) f (ap (λ (z : View M D). z.total) is) (ap (λ (z : View M D). z.trail) is) (λ h n u fits even. let same : v ≡ u = omega arith in fits u (ap (λ (z : ℕ). 2 * z) same))
      (pass_by lawful explains p w (taken p.view c v) p.table p.places f is (grows_taken p.view c v) refl refl legal) (λ u even low. let same : v ≡ u = omega arith in
      subst (λ (z : View M D). Validated z c u p.view.known) (sym is) (subst (λ (z : ℕ). Among (c, u, p.view.known) (add_validation c z p.view.known p.view.validations)) (sym same) (added_validation c u p.view.known p.view.validations low))) word)

  pub missed_sole : (p n : PassState M D) (w : View M D) (c r : ℕ) → p ≡ n → w ≡ missed p.view c r → LegalNow lawful explains w → IsPass lawful explains p → IsWord p.view c r → IsLast n c r
  missed_sole p n w c r e is legal f word = subst (λ (z : PassState M D). IsLast z c r) e
      (event_last p w p.places c r (LockExchanged c r) f (ap (λ (z : View M D). z.total) is) (ap (λ (z : View M D). z.trail) is) (λ h n u fits even. fits u even)
      (pass_by lawful explains p w (missed p.view c r) p.table p.places f is (grows_missed p.view c r) refl refl legal) (λ u even low.
      subst (λ (z : View M D). Validated z c u p.view.known) (sym is) (missed_still p.view c r u even low)) word)

  -- a pass holds no more callers than there are
  pub callers_few : (p : PassState M D) → IsPass lawful explains p → (length p.books ≤ 4096) × (length p.books ≡ length p.view.books) × (0 < length p.books)
  callers_few p f = let k = f.legal in let a = books_few p.view.total p.view.books k.order (each_map _ _ (λ b x. x.0) p.view.books k.books) in let b = ap length f.books in let c = books_length p.books in let d = k.few in let e = f.acting in (omega arith, omega arith, omega arith)

pub sole_eq : (a b n t : ℕ) → a ≡ n → b ≡ t → (IsTrue (eqb a b) → n ≡ t) × (n ≡ t → IsTrue (eqb a b))
sole_eq a b n t e f = (
  (λ y. dite (ℕ_discrete a b) (λ s. sym e ∙ (s ∙ f)) (λ d. let bad : true ≡ false = sym y ∙ ne_eqb a b d in absurd (cc))),
  λ s. eq-eqb a b (e ∙ (s ∙ sym f)),
)
