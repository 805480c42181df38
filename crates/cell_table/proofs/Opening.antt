-- The opening meets the rule.
use Rattle.std.proofs.Common.{◌≡◌, ℕ, zero, suc, ◌+◌, ◌*◌, ◌^◌, ◌<◌, ◌≤◌, List, [], ◌∷◌, ◌++◌, length, get_or, inl, sym, refl, ap, ◌∙◌, subst, arith}
use mathlib.Core.Option.{some}
use lib.ListN.{get_elem?}
use Rattle.cell_table.specs.Sorted.{Each}
use Rattle.cell_table.specs.History.{Outcome, unused, records_by}
use Rattle.cell_table.specs.declared.view.Book.{Book}
use Rattle.cell_table.specs.declared.view.View.{View}
use Rattle.cell_table.specs.Rule.{lock_of, word_of, Fits, IsAscending, Rule}
use Rattle.cell_table.specs.Legal.{LegalNow}
use Rattle.cell_table.proofs.Sorted.{each_map}
use Rattle.cell_table.specs.Rule.{new_books, first_view, words_of, values_after}
use Rattle.atomic_table.specs.Table.{opening as opened}
use Rattle.std.proofs.Common.{None}
use Rattle.atomic_table.specs.Seated.{TableId}
use Rattle.cell_table.specs.declared.view.Noted.{Noted}
use Rattle.cell_table.specs.declared.view.NotedBook.{NotedBook}
use Rattle.cell_table.specs.declared.entry.HeldCell.{HeldCell}
use Rattle.cell_table.specs.Pass.{new_noted, opened as opened_state}
use Rattle.cell_table.specs.IsPass.{IsPass, PlacesFrom}
use Rattle.cell_table.specs.Seats.{Tied}
use Rattle.cell_table.proofs.Ledgers.{fresh_writers}

abbrev nobody : ℕ → ℕ
nobody k = 0

-- a table without callers would have no draws
start_draws : (D : Type 0) (k n : ℕ) → length (new_books {D = D} k n) ≡ 0 → n * 2 ^ 48 ≡ 0
start_draws D k zero e = refl
start_draws D k (suc n) e = absurd (omega arith)

start_books : (D : Type 0) (k n total : ℕ) → k + n ≤ total → Each (λ (b : Book D). (nobody b.caller ≡ zero) × (b.caller < total) × (b.records ≡ [])) (new_books k n)
start_books D k zero total l = tt
start_books D k (suc n) total l = ((refl, omega arith, refl), start_books D (suc k) n total (omega arith))

start_above : (D : Type 0) (k j n : ℕ) → k < j → Each (λ (b : Book D). k < b.caller) (new_books j n)
start_above D k j zero l = tt
start_above D k j (suc n) l = (l, start_above D k (suc j) n (omega arith))

start_order : (D : Type 0) (k n : ℕ) → IsAscending (new_books {D = D} k n)
start_order D k zero = tt
start_order D k (suc n) = (start_above D k (suc k) n (omega arith), start_order D (suc k) n)

start_lock : (o : List ℕ) (c : ℕ) → get_or (words_of o) (2 * c) 0 ≡ 0
start_lock [] c = refl
start_lock (x ∷ xs) zero = refl
start_lock (x ∷ xs) (suc c) = let e : 2 * suc c ≡ suc (suc (2 * c)) = omega arith in subst (λ (i : ℕ). get_or (0 ∷ x ∷ words_of xs) i 0 ≡ 0) (sym e) (start_lock xs c)

start_word : (o : List ℕ) (c : ℕ) → get_or (words_of o) (suc (2 * c)) 0 ≡ get_or o c 0
start_word [] c = refl
start_word (x ∷ xs) zero = refl
start_word (x ∷ xs) (suc c) = let e : suc (2 * suc c) ≡ suc (suc (suc (2 * c))) = omega arith in subst (λ (i : ℕ). get_or (0 ∷ x ∷ words_of xs) i 0 ≡ get_or xs c 0) (sym e) (start_word xs c)

-- the values among the words at the opening
pub start_values : (o : List ℕ) → values_after (words_of o) ≡ o
start_values [] = refl
start_values (x ∷ xs) = ap (λ (z : List ℕ). x ∷ z) (start_values xs)

pub start_wide : (o : List ℕ) → length (words_of o) ≡ 2 * length o
start_wide [] = refl
start_wide (x ∷ xs) = let i = start_wide xs in omega arith

module _ {M D : Type 0} (lawful : M → List ℕ → Type 0) (explains : M → List (ℕ × ℕ) → List (ℕ × ℕ) → List D → Type 0) (m : M) (opening : List ℕ) (total : ℕ) where
  abbrev V : Type 0
  V = View M D

  abbrev ws : List ℕ
  ws = 0 ∷ words_of opening

  abbrev h : ℕ → Outcome D
  h w = unused

  free_lock : (c : ℕ) → lock_of ws c ≡ 0
  free_lock c = let e : 2 * c + 1 ≡ suc (2 * c) = omega arith in subst (λ (i : ℕ). get_or ws i 0 ≡ 0) (sym e) (start_lock opening c)

  first_word : (c : ℕ) → word_of ws c ≡ get_or opening c 0
  first_word c = let e : 2 * c + 2 ≡ suc (suc (2 * c)) = omega arith in subst (λ (i : ℕ). get_or ws i 0 ≡ get_or opening c 0) (sym e) (start_word opening c)

  start_fits : Fits m opening total nobody h ws 0 (first_view m opening total)
  start_fits = record {
    same = λ _. (refl, refl, refl);
    high = omega arith;
    spent = start_draws D 0 total;
    books = start_books D 0 total total (omega arith);
    order = start_order D 0 total;
    known = omega arith;
    values = tt;
    validations = tt;
    trail = tt;
    locks = tt;
    mine = λ j c o e. let z = free_lock c in absurd (omega arith);
    stage = tt;
    stale = λ j w H o e. absurd (cc);
    reading = tt;
  }

  start_views : (j : ℕ) (v : V) → get_elem? (first_view m opening total ∷ []) j ≡ some v → Fits m opening total nobody h ws j v
  start_views zero v e = let is : first_view m opening total ≡ v = cc in subst (λ (z : V). Fits m opening total nobody h ws 0 z) is start_fits
  start_views (suc j) v e = absurd (cc)

  pub starts : lawful m opening → total ≤ 4096 → Rule lawful explains m opening total (opened ws [] (first_view m opening total))
  starts good few = record {
    owner = nobody;
    placed = λ k. omega arith;
    history = h;
    wide = (let e = start_wide opening in omega arith);
    small = few;
    lawful_opening = good;
    fresh = λ w l. refl;
    cells = λ c l. inl (0, free_lock c, (refl, first_word c));
    barred = λ w k H c e y. absurd (cc);
    records = λ w k r e. absurd (cc);
    callers = λ w k r e. absurd (cc);
    views = start_views;
    budget = omega arith;
  }

pub words_more : (xs : List ℕ) (x : ℕ) → words_of (xs ++ x ∷ []) ≡ (words_of xs ++ 0 ∷ []) ++ x ∷ []
words_more [] x = refl
words_more (y ∷ ys) x = ap (λ (z : List ℕ). 0 ∷ y ∷ z) (words_more ys x)

module _ {M D : Type 0} (lawful : M → List ℕ → Type 0) (explains : M → List (ℕ × ℕ) → List (ℕ × ℕ) → List D → Type 0) where
  -- the same, as the table is told of it
  pub starts_with : (m m' : M) (o o' words : List ℕ) (total : ℕ) → m' ≡ m → o' ≡ o → words ≡ 0 ∷ words_of o → lawful m o → total ≤ 4096 → Rule lawful explains m' o' total (opened words [] (first_view m' o' total))
  starts_with m m' o o' words total em eo ew good few = subst (λ (z : M × List ℕ × List ℕ). Rule lawful explains z.0 z.1 total (opened z.2 [] (first_view z.0 z.1 total))) (λ i. (sym em i, sym eo i, sym ew i)) (starts lawful explains m o total good few)

  first_books_fit : (k n total : ℕ) (h : ℕ → Outcome D) → k + n ≤ total → Each (λ (b : Book D). (b.caller < total) × (b.records ≡ records_by b.caller h 0)) (new_books k n)
  first_books_fit k n total h l = each_map _ _ (λ b x. (x.1, x.2)) (new_books k n) (start_books D k n total l)

  -- the pass of a new table
  legal_first : (m : M) (o : List ℕ) (n : ℕ) → lawful m o → n ≤ 4096 → LegalNow lawful explains (first_view m o n)
  legal_first m o n good low = record {
    meaning = m;
    history = λ w. unused;
    clock = 0;
    is = refl;
    known = omega arith;
    few = low;
    draws = omega arith;
    lawful_opening = good;
    records = λ w k r e. absurd (cc);
    callers = λ w k r e. absurd (cc);
    order = start_order D 0 n;
    books = first_books_fit 0 n n (λ w. unused) (omega arith);
    values = tt;
    validations = tt;
    trail = tt;
  }

  new_some : (k n : ℕ) → 0 < n → 0 < length (new_books {D = D} k n)
  new_some k zero l = absurd (omega arith)
  new_some k (suc n) l = omega arith

  new_each : (P : Noted D → Type 0) (k n : ℕ) → Each (λ b. Each P b.entries) (new_noted k n)
  new_each P k zero = tt
  new_each P k (suc n) = (tt, new_each P (suc k) n)

  new_ascends : (k n : ℕ) → Each (λ (b : NotedBook D). PlacesFrom 0 b.entries) (new_noted k n)
  new_ascends k zero = tt
  new_ascends k (suc n) = (tt, new_ascends (suc k) n)

  opened_at : (m : M) (o : List ℕ) (n : ℕ) (t : TableId) (room reserved places : ℕ) → lawful m o → n ≤ 4096 → 0 < n → IsPass lawful explains (record { view = first_view m o n; table = t; books = new_noted 0 n; seen = 0; room = room; reserved = reserved; places = places; plan = None })
  opened_at m o n t room reserved places good few some_callers = record {
    acting = new_some 0 n some_callers;
    books = fresh_writers 0 n;
    seen = omega arith;
    drawn = λ u e. absurd (cc);
    places = new_each _ 0 n;
    ascending = new_ascends 0 n;
    readers = new_each _ 0 n;
    planned = tt;
    written = tt;
    legal = legal_first m o n good few;
  }

  pub opened_pass : (m : M) (o : List ℕ) (n : ℕ) (w : View M D) (t : TableId) (books : List (NotedBook D)) (room reserved places : ℕ) → lawful m o → n ≤ 4096 → 0 < n → w ≡ first_view m o n → books ≡ new_noted 0 n → IsPass lawful explains (record { view = w; table = t; books = books; seen = 0; room = room; reserved = reserved; places = places; plan = None })
  opened_pass m o n w t books room reserved places good few some_callers is new = subst (λ (z : View M D × List (NotedBook D)). IsPass lawful explains (record { view = z.0; table = t; books = z.1; seen = 0; room = room; reserved = reserved; places = places; plan = None })) (λ i. (sym is i, sym new i)) (opened_at m o n t room reserved places good few some_callers)

module _ {M D : Type 0} where
  pub opened_tied : (m : M) (o : List ℕ) (n : ℕ) (w : View M D) (hs : List HeldCell) → w ≡ first_view m o n → hs ≡ [] → Tied w hs 0 (n * 281474976710656)
  opened_tied m o n w hs is new = subst (λ (z : View M D × List HeldCell). Tied z.0 z.1 0 (n * 281474976710656)) (λ i. (sym is i, sym new i)) (record { draws = refl; held = refl; sorted = tt; flags = tt; drawn = tt; small = omega arith; fits = tt })

  pub opened_of : (id t : TableId) (m : M) (o o' : List ℕ) (n : ℕ) (w : View M D) (books : List (NotedBook D)) (reserved places : ℕ) → w ≡ first_view m o n → o' ≡ o → t ≡ id → books ≡ new_noted 0 n → reserved ≡ 0 → places ≡ 8
      → record { view = w; table = t; books = books; seen = 0; room = n; reserved = reserved; places = places; plan = None } ≡ opened_state (record { id = id; meaning = m; opening = o'; callers = n })
  opened_of id t m o o' n w books reserved places is same at new none_left eight = λ i. record { view = (is ∙ (λ j. first_view m (sym same j) n)) i; table = at i; books = new i; seen = 0; room = n; reserved = none_left i; places = eight i; plan = None }
