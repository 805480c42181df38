-- What a split and a join make of passes.
use Rattle.std.proofs.Common.{◌≡◌, ℕ, zero, suc, ◌+◌, ◌-◌, ◌*◌, ◌/◌, ◌<◌, ◌≤◌, List, [], ◌∷◌, ◌++◌, length, take, drop, max, sym, refl, ap, ◌∙◌, subst, arith, Some, None, mul-le-mul_right, div-add-mod', mul_comm, reverse}
use mathlib.Core.List.{reverse-cons, reverse-append, append_assoc}
use Rattle.atomic_table.specs.Seated.{TableId}
use Rattle.cell_table.specs.Sorted.{Each, merge_by}
use Rattle.cell_table.specs.declared.view.NotedBook.{NotedBook}
use Rattle.cell_table.specs.declared.view.View.{View}
use Rattle.cell_table.specs.declared.view.Stage.TheVariants.{Open, Drawn}
use Rattle.cell_table.specs.declared.view.Event.TheVariants.{ClockLoaded, SeatMoved}
use Rattle.cell_table.specs.declared.entry.HeldCell.{HeldCell}
use Rattle.cell_table.specs.Steps.{caller_key, first_books, last_books, kept_part, new_part, both_parts, clocked, Grows, IsIdle}
use Rattle.cell_table.specs.Legal.{LegalNow}
use Rattle.cell_table.specs.Pass.{PassState, TableState, IsPassOf, book_key, share, split_kept, split_new, joined}
use Rattle.cell_table.specs.IsPass.{IsPass, IsPlanned}
use Rattle.cell_table.specs.declared.entry.Ledger.{Ledger}
use Rattle.cell_table.specs.Seats.{Tied, reserved_in}
use Rattle.cell_table.proofs.Sorted.{each_map, each_merge, among_left, among_right}
use Rattle.cell_table.proofs.SeatMove.{first_each, last_each, first_order, last_order, first_some, last_some}
use Rattle.cell_table.proofs.Ledgers.{writer_take, writer_drop, writer_merge, merge_length}
use Rattle.cell_table.proofs.Passes.{readers_on, grows_clocked}
use Rattle.cell_table.proofs.Attempts.{no_plan}

module _ {A : Type 0} where
  each_take : (P : A → Type 0) (n : ℕ) (xs : List A) → Each P xs → Each P (take n xs)
  each_take P zero xs e = tt
  each_take P (suc n) [] e = tt
  each_take P (suc n) (x ∷ xs) e = (e.0, each_take P n xs e.1)

  each_drop : (P : A → Type 0) (n : ℕ) (xs : List A) → Each P xs → Each P (drop n xs)
  each_drop P zero xs e = e
  each_drop P (suc n) [] e = tt
  each_drop P (suc n) (x ∷ xs) e = each_drop P n xs e.1

pub share_fits : (n total d : ℕ) → n ≤ total → 0 < total → n * (d / total) ≤ d
share_fits n total d l pos = let a : n * (d / total) ≤ total * (d / total) = mul-le-mul_right (d / total) l in let b = div-add-mod' d total in let c : total * (d / total) ≡ d / total * total = mul_comm total (d / total) in omega arith

module _ {M D : Type 0} where
  pub grows_kept : (n d : ℕ) (v : View M D) → Grows v (kept_part n d v)
  grows_kept n d v = record { meaning = refl; opening = refl; total = refl; known = omega arith; values = λ t a. a; validations = λ t a. a }

  pub grows_new : (n d : ℕ) (v : View M D) → Grows v (new_part n d v)
  grows_new n d v = record { meaning = refl; opening = refl; total = refl; known = omega arith; values = λ t a. a; validations = λ t a. a }

  pub grows_left : (v w : View M D) (r : ℕ) → max v.known w.known ≤ r → Grows v (clocked (both_parts v w) r)
  grows_left v w r l = let b : View M D = both_parts v w in let g : Grows b (clocked b r) = grows_clocked b r l in record {
    meaning = refl;
    opening = refl;
    total = refl;
    known = omega arith;
    values = λ t a. among_left t v.values w.values a;
    validations = λ t a. g.validations t (among_left t v.validations w.validations a);
  }

  pub grows_right : (v w : View M D) (r : ℕ) → max v.known w.known ≤ r → v.meaning ≡ w.meaning → v.opening ≡ w.opening → v.total ≡ w.total → Grows w (clocked (both_parts v w) r)
  grows_right v w r l m o t = let b : View M D = both_parts v w in let g : Grows b (clocked b r) = grows_clocked b r l in record {
    meaning = m;
    opening = o;
    total = t;
    known = omega arith;
    values = λ t a. among_right t v.values w.values a;
    validations = λ t a. g.validations t (among_right t v.validations w.validations a);
  }

module _ {M D : Type 0} (lawful : M → List ℕ → Type 0) (explains : M → List (ℕ × ℕ) → List (ℕ × ℕ) → List D → Type 0) where
  legal_kept : (n d : ℕ) (v : View M D) → LegalNow lawful explains v → LegalNow lawful explains (kept_part n d v)
  legal_kept n d v k = record {
    meaning = k.meaning;
    history = k.history;
    clock = k.clock;
    is = k.is;
    known = k.known;
    few = k.few;
    draws = (let a = k.draws in omega arith);
    lawful_opening = k.lawful_opening;
    records = k.records;
    callers = k.callers;
    order = first_order n v.books k.order;
    books = first_each _ n v.books k.books;
    values = k.values;
    validations = k.validations;
    trail = (tt, k.trail);
  }

  legal_new : (n d : ℕ) (v : View M D) → d ≤ v.draws → LegalNow lawful explains v → LegalNow lawful explains (new_part n d v)
  legal_new n d v enough k = record {
    meaning = k.meaning;
    history = k.history;
    clock = k.clock;
    is = k.is;
    known = k.known;
    few = k.few;
    draws = (let a = k.draws in omega arith);
    lawful_opening = k.lawful_opening;
    records = k.records;
    callers = k.callers;
    order = last_order n v.books k.order;
    books = last_each _ n v.books k.books;
    values = k.values;
    validations = k.validations;
    trail = (tt, k.trail);
  }

  kept_at : (p : PassState M D) (t : TableId) (n d reserved : ℕ) → IsPass lawful explains p → p.view.stage ≡ Open → 0 < n → n < length p.view.books → IsPass lawful explains (record p { view = kept_part n d p.view; table = t; books = take n p.books; reserved = reserved })
  kept_at p t n d reserved f st low high = let g : Grows p.view (kept_part n d p.view) = grows_kept n d p.view in record {
    acting = first_some n p.view.books low high;
    books = writer_take n p.books ∙ ap (first_books n) f.books;
    seen = f.seen;
    drawn = λ u e. let bad : Open ≡ Drawn u = sym st ∙ e in absurd (cc);
    places = each_take _ n p.books f.places;
    ascending = each_take _ n p.books f.ascending;
    readers = each_take _ n p.books (readers_on explains p.view (kept_part n d p.view) g p.books f.readers);
    planned = subst (IsPlanned explains (record p { view = kept_part n d p.view; table = t; books = take n p.books; reserved = reserved })) (sym (no_plan lawful explains p f st)) tt;
    written = f.written;
    legal = legal_kept n d p.view f.legal;
  }

  new_at : (p : PassState M D) (t : TableId) (n d room reserved places : ℕ) → IsPass lawful explains p → d ≤ p.view.draws → n < length p.view.books → IsPass lawful explains (record { view = new_part n d p.view; table = t; books = drop n p.books; seen = p.seen; room = room; reserved = reserved; places = places; plan = None })
  new_at p t n d room reserved places f enough high = let g : Grows p.view (new_part n d p.view) = grows_new n d p.view in record {
    acting = last_some n p.view.books high;
    books = writer_drop n p.books ∙ ap (last_books n) f.books;
    seen = f.seen;
    drawn = λ u e. absurd (cc);
    places = each_drop _ n p.books f.places;
    ascending = each_drop _ n p.books f.ascending;
    readers = each_drop _ n p.books (readers_on explains p.view (new_part n d p.view) g p.books f.readers);
    planned = tt;
    written = tt;
    legal = legal_new n d p.view enough f.legal;
  }

  pub kept_pass : (p : PassState M D) (w : View M D) (t : TableId) (n d reserved : ℕ) (books : List (NotedBook D)) → IsPass lawful explains p → p.view.stage ≡ Open → 0 < n → n < length p.view.books → w ≡ kept_part n d p.view → books ≡ take n p.books → IsPass lawful explains (record p { view = w; table = t; books = books; reserved = reserved })
  kept_pass p w t n d reserved books f st low high is new = subst (λ (z : View M D × List (NotedBook D)). IsPass lawful explains (record p { view = z.0; table = t; books = z.1; reserved = reserved })) (λ i. (sym is i, sym new i)) (kept_at p t n d reserved f st low high)

  pub new_pass : (p : PassState M D) (w : View M D) (t : TableId) (n d room reserved places : ℕ) (books : List (NotedBook D)) → IsPass lawful explains p → d ≤ p.view.draws → n < length p.view.books → w ≡ new_part n d p.view → books ≡ drop n p.books → IsPass lawful explains (record { view = w; table = t; books = books; seen = p.seen; room = room; reserved = reserved; places = places; plan = None })
  new_pass p w t n d room reserved places books f enough high is new = subst (λ (z : View M D × List (NotedBook D)). IsPass lawful explains (record { view = z.0; table = t; books = z.1; seen = p.seen; room = room; reserved = reserved; places = places; plan = None })) (λ i. (sym is i, sym new i)) (new_at p t n d room reserved places f enough high)

  -- both passes in one
  abbrev whole : PassState M D → PassState M D → ℕ → View M D
  whole p q r = clocked (both_parts p.view q.view) r

  whole_at : (p q : PassState M D) (t : TableId) (r reserved : ℕ) → IsPass lawful explains p → IsPass lawful explains q → IsIdle p.view → max p.view.known q.view.known ≤ r → p.view.meaning ≡ q.view.meaning → p.view.opening ≡ q.view.opening → p.view.total ≡ q.view.total → LegalNow lawful explains (whole p q r)
      → IsPass lawful explains (record p { view = whole p q r; table = t; books = merge_by book_key q.books p.books; seen = max p.seen q.seen; reserved = reserved })
  whole_at p q t r reserved f g idle l m o tot legal = record {
    acting = (let a = merge_length caller_key q.view.books p.view.books in let b = f.acting in omega arith);
    books = writer_merge q.books p.books ∙ (λ i. merge_by caller_key (g.books i) (f.books i));
    seen = (let a = f.seen in let b = g.seen in omega arith);
    drawn = λ u e. let bad : Open ≡ Drawn u = sym idle.0 ∙ e in absurd (cc);
    places = each_merge book_key _ q.books p.books (each_map _ _ (λ b h. each_map _ _ (λ e n. omega arith) b.entries h) q.books g.places) (each_map _ _ (λ b h. each_map _ _ (λ e n. omega arith) b.entries h) p.books f.places);
    ascending = each_merge book_key _ q.books p.books g.ascending f.ascending;
    readers = each_merge book_key _ q.books p.books (readers_on explains q.view (whole p q r) (grows_right p.view q.view r l m o tot) q.books g.readers) (readers_on explains p.view (whole p q r) (grows_left p.view q.view r l) p.books f.readers);
    planned = subst (IsPlanned explains (record p { view = whole p q r; table = t; books = merge_by book_key q.books p.books; seen = max p.seen q.seen; reserved = reserved })) (sym (no_plan lawful explains p f idle.0)) tt;
    written = f.written;
    legal = legal;
  }

  pub whole_pass : (p q : PassState M D) (w : View M D) (t : TableId) (r seen reserved : ℕ) (books : List (NotedBook D)) → IsPass lawful explains p → IsPass lawful explains q → IsIdle p.view → max p.view.known q.view.known ≤ r → p.view.meaning ≡ q.view.meaning → p.view.opening ≡ q.view.opening → p.view.total ≡ q.view.total
      → w ≡ whole p q r → books ≡ merge_by book_key q.books p.books → seen ≡ max p.seen q.seen → LegalNow lawful explains w → IsPass lawful explains (record p { view = w; table = t; books = books; seen = seen; reserved = reserved })
  whole_pass p q w t r seen reserved books f g idle l m o tot is new most legal = subst (λ (z : View M D × List (NotedBook D) × ℕ). IsPass lawful explains (record p { view = z.0; table = t; books = z.1; seen = z.2; reserved = reserved })) (λ i. (sym is i, sym new i, sym most i))
      (whole_at p q t r reserved f g idle l m o tot (subst (LegalNow lawful explains) is legal))

module _ {M D : Type 0} where
  pub kept_tied : (v w : View M D) (hs : List HeldCell) (d n k x : ℕ) → Tied v hs d n → w ≡ kept_part k x v → Tied w hs d (n - x)
  kept_tied v w hs d n k x f is = subst (λ (z : View M D). Tied z hs d (n - x)) (sym is) (record { draws = ap (λ (z : ℕ). z - x) f.draws; held = f.held; sorted = f.sorted; flags = f.flags; drawn = f.drawn; small = f.small; fits = f.fits })

  pub new_tied : (v w : View M D) (hs : List HeldCell) (k x : ℕ) → w ≡ new_part k x v → hs ≡ [] → Tied w hs 0 x
  new_tied v w hs k x is none_held = subst (λ (z : View M D × List HeldCell). Tied z.0 z.1 0 x) (λ i. (sym is i, sym none_held i)) (record { draws = refl; held = refl; sorted = tt; flags = tt; drawn = tt; small = omega arith; fits = tt })

  pub whole_tied : (v u w : View M D) (hs hs' : List HeldCell) (d d' n n' r : ℕ) → Tied v hs d n → Tied u hs' d' n' → w ≡ clocked (both_parts v u) r → Tied w hs d (n + n')
  whole_tied v u w hs hs' d d' n n' r f g is = subst (λ (z : View M D). Tied z hs d (n + n')) (sym is) (record { draws = (λ i. f.draws i + g.draws i); held = f.held; sorted = f.sorted; flags = f.flags; drawn = f.drawn; small = f.small; fits = f.fits })

  -- the passes that contracts name
  pub kept_of : (p q : PassState M D) (w : View M D) (t : TableId) (k n d reserved : ℕ) (books : List (NotedBook D)) → p ≡ q → t ≡ p.table → w ≡ kept_part k d p.view → books ≡ take k p.books → k ≡ length p.books - n → d ≡ share p n → reserved ≡ p.reserved
      → record p { view = w; table = t; books = books; reserved = reserved } ≡ split_kept q n
  kept_of p q w t k n d reserved books e same is new at part room = (λ i. record p { view = (is ∙ (λ j. kept_part (at j) (part j) p.view)) i; table = same i; books = (new ∙ (λ j. take (at j) p.books)) i; reserved = room i }) ∙ ap (λ (z : PassState M D). split_kept z n) e

  pub new_of : (p q : PassState M D) (w : View M D) (t : TableId) (k n d reserved places : ℕ) (books : List (NotedBook D)) → p ≡ q → t ≡ p.table → w ≡ new_part k d p.view → books ≡ drop k p.books → k ≡ length p.books - n → d ≡ share p n → places ≡ 8
      → record { view = w; table = t; books = books; seen = p.seen; room = n; reserved = reserved; places = places; plan = None } ≡ split_new q n reserved
  new_of p q w t k n d reserved places books e same is new at part eight = (λ i. record { view = (is ∙ (λ j. new_part (at j) (part j) p.view)) i; table = same i; books = (new ∙ (λ j. drop (at j) p.books)) i; seen = p.seen; room = n; reserved = reserved; places = eight i; plan = None }) ∙ ap (λ (z : PassState M D). split_new z n reserved) e

  pub joined_of : (p p' q q' : PassState M D) (w : View M D) (t : TableId) (r seen reserved : ℕ) (books : List (NotedBook D)) → p ≡ p' → q ≡ q' → t ≡ p.table → w ≡ clocked (both_parts p.view q.view) r → books ≡ merge_by book_key q.books p.books → seen ≡ max p.seen q.seen
      → record p { view = w; table = t; books = books; seen = seen; reserved = reserved } ≡ joined p' q' r reserved
  joined_of p p' q q' w t r seen reserved books e f same is new most = (λ i. record p { view = is i; table = same i; books = new i; seen = most i; reserved = reserved }) ∙ (λ i. joined (e i) (f i) r reserved)

  pub joined_trail : (p p' q q' : PassState M D) (w : View M D) (r : ℕ) → p ≡ p' → q ≡ q' → w ≡ clocked (both_parts p.view q.view) r → reverse w.trail ≡ reverse p'.view.trail ++ reverse q'.view.trail ++ SeatMoved ∷ ClockLoaded r ∷ []
  joined_trail p p' q q' w r e f is = ap (λ (z : View M D). reverse z.trail) is ∙ (reverse-cons (ClockLoaded r) (SeatMoved ∷ (q.view.trail ++ p.view.trail)) ∙ (ap (λ (z : _). z ++ ClockLoaded r ∷ []) (reverse-cons SeatMoved (q.view.trail ++ p.view.trail) ∙ ap (λ (z : _). z ++ SeatMoved ∷ []) (reverse-append q.view.trail p.view.trail))
      ∙ (append_assoc (reverse p.view.trail ++ reverse q.view.trail) (SeatMoved ∷ []) (ClockLoaded r ∷ []) ∙ (λ i. reverse (e i).view.trail ++ reverse (f i).view.trail ++ SeatMoved ∷ ClockLoaded r ∷ []))))

  pub new_belongs : (t : TableState M) (p q : PassState M D) (w : View M D) (id : TableId) (k d : ℕ) → p ≡ q → w ≡ new_part k d p.view → id ≡ p.table → IsPassOf t q → (id ≡ t.id) × (w.meaning ≡ Some t.meaning) × (w.opening ≡ t.opening) × (w.total ≡ t.callers)
  new_belongs t p q w id k d e is at of = let was : IsPassOf t p = subst (IsPassOf t) (sym e) of in (at ∙ was.0, ap (λ (z : View M D). z.meaning) is ∙ was.1, ap (λ (z : View M D). z.opening) is ∙ was.2, ap (λ (z : View M D). z.total) is ∙ was.3)

  pub idle_was : (p q : PassState M D) → p ≡ q → IsIdle q.view → IsIdle p.view
  idle_was p q e f = subst (λ (z : PassState M D). IsIdle z.view) (sym e) f

  -- two passes of one table
  pub same_meaning : (t : TableState M) (p p' q q' : PassState M D) → p ≡ p' → q ≡ q' → IsPassOf t p' → IsPassOf t q' → (p.view.meaning ≡ q.view.meaning) × (p.view.opening ≡ q.view.opening) × (p.view.total ≡ q.view.total)
  same_meaning t p p' q q' e f a b = let x : IsPassOf t p = subst (IsPassOf t) (sym e) a in let y : IsPassOf t q = subst (IsPassOf t) (sym f) b in (x.1 ∙ sym y.1, x.2 ∙ sym y.2, x.3 ∙ sym y.3)

module _ {D : Type 0} where
  pub kept_reserved : (k : ℕ) (ls ls' : List (Ledger D)) → 0 < k → ls' ≡ take k ls → reserved_in ls' ≡ reserved_in ls
  kept_reserved zero ls ls' l e = absurd (omega arith)
  kept_reserved (suc k) [] ls' l e = ap reserved_in e
  kept_reserved (suc k) (x ∷ xs) ls' l e = ap reserved_in e

pub split_share : (n draws draws' len len' : ℕ) → draws ≡ draws' → len ≡ len' → n * (draws / len) ≡ n * (draws' / len')
split_share n draws draws' len len' e f = λ i. n * (e i / f i)

module _ {M D : Type 0} where
  pub both_some : (v u w : View M D) → w ≡ both_parts v u → 0 < length v.books → 0 < length w.books
  both_some v u w is l = subst (λ (z : View M D). 0 < length z.books) (sym is) (let a = merge_length caller_key u.books v.books in omega arith)

  pub rejoined : (v u w x : View M D) (r : ℕ) → w ≡ both_parts v u → x ≡ clocked w r → w.known ≤ r → (x ≡ clocked (both_parts v u) r) × (v.known ≤ r) × (u.known ≤ r)
  rejoined v u w x r is f l = let k = ap (λ (z : View M D). z.known) is in (f ∙ ap (λ (z : View M D). clocked z r) is, omega arith, omega arith)
