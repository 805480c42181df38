-- The stores of a record, one after another.
use Rattle.std.proofs.Common.{◌≡◌, ℕ, zero, suc, ◌+◌, ◌-◌, ◌<◌, ◌≤◌, true, false, List, [], ◌∷◌, ◌++◌, length, slice_get, slice_index_or, Some, None, IsSome, inl, inr, refl, sym, ap, subst, ◌∙◌, arith}
use Rattle.std.proofs.Math.Decide.{ℕ_discrete}
use Rattle.std.proofs.lemmas.Bool.{cases_lt}
use Rattle.std.proofs.lemmas.Bool.Decides.{nat_tests}
use Rattle.cell_table.specs.Cells.{has, writes_to, written, Leaves, IsWrittenOnce}
use Rattle.cell_table.specs.Rule.{cells_of}
use Rattle.cell_table.specs.declared.view.Record.{Record}
use Rattle.cell_table.specs.declared.view.Noted.{Noted}
use Rattle.cell_table.specs.declared.view.NotedBook.{NotedBook}
use Rattle.cell_table.specs.declared.view.View.{View}
use Rattle.cell_table.specs.declared.view.Event.TheVariants.{ValueStored}
use Rattle.cell_table.specs.declared.view.Stage.TheVariants.{Decided}
use Rattle.cell_table.specs.declared.entry.Entry.{Entry}
use Rattle.cell_table.specs.Seats.{noted_all}
use Rattle.cell_table.specs.Steps.{Grows, AllHeld, first_put, next_put, more_stored}
use Rattle.cell_table.specs.IsPass.{writer_books}
use Rattle.cell_table.specs.Pass.{TableState, PassState, IsPassOf, IsHeld, MayPut, after_put, note, trail_of, version_drawn}
use Rattle.attempt_lists.specs.Cells.{Entries, IsAscending, cell_at, word_at, word_of}
use Rattle.tx_core.specs.Causes.{GrewBy}
use Rattle.tx_core.specs.Stored.{Stores, writes_of_last, last_writes}
use Rattle.tx_core.specs.Facts.{grows_trans}
use Rattle.tx_core.proofs.Found.{grew_step}
use Rattle.tx_core.proofs.LateLocks.{word_there}

module _ {D : Type 0} where
  -- the writes of the last one of some entries
  writes_of_entry : (es : List (Entry D)) (e : Entry D) (k : ℕ) → k + 1 ≡ length es → slice_get es k ≡ Some e → writes_of_last (noted_all es) ≡ e.writes.items
  writes_of_entry [] e k at is = absurd (omega (arith, at))
  writes_of_entry (x ∷ []) e zero at is = ap (λ (y : Entry D). y.writes.items) (some is)
    where
      some : Some x ≡ Some e → x ≡ e
      some is = cc
  writes_of_entry (x ∷ []) e (suc k) at is = absurd (omega (arith, at))
  writes_of_entry (x ∷ y ∷ es) e zero at is = absurd (omega (arith, at))
  writes_of_entry (x ∷ y ∷ es) e (suc k) at is = writes_of_entry (y ∷ es) e k (omega (arith, at)) is

  pub last_of_entries : (es : List (Entry D)) (e : Entry D) → slice_get es (length es - 1) ≡ Some e → (bs : List (NotedBook D)) → noted_all es ≡ (slice_index_or bs 0 (record { caller = 0; entries = [] })).entries → last_writes bs ≡ e.writes.items
  last_of_entries [] e is bs noted = absurd (none is)
    where
      none : None ≡ Some e → ⊥
      none is = cc
  last_of_entries (x ∷ es) e is [] noted = absurd (none noted)
    where
      none : noted_all (x ∷ es) ≡ [] → ⊥
      none is = cc
  last_of_entries (x ∷ es) e is (b ∷ bs) noted = ap writes_of_last (sym noted) ∙ writes_of_entry (x ∷ es) e (length (x ∷ es) - 1) (omega arith) is

-- Writes in ascending order of cells
ascending_rest : (e : ℕ × ℕ) (es : Entries) → IsAscending (e ∷ es) → IsAscending es
ascending_rest e es up i j low lt = up (suc i) (suc j) (omega (arith, low)) (omega (arith, lt))

first_below : (e : ℕ × ℕ) (es : Entries) (i : ℕ) → IsAscending (e ∷ es) → i < length es → e.0 < cell_at es i
first_below e es i up lt = up 0 (suc i) (omega arith) (omega (arith, lt))

-- a cell that no entry has is neither written nor changed
absent : (c : ℕ) (es : Entries) → ((i : ℕ) → i < length es → c < cell_at es i) → (writes_to es c ≡ false) × ((x : ℕ) → written x es c ≡ x)
absent c [] up = (refl, λ x. refl)
absent c (e ∷ es) up =
    let rest = absent c es (λ i lt. up (suc i) (omega (arith, lt))) in
    let away : c < e.0 = up 0 (omega arith) in
    (grind (arith, nat_tests, rest.0, away), λ x. grind (arith, nat_tests, rest.1 x, away))

pub written_once : (es : Entries) → IsAscending es → IsWrittenOnce es
written_once [] up = tt
written_once (e ∷ es) up = ((absent e.0 es (λ i lt. first_below e es i up lt)).0, written_once es (ascending_rest e es up))

-- the writes leave in each cell its word
pub leaves_at : (es : Entries) (i : ℕ) → IsAscending es → i < length es → Leaves es (cell_at es i) (word_of es i)
leaves_at [] i up lt = absurd (omega arith)
leaves_at (e ∷ es) zero up lt =
    let rest = absent e.0 es (λ i lt. first_below e es i up lt) in
    (grind (arith, nat_tests), λ y. grind (arith, nat_tests, rest.1 e.1))
leaves_at (e ∷ es) (suc i) up lt =
    let rest = leaves_at es i (ascending_rest e es up) (omega (arith, lt)) in
    let below : e.0 < cell_at es i = first_below e es i up (omega (arith, lt)) in
    (grind (arith, nat_tests, rest.0), λ y. grind (arith, nat_tests, below, rest.1 y))

-- each cell that is written stands at a place
pub write_place : (es : Entries) (c : ℕ) → writes_to es c ≡ true → (i : ℕ) × (i < length es) × (cell_at es i ≡ c)
write_place [] c h = absurd (no h)
  where
    no : false ≡ true → ⊥
    no e = cc
write_place (e ∷ es) c h = elim (ℕ_discrete e.0 c) [
  | yes here ↦ (0, omega arith, here)
  | no away ↦ let rest = write_place es c (grind (arith, nat_tests, h, away)) in (suc rest.0, omega (arith, rest.1), rest.2)
]

-- The first n values of the record are stored
pub record IsStoring {M D : Type 0} (table : TableState M) (start : PassState M D) (r : Record D) (n : ℕ) (p : PassState M D) : Type 0 where
  pub of : IsPassOf table p
  pub cells : List ℕ
  pub decided : p.view.stage ≡ Decided (version_drawn start.view.stage) r cells
  pub covered : (i : ℕ) → i < n → has (cell_at r.writes i) cells ≡ true
  pub plan : p.plan ≡ None
  pub books : p.books ≡ note (version_drawn start.view.stage) true r start.books
  pub seen : p.seen ≡ version_drawn start.view.stage
  pub grows : Grows start.view p.view
  pub known : p.view.known ≡ start.view.known
  pub draws : p.view.draws ≡ start.view.draws
  pub held : p.view.held ≡ start.view.held
  pub room : p.room ≡ start.room
  pub grew : GrewBy n (trail_of start) (trail_of p)

module _ {M D : Type 0} (table : TableState M) (start : PassState M D) (r : Record D) where
  -- the first store
  pub storing_begins : (p q : PassState M D) (c x : ℕ) → p ≡ record start { plan = Some r } → q ≡ after_put p c x p.plan → IsPassOf table q → trail_of q ≡ trail_of p ++ ValueStored c x ∷ [] → c ≡ cell_at r.writes 0 → IsStoring table start r 1 q
  storing_begins p q c x planned put of step first =
      let after : q ≡ after_put start c x (Some r) = put ∙ ap (λ (s : PassState M D). after_put s c x s.plan) planned in
      let view : q.view ≡ first_put start.view (version_drawn start.view.stage) r c x = ap (λ (s : PassState M D). s.view) after in
      record {
        of = of;
        cells = c ∷ [];
        decided = ap (λ (v : View M D). v.stage) view;
        covered = λ i lt. let at : i ≡ 0 = omega (arith, lt) in rw (at, ← first) (grind (arith, nat_tests));
        plan = ap (λ (s : PassState M D). s.plan) after;
        books = ap (λ (s : PassState M D). s.books) after;
        seen = ap (λ (s : PassState M D). s.seen) after;
        grows = rw view (record { meaning = refl; opening = refl; total = refl; known = omega arith; values = λ t h. h; validations = λ t h. h });
        known = ap (λ (v : View M D). v.known) view;
        draws = ap (λ (v : View M D). v.draws) view;
        held = ap (λ (v : View M D). v.held) view;
        room = ap (λ (s : PassState M D). s.room) after;
        grew = (ValueStored c x ∷ [], step ∙ ap (λ (s : PassState M D). trail_of s ++ ValueStored c x ∷ []) planned, omega arith);
      }

  pub storing_may_begin : (p : PassState M D) (c x : ℕ) → p ≡ record start { plan = Some r } → IsAscending r.writes → 0 < length r.writes → c ≡ cell_at r.writes 0 → x ≡ word_of r.writes 0 → AllHeld r.writes start.view.held → MayPut p c x p.plan
  storing_may_begin p c x planned up some cell word held =
      let view : p.view ≡ start.view = ap (λ (s : PassState M D). s.view) planned in
      rw (ap (λ (s : PassState M D). s.plan) planned, view, cell, word) (leaves_at r.writes 0 up some, held)

  -- the next one may be made
  pub storing_may : (n c x : ℕ) (p : PassState M D) → IsStoring table start r n p → IsAscending r.writes → n < length r.writes → c ≡ cell_at r.writes n → x ≡ word_of r.writes n → AllHeld r.writes start.view.held → MayPut p c x p.plan × IsHeld p c
  storing_may n c x p s up lt cell word held =
      let leaves = leaves_at r.writes n up lt in
      let mine : has c (cells_of p.view.held) ≡ true = rw (s.held, cell) (held (cell_at r.writes n) leaves.0) in
      (rw (s.plan, s.decided) (mine, rw (cell, word) leaves), mine)

  -- and is made
  pub storing_step : (n c x : ℕ) (p q : PassState M D) → IsStoring table start r n p → q ≡ after_put p c x p.plan → IsPassOf table q → trail_of q ≡ trail_of p ++ ValueStored c x ∷ [] → c ≡ cell_at r.writes n → IsStoring table start r (n + 1) q
  storing_step n c x p q s put of step cell =
      let after : q ≡ after_put p c x None = put ∙ ap (λ o. after_put p c x o) s.plan in
      let view : q.view ≡ next_put p.view c x = ap (λ (s : PassState M D). s.view) after in
      record {
        of = of;
        cells = c ∷ s.cells;
        decided = ap (λ (v : View M D). v.stage) view ∙ ap (more_stored c) s.decided;
        covered = λ i lt. elim (cases_lt i n) [
          | inl before ↦ grind (arith, nat_tests, s.covered i before)
          | inr at ↦ let same : i ≡ n = omega (arith, lt, at) in rw (same, ← cell) (grind (arith, nat_tests))
        ];
        plan = ap (λ (s : PassState M D). s.plan) after ∙ s.plan;
        books = ap (λ (s : PassState M D). s.books) after ∙ s.books;
        seen = ap (λ (s : PassState M D). s.seen) after ∙ s.seen;
        grows = grows_trans start.view p.view q.view s.grows (rw view (record { meaning = refl; opening = refl; total = refl; known = omega arith; values = λ t h. h; validations = λ t h. h }));
        known = ap (λ (v : View M D). v.known) view ∙ s.known;
        draws = ap (λ (v : View M D). v.draws) view ∙ s.draws;
        held = ap (λ (v : View M D). v.held) view ∙ s.held;
        room = ap (λ (s : PassState M D). s.room) after ∙ s.room;
        grew = grew_step n _ _ _ _ s.grew step;
      }

  -- at the end all values are stored
  pub storing_ends : (n : ℕ) (p : PassState M D) → IsStoring table start r n p → length r.writes ≤ n → Stores start p r
  storing_ends n p s all = record {
    stored = rw s.decided (λ d h. let at = write_place r.writes d h in subst (λ c. has c s.cells ≡ true) at.2 (s.covered at.0 (omega (arith, at.1, all))));
    books = s.books;
    seen = s.seen;
    grows = s.grows;
    known = s.known;
    draws = s.draws;
    held = s.held;
    room = s.room;
  }

module _ {D : Type 0} where
  last_noted : (es : List (Noted D)) (e : Noted D) → writes_of_last (es ++ e ∷ []) ≡ e.content.writes
  last_noted [] e = refl
  last_noted (x ∷ []) e = refl
  last_noted (x ∷ y ∷ es) e = last_noted (y ∷ es) e

  -- the newest record of books with a record noted in them
  pub last_note : (place : ℕ) (r : Record D) (bs : List (NotedBook D)) → 0 < length (writer_books bs) → last_writes (note place true r bs) ≡ r.writes
  last_note place r [] some = absurd (omega (arith, some))
  last_note place r (b ∷ bs) some = last_noted b.entries _

-- a cell that is written has a word
pub writes_some : (es : Entries) (c : ℕ) → writes_to es c ≡ true → IsSome (word_at es c)
writes_some es c h = let at = write_place es c h in subst (λ d. IsSome (word_at es d)) at.2 (word_there es at.0 at.1)
