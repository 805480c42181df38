-- What the steps of an attempt make of a pass.
use Rattle.std.proofs.Common.{◌≡◌, ◌≢◌, ℕ, ◌+◌, ◌-◌, ◌*◌, ◌^◌, ◌<◌, ◌≤◌, Bool, true, false, cond, List, [], ◌∷◌, ◌++◌, length, inl, inr, ⊎_elim, sym, refl, ap, ◌∙◌, subst, arith, eq-eqb, ne_eqb, Some, None, Option, is_some, reverse, ◌==◌}
use mathlib.Core.Logic.{dite}
use mathlib.Core.List.{reverse-cons}
use native.Mathlib.Decide.{ℕ_discrete}
use Rattle.atomic_table.specs.Seated.{TableId}
use Rattle.cell_table.specs.Sorted.{Each, Among, insert_by, IsAscendingBy}
use Rattle.cell_table.specs.Cells.{writes_to, has, Leaves}
use Rattle.cell_table.specs.declared.view.Record.{Record}
use Rattle.cell_table.specs.declared.view.Book.{Book}
use Rattle.cell_table.specs.declared.view.Noted.{Noted}
use Rattle.cell_table.specs.declared.view.NotedBook.{NotedBook}
use Rattle.cell_table.specs.declared.view.View.{View}
use Rattle.cell_table.specs.declared.view.Stage.{Stage}
use Rattle.cell_table.specs.declared.view.Stage.TheVariants.{Open, Drawn, Decided}
use Rattle.cell_table.specs.declared.view.OpenRead.{OpenRead}
use Rattle.cell_table.specs.declared.view.Event.TheVariants.{LockStored, ValueStored}
use Rattle.cell_table.specs.declared.view.OpenRead.TheVariants.{NoRead, LockRead, ValueRead}
use Rattle.cell_table.specs.declared.entry.HeldCell.{HeldCell}
use Rattle.cell_table.specs.Rule.{cells_of, without}
use Rattle.cell_table.specs.Steps.{Triples, cell_key, add_kept, add_held, next_read, valued, taken, drawn, first_put, next_put, given, enter, after_release, more_stored, due, kept_in, Observes, Reads, Grows, MayDecide, MayStore, IsUndecided, IsStoredOrUndecided, AllHeld, IsIdle}
use Rattle.cell_table.specs.Legal.{LegalNow}
use Rattle.cell_table.specs.Pass.{PassState, note, plan_after, after_give, after_put, after_entry, version_drawn, MayPut}
use Rattle.cell_table.specs.IsPass.{IsPass, IsReader, IsPlanned, AreWritten, PlacesFrom, writer_books, writers_after}
use Rattle.cell_table.specs.declared.entry.Plan.{Plan}
use Rattle.cell_table.specs.declared.entry.Entry.{Entry}
use Rattle.cell_table.specs.Seats.{Tied, noted_of, plan_of, record_of, FitsFlags, FitsDrawn, is_stored, held_key, pairs_of, mark, without_held, flag_in}
use Rattle.cell_table.proofs.Histories.{bool_cases}
use Rattle.cell_table.proofs.Sorted.{each_map, each_insert, insert_ascends, each_append}
use Rattle.cell_table.proofs.ValueStore.{enter_some}
use Rattle.cell_table.proofs.HeldList.{pairs_insert, pairs_without, pairs_mark, sorted_without, sorted_mark, each_without_held, not_among, first_marked, next_marked, flag_is}
use Rattle.cell_table.proofs.Passes.{readers_on, may_decide_on, grows_drawn, grows_first_put, grows_next_put, grows_given}

-- A load of a value

kept_added : (c u x : ℕ) (held : List (ℕ × ℕ)) (vs : Triples) → Among (c, u) held → Among (c, u, x) (add_kept held c x vs)
kept_added c u x [] vs a = absurd a
kept_added c u x (t ∷ ts) vs a = let P : Bool → Type 0 = λ b. Among (c, u, x) (cond b ((t.0, t.1, x) ∷ add_kept ts c x vs) (add_kept ts c x vs)) in dite (ℕ_discrete t.0 c)
    (λ e. subst P (sym (eq-eqb t.0 c e)) (⊎_elim (λ is. inl (λ i. ((is i).0, (is i).1, x))) (λ l. inr (kept_added c u x ts vs l)) a))
    (λ n. subst P (sym (ne_eqb t.0 c n)) (⊎_elim (λ is. absurd (n (ap (λ (z : ℕ × ℕ). z.0) is))) (λ l. kept_added c u x ts vs l) a))

held_added : {D : Type 0} (st : Stage D) (c u x : ℕ) (held : List (ℕ × ℕ)) (vs : Triples) → IsUndecided st → Among (c, u) held → Among (c, u, x) (add_held st held c x vs)
held_added Open c u x held vs f a = kept_added c u x held vs a
held_added (Drawn w) c u x held vs f a = kept_added c u x held vs a
held_added (Decided w r stored) c u x held vs f a = absurd f

module _ {M D : Type 0} where
  pub valued_second : (p q : PassState M D) (w : View M D) (c u x : ℕ) → p ≡ q → w ≡ valued p.view c x → q.view.reading ≡ LockRead c u → w.reading ≡ ValueRead c u x
  valued_second p q w c u x e f st = ap (λ (z : View M D). z.reading) f ∙ (ap (λ (l : OpenRead). next_read l c x) (ap (λ (z : PassState M D). z.view.reading) e ∙ st) ∙ ap (λ (b : Bool). cond b (ValueRead c u x) NoRead) (eq-eqb c c refl))

  pub valued_held : (p q : PassState M D) (w : View M D) (c u x : ℕ) → p ≡ q → w ≡ valued p.view c x → Among (c, u) q.view.held → IsUndecided q.view.stage → Reads w c u x
  valued_held p q w c u x e f = subst (λ (z : PassState M D). Among (c, u) z.view.held → IsUndecided z.view.stage → Reads w c u x) e (λ a st. subst (λ (z : View M D). Reads z c u x) (sym f) (held_added p.view.stage c u x p.view.held p.view.values st a))

-- A draw

module _ {M D : Type 0} (lawful : M → List ℕ → Type 0) (explains : M → List (ℕ × ℕ) → List (ℕ × ℕ) → List D → Type 0) where
  unplanned : (p : PassState M D) (plan : Option (Record D)) → IsPlanned explains p plan → p.view.stage ≡ Open → plan ≡ None
  unplanned p None f st = refl
  unplanned p (Some r) f st = let bad : Open ≡ Drawn f.0 = sym st ∙ f.1 in absurd (cc)

  -- no plan is made where the attempt has drawn nothing
  pub no_plan : (p : PassState M D) → IsPass lawful explains p → p.view.stage ≡ Open → p.plan ≡ None
  no_plan p f st = unplanned p p.plan f.planned st

  pub drawn_pass : (p : PassState M D) (w : View M D) (t : TableId) (u : ℕ) → IsPass lawful explains p → p.view.stage ≡ Open → p.view.known < u → w ≡ drawn p.view u → LegalNow lawful explains w → IsPass lawful explains (record p { view = w; table = t })
  drawn_pass p w t u f st low is legal = let g : Grows p.view w = subst (λ (z : View M D). Grows p.view z) (sym is) (grows_drawn p.view u (omega arith)) in let books : w.books ≡ p.view.books = ap (λ (z : View M D). z.books) is in record {
    acting = subst (λ (z : List (Book D)). 0 < length z) (sym books) f.acting;
    books = f.books ∙ sym books;
    seen = (let a = f.seen in let b = g.known in omega arith);
    drawn = λ z e. let same : Drawn u ≡ Drawn z = sym (ap (λ (y : View M D). y.stage) is) ∙ e in let eq : u ≡ z = cc in let a = f.seen in let k = ap (λ (y : View M D). y.known) is in (omega arith, omega arith);
    places = f.places;
    ascending = f.ascending;
    readers = readers_on explains p.view w g p.books f.readers;
    planned = subst (IsPlanned explains (record p { view = w; table = t })) (sym (no_plan p f st)) tt;
    written = subst AreWritten (sym (ap (λ (z : View M D). z.stage) is)) tt;
    legal = legal;
  }

-- A cell is given back

stored_written : (P : ℕ → Type 0) (c : ℕ) (cs : List ℕ) → has c cs ≡ true → Each P cs → P c
stored_written P c [] h e = absurd (cc)
stored_written P c (d ∷ ds) h e = dite (ℕ_discrete d c) (λ is. subst P is e.0) (λ n. stored_written P c ds (sym (ap (λ (b : Bool). cond b true (has c ds)) (ne_eqb d c n)) ∙ h) e.1)

module _ {D : Type 0} where
  released_flags : (ts : List (ℕ × ℕ)) (st : Stage D) (hs : List HeldCell) → pairs_of hs ≡ ts → FitsFlags st hs → FitsFlags (after_release ts st) hs
  released_flags [] st [] e f = tt
  released_flags [] st (x ∷ xs) e f = absurd (cc)
  released_flags (t ∷ ts) st hs e f = f

  released_drawn : (ts : List (ℕ × ℕ)) (st : Stage D) (d : ℕ) → FitsDrawn st d → FitsDrawn (after_release ts st) d
  released_drawn [] st d f = tt
  released_drawn (t ∷ ts) st d f = f

  -- the version that the run-time list gives
  pub due_stored : (st : Stage D) (c k d : ℕ) (held : List (ℕ × ℕ)) (flag : Bool) → flag ≡ is_stored st c → k ≡ kept_in c held → IsStoredOrUndecided st → AreWritten st → FitsDrawn st d → cond flag d k ≡ due c held st
  due_stored Open c k d held flag e is all w f = ap (λ (b : Bool). cond b d k) e ∙ is
  due_stored (Drawn u) c k d held flag e is all w f = ap (λ (b : Bool). cond b d k) e ∙ is
  due_stored (Decided u r stored) c k d held flag e is all w f = ⊎_elim
      (λ y. ap (λ (b : Bool). cond b d k) (e ∙ all c y) ∙ (f ∙ sym (ap (λ (b : Bool). cond b u (kept_in c held)) y)))
      (λ n. let out : has c stored ≡ false = ⊎_elim (λ y. let yes = stored_written (λ z. writes_to r.writes z ≡ true) c stored y w in let bad : true ≡ false = sym yes ∙ n in absurd (cc)) (λ z. z) (bool_cases (has c stored)) in
      ap (λ (b : Bool). cond b d k) (e ∙ out) ∙ (is ∙ sym (ap (λ (b : Bool). cond b u (kept_in c held)) n))) (bool_cases (writes_to r.writes c))

module _ {D : Type 0} where
  released_stage : (ts : List (ℕ × ℕ)) (st : Stage D) (u : ℕ) → after_release ts st ≡ Drawn u → st ≡ Drawn u
  released_stage [] st u e = absurd (cc)
  released_stage (t ∷ ts) st u e = e

  released_written : (ts : List (ℕ × ℕ)) (st : Stage D) → AreWritten st → AreWritten (after_release ts st)
  released_written [] st f = tt
  released_written (t ∷ ts) st f = f

module _ {M D : Type 0} where
  pub drawn_tied : (v w : View M D) (hs : List HeldCell) (d n u : ℕ) → v.stage ≡ Open → u < 2 ^ 63 → Tied v hs d n → w ≡ drawn v u → Tied w hs u (n - 1)
  drawn_tied v w hs d n u st small f is = record {
    draws = ap (λ (z : ℕ). z - 1) f.draws ∙ sym (ap (λ (z : View M D). z.draws) is);
    held = f.held ∙ sym (ap (λ (z : View M D). z.held) is);
    sorted = f.sorted;
    flags = subst (λ (z : Stage D). FitsFlags z hs) (sym (ap (λ (z : View M D). z.stage) is)) (subst (λ (z : Stage D). FitsFlags z hs) st f.flags);
    drawn = subst (λ (z : Stage D). FitsDrawn z u) (sym (ap (λ (z : View M D). z.stage) is)) refl;
    small = small;
    fits = f.fits;
  }

  -- A lock is taken
  pub taken_tied : (v w : View M D) (hs hs' : List HeldCell) (d n c u : ℕ) → v.stage ≡ Open → u < 2 ^ 63 → Tied v hs d n → has c (cells_of v.held) ≡ false → w ≡ taken v c u → hs' ≡ insert_by held_key (record { cell = c; version = u; stored = false }) hs → Tied w hs' d n
  taken_tied v w hs hs' d n c u st small f free is new = let h : HeldCell = record { cell = c; version = u; stored = false } in
      let same : w.stage ≡ v.stage = ap (λ (z : View M D). z.stage) is in
      let none : Each (λ x. x.cell ≢ c) hs = not_among c hs (subst (λ (z : List (ℕ × ℕ)). has c (cells_of z) ≡ false) (sym f.held) free) in record {
        draws = f.draws ∙ sym (ap (λ (z : View M D). z.draws) is);
        held = ap pairs_of new ∙ (pairs_insert h hs ∙ (ap (insert_by cell_key (c, u)) f.held ∙ sym (ap (λ (z : View M D). z.held) is)));
        sorted = subst (IsAscendingBy held_key) (sym new) (insert_ascends held_key h hs f.sorted none);
        flags = subst (λ (z : Stage D × List HeldCell). FitsFlags z.0 z.1) (λ i. (sym (same ∙ st) i, sym new i)) (each_insert held_key _ h hs refl (subst (λ (z : Stage D). FitsFlags z hs) st f.flags));
        drawn = subst (λ (z : Stage D). FitsDrawn z d) (sym (same ∙ st)) tt;
        small = f.small;
        fits = subst (Each (λ x. x.version < 2 ^ 63)) (sym new) (each_insert held_key _ h hs small f.fits);
      }

  pub given_tied : (v w : View M D) (hs hs' : List HeldCell) (d n c x : ℕ) → Tied v hs d n → w ≡ given v c x → hs' ≡ without_held c hs → Tied w hs' d n
  given_tied v w hs hs' d n c x f is new =
      let same : w.stage ≡ after_release (without c v.held) v.stage = ap (λ (z : View M D). z.stage) is in
      let left : pairs_of (without_held c hs) ≡ without c v.held = pairs_without c hs ∙ ap (without c) f.held in record {
        draws = f.draws ∙ sym (ap (λ (z : View M D). z.draws) is);
        held = ap pairs_of new ∙ (left ∙ sym (ap (λ (z : View M D). z.held) is));
        sorted = subst (IsAscendingBy held_key) (sym new) (sorted_without c hs f.sorted);
        flags = subst (λ (z : Stage D × List HeldCell). FitsFlags z.0 z.1) (λ i. (sym same i, sym new i)) (released_flags (without c v.held) v.stage (without_held c hs) left (each_without_held _ c hs f.flags));
        drawn = subst (λ (z : Stage D). FitsDrawn z d) (sym same) (released_drawn (without c v.held) v.stage d f.drawn);
        small = f.small;
        fits = subst (Each (λ x. x.version < 2 ^ 63)) (sym new) (each_without_held _ c hs f.fits);
      }

module _ {M D : Type 0} (lawful : M → List ℕ → Type 0) (explains : M → List (ℕ × ℕ) → List (ℕ × ℕ) → List D → Type 0) where
  released_plan : (p q : PassState M D) (ts : List (ℕ × ℕ)) (plan : Option (Record D)) → Grows p.view q.view → q.view.stage ≡ after_release ts p.view.stage → q.reserved ≡ p.reserved → IsPlanned explains p plan → IsPlanned explains q (plan_after ts plan)
  released_plan p q [] plan g st same f = tt
  released_plan p q (t ∷ ts) None g st same f = tt
  released_plan p q (t ∷ ts) (Some r) g st same f = (f.0, st ∙ f.1, may_decide_on explains p.view q.view g f.0 r f.2, (let l = f.3 in omega arith))

  pub given_pass : (p : PassState M D) (w : View M D) (t : TableId) (c n places : ℕ) (plan : Option (Record D)) → IsPass lawful explains p → w ≡ given p.view c n → plan ≡ plan_after (without c p.view.held) p.plan → LegalNow lawful explains w → IsPass lawful explains (record p { view = w; table = t; places = places; plan = plan })
  given_pass p w t c n places plan f is left legal = let g : Grows p.view w = subst (λ (z : View M D). Grows p.view z) (sym is) (grows_given p.view c n) in let books : w.books ≡ p.view.books = ap (λ (z : View M D). z.books) is in
      let st : w.stage ≡ after_release (without c p.view.held) p.view.stage = ap (λ (z : View M D). z.stage) is in record {
        acting = subst (λ (z : List (Book D)). 0 < length z) (sym books) f.acting;
        books = f.books ∙ sym books;
        seen = (let a = f.seen in let b = g.known in omega arith);
        drawn = λ u e. let a = f.drawn u (released_stage (without c p.view.held) p.view.stage u (sym st ∙ e)) in let l = a.0 in let h = a.1 in let b = g.known in (omega arith, omega arith);
        places = f.places;
        ascending = f.ascending;
        readers = readers_on explains p.view w g p.books f.readers;
        planned = subst (IsPlanned explains (record p { view = w; table = t; places = places; plan = plan })) (sym left) (released_plan p (record p { view = w; table = t; places = places; plan = plan }) (without c p.view.held) p.plan g st refl f.planned);
        written = subst AreWritten (sym st) (released_written (without c p.view.held) p.view.stage f.written);
        legal = legal;
      }

-- A value is stored

each_marked : (c : ℕ) (hs : List HeldCell) → Each (λ h. h.version < 2 ^ 63) hs → Each (λ h. h.version < 2 ^ 63) (mark c hs)
each_marked c [] e = tt
each_marked c (x ∷ xs) e = (e.0, each_marked c xs e.1)

module _ {D : Type 0} where
  more_drawn : (st : Stage D) (c d : ℕ) → FitsDrawn st d → FitsDrawn (more_stored c st) d
  more_drawn Open c d f = f
  more_drawn (Drawn u) c d f = f
  more_drawn (Decided u r stored) c d f = f

  more_written : (st : Stage D) (c x : ℕ) (held : List (ℕ × ℕ)) → MayStore c x held st → AreWritten st → AreWritten (more_stored c st)
  more_written Open c x held may f = f
  more_written (Drawn u) c x held may f = f
  more_written (Decided u r stored) c x held may f = (may.1.0, f)

  more_apart : (st : Stage D) (c x z : ℕ) (held : List (ℕ × ℕ)) → MayStore c x held st → more_stored c st ≡ Drawn z → ⊥
  more_apart Open c x z held may e = may
  more_apart (Drawn u) c x z held may e = may
  more_apart (Decided u r stored) c x z held may e = absurd (cc)

module _ {M D : Type 0} where
  pub first_tied : (v w : View M D) (hs hs' : List HeldCell) (d n u c x : ℕ) (r : Record D) → Tied v hs d n → v.stage ≡ Drawn u → w ≡ first_put v u r c x → hs' ≡ mark c hs → Tied w hs' d n
  first_tied v w hs hs' d n u c x r f st is new = record {
    draws = f.draws ∙ sym (ap (λ (z : View M D). z.draws) is);
    held = ap pairs_of new ∙ (pairs_mark c hs ∙ (f.held ∙ sym (ap (λ (z : View M D). z.held) is)));
    sorted = subst (IsAscendingBy held_key) (sym new) (sorted_mark c hs f.sorted);
    flags = subst (λ (z : Stage D × List HeldCell). FitsFlags z.0 z.1) (λ i. (sym (ap (λ (z : View M D). z.stage) is) i, sym new i)) (first_marked v.stage u u c r hs st f.flags);
    drawn = subst (λ (z : Stage D). FitsDrawn z d) (sym (ap (λ (z : View M D). z.stage) is)) (subst (λ (z : Stage D). FitsDrawn z d) st f.drawn);
    small = f.small;
    fits = subst (Each (λ h. h.version < 2 ^ 63)) (sym new) (each_marked c hs f.fits);
  }

  pub next_tied : (v w : View M D) (hs hs' : List HeldCell) (d n c x : ℕ) → Tied v hs d n → MayStore c x v.held v.stage → w ≡ next_put v c x → hs' ≡ mark c hs → Tied w hs' d n
  next_tied v w hs hs' d n c x f may is new = record {
    draws = f.draws ∙ sym (ap (λ (z : View M D). z.draws) is);
    held = ap pairs_of new ∙ (pairs_mark c hs ∙ (f.held ∙ sym (ap (λ (z : View M D). z.held) is)));
    sorted = subst (IsAscendingBy held_key) (sym new) (sorted_mark c hs f.sorted);
    flags = subst (λ (z : Stage D × List HeldCell). FitsFlags z.0 z.1) (λ i. (sym (ap (λ (z : View M D). z.stage) is) i, sym new i)) (next_marked v.stage c x hs v.held may f.flags);
    drawn = subst (λ (z : Stage D). FitsDrawn z d) (sym (ap (λ (z : View M D). z.stage) is)) (more_drawn v.stage c d f.drawn);
    small = f.small;
    fits = subst (Each (λ h. h.version < 2 ^ 63)) (sym new) (each_marked c hs f.fits);
  }

module _ {D : Type 0} where
  writers_more : (rs : List (ℕ × Record D)) (es : List (Noted D)) (place : ℕ) (r : Record D) → writers_after rs (es ++ record { place = place; writer = true; content = r } ∷ []) ≡ (place, r) ∷ writers_after rs es
  writers_more rs [] place r = refl
  writers_more rs (x ∷ xs) place r = writers_more (cond x.writer ((x.place, x.content) ∷ rs) rs) xs place r

  readers_none : (rs : List (ℕ × Record D)) (es : List (Noted D)) (place : ℕ) (r : Record D) → writers_after rs (es ++ record { place = place; writer = false; content = r } ∷ []) ≡ writers_after rs es
  readers_none rs [] place r = refl
  readers_none rs (x ∷ xs) place r = readers_none (cond x.writer ((x.place, x.content) ∷ rs) rs) xs place r

  -- an entry at the end of the first book
  pub entered : (place : ℕ) (r : Record D) (bs : List (NotedBook D)) → writer_books (note place true r bs) ≡ enter place r (writer_books bs)
  entered place r [] = refl
  entered place r (b ∷ bs) = ap (λ (z : List (ℕ × Record D)). record { caller = b.caller; records = z } ∷ writer_books bs) (writers_more [] b.entries place r)

  pub read_in : (place : ℕ) (r : Record D) (bs : List (NotedBook D)) → writer_books (note place false r bs) ≡ writer_books bs
  read_in place r [] = refl
  read_in place r (b ∷ bs) = ap (λ (z : List (ℕ × Record D)). record { caller = b.caller; records = z } ∷ writer_books bs) (readers_none [] b.entries place r)

  pub note_each : (P : Noted D → Type 0) (place : ℕ) (writer : Bool) (r : Record D) (bs : List (NotedBook D)) → P (record { place = place; writer = writer; content = r }) → Each (λ b. Each P b.entries) bs → Each (λ b. Each P b.entries) (note place writer r bs)
  note_each P place writer r [] p f = tt
  note_each P place writer r (b ∷ bs) p f = (each_append P b.entries (record { place = place; writer = writer; content = r } ∷ []) f.0 (p, tt), f.1)

  places_more : (low s place : ℕ) (es : List (Noted D)) (e : Noted D) → low ≤ s → Each (λ e. e.place ≤ s) es → PlacesFrom low es → s ≤ e.place → (e.writer ≡ true → s < e.place) → PlacesFrom low (es ++ e ∷ [])
  places_more low s place [] e l f g m above = (omega arith, (λ w. let a = above w in omega arith), tt)
  places_more low s place (x ∷ xs) e l f g m above = (g.0, g.1, places_more x.place s place xs e f.0 f.1 g.2 m above)

  pub note_ascends : (s place : ℕ) (writer : Bool) (r : Record D) (bs : List (NotedBook D)) → Each (λ b. Each (λ e. e.place ≤ s) b.entries) bs → Each (λ b. PlacesFrom 0 b.entries) bs → s ≤ place → (writer ≡ true → s < place) → Each (λ b. PlacesFrom 0 b.entries) (note place writer r bs)
  note_ascends s place writer r [] f g l above = tt
  note_ascends s place writer r (b ∷ bs) f g l above = (places_more 0 s place b.entries (record { place = place; writer = writer; content = r }) (omega arith) f.0 g.0 l above, g.1)

module _ {M D : Type 0} (lawful : M → List ℕ → Type 0) (explains : M → List (ℕ × ℕ) → List (ℕ × ℕ) → List D → Type 0) where
  pub first_pass : (p : PassState M D) (w : View M D) (t : TableId) (u c x reserved : ℕ) (r : Record D) (books : List (NotedBook D)) → IsPass lawful explains p → p.seen < u → u ≤ p.view.known → writes_to r.writes c ≡ true → w ≡ first_put p.view u r c x → books ≡ note u true r p.books → LegalNow lawful explains w
      → IsPass lawful explains (record p { view = w; table = t; books = books; seen = u; reserved = reserved; plan = None })
  first_pass p w t u c x reserved r books f low known touched is new legal = let g : Grows p.view w = subst (λ (z : View M D). Grows p.view z) (sym is) (grows_first_put p.view u r c x) in
      let P : (Noted D → Type 0) → List (NotedBook D) → Type 0 = λ Q bs. Each (λ b. Each Q b.entries) bs in record {
        acting = subst (λ (z : List (Book D)). 0 < length z) (sym (ap (λ (z : View M D). z.books) is)) (enter_some u r p.view.books f.acting);
        books = ap writer_books new ∙ (entered u r p.books ∙ (ap (enter u r) f.books ∙ sym (ap (λ (z : View M D). z.books) is)));
        seen = (let b = g.known in omega arith);
        drawn = λ z e. let bad : Decided u r (c ∷ []) ≡ Drawn z = sym (ap (λ (y : View M D). y.stage) is) ∙ e in absurd (cc);
        places = subst (P (λ e. e.place ≤ u)) (sym new) (note_each _ u true r p.books (omega arith) (each_map _ _ (λ b h. each_map _ _ (λ e m. omega arith) b.entries h) p.books f.places));
        ascending = subst (Each (λ b. PlacesFrom 0 b.entries)) (sym new) (note_ascends p.seen u true r p.books f.places f.ascending (omega arith) (λ _. low));
        readers = subst (P (IsReader explains w)) (sym new) (note_each (IsReader explains w) u true r p.books (λ no. absurd (cc)) (readers_on explains p.view w g p.books f.readers));
        planned = tt;
        written = subst AreWritten (sym (ap (λ (z : View M D). z.stage) is)) (touched, tt);
        legal = legal;
      }

  next_planned : (p q : PassState M D) (c x : ℕ) (plan : Option (Record D)) → MayStore c x p.view.held p.view.stage → IsPlanned explains p plan → IsPlanned explains q plan
  next_planned p q c x None may f = tt
  next_planned p q c x (Some r) may f = absurd (subst (MayStore c x p.view.held) f.1 may)

  pub next_pass : (p : PassState M D) (w : View M D) (t : TableId) (c x : ℕ) → IsPass lawful explains p → MayStore c x p.view.held p.view.stage → w ≡ next_put p.view c x → LegalNow lawful explains w → IsPass lawful explains (record p { view = w; table = t })
  next_pass p w t c x f may is legal = let g : Grows p.view w = subst (λ (z : View M D). Grows p.view z) (sym is) (grows_next_put p.view c x) in let books : w.books ≡ p.view.books = ap (λ (z : View M D). z.books) is in record {
    acting = subst (λ (z : List (Book D)). 0 < length z) (sym books) f.acting;
    books = f.books ∙ sym books;
    seen = (let a = f.seen in let b = g.known in omega arith);
    drawn = λ z e. absurd (more_apart p.view.stage c x z p.view.held may (sym (ap (λ (y : View M D). y.stage) is) ∙ e));
    places = f.places;
    ascending = f.ascending;
    readers = readers_on explains p.view w g p.books f.readers;
    planned = next_planned p (record p { view = w; table = t }) c x p.plan may f.planned;
    written = subst AreWritten (sym (ap (λ (z : View M D). z.stage) is)) (more_written p.view.stage c x p.view.held may f.written);
    legal = legal;
  }

module _ {M D : Type 0} where
  -- the version that a cell is given back with, and that it fits
  pub give_due : (v : View M D) (hs : List HeldCell) (d n c k : ℕ) (flag : Bool) → Tied v hs d n → AreWritten v.stage → IsStoredOrUndecided v.stage → has c (cells_of (pairs_of hs)) ≡ true → flag ≡ flag_in c hs → k ≡ kept_in c (pairs_of hs) → cond flag d k ≡ due c v.held v.stage
  give_due v hs d n c k flag f written all there e is = due_stored v.stage c k d v.held flag (e ∙ flag_is v.stage c hs there f.flags) (is ∙ ap (kept_in c) f.held) all written f.drawn

  pub given_of : (p q : PassState M D) (w : View M D) (t : TableId) (c n places : ℕ) (plan : Option (Record D)) → p ≡ q → t ≡ p.table → w ≡ given p.view c n → n ≡ 2 * due c p.view.held p.view.stage → places ≡ p.places + 1 → plan ≡ plan_after (without c p.view.held) p.plan
      → record p { view = w; table = t; places = places; plan = plan } ≡ after_give q c
  given_of p q w t c n places plan e same f is more left = (λ i. record p { view = (f ∙ ap (given p.view c) is) i; table = same i; places = more i; plan = left i }) ∙ ap (λ (z : PassState M D). after_give z c) e

  pub held_now : (p q : PassState M D) (hs : List HeldCell) (d n c : ℕ) → p ≡ q → Tied p.view hs d n → has c (cells_of q.view.held) ≡ true → has c (cells_of (pairs_of hs)) ≡ true
  held_now p q hs d n c e f h = subst (λ (z : List (ℕ × ℕ)). has c (cells_of z) ≡ true) (sym (f.held ∙ ap (λ (z : PassState M D). z.view.held) e)) h

  pub held_view : (p q : PassState M D) (c : ℕ) → p ≡ q → has c (cells_of q.view.held) ≡ true → has c (cells_of p.view.held) ≡ true
  held_view p q c e h = subst (λ (z : PassState M D). has c (cells_of z.view.held) ≡ true) (sym e) h

  pub stored_view : (p q : PassState M D) → p ≡ q → IsStoredOrUndecided q.view.stage → IsStoredOrUndecided p.view.stage
  stored_view p q e h = subst (λ (z : PassState M D). IsStoredOrUndecided z.view.stage) (sym e) h

kept_fits : (c : ℕ) (hs : List HeldCell) → has c (cells_of (pairs_of hs)) ≡ true → Each (λ h. h.version < 2 ^ 63) hs → kept_in c (pairs_of hs) < 2 ^ 63
kept_fits c [] h f = absurd (cc)
kept_fits c (x ∷ xs) h f = let P : Bool → Type 0 = λ b. cond b x.version (kept_in c (pairs_of xs)) < 2 ^ 63 in dite (ℕ_discrete x.cell c)
    (λ e. subst P (sym (eq-eqb x.cell c e)) f.0)
    (λ n. subst P (sym (ne_eqb x.cell c n)) (kept_fits c xs (sym (ap (λ (b : Bool). cond b true (has c (cells_of (pairs_of xs)))) (ne_eqb x.cell c n)) ∙ h) f.1))

pub give_fits : (hs : List HeldCell) (d c k : ℕ) (flag : Bool) → d < 2 ^ 63 → has c (cells_of (pairs_of hs)) ≡ true → Each (λ h. h.version < 2 ^ 63) hs → k ≡ kept_in c (pairs_of hs) → cond flag d k < 2 ^ 63
give_fits hs d c k flag low there f is = let l = kept_fits c hs there f in ⊎_elim (λ y. subst (λ (b : Bool). cond b d k < 2 ^ 63) (sym y) low) (λ y. subst (λ (b : Bool). cond b d k < 2 ^ 63) (sym y) (omega arith)) (bool_cases flag)

module _ {M D : Type 0} where
  pub given_trail : (p q : PassState M D) (w : View M D) (c n : ℕ) → p ≡ q → w ≡ given p.view c n → n ≡ 2 * due c p.view.held p.view.stage → reverse w.trail ≡ reverse q.view.trail ++ LockStored c (2 * due c q.view.held q.view.stage) ∷ []
  given_trail p q w c n e f is = subst (λ (z : PassState M D). reverse w.trail ≡ reverse z.view.trail ++ LockStored c (2 * due c z.view.held z.view.stage) ∷ []) e
      (ap (λ (z : View M D). reverse z.trail) f ∙ (reverse-cons (LockStored c n) p.view.trail ∙ (λ i. reverse p.view.trail ++ LockStored c (is i) ∷ [])))

module _ {D : Type 0} where
  pub plan_kept : (hs : List HeldCell) (plan : Option (Record D)) → (length hs == 0) ≡ false → plan ≡ plan_after (pairs_of hs) plan
  plan_kept [] plan l = absurd (cc)
  plan_kept (h ∷ hs) plan l = refl

module _ {M D : Type 0} where
  -- a cell that was found free isn't held
  pub not_held : (v : View M D) (hs : List HeldCell) (d n c : ℕ) → Tied v hs d n → has c (cells_of v.held) ≡ false → has c (cells_of (pairs_of hs)) ≡ false
  not_held v hs d n c f h = subst (λ (z : List (ℕ × ℕ)). has c (cells_of z) ≡ false) (sym f.held) h

  pub free_now : (p q : PassState M D) (c : ℕ) → p ≡ q → has c (cells_of p.view.held) ≡ false → has c (cells_of q.view.held) ≡ false
  free_now p q c e h = subst (λ (z : PassState M D). has c (cells_of z.view.held) ≡ false) e h

pub none_from : {A : Type 0} (o : Option A) → is_some o ≡ false → o ≡ None
none_from None e = refl
none_from (Some x) e = absurd (cc)

module _ {D : Type 0} where
  pub plan_gone : {M : Type 0} (v : View M D) (hs hs' : List HeldCell) (c : ℕ) (slice : List HeldCell) (left : Option (Plan D)) (taken_plan old : Option (Plan D)) → pairs_of hs ≡ v.held → hs' ≡ without_held c hs → slice ≡ hs' → plan_of left ≡ plan_after (pairs_of slice) (plan_of taken_plan) → taken_plan ≡ old
      → plan_of left ≡ plan_after (without c v.held) (plan_of old)
  plan_gone v hs hs' c slice left taken_plan old e new is f g = f ∙ (λ i. plan_after ((ap pairs_of (is ∙ new) ∙ (pairs_without c hs ∙ ap (without c) e)) i) (plan_of (g i)))

-- The choice of a `put_value`

module _ {D : Type 0} where
  drawn_is : (st : Stage D) (u d : ℕ) → st ≡ Drawn u → FitsDrawn st d → d ≡ u
  drawn_is st u d e f = subst (λ (z : Stage D). FitsDrawn z d) e f

  version_is_drawn : (st : Stage D) (u : ℕ) → st ≡ Drawn u → version_drawn st ≡ u
  version_is_drawn st u e = ap version_drawn e

module _ {M D : Type 0} where
  pub put_may : (p q : PassState M D) (old : Option (Plan D)) (plan : Plan D) (c x : ℕ) → p ≡ q → p.plan ≡ plan_of old → old ≡ Some plan → MayPut q c x q.plan → Leaves plan.writes.items c x × AllHeld plan.writes.items p.view.held
  put_may p q old plan c x e is some may = subst (MayPut p c x) (is ∙ ap plan_of some) (subst (λ (z : PassState M D). MayPut z c x z.plan) (sym e) may)

  pub put_may_next : (p q : PassState M D) (old : Option (Plan D)) (c x : ℕ) → p ≡ q → p.plan ≡ plan_of old → old ≡ None → MayPut q c x q.plan → MayStore c x p.view.held p.view.stage
  put_may_next p q old c x e is none_left may = subst (MayPut p c x) (is ∙ ap plan_of none_left) (subst (λ (z : PassState M D). MayPut z c x z.plan) (sym e) may)

  pub put_planned : (explains : M → List (ℕ × ℕ) → List (ℕ × ℕ) → List D → Type 0) (p q : PassState M D) (old : Option (Plan D)) (plan : Plan D) (d : ℕ) → p ≡ q → p.plan ≡ plan_of old → old ≡ Some plan → IsPlanned explains p p.plan → FitsDrawn p.view.stage d
      → (p.view.stage ≡ Drawn d) × MayDecide explains p.view d (record_of plan) × (0 < p.reserved)
  put_planned explains p q old plan d same is some f fits = let g : IsPlanned explains p (Some (record_of plan)) = subst (IsPlanned explains p) (is ∙ ap plan_of some) f in let e : d ≡ g.0 = drawn_is p.view.stage g.0 d g.1 fits in
      (g.1 ∙ ap (λ (u : ℕ). Drawn u) (sym e), subst (λ (u : ℕ). MayDecide explains p.view u (record_of plan)) (sym e) g.2, g.3)

  pub put_first_of : (p q : PassState M D) (w : View M D) (t : TableId) (old : Option (Plan D)) (plan : Plan D) (left : Option (Record D)) (u c x reserved : ℕ) (books : List (NotedBook D)) → p ≡ q → t ≡ p.table → p.plan ≡ plan_of old → old ≡ Some plan → p.view.stage ≡ Drawn u
      → w ≡ first_put p.view u (record_of plan) c x → books ≡ note u true (record_of plan) p.books → reserved ≡ p.reserved - 1 → left ≡ None
      → record p { view = w; table = t; books = books; seen = u; reserved = reserved; plan = left } ≡ after_put q c x q.plan
  put_first_of p q w t old plan left u c x reserved books e same is some st f g less gone = let v : version_drawn p.view.stage ≡ u = version_is_drawn p.view.stage u st in
      (λ i. record p { view = f i; table = same i; books = g i; seen = u; reserved = less i; plan = gone i })
      ∙ ((λ i. record p { view = first_put p.view (sym v i) (record_of plan) c x; books = note (sym v i) true (record_of plan) p.books; seen = sym v i; reserved = p.reserved - 1; plan = None })
      ∙ (sym (ap (after_put p c x) (is ∙ ap plan_of some)) ∙ ap (λ (z : PassState M D). after_put z c x z.plan) e))

  pub put_next_of : (p q : PassState M D) (w : View M D) (t : TableId) (old : Option (Plan D)) (left : Option (Record D)) (c x : ℕ) → p ≡ q → t ≡ p.table → p.plan ≡ plan_of old → old ≡ None → w ≡ next_put p.view c x → left ≡ None → record p { view = w; table = t; plan = left } ≡ after_put q c x q.plan
  put_next_of p q w t old left c x e same is none_left f gone = let was : p.plan ≡ None = is ∙ ap plan_of none_left in
      (λ i. record p { view = f i; table = same i; plan = (gone ∙ sym was) i }) ∙ (sym (ap (after_put p c x) was) ∙ ap (λ (z : PassState M D). after_put z c x z.plan) e)

  pub put_trail : (p q : PassState M D) (w : View M D) (c x : ℕ) → p ≡ q → w.trail ≡ ValueStored c x ∷ p.view.trail → reverse w.trail ≡ reverse q.view.trail ++ ValueStored c x ∷ []
  put_trail p q w c x e f = ap reverse f ∙ (reverse-cons (ValueStored c x) p.view.trail ∙ ap (λ (z : PassState M D). reverse z.view.trail ++ ValueStored c x ∷ []) e)

module _ {M D : Type 0} (lawful : M → List ℕ → Type 0) (explains : M → List (ℕ × ℕ) → List (ℕ × ℕ) → List D → Type 0) where
  pub put_first_pass : (p : PassState M D) (w : View M D) (t : TableId) (u c x reserved : ℕ) (r : Record D) (books : List (NotedBook D)) (left : Option (Record D)) → IsPass lawful explains p → p.view.stage ≡ Drawn u → Leaves r.writes c x → w ≡ first_put p.view u r c x → books ≡ note u true r p.books → left ≡ None → LegalNow lawful explains w
      → IsPass lawful explains (record p { view = w; table = t; books = books; seen = u; reserved = reserved; plan = left })
  put_first_pass p w t u c x reserved r books left f st leaves is new gone legal = let d = f.drawn u st in let a = d.0 in
      subst (λ (z : Option (Record D)). IsPass lawful explains (record p { view = w; table = t; books = books; seen = u; reserved = reserved; plan = z })) (sym gone) (first_pass lawful explains p w t u c x reserved r books f a d.1 leaves.0 is new legal)

  pub put_next_pass : (p : PassState M D) (w : View M D) (t : TableId) (c x : ℕ) (left : Option (Record D)) → IsPass lawful explains p → p.plan ≡ left → MayStore c x p.view.held p.view.stage → w ≡ next_put p.view c x → LegalNow lawful explains w → IsPass lawful explains (record p { view = w; table = t; plan = left })
  put_next_pass p w t c x left f same may is legal = subst (λ (z : Option (Record D)). IsPass lawful explains (record p { view = w; table = t; plan = z })) same (next_pass lawful explains p w t c x f may is legal)

-- The calls that make no step

module _ {M D : Type 0} (lawful : M → List ℕ → Type 0) (explains : M → List (ℕ × ℕ) → List (ℕ × ℕ) → List D → Type 0) where
  more_planned : (p : PassState M D) (reserved places : ℕ) (plan : Option (Record D)) → p.reserved ≤ reserved → IsPlanned explains p plan → IsPlanned explains (record p { reserved = reserved; places = places }) plan
  more_planned p reserved places None l f = tt
  more_planned p reserved places (Some r) l f = (f.0, f.1, f.2, (let m = f.3 in omega arith))

  -- more room
  pub roomy_pass : (p : PassState M D) (reserved places : ℕ) (books : List (NotedBook D)) → IsPass lawful explains p → p.reserved ≤ reserved → books ≡ p.books → IsPass lawful explains (record p { reserved = reserved; places = places; books = books })
  roomy_pass p reserved places books f l same = subst (λ (z : List (NotedBook D)). IsPass lawful explains (record p { reserved = reserved; places = places; books = z })) (sym same) (record {
    acting = f.acting;
    books = f.books;
    seen = f.seen;
    drawn = f.drawn;
    places = f.places;
    ascending = f.ascending;
    readers = f.readers;
    planned = more_planned p reserved places p.plan l f.planned;
    written = f.written;
    legal = f.legal;
  })

  pub planned_pass : (p : PassState M D) (r : Record D) (u : ℕ) → IsPass lawful explains p → p.view.stage ≡ Drawn u → MayDecide explains p.view u r → 0 < p.reserved → IsPass lawful explains (record p { plan = Some r })
  planned_pass p r u f st may room = record {
    acting = f.acting;
    books = f.books;
    seen = f.seen;
    drawn = f.drawn;
    places = f.places;
    ascending = f.ascending;
    readers = f.readers;
    planned = (u, st, may, room);
    written = f.written;
    legal = f.legal;
  }

  idle_planned : (p q : PassState M D) (plan : Option (Record D)) → p.view.stage ≡ Open → IsPlanned explains p plan → IsPlanned explains q plan
  idle_planned p q None st f = tt
  idle_planned p q (Some r) st f = let bad : Open ≡ Drawn f.0 = sym st ∙ f.1 in absurd (cc)

  pub saw_pass : (p : PassState M D) (place : ℕ) → IsPass lawful explains p → p.view.stage ≡ Open → p.seen ≤ place → place ≤ p.view.known → IsPass lawful explains (record p { seen = place })
  saw_pass p place f st low high = record {
    acting = f.acting;
    books = f.books;
    seen = high;
    drawn = λ u e. let bad : Open ≡ Drawn u = sym st ∙ e in absurd (cc);
    places = each_map _ _ (λ b h. each_map _ _ (λ e m. omega arith) b.entries h) p.books f.places;
    ascending = f.ascending;
    readers = f.readers;
    planned = idle_planned p (record p { seen = place }) p.plan st f.planned;
    written = f.written;
    legal = f.legal;
  }

  pub read_pass : (p : PassState M D) (place reserved : ℕ) (r : Record D) (books : List (NotedBook D)) → IsPass lawful explains p → p.view.stage ≡ Open → p.seen ≤ place → place ≤ p.view.known → r.writes ≡ [] → ((m : M) → p.view.meaning ≡ Some m → explains m r.observations [] r.dones)
      → Each (λ o. (o.0 < length p.view.opening) × Observes p.view o.0 o.1 place) r.observations → books ≡ note place false r p.books → IsPass lawful explains (record p { seen = place; reserved = reserved; books = books })
  read_pass p place reserved r books f st low high none explained stands new =
      let P : (Noted D → Type 0) → List (NotedBook D) → Type 0 = λ Q bs. Each (λ b. Each Q b.entries) bs in record {
        acting = f.acting;
        books = ap writer_books new ∙ (read_in place r p.books ∙ f.books);
        seen = high;
        drawn = λ u e. let bad : Open ≡ Drawn u = sym st ∙ e in absurd (cc);
        places = subst (P (λ e. e.place ≤ place)) (sym new) (note_each _ place false r p.books (omega arith) (each_map _ _ (λ b h. each_map _ _ (λ e m. omega arith) b.entries h) p.books f.places));
        ascending = subst (Each (λ b. PlacesFrom 0 b.entries)) (sym new) (note_ascends p.seen place false r p.books f.places f.ascending low (λ no. absurd (cc)));
        readers = subst (P (IsReader explains p.view)) (sym new) (note_each (IsReader explains p.view) place false r p.books (λ is. (high, none, explained, stands)) f.readers);
        planned = idle_planned p (record p { seen = place; reserved = reserved; books = books }) p.plan st f.planned;
        written = f.written;
        legal = f.legal;
      }

module _ {M D : Type 0} where
  pub plan_now : (explains : M → List (ℕ × ℕ) → List (ℕ × ℕ) → List D → Type 0) (p q : PassState M D) (u : ℕ) (r : Record D) → p ≡ q → (q.view.stage ≡ Drawn u) × MayDecide explains q.view u r → (p.view.stage ≡ Drawn u) × MayDecide explains p.view u r
  plan_now explains p q u r e f = subst (λ (z : PassState M D). (z.view.stage ≡ Drawn u) × MayDecide explains z.view u r) (sym e) f

  pub room_now : (p q : PassState M D) → p ≡ q → 0 < q.reserved → 0 < p.reserved
  room_now p q e f = subst (λ (z : PassState M D). 0 < z.reserved) (sym e) f

module _ {M D : Type 0} where
  pub idle_now : (p q : PassState M D) (place : ℕ) → p ≡ q → IsIdle q.view → (q.seen ≤ place) × (place ≤ q.view.known) → (p.view.stage ≡ Open) × (p.seen ≤ place) × (place ≤ p.view.known)
  idle_now p q place e f l = subst (λ (z : PassState M D). (z.view.stage ≡ Open) × (z.seen ≤ place) × (place ≤ z.view.known)) (sym e) (f.0, l.0, l.1)

  pub stands_now : (p q : PassState M D) (place : ℕ) (os : List (ℕ × ℕ)) → p ≡ q → Each (λ o. (o.0 < length q.view.opening) × Observes q.view o.0 o.1 place) os → Each (λ o. (o.0 < length p.view.opening) × Observes p.view o.0 o.1 place) os
  stands_now p q place os e f = subst (λ (z : PassState M D). Each (λ o. (o.0 < length z.view.opening) × Observes z.view o.0 o.1 place) os) (sym e) f

  pub explained_now : (explains : M → List (ℕ × ℕ) → List (ℕ × ℕ) → List D → Type 0) (p q : PassState M D) (os : List (ℕ × ℕ)) (ds : List D) → p ≡ q → ((m : M) → q.view.meaning ≡ Some m → explains m os [] ds) → (m : M) → p.view.meaning ≡ Some m → explains m os [] ds
  explained_now explains p q os ds e f = subst (λ (z : PassState M D). (m : M) → z.view.meaning ≡ Some m → explains m os [] ds) (sym e) f

module _ {D : Type 0} where
  pub entry_noted : (e : Entry D) (place : ℕ) (plan : Plan D) (bs bs' : List (NotedBook D)) → e ≡ record { place = place; writer = true; observations = plan.observations; writes = plan.writes; dones = plan.dones } → bs' ≡ note (noted_of e).place (noted_of e).writer (noted_of e).content bs → bs' ≡ note place true (record_of plan) bs
  entry_noted e place plan bs bs' is f = f ∙ ap (λ (z : Entry D). note (noted_of z).place (noted_of z).writer (noted_of z).content bs) is

  pub read_noted : (e : Entry D) (place : ℕ) (r : Record D) (bs bs' : List (NotedBook D)) → noted_of e ≡ record { place = place; writer = false; content = r } → bs' ≡ note (noted_of e).place (noted_of e).writer (noted_of e).content bs → bs' ≡ note place false r bs
  read_noted e place r bs bs' is f = f ∙ ap (λ (z : Noted D). note z.place z.writer z.content bs) is

module _ {M D : Type 0} where
  pub read_of : (p q : PassState M D) (place reserved : ℕ) (r : Record D) (books : List (NotedBook D)) → p ≡ q → books ≡ note place false r p.books → reserved ≡ p.reserved - 1 → record p { books = books; seen = place; reserved = reserved } ≡ after_entry q place r
  read_of p q place reserved r books e new less = (λ i. record p { books = new i; seen = place; reserved = less i }) ∙ ap (λ (z : PassState M D). after_entry z place r) e
