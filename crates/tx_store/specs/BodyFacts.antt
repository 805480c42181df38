-- Calls of a body one after another.
use Rattle.std.proofs.Common.{◌≡◌, ℕ, ◌≤◌, List, [], ◌∷◌, ◌++◌, length, length-append, append_assoc, sym, refl, ap, ◌∙◌, subst, arith}
use Rattle.std.proofs.lemmas.List.{append-nil}
use Rattle.std.specs.Prelude.{Result, Ok, Err, None, Some, Option, Bool, false}
use Rattle.cell_table.specs.declared.view.Event.{Event}
use Rattle.cell_table.specs.declared.view.View.{View}
use Rattle.cell_table.specs.Pass.{PassState, IsSole, trail_of}
use Rattle.cell_table.specs.Rule.{callers_of}
use Rattle.cell_table.specs.Steps.{Grows}
use Rattle.key_directory.specs.Directory.{PassView, DirectoryView, AreAllOthers, steps_since}
use Rattle.serial_terms.specs.declared.call.Done.{Done}
use Rattle.serial_terms.specs.Renaming.{NamedDone, by_key}
use Rattle.store_layout.specs.Shapes.{Shape, Object, IsCellOf}
use Rattle.tx_core.specs.Calls.{HoldsAt, StepsAt, StopsAt, stop_in, memory_in}
use Rattle.tx_core.specs.Causes.{CausedSince}
use Rattle.tx_core.specs.declared.stop.Stop.{Stop}
use Rattle.tx_core.specs.declared.stop.Stop.TheVariants.{Memory}
use Rattle.tx_core.specs.declared.stop.TxState.TheVariants.{Running}
use Rattle.tx_core.specs.Facts.{caused_earlier, grows_trans}
use Rattle.tx_map.specs.declared.part.MapStop.{MapStop}
use Rattle.tx_map.specs.declared.part.MapStop.TheVariants as maps
use Rattle.tx_nest.specs.Attempts.{HasAdded, GoesOn, EndsAs}
use Rattle.tx_nest.specs.declared.tries.NestEnd.{NestEnd}
use Rattle.tx_nest.specs.declared.tries.NestEnd.TheVariants as nests
use Rattle.tx_store.specs.declared.run.BodyStop.{BodyStop}
use Rattle.tx_store.specs.declared.run.BodyStop.TheVariants as stops
use Rattle.store_parts.specs.Parts.{map_part}
use Rattle.tx_store.specs.Bodies.{Does, StopsWith, Acts, in_body, memory_in_body, map_in_body, of_nest}
use Rattle.tx_store.specs.Calls.{IsCalled, done_in, in_child}
use Rattle.tx_store.specs.ChildLaws.{keys_all, keys_then, keys_claimed}
use Rattle.tx_nest.specs.AttemptLaws.{grew_trans}
use Rattle.tx_nest.specs.Ends.{Grew}
use Rattle.tx_store.specs.Children.{Fixed, KeysGrow, GrowsOn, view_of}
use Rattle.tx_store.specs.MapCalls.{Told, IsCalledWithKey}
use Rattle.tx_store.specs.Runs.{IsSameAttempt, IsStopBetween, IsFullBetween, IsBodyStop, IfStopKeysFull}
use Rattle.tx_store.specs.Stores.{TxView}

pub longer : {A : Type 0} (t u : List A) → (more : List A) × (u ≡ t ++ more) → length t ≤ length u
longer t u a = let e = ap length a.1 in omega (arith, length-append t a.0)

-- children stop for want of room for no key
pub nested_full : (full : ℕ → ℕ → Type 0) (end : NestEnd) → IfStopKeysFull full (of_nest end)
nested_full full (nests.Parent stop) = tt
nested_full full (nests.Spent n last) = tt
nested_full full nests.Memory = tt

pub grew_all : (t : List Event) → Grew t t
grew_all t = ([], sym (append-nil t))

-- a view knows what it knows
pub grows_all : {D : Type 0} {M : Type 0} (v : View M D) → Grows v v
grows_all v = record { meaning = refl; opening = refl; total = refl; known = omega arith; values = λ t a. a; validations = λ t a. a }

pub full_after : (j k l : PassView) (map capacity : ℕ) → KeysGrow j k → IsFullBetween k l map capacity → IsFullBetween j l map capacity
full_after j k l map capacity grow is =
    let longer = longer j.trail k.trail grow.trail in
    let since = is.since in
    record { all = is.all; key = is.key; first = is.first; next = is.next; rest = is.rest; steps = is.steps; since = omega arith; others = is.others }

pub by_key_more : (ds : List NamedDone) (d : NamedDone) → by_key (ds ++ d ∷ []) ≡ by_key ds ++ d.done ∷ []
by_key_more [] d = refl
by_key_more (x ∷ ds) d = ap (λ (es : List Done). x.done ∷ es) (by_key_more ds d)

pub by_key_append : (ds es : List NamedDone) → by_key (ds ++ es) ≡ by_key ds ++ by_key es
by_key_append [] es = refl
by_key_append (d ∷ ds) es = ap (λ (xs : List Done). d.done ∷ xs) (by_key_append ds es)

-- the call as it was answered, by its key
abbrev pub done_of : Told → Bool → Done
done_of told child = record { call = told.call; reply = told.reply; child = child }

module _ {M : Type 0} where
  -- ---- the same attempt

  pub same_all : (a : TxView M) → a.attempt.committing ≡ false → IsSameAttempt a a
  same_all a early = record {
    store = refl;
    before_commit = early;
    books = refl;
    callers = refl;
    draws = refl;
    room = refl;
    version = omega arith;
    trail = grew_all (trail_of a.attempt.pass);
    grows = grows_all a.attempt.pass.view;
    keys = keys_all a.keys;
  }

  pub same_then : (a b d : TxView M) → IsSameAttempt a b → IsSameAttempt b d → IsSameAttempt a d
  same_then a b d x y =
      let low = x.version in
      let high = y.version in
      record {
        store = y.store ∙ x.store;
        before_commit = y.before_commit;
        books = y.books ∙ x.books;
        callers = y.callers ∙ x.callers;
        draws = y.draws ∙ x.draws;
        room = y.room ∙ x.room;
        version = omega arith;
        trail = grew_trans _ _ _ x.trail y.trail;
        grows = grows_trans _ _ _ x.grows y.grows;
        keys = keys_then a.keys b.keys d.keys x.keys y.keys;
      }

  -- what steps leave of the pass, and of the pass of the directory
  pub same_stepped : (P : ℕ → Type 0) (n : ℕ) (a b : TxView M) → StepsAt P n a.attempt b.attempt → b.store ≡ a.store → b.attempt.committing ≡ false → KeysGrow a.keys b.keys → IsSameAttempt a b
  same_stepped P n a b does store early keys =
      let goes = does.pass in
      let version = does.version in
      record {
        store = store;
        before_commit = early;
        books = ap (λ (p : PassState M NamedDone). p.books) goes.is;
        callers = goes.books;
        draws = goes.draws;
        room = ap (λ (p : PassState M NamedDone). p.room) goes.is;
        version = omega arith;
        trail = (does.steps.0, does.steps.1);
        grows = goes.grows;
        keys = keys;
      }

  pub same_called : (P : ℕ → Type 0) (n : ℕ) (a b : TxView M) (stop : Option Stop) → HoldsAt P n a.attempt b.attempt stop → b.store ≡ a.store → b.attempt.committing ≡ false → KeysGrow a.keys b.keys → IsSameAttempt a b
  same_called P n a b stop holds store early keys = same_stepped P n a b holds.does store early keys

  pub same_keyed : {A : Type 0} (passes : ℕ → ℕ → Type 0) (s : Shape) (m key n : ℕ) (a b : TxView M) (told : A → Told) (result : Result A MapStop) → a.attempt.committing ≡ false
      → IsCalledWithKey passes s m key n a b told result → IsSameAttempt a b
  same_keyed passes s m key n a b told result early is =
      same_stepped _ n a b is.looks.does is.same.store (is.same.committing ∙ early) (keys_claimed (map_part s m) passes key a.keys b.keys result is.keys)

  -- what children leave
  pub same_nested : (a b : TxView M) → GoesOn (view_of a) (view_of b) → GrowsOn a b → IsSameAttempt a b
  same_nested a b goes grows =
      let fixed = goes.same.fixed in
      record {
        store = grows.store;
        before_commit = goes.same.before_commit;
        books = ap (λ (f : Fixed). f.cells.books) fixed;
        callers = ap (λ (f : Fixed). f.cells.told) fixed;
        draws = ap (λ (f : Fixed). f.cells.draws) fixed;
        room = ap (λ (f : Fixed). f.cells.room) fixed;
        version = goes.version;
        trail = goes.trail;
        grows = grows.cells;
        keys = grows.keys;
      }

  -- ---- stops

  stop_after : (a b d : TxView M) (stop : Stop) → IsSameAttempt a b → IsStopBetween b.attempt d.attempt stop → IsStopBetween a.attempt d.attempt stop
  stop_after a b d stop same is =
      let low = same.version in
      let since = is.low in
      record {
        version = is.version;
        low = omega arith;
        high = is.high;
        caused = subst (λ books. CausedSince (callers_of books) is.version (length (trail_of a.attempt.pass)) (trail_of d.attempt.pass) stop) same.callers
            (caused_earlier (callers_of b.attempt.pass.view.books) is.version (length (trail_of a.attempt.pass)) (length (trail_of b.attempt.pass)) (trail_of d.attempt.pass) stop (longer _ _ same.trail) is.caused);
        sole = λ alone. is.sole (ap length same.books ∙ (alone ∙ sym same.grows.total));
      }

  body_stop_after : (a b d : TxView M) (stop : BodyStop) → IsSameAttempt a b → IsBodyStop b d stop → IsBodyStop a d stop
  body_stop_after a b d (stops.Stop stop) same is = stop_after a b d stop same is
  body_stop_after a b d (stops.KeysFull map capacity) same is = full_after a.keys b.keys d.keys map capacity same.keys is

  pub stops_after : {full : ℕ → ℕ → Type 0} (a b d : TxView M) (stop : BodyStop) → IsSameAttempt a b → StopsWith full b d stop → StopsWith full a d stop
  stops_after a b d stop same is = record { same = same_then a b d same is.same; cause = body_stop_after a b d stop same is.cause; full = is.full }

  -- ---- one call, and one after another

  pub does_nothing : (a : TxView M) → a.attempt.committing ≡ false → Does a a []
  does_nothing a early = record { same = same_all a early; state = refl; noted = sym (append-nil (by_key a.attempt.notes)) }

  pub does_then : (a b d : TxView M) (xs ys : List Done) → Does a b xs → Does b d ys → Does a d (xs ++ ys)
  does_then a b d xs ys x y = record {
    same = same_then a b d x.same y.same;
    state = y.state ∙ x.state;
    noted = y.noted ∙ (ap (λ (ds : List Done). ds ++ ys) x.noted ∙ append_assoc (by_key a.attempt.notes) xs ys);
  }

  pub acts_then : {A : Type 0} (full : ℕ → ℕ → Type 0) (a b d : TxView M) (xs : List Done) (calls : A → List Done) (result : Result A BodyStop) → Does a b xs → Acts full b d calls result → Acts full a d (λ answer. xs ++ calls answer) result
  acts_then full a b d xs calls (Ok answer) first next = does_then a b d xs (calls answer) first next
  acts_then full a b d xs calls (Err stop) first next = stops_after a b d stop first.same next

  pub does_noted : (a b : TxView M) (d : NamedDone) → IsSameAttempt a b → b.attempt.state ≡ a.attempt.state → b.attempt.notes ≡ a.attempt.notes ++ d ∷ [] → Does a b (d.done ∷ [])
  does_noted a b d same state notes = record { same = same; state = state; noted = ap by_key notes ∙ by_key_more a.attempt.notes d }

  pub stops_at : {full : ℕ → ℕ → Type 0} (P : ℕ → Type 0) (a b : TxView M) (stop : Stop) → StopsAt P a.attempt b.attempt stop → IsSameAttempt a b → StopsWith full a b (stops.Stop stop)
  stops_at P a b stop ends same = record {
    same = same;
    cause = record { version = a.attempt.version; low = omega arith; high = same.version; caused = ends.cause; sole = ends.sole };
    full = tt;
  }

  pub stops_called : {full : ℕ → ℕ → Type 0} (P : ℕ → Type 0) (n : ℕ) (a b : TxView M) (stop : Stop) → HoldsAt P n a.attempt b.attempt (Some stop) → IsSameAttempt a b → StopsWith full a b (stops.Stop stop)
  stops_called P n a b stop holds same = stops_at P a b stop holds.ends same

  keys_stay : (a b : TxView M) → b.keys ≡ a.keys → KeysGrow a.keys b.keys
  keys_stay a b same = subst (λ (k : PassView). KeysGrow a.keys k) (sym same) (keys_all a.keys)

  -- a call on a structure that has no keys
  pub acts_called : {A : Type 0} (full : ℕ → ℕ → Type 0) (s : Shape) (o : Object) (n : ℕ) (a b : TxView M) (told : A → NamedDone) (result : Result A Stop) → a.attempt.committing ≡ false
      → IsCalled s o n a b (done_in told result) (stop_in result) → Acts full a b (λ answer. (told answer).done ∷ []) (in_body result)
  acts_called full s o n a b told (Ok answer) early is =
      does_noted a b (told answer) (same_called (IsCellOf s o) n a b None is.holds is.same.store (is.same.committing ∙ early) (keys_stay a b is.same.keys)) is.holds.ends is.notes
  acts_called full s o n a b told (Err stop) early is =
      stops_called (IsCellOf s o) n a b stop is.holds (same_called (IsCellOf s o) n a b (Some stop) is.holds is.same.store (is.same.committing ∙ early) (keys_stay a b is.same.keys))

  pub acts_remembered : {A E : Type 0} (full : ℕ → ℕ → Type 0) (s : Shape) (o : Object) (n : ℕ) (a b : TxView M) (told : A → NamedDone) (result : Result A E) → a.attempt.committing ≡ false
      → IsCalled s o n a b (done_in told result) (memory_in result) → Acts full a b (λ answer. (told answer).done ∷ []) (memory_in_body result)
  acts_remembered full s o n a b told (Ok answer) early is =
      does_noted a b (told answer) (same_called (IsCellOf s o) n a b None is.holds is.same.store (is.same.committing ∙ early) (keys_stay a b is.same.keys)) is.holds.ends is.notes
  acts_remembered full s o n a b told (Err memory) early is =
      stops_called (IsCellOf s o) n a b Memory is.holds (same_called (IsCellOf s o) n a b (Some Memory) is.holds is.same.store (is.same.committing ∙ early) (keys_stay a b is.same.keys))

  -- a call on a map, which stops for want of room for its key only where the body may
  pub acts_keyed : {A : Type 0} (full : ℕ → ℕ → Type 0) (passes : ℕ → ℕ → Type 0) (s : Shape) (m key n : ℕ) (a b : TxView M) (told : A → Told) (result : Result A MapStop) → a.attempt.committing ≡ false
      → ((capacity : ℕ) → result ≡ Err (maps.KeysFull capacity) → full m capacity) → IsCalledWithKey passes s m key n a b told result → Acts full a b (λ answer. done_of (told answer) (in_child a.attempt.state) ∷ []) (map_in_body m result)
  acts_keyed full passes s m key n a b told (Ok answer) early may is = does_noted a b _ (same_keyed passes s m key n a b told (Ok answer) early is) is.looks.ends is.notes
  acts_keyed full passes s m key n a b told (Err (maps.Stop stop)) early may is = stops_at _ a b stop is.looks.ends (same_keyed passes s m key n a b told (Err (maps.Stop stop)) early is)
  acts_keyed full passes s m key n a b told (Err (maps.KeysFull capacity)) early may is =
      let same = same_keyed passes s m key n a b told (Err (maps.KeysFull capacity)) early is in
      let since = steps_since a.keys b.keys in
      record {
        same = same;
        cause = record {
          all = is.full.0;
          key = key;
          first = a.keys.trail;
          next = since;
          rest = [];
          steps = is.keys.trail ∙ ap (λ more. a.keys.trail ++ more) (sym (append-nil since));
          since = omega arith;
          others = subst (λ (d : DirectoryView). AreAllOthers d.capacities since m key) (sym same.keys.directory) (is.keys.full.0 tt);
        };
        full = may capacity refl;
      }

  -- ---- children

  -- the calls of a child that was committed are the body's, one after another
  pub does_nested : (P : List NamedDone → Type 0) (a b : TxView M) → a.attempt.state ≡ Running → GoesOn (view_of a) (view_of b) → GrowsOn a b
      → ((view_of b).state ≡ Running) × HasAdded P (view_of a) (view_of b) → (added : List NamedDone) × P added × Does a b (by_key added)
  does_nested P a b running goes grows ends =
      let added = ends.1.0 in (
        added,
        ends.1.2,
        record {
          same = same_nested a b goes grows;
          state = ends.0 ∙ sym running;
          noted = ap by_key ends.1.1 ∙ by_key_append a.attempt.notes added;
        },
      )

  nested_cause : (tries : ℕ) (ran_out : Type 0) (a b : TxView M) → GoesOn (view_of a) (view_of b) → (end : NestEnd) → (IsSole a.attempt.pass → end ≡ nests.Memory)
      → EndsAs tries ran_out (view_of a) (view_of b) end → IsBodyStop a b (of_nest end)
  nested_cause tries ran_out a b goes (nests.Parent stop) sole ends = record {
    version = b.attempt.version;
    low = goes.version;
    high = omega arith;
    caused = ends.1.2;
    sole = λ alone. let e : nests.Parent stop ≡ nests.Memory = sole alone in absurd (cc);
  }
  nested_cause tries ran_out a b goes (nests.Spent n last) sole ends = let cause = ends.2.1 in record {
    version = cause.0;
    low = cause.1;
    high = cause.2;
    caused = cause.3;
    sole = λ alone. let e : nests.Spent n last ≡ nests.Memory = sole alone in absurd (cc);
  }
  nested_cause tries ran_out a b goes nests.Memory sole ends = record {
    version = a.attempt.version;
    low = omega arith;
    high = goes.version;
    caused = tt;
    sole = λ alone. refl;
  }

  -- where none was committed, the body may stop with the cause
  pub stops_nested : {full : ℕ → ℕ → Type 0} (tries : ℕ) (ran_out : Type 0) (a b : TxView M) → GoesOn (view_of a) (view_of b) → GrowsOn a b → (end : NestEnd) → (IsSole a.attempt.pass → end ≡ nests.Memory)
      → EndsAs tries ran_out (view_of a) (view_of b) end → StopsWith full a b (of_nest end)
  stops_nested tries ran_out a b goes grows end sole ends = record { same = same_nested a b goes grows; cause = nested_cause tries ran_out a b goes end sole ends; full = nested_full _ end }
