-- What a commit leaves, from its calls.
use Rattle.std.proofs.Common.{◌≡◌, ℕ, ◌+◌, ◌-◌, ◌*◌, ◌<◌, ◌≤◌, true, false, List, [], ◌++◌, inl, inr, length, Some, refl, ap, sym, ◌∙◌, subst, arith}
use Rattle.std.proofs.lemmas.Bool.{cases_lt}
use Rattle.std.specs.Prelude.{IsSome}
use Rattle.cell_table.specs.Cells.{has}
use Rattle.cell_table.specs.Rule.{cells_of}
use Rattle.cell_table.specs.Sorted.{Each}
use Rattle.cell_table.specs.Steps.{IsIdle, Grows}
use Rattle.cell_table.specs.Pass.{PassState, IsPassOf, note, version_drawn, trail_of, with_view}
use Rattle.attempt_lists.specs.Cells.{Entries, IsAscending, word_at}
use Rattle.serial_terms.specs.declared.call.Done.{Done}
use Rattle.serial_terms.specs.Renaming.{NamedDone, by_key, by_name}
use Rattle.store_history.specs.Meanings.{Explains}
use Rattle.store_layout.specs.Shapes.{Shape}
use Rattle.store_layout.specs.States.{state_in, IsFormed}
use Rattle.store_meaning.specs.declared.meaning.StoreMeaning.{StoreMeaning}
use Rattle.store_meaning.specs.Meant.{IsExplained}
use Rattle.store_meaning.specs.Follows.{Follows}
use Rattle.store_meaning.specs.Laws.{AttemptsFollow}
use Rattle.store_parts.specs.Parts.{progress}
use Rattle.tx_core.specs.Causes.{GrewBy}
use Rattle.tx_core.specs.Calls.{GoesOn, HoldsWrites, NothingWaits, IsDrawn, newly_held}
use Rattle.tx_core.specs.Facts.{grows_none, grows_trans, goes_trans, grew_more, grew_trans}
use Rattle.tx_core.specs.Tx.{Attempt}
use Rattle.tx_store.specs.Commits.{commit_steps, IsWriter, Returns, Commits, IsReady}
use Rattle.tx_store.specs.Resolves.{ObservesHeld, IsResolvedTo, IsResolved}
use Rattle.tx_store.specs.declared.commit.Receipt.{Receipt}
use Rattle.tx_store.proofs.Fitting.{writes_fit}
use Rattle.tx_store.proofs.Resolving.{observes_none}

module _ {M : Type 0} (s : Shape) where
  -- a writer has something to write by then
  pub something_written : (a b : Attempt M NamedDone) → IsWriter a → IsResolved s a b → 0 < length b.writes
  something_written a b writer done = elim done.to.wrote [
    | inl none ↦ elim writer [
      | inl some ↦ rw (none.1) some
      | inr adds ↦ absurd (adds (λ p. elim (cases_lt p done.parts) [ inl low ↦ none.0 p low | inr high ↦ sym (done.to.waits p high) ∙ done.nothing p ]))
    ]
    | inr some ↦ some
  ]

  -- the locks are taken
  module _ (a0 a : Attempt M NamedDone) (locked : a ≡ record a0 { pass = a.pass; committing = true }) where
    pub locked_writer : IsWriter a0 → IsWriter a
    locked_writer = subst (λ (e : Attempt M NamedDone). IsWriter e) (sym locked)

    -- and the parts resolved
    module _ (b : Attempt M NamedDone) (done : IsResolved s a b) (goes : GoesOn a0.pass a.pass) where
      abbrev to : IsResolvedTo s done.parts a b
      to = done.to

      version_same : b.version ≡ a0.version
      version_same = ap (λ (e : Attempt M NamedDone). e.version) to.same ∙ ap (λ (e : Attempt M NamedDone). e.version) locked

      resolved_same : b ≡ record a0 { pass = b.pass; observations = b.observations; versions = b.versions; writes = b.writes; additions = b.additions; spare = b.spare; committing = b.committing }
      resolved_same =
          let table : b.table ≡ a0.table = ap (λ (e : Attempt M NamedDone). e.table) to.same ∙ ap (λ (e : Attempt M NamedDone). e.table) locked in
          let state : b.state ≡ a0.state = ap (λ (e : Attempt M NamedDone). e.state) to.same ∙ ap (λ (e : Attempt M NamedDone). e.state) locked in
          let notes : b.notes ≡ a0.notes = ap (λ (e : Attempt M NamedDone). e.notes) to.same ∙ ap (λ (e : Attempt M NamedDone). e.notes) locked in
          let mark : b.mark ≡ a0.mark = ap (λ (e : Attempt M NamedDone). e.mark) to.same ∙ ap (λ (e : Attempt M NamedDone). e.mark) locked in
          rw (← table, ← state, ← version_same, ← notes, ← mark) refl

      goes_both : GoesOn a0.pass b.pass
      goes_both = goes_trans a0.pass a.pass b.pass goes to.pass

      observes_both : ObservesHeld a0 b
      observes_both = record { more = to.observes.more; observed = to.observes.observed ∙ ap (λ (e : Attempt M NamedDone). e.observations ++ to.observes.more) locked; held = to.observes.held }

      -- and a version drawn, just before which all stands
      module _ (law : AttemptsFollow s) (d : Attempt M NamedDone) (place : ℕ) (is : d ≡ record b { pass = d.pass; committing = true }) where
        z : Attempt M NamedDone
        z = record b { pass = d.pass; committing = true }

        ready_so : IsWriter a0 → GrewBy (2 * newly_held a0.pass a.pass) (trail_of a0.pass) (trail_of a.pass)
            → IsDrawn z place → b.version < place → d.pass.view.draws ≡ b.pass.view.draws - 1 → d.pass.view.held ≡ b.pass.view.held
            → d.pass ≡ with_view b.pass d.pass.view → Grows b.pass.view d.pass.view → GrewBy (1 + length b.observations) (trail_of b.pass) (trail_of d.pass) → IsReady s a0 z place
        unfolding z
        ready_so writer locks drawn above draws held pass grows steps = record {
          same = ap (λ (e : Attempt M NamedDone). record e { pass = d.pass; committing = true }) resolved_same;
          pass = pass ∙ ap (λ (p : PassState M NamedDone). with_view p d.pass.view) goes_both.is ∙ sym (ap (λ (p : PassState M NamedDone). let q : PassState M NamedDone = record a0.pass { view = d.pass.view; places = p.places } in q) pass);
          grows = grows_trans a0.pass.view b.pass.view d.pass.view goes_both.grows grows;
          drawn = drawn;
          above = omega (arith, above, version_same);
          draws = draws ∙ ap (λ (n : ℕ). n - 1) goes_both.draws;
          observes = record {
            more = observes_both.more;
            observed = observes_both.observed;
            held = subst (λ (hs : List (ℕ × ℕ)). Each (λ o. has o.0 (cells_of hs) ≡ true) observes_both.more) (sym held) observes_both.held;
          };
          writes_held = λ c some. subst (λ (hs : List (ℕ × ℕ)). has c (cells_of hs) ≡ true) (sym held) (to.writes_held c some);
          resolved = done.nothing;
          some = something_written a b (locked_writer writer) done;
          leads = subst (λ (ds : List NamedDone). Explains (IsFormed s) (state_in s) b.observations b.writes (by_name ds)) (ap (λ (e : Attempt M NamedDone). e.notes) locked)
              (law.ends (progress b) a.notes done.nothing to.follows);
          steps = grew_more (2 * newly_held a0.pass a.pass + 3 * (length b.pass.view.held - length a.pass.view.held) + (1 + length b.observations)) _ (trail_of a0.pass) (trail_of d.pass)
              (omega (arith, ap length held, to.locks.least))
              (grew_trans _ _ (trail_of a0.pass) (trail_of b.pass) (trail_of d.pass) (grew_trans _ _ (trail_of a0.pass) (trail_of a.pass) (trail_of b.pass) locks to.locks.steps) steps);
        }

        pub ready : IsWriter a0 → GrewBy (2 * newly_held a0.pass a.pass) (trail_of a0.pass) (trail_of a.pass)
            → IsDrawn d place → b.version < place → d.pass.view.draws ≡ b.pass.view.draws - 1 → d.pass.view.held ≡ b.pass.view.held
            → d.pass ≡ with_view b.pass d.pass.view → Grows b.pass.view d.pass.view → GrewBy (1 + length b.observations) (trail_of b.pass) (trail_of d.pass) → IsReady s a0 d place
        unfolding z
        ready writer locks drawn above draws held pass grows steps = subst (λ (e : Attempt M NamedDone). IsReady s a0 e place) (sym is)
            (ready_so writer locks (subst (λ (e : Attempt M NamedDone). IsDrawn e place) is drawn) above draws held pass grows steps)

  -- ---- the record

  module _ (a b : Attempt M NamedDone) (place : ℕ) (ready_now : IsReady s a b place) (p : PassState M NamedDone) where
    pub returns_committed : IsPassOf b.table p → IsIdle p.view → p.room ≡ b.pass.room → Grows b.pass.view p.view → (n : ℕ) → GrewBy n (trail_of b.pass) (trail_of p) → Returns a p
    returns_committed of idle room grows n steps = record {
      of = subst (λ t. IsPassOf t p) (ap (λ (e : Attempt M NamedDone). e.table) ready_now.same) of;
      idle = idle;
      room = room ∙ ap (λ (q : PassState M NamedDone). q.room) ready_now.pass;
      grows = grows_trans a.pass.view b.pass.view p.view ready_now.grows grows;
      longer = let both = grew_trans _ n (trail_of a.pass) (trail_of b.pass) (trail_of p) ready_now.steps steps in (both.0, both.1);
    }

    pub committed : (writer : IsWriter a) → a.pass.seen ≤ a.version → IsAscending b.writes
        → p.books ≡ note (version_drawn b.pass.view.stage) true (record { observations = b.observations; writes = b.writes; dones = b.notes }) b.pass.books
        → p.seen ≡ version_drawn b.pass.view.stage → p.view.draws ≡ b.pass.view.draws → Grows b.pass.view p.view
        → GrewBy (length b.writes + length b.pass.view.held) (trail_of b.pass) (trail_of p)
        → (receipt : Receipt) → receipt ≡ record { place = place; writer = true } → Commits s a p receipt
    committed writer since ascending books seen draws grows steps receipt is =
        let at : version_drawn b.pass.view.stage ≡ place = ap (λ st. version_drawn st) ready_now.drawn.0 in
        let fit = writes_fit b.writes b.pass.view.held ascending ready_now.writes_held in
        let notes : b.notes ≡ a.notes = ap (λ (e : Attempt M NamedDone). e.notes) ready_now.same in
        let old_books : b.pass.books ≡ a.pass.books = ap (λ (q : PassState M NamedDone). q.books) ready_now.pass in
        subst (λ (r : Receipt). Commits s a p r) (sym is) record {
          last = b;
          reaches = record {
            same = ready_now.same;
            observes = ready_now.observes;
            writes_held = ready_now.writes_held;
            grows = (ready_now.grows, grows);
            steps = grew_more (3 * length b.pass.view.held + 1 + length b.observations + (length b.writes + length b.pass.view.held)) (commit_steps (length b.observations) (length b.pass.view.held)) (trail_of a.pass) (trail_of p)
                (omega (arith, fit)) (grew_trans _ _ (trail_of a.pass) (trail_of b.pass) (trail_of p) ready_now.steps steps);
          };
          books = rw (← at, ← notes, ← old_books) books;
          seen = seen ∙ at;
          writer = (λ yes. writer, λ w. refl);
          since = since;
          at_version = λ no. absurd (cc);
          above = λ yes. ready_now.above;
          draws = draws ∙ ready_now.draws;
          leads = ready_now.leads;
        }

  -- ---- a reader's record

  module _ (a : Attempt M NamedDone) (none : a.writes ≡ []) (nothing : NothingWaits a) where
    not_writer : IsWriter a → ⊥
    not_writer (inl some) = omega (arith, ap (λ (ws : Entries). length ws) none, some)
    not_writer (inr adds) = adds nothing

    nothing_written : HoldsWrites a
    nothing_written c some = absurd (no_word (subst (λ (ws : Entries). IsSome (word_at ws c)) none some))
      where
        no_word : IsSome (word_at [] c) → ⊥
        no_word is = cc

    pub reader_leads : AttemptsFollow s → Follows s (progress a) a.notes → Explains (IsFormed s) (state_in s) a.observations a.writes (by_name a.notes)
    reader_leads law follows = law.ends (progress a) a.notes nothing follows

    pub read : AttemptsFollow s → Follows s (progress a) a.notes → a.pass.seen ≤ a.version → (p : PassState M NamedDone)
        → p.books ≡ note a.version false (record { observations = a.observations; writes = []; dones = a.notes }) a.pass.books → p.seen ≡ a.version → p.view.draws ≡ a.pass.view.draws
        → Grows a.pass.view p.view → GrewBy (length a.pass.view.held) (trail_of a.pass) (trail_of p)
        → (receipt : Receipt) → receipt ≡ record { place = a.version; writer = false } → Commits s a p receipt
    read law follows since p books seen draws grows steps receipt is = subst (λ (r : Receipt). Commits s a p r) (sym is) record {
      last = a;
      reaches = record {
        same = refl;
        observes = observes_none a;
        writes_held = nothing_written;
        grows = (grows_none a.pass.view, grows);
        steps = grew_more (length a.pass.view.held) (commit_steps (length a.observations) (length a.pass.view.held)) (trail_of a.pass) (trail_of p) (omega arith) steps;
      };
      books = subst (λ (ws : Entries). p.books ≡ note a.version false (record { observations = a.observations; writes = ws; dones = a.notes }) a.pass.books) (sym none) books;
      seen = seen;
      writer = (λ written. absurd (cc), λ writer. absurd (not_writer writer));
      since = since;
      at_version = λ reader. refl;
      above = λ written. absurd (cc);
      draws = omega (arith, draws);
      leads = reader_leads law follows;
    }

    pub returns_read : (p : PassState M NamedDone) → IsPassOf a.table p → IsIdle p.view → p.room ≡ a.pass.room → Grows a.pass.view p.view → (n : ℕ) → GrewBy n (trail_of a.pass) (trail_of p) → Returns a p
    returns_read p of idle room grows n steps = record { of = of; idle = idle; room = room; grows = grows; longer = (steps.0, steps.1) }

some_same : {A : Type 0} (x y : A) → Some x ≡ Some y → x ≡ y
some_same x y is = cc

-- what was observed and written explains the calls
explains_for : {P K : Type 0} (allowed : P → List Done → Type 0) (s : Shape) (table m : StoreMeaning P K) (observations writes : Entries) (dones : List NamedDone) → s ≡ table.plan → Some table ≡ Some m
    → allowed table.purpose (by_key dones) → allowed table.purpose (by_name dones) → Explains (IsFormed s) (state_in s) observations writes (by_name dones)
    → IsExplained (allowed m.purpose) m.plan observations writes dones
explains_for {P = P} {K = K} allowed s table m observations writes dones plan is keyed named leads =
    subst (λ (x : StoreMeaning P K). IsExplained (allowed x.purpose) x.plan observations writes dones) (some_same table m is) record {
      leads = subst (λ (t : Shape). Explains (IsFormed t) (state_in t) observations writes (by_name dones)) plan leads;
      allowed = keyed;
      placed = named;
    }

pub explained : {P K : Type 0} (allowed : P → List Done → Type 0) (s : Shape) (a b : Attempt (StoreMeaning P K) NamedDone) (place : ℕ) → IsReady s a b place → IsPassOf a.table a.pass → s ≡ a.table.meaning.plan
    → allowed a.table.meaning.purpose (by_key a.notes) → allowed a.table.meaning.purpose (by_name a.notes)
    → (m : StoreMeaning P K) → b.pass.view.meaning ≡ Some m → IsExplained (allowed m.purpose) m.plan b.observations b.writes b.notes
explained {P = P} {K = K} allowed s a b place ready_now of plan keyed named m is =
    let notes : b.notes ≡ a.notes = ap (λ (e : Attempt (StoreMeaning P K) NamedDone). e.notes) ready_now.same in
    subst (λ (ds : List NamedDone). IsExplained (allowed m.purpose) m.plan b.observations b.writes ds) (sym notes)
    (explains_for allowed s a.table.meaning m b.observations b.writes a.notes plan (sym (ready_now.grows.meaning ∙ of.1) ∙ is) keyed named ready_now.leads)

pub reader_explained : {P K : Type 0} (allowed : P → List Done → Type 0) (s : Shape) (a : Attempt (StoreMeaning P K) NamedDone) → a.writes ≡ [] → NothingWaits a → AttemptsFollow s → Follows s (progress a) a.notes
    → IsPassOf a.table a.pass → s ≡ a.table.meaning.plan → allowed a.table.meaning.purpose (by_key a.notes) → allowed a.table.meaning.purpose (by_name a.notes)
    → (m : StoreMeaning P K) → a.pass.view.meaning ≡ Some m → IsExplained (allowed m.purpose) m.plan a.observations [] a.notes
reader_explained {P = P} {K = K} allowed s a none nothing law follows of plan keyed named m is =
    subst (λ (ws : Entries). IsExplained (allowed m.purpose) m.plan a.observations ws a.notes) none
    (explains_for allowed s a.table.meaning m a.observations a.writes a.notes plan (sym of.1 ∙ is) keyed named (reader_leads s a none nothing law follows))
