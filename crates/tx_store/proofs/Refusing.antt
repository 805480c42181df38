-- Why a commit was refused, from its calls.
use Rattle.std.proofs.Common.{◌≡◌, ◌≢◌, ℕ, ◌+◌, ◌-◌, ◌*◌, ◌<◌, ◌≤◌, true, false, ltb, cond, List, [], ◌∷◌, ◌++◌, inl, inr, length, Some, None, refl, ap, sym, ◌∙◌, subst, arith, length-append, append-nil, append_assoc}
use Rattle.std.proofs.lemmas.Bool.{cases_lt, cond-true, lt-ltb}
use Rattle.std.proofs.lemmas.Bool.Decides.{nat_tests}
use Rattle.std.specs.Prelude.{Bool, Option, IsSome, Result, Err, IsOk}
use Rattle.cell_table.specs.Cells.{AllHold, has, after}
use Rattle.cell_table.specs.Rule.{callers_of, cells_of}
use Rattle.cell_table.specs.Sorted.{Each}
use Rattle.cell_table.specs.Steps.{IsIdle, Grows, Observes}
use Rattle.cell_table.specs.Pass.{PassState, IsPassOf, IsSole, trail_of, with_view}
use Rattle.cell_table.specs.declared.view.Event.{Event}
use Rattle.cell_table.specs.declared.view.Event.TheVariants.{ClockLoaded}
use Rattle.cell_table.specs.declared.view.View.{View}
use Rattle.attempt_lists.specs.Cells.{Entries, word_at, cell_at}
use Rattle.serial_terms.specs.Histories.{Runs}
use Rattle.serial_terms.specs.Renaming.{NamedDone, by_name}
use Rattle.serial_terms.specs.Sights.{part_of}
use Rattle.store_layout.specs.Shapes.{Shape}
use Rattle.store_layout.specs.States.{state_in, IsFormed}
use Rattle.store_layout.specs.Within.{formed_is_within_capacity}
use Rattle.store_meaning.specs.Follows.{state_with, waits_for_queue}
use Rattle.tx_core.specs.Causes.{CausedSince, FoundTwice, GrewBy, IsFound, IsFoundAt, IsOfOne}
use Rattle.tx_core.specs.Calls.{GoesOn, CausedIn, IsUnseen, IsFoundIn, HoldsAt, newly_held, waiting}
use Rattle.tx_core.specs.Facts.{grows_trans, goes_trans, goes_sole, observes_grows, grew_more, grew_trans, length_grown, caused_longer, caused_second, found_longer, twice_earlier}
use Rattle.tx_core.specs.Seen.{IsFirstChanged}
use Rattle.tx_core.specs.Sequences.{CellSequence, LocksAnd, IsFull, IsRefused, IsFullEnd, Placing}
use Rattle.tx_core.specs.Tx.{Attempt}
use Rattle.tx_core.specs.declared.resolve_end.ResolveEnd.{ResolveEnd}
use Rattle.tx_core.specs.declared.resolve_end.ResolveEnd.TheVariants as resolves
use Rattle.tx_core.specs.declared.stop.TxState.{TxState}
use Rattle.tx_core.specs.declared.stop.Stop.{Stop}
use Rattle.tx_core.specs.declared.stop.Stop.TheVariants.{Held, Newer, Memory}
use Rattle.tx_store.specs.declared.commit.CommitEnd.{CommitEnd}
use Rattle.tx_store.specs.declared.commit.CommitEnd.TheVariants as ends
use Rattle.tx_store.specs.Commits.{commit_steps, IsWriter, IsWithin, Returns, IsStoppedBy, IsFullAt, HasCause, Refuses, IsGivenUp, stop_end, resolve_end}
use Rattle.tx_store.specs.Resolves.{IsLong, IsPart, IsResolvedTo, ObservesHeld}
use Rattle.tx_store.proofs.Fitting.{each_by_index, has_word}

-- ---- causes stay when the pass knows more

twice_longer : (n : ℕ) (trail more : List Event) (stop : Stop) → FoundTwice n trail stop → FoundTwice n (trail ++ more) stop
twice_longer n trail more (Held c k) h = tt
twice_longer n trail more (Newer c f) h = (h.0, h.1, found_longer n trail more c (2 * h.0) h.2)
twice_longer n trail more Memory h = tt

pub each_grows : {M D : Type 0} (v w : View M D) (place : ℕ) → Grows v w → (os : Entries) → Each (λ o. (o.0 < length v.opening) × Observes v o.0 o.1 place) os
    → Each (λ o. (o.0 < length w.opening) × Observes w o.0 o.1 place) os
each_grows v w place g [] each = tt
each_grows v w place g (o ∷ os) each = ((omega (arith, ap length g.opening, each.0.0), observes_grows v w o.0 o.1 place g each.0.1), each_grows v w place g os each.1)

module _ {M : Type 0} (s : Shape) (a : Attempt M NamedDone) (p q : PassState M NamedDone) (grows : Grows p.view q.view) (draws : q.view.draws ≡ p.view.draws) (more : List Event) (longer : trail_of q ≡ trail_of p ++ more) where
  stopped_later : (stop : Stop) → IsStoppedBy a p stop → IsStoppedBy a q stop
  stopped_later stop by = record {
    cause = subst (λ (t : List Event). CausedSince (callers_of a.pass.view.books) a.version (length (trail_of a.pass)) t stop) (sym longer) (caused_longer (callers_of a.pass.view.books) a.version (length (trail_of a.pass)) (trail_of p) more stop by.cause);
    twice = λ unseen. subst (λ (t : List Event). FoundTwice (length (trail_of a.pass)) t stop) (sym longer) (twice_longer (length (trail_of a.pass)) (trail_of p) more stop (by.twice unseen));
    draws = omega (arith, by.draws, draws);
  }

  full_later : (place part values adding : ℕ) → IsFullAt s a p place part values adding → IsFullAt s a q place part values adding
  full_later place part values adding full = record {
    adds = full.adds;
    some = full.some;
    late = full.late;
    known = omega (arith, full.known, grows.known);
    loaded = (
      full.loaded.0,
      full.loaded.1 ++ more,
      longer ∙ ap (λ (t : List Event). t ++ more) full.loaded.2
          ∙ append_assoc (trail_of a.pass ++ full.loaded.0) (ClockLoaded place ∷ full.loaded.1) more,
    );
    observations = full.observations;
    stand = each_grows p.view q.view place grows full.observations full.stand;
    exceeds = full.exceeds;
    draws = draws ∙ full.draws;
  }

  cause_later : (place : ℕ) (end : CommitEnd) → HasCause s a p place end → HasCause s a q place end
  cause_later place (ends.Held cell owner) cause = (cause.0, stopped_later (Held cell owner) cause.1)
  cause_later place (ends.Newer cell found) cause = (cause.0, stopped_later (Newer cell found) cause.1)
  cause_later place (ends.Full part values adding) cause = full_later place part values adding cause

-- a stop that was found, as the end of the commit
pub stop_cause : {M : Type 0} (s : Shape) (a : Attempt M NamedDone) (p : PassState M NamedDone) (stop : Stop) → IsFound stop → IsStoppedBy a p stop → HasCause s a p a.version (stop_end stop)
stop_cause s a p (Held cell owner) found by = (refl, by)
stop_cause s a p (Newer cell found_version) found by = (refl, by)
stop_cause s a p Memory found by = absurd found

-- ---- the attempt is aborted

module _ {M : Type 0} (s : Shape) (a b : Attempt M NamedDone) (end : CommitEnd) (up : IsGivenUp s a b end) (p : PassState M NamedDone) (grows : Grows b.pass.view p.view) (n : ℕ) (steps : GrewBy n (trail_of b.pass) (trail_of p)) (few : n ≤ length b.pass.view.held) where
  pub returns_refused : IsPassOf b.table p → IsIdle p.view → p.room ≡ b.pass.room → Returns a p
  returns_refused of idle room = record {
    of = subst (λ t. IsPassOf t p) up.table of;
    idle = idle;
    room = room ∙ ap (λ (q : PassState M NamedDone). q.room) up.pass;
    grows = grows_trans a.pass.view b.pass.view p.view up.grows grows;
    longer = let both = grew_trans _ n (trail_of a.pass) (trail_of b.pass) (trail_of p) up.steps steps in (both.0, both.1);
  }

  pub refuses : IsWriter a → p.seen ≡ b.version → p.books ≡ b.pass.books → p.view.draws ≡ b.pass.view.draws → Refuses s a p end
  refuses writer seen books draws = record {
    writer = writer;
    last = b;
    observed = up.observed;
    steps = grew_more (3 * length b.pass.view.held + 2 + length b.observations + n) (commit_steps (length b.observations) (length b.pass.view.held)) (trail_of a.pass) (trail_of p)
        (omega (arith, few)) (grew_trans _ n (trail_of a.pass) (trail_of b.pass) (trail_of p) up.steps steps);
    books = books ∙ ap (λ (q : PassState M NamedDone). q.books) up.pass;
    seen = seen ∙ up.version;
    place = up.place;
    cause = cause_later s a b.pass p grows draws steps.0 steps.1 up.place end up.cause;
    sole = up.sole;
  }

-- ---- the parts before the one that is full

module _ (s : Shape) (cells : List ℕ) (waits : ℕ → List ℕ) (formed : IsFormed s cells) where
  queue_within : (q : ℕ) → q < length s.queues → waits q ≡ [] → IsWithin ((state_with s cells waits).queues q)
  unfolding state_with
  queue_within q low none =
      let nothing : waits_for_queue s waits q ≡ [] = cond-true {A = List ℕ} (ltb q (length s.queues)) (waits q) [] (lt-ltb q (length s.queues) low) ∙ none in
      let fits = (formed_is_within_capacity s cells formed).queues q in
      omega (arith, length-append ((state_in s cells).queues q).items (waits_for_queue s waits q), ap (λ (xs : List ℕ). length xs) nothing, fits)

  log_within : (l : ℕ) → waits (length s.queues + l) ≡ [] → IsWithin ((state_with s cells waits).logs l)
  unfolding state_with
  log_within l none =
      let fits = (formed_is_within_capacity s cells formed).logs l in
      omega (arith, length-append ((state_in s cells).logs l).items (waits (length s.queues + l)), ap (λ (xs : List ℕ). length xs) none, fits)

  part_within : (q : ℕ) → waits q ≡ [] → IsWithin (part_of (length s.queues) (state_with s cells waits) q)
  part_within q none = elim (cases_lt q (length s.queues)) [
    | inl low ↦
        let yes : ltb q (length s.queues) ≡ true = lt-ltb q (length s.queues) low in
        subst IsWithin (sym (ap (λ (b : Bool). cond b ((state_with s cells waits).queues q) ((state_with s cells waits).logs (q - length s.queues))) yes)) (queue_within q low none)
    | inr high ↦
        let no : ltb q (length s.queues) ≡ false = grind (arith, nat_tests, high) in
        let number : length s.queues + (q - length s.queues) ≡ q = omega (arith, high) in
        subst IsWithin (sym (ap (λ (b : Bool). cond b ((state_with s cells waits).queues q) ((state_with s cells waits).logs (q - length s.queues))) no))
        (log_within (q - length s.queues) (ap waits number ∙ none))
  ]

-- ---- cells that weren't observed

unseen_more : (hs : List (ℕ × ℕ)) (c : ℕ) (os more : Entries) → word_at os c ≡ None → Each (λ o. has o.0 (cells_of hs) ≡ true) more → has c (cells_of hs) ≡ false → word_at (os ++ more) c ≡ None
unseen_more hs c [] [] none held free = none
unseen_more hs c [] (o ∷ more) none held free =
    let apart : c ≢ o.0 = λ same. differ (subst (λ (d : ℕ). has d (cells_of hs) ≡ false) same free) held.0 in
    grind (arith, nat_tests, apart, unseen_more hs c [] more none held.1 free)
  where
    differ : {b : Bool} → b ≡ false → b ≡ true → ⊥
    differ is_false is_true = cc
unseen_more hs c (o ∷ os) more none held free = grind (arith, nat_tests, none, unseen_more hs c os more (grind (arith, nat_tests, none)) held free)

module _ {M D : Type 0} (a b : Attempt M D) (observes : ObservesHeld a b) where
  unseen_then : (stop : Stop) → IsUnseen a stop → IsFoundIn (λ c. has c (cells_of b.pass.view.held) ≡ false) stop → IsUnseen b stop
  unseen_then (Held c k) none free = rw (observes.observed) (unseen_more b.pass.view.held c a.observations observes.more none observes.held free)
  unseen_then (Newer c f) none free = rw (observes.observed) (unseen_more b.pass.view.held c a.observations observes.more none observes.held free)
  unseen_then Memory none free = none

found_in : (P : ℕ → Type 0) (stop : Stop) → IsFoundIn P stop → IsFound stop
found_in P (Held c k) h = tt
found_in P (Newer c f) h = tt
found_in P Memory h = h

all_earlier : (cells : List ℕ) (os more : Entries) → AllHold cells (os ++ more) → AllHold cells os
all_earlier cells [] more h = tt
all_earlier cells (o ∷ os) more h = (h.0, all_earlier cells os more h.1)

-- ---- the calls of a commit that refuse it

module _ {M : Type 0} (s : Shape) (a0 a : Attempt M NamedDone) where
  -- a stop of the locks, or of the last validation
  pub given_up : (stop : Stop) → a.table ≡ a0.table → a.version ≡ a0.version → a.observations ≡ a0.observations → a.pass ≡ record a0.pass { view = a.pass.view; places = a.pass.places } → Grows a0.pass.view a.pass.view
      → GrewBy (2 * newly_held a0.pass a.pass + 2) (trail_of a0.pass) (trail_of a.pass) → IsFound stop → IsStoppedBy a0 a.pass stop → (IsSole a0.pass → ⊥) → IsGivenUp s a0 a (stop_end stop)
  given_up stop table version seen pass grows steps found by sole = record {
    table = table;
    version = version;
    pass = pass;
    grows = grows;
    observed = ([], seen ∙ sym (append-nil a0.observations));
    steps = grew_more (2 * newly_held a0.pass a.pass + 2) _ (trail_of a0.pass) (trail_of a.pass) (omega arith) steps;
    place = a0.version;
    cause = stop_cause s a0 a.pass stop found by;
    sole = λ is. absurd (sole is);
  }

  module _ (locked : a ≡ record a0 { pass = a.pass; committing = true }) (goes : GoesOn a0.pass a.pass) (locks : GrewBy (2 * newly_held a0.pass a.pass) (trail_of a0.pass) (trail_of a.pass)) where
    -- what waits after the locks are taken
    waits_locked : (p : ℕ) → waiting p a ≡ waiting p a0
    waits_locked p = ap (λ (e : Attempt M NamedDone). waiting p e) locked

    -- the parts below some number are resolved
    module _ (at : ℕ) (mid : Attempt M NamedDone) (to : IsResolvedTo s at a mid) where
      version_so : mid.version ≡ a0.version
      version_so = ap (λ (e : Attempt M NamedDone). e.version) to.same ∙ ap (λ (e : Attempt M NamedDone). e.version) locked

      goes_so : GoesOn a0.pass mid.pass
      goes_so = goes_trans a0.pass a.pass mid.pass goes to.pass

      grew_so : GrewBy (2 * newly_held a0.pass a.pass + 3 * (length mid.pass.view.held - length a.pass.view.held)) (trail_of a0.pass) (trail_of mid.pass)
      grew_so = grew_trans _ _ (trail_of a0.pass) (trail_of a.pass) (trail_of mid.pass) locks to.locks.steps

      observes_so : ObservesHeld a0 mid
      observes_so = record { more = to.observes.more; observed = to.observes.observed ∙ ap (λ (e : Attempt M NamedDone). e.observations ++ to.observes.more) locked; held = to.observes.held }

      observed_so : (d : Attempt M NamedDone) → ((more : Entries) × (d.observations ≡ mid.observations ++ more)) → (more : Entries) × (d.observations ≡ a0.observations ++ more)
      observed_so d h = (observes_so.more ++ h.0, h.1 ∙ ap (λ (os : Entries). os ++ h.0) observes_so.observed ∙ append_assoc a0.observations observes_so.more h.0)

      steps_so : (d : Attempt M NamedDone) (k : ℕ) → k ≤ 2 → LocksAnd (k + length d.observations) mid.pass d.pass → GrewBy (3 * length d.pass.view.held + 2 + length d.observations) (trail_of a0.pass) (trail_of d.pass)
      steps_so d k low few = grew_more (2 * newly_held a0.pass a.pass + 3 * (length mid.pass.view.held - length a.pass.view.held) + (3 * (length d.pass.view.held - length mid.pass.view.held) + (k + length d.observations))) _
          (trail_of a0.pass) (trail_of d.pass) (omega (arith, to.locks.least, few.least, low)) (grew_trans _ _ (trail_of a0.pass) (trail_of mid.pass) (trail_of d.pass) grew_so few.steps)

      -- a stop of a call that follows
      pub stopped_after : (d : Attempt M NamedDone) (stop : Stop) → CausedIn mid d stop → (IsUnseen mid stop → FoundTwice (length (trail_of mid.pass)) (trail_of d.pass) stop)
          → IsFoundIn (λ c. has c (cells_of mid.pass.view.held) ≡ false) stop → mid.pass.view.draws ≤ d.pass.view.draws + 1 → IsStoppedBy a0 d.pass stop
      stopped_after d stop cause twice free draws = record {
        cause = caused_second _ a0 mid d stop version_so goes_so.books grew_so cause;
        twice = λ unseen. twice_earlier (length (trail_of a0.pass)) (length (trail_of mid.pass)) (trail_of d.pass) stop (length_grown _ (trail_of a0.pass) (trail_of mid.pass) grew_so) (twice (unseen_then a0 mid observes_so stop unseen free));
        draws = omega (arith, draws, goes_so.draws);
      }

      pub given_up_after : (d : Attempt M NamedDone) (stop : Stop) → d.table ≡ mid.table → d.version ≡ mid.version → (observed : (more : Entries) × (d.observations ≡ mid.observations ++ more)) → d.pass ≡ record mid.pass { view = d.pass.view; places = d.pass.places } → Grows mid.pass.view d.pass.view → LocksAnd (2 + length d.observations) mid.pass d.pass
          → IsFound stop → IsStoppedBy a0 d.pass stop → (IsSole a0.pass → ⊥) → IsGivenUp s a0 d (stop_end stop)
      given_up_after d stop table version observed pass grows few found by sole = record {
        table = table ∙ ap (λ (e : Attempt M NamedDone). e.table) to.same ∙ ap (λ (e : Attempt M NamedDone). e.table) locked;
        version = version ∙ version_so;
        pass = pass ∙ ap (λ (q : PassState M NamedDone). let r : PassState M NamedDone = record q { view = d.pass.view; places = d.pass.places } in r) goes_so.is;
        grows = grows_trans a0.pass.view mid.pass.view d.pass.view goes_so.grows grows;
        observed = observed_so d observed;
        steps = steps_so d 2 (omega arith) few;
        place = a0.version;
        cause = stop_cause s a0 d.pass stop found by;
        sole = λ is. absurd (sole is);
      }

      -- the part is full
      module _ (b : Attempt M NamedDone) (part : CellSequence) (is : IsPart s at part) (leaves : Placing part mid b) (some : waiting at mid ≢ []) (of : IsPassOf b.table b.pass)
          (there : (i : ℕ) → i < length b.observations → cell_at b.observations i < length b.table.opening) where
        pub full_cause : (number values adding : ℕ) → number ≡ part.part → IsFull part (IsLong s at mid b) mid b values adding → IsFullAt s a0 b.pass b.pass.view.known number values adding
        full_cause number values adding named full =
            let here : number ≡ at = named ∙ is.number in
            let added : adding ≡ length (waiting at mid) = full.adding ∙ ap (λ (p : ℕ). length (waiting p mid)) is.number in
            let waits : waiting at mid ≡ waiting at a0 = to.waits at (omega arith) ∙ waits_locked at in
            subst (λ (p : ℕ). IsFullAt s a0 b.pass b.pass.view.known p values adding) (sym here) record {
              adds = added ∙ ap (λ (xs : List ℕ). length xs) waits;
              some = some_length (waiting at mid) some added;
              late = omega (arith, full.late, version_so);
              known = omega arith;
              loaded = (
                grew_so.0 ++ full.loaded.0,
                full.loaded.1,
                full.loaded.2 ∙ ap (λ (t : List Event). t ++ full.loaded.0 ++ ClockLoaded b.pass.view.known ∷ full.loaded.1) grew_so.1
                    ∙ ap (λ (t : List Event). t ++ ClockLoaded b.pass.view.known ∷ full.loaded.1) (append_assoc (trail_of a0.pass) grew_so.0 full.loaded.0),
              );
              observations = b.observations;
              stand = each_by_index (λ c x. (c < length b.pass.view.opening) × Observes b.pass.view c x b.pass.view.known) b.observations
                  (λ i lt. (omega (arith, there i lt, ap (λ (cs : List ℕ). length cs) of.2), full.stands i lt));
              exceeds = λ cells formed hold.
                  let runs = to.follows cells formed (all_earlier cells mid.observations leaves.does.touches.observed.0 (subst (λ (os : Entries). AllHold cells os) leaves.does.touches.observed.1 hold)) in
                  let waits_mid : ℕ → List ℕ = λ q. waiting q mid in (
                    state_with s (after cells mid.writes) waits_mid,
                    subst (λ (ds : List NamedDone). Runs (state_in s cells) (by_name ds) (state_with s (after cells mid.writes) waits_mid)) (ap (λ (e : Attempt M NamedDone). e.notes) locked) runs.1,
                    (full.exceeds cells hold runs.0, omega (arith, is.capacity (after cells mid.writes) waits_mid, full.above)),
                    λ q low. part_within s (after cells mid.writes) waits_mid runs.0 q (to.emptied q low),
                  );
              draws = leaves.does.pass.draws ∙ goes_so.draws;
            }
          where
            some_length : (ws : List ℕ) → ws ≢ [] → {k : ℕ} → k ≡ length ws → 0 < k
            some_length [] nonempty same = absurd (nonempty refl)
            some_length (w ∷ ws) nonempty same = omega (arith, same)

        pub placing_given_up : (end : ResolveEnd) → (IsSole a0.pass → IsFullEnd end) → IsRefused part (IsLong s at mid b) mid b end → IsGivenUp s a0 b (resolve_end end)
        placing_given_up (resolves.Stop stop) sole refused =
            given_up_after b stop (ap (λ (e : Attempt M NamedDone). e.table) leaves.is) (ap (λ (e : Attempt M NamedDone). e.version) leaves.is) (leaves.does.touches.observed.0, leaves.does.touches.observed.1) leaves.does.pass.is leaves.does.pass.grows refused.few
            (found_in _ stop refused.found)
            (stopped_after b stop refused.cause refused.twice refused.free (omega (arith, leaves.does.pass.draws))) sole
        placing_given_up (resolves.Full number values adding) sole refused = record {
          table = ap (λ (e : Attempt M NamedDone). e.table) leaves.is ∙ ap (λ (e : Attempt M NamedDone). e.table) to.same ∙ ap (λ (e : Attempt M NamedDone). e.table) locked;
          version = ap (λ (e : Attempt M NamedDone). e.version) leaves.is ∙ version_so;
          pass = (goes_trans a0.pass mid.pass b.pass goes_so leaves.does.pass).is;
          grows = grows_trans a0.pass.view mid.pass.view b.pass.view goes_so.grows leaves.does.pass.grows;
          observed = observed_so b (leaves.does.touches.observed.0, leaves.does.touches.observed.1);
          steps = steps_so b 1 (omega arith) refused.1.few;
          place = b.pass.view.known;
          cause = full_cause number values adding refused.0 refused.1;
          sole = λ is. tt;
        }

is_none : (o : Option ℕ) → IsSome o → o ≡ None → ⊥
is_none o some none = cc

seen_there : (os : Entries) (i c : ℕ) → i < length os → c ≡ cell_at os i → word_at os c ≡ None → ⊥
seen_there os i c lt same none = is_none (word_at os (cell_at os i)) (has_word os i lt) (subst (λ (e : ℕ). word_at os e ≡ None) same none)

free_there : (old new : List (ℕ × ℕ)) (c at : ℕ) → new ≡ old → c ≡ at → has at (cells_of new) ≡ false → has c (cells_of old) ≡ false
free_there old new c at same here free = subst (λ (hs : List (ℕ × ℕ)). has c (cells_of hs) ≡ false) same (subst (λ (e : ℕ). has e (cells_of new) ≡ false) (sym here) free)

found_of_one : (entries : Entries) (stop : Stop) → IsOfOne entries stop → IsFound stop
found_of_one entries (Held c k) h = tt
found_of_one entries (Newer c f) h = tt
found_of_one entries Memory h = absurd h.2

twice_of_cells : {M D : Type 0} (a : Attempt M D) (n : ℕ) (trail : List Event) (stop : Stop) → ((c : ℕ) → IsFoundAt c stop → word_at a.observations c ≡ None → FoundTwice n trail stop) → IsUnseen a stop → FoundTwice n trail stop
twice_of_cells a n trail (Held c k) twice unseen = tt
twice_of_cells a n trail (Newer c f) twice unseen = twice c refl unseen
twice_of_cells a n trail Memory twice unseen = tt

-- a lock couldn't be taken
pub lock_given_up : {M : Type 0} (s : Shape) (a0 a : Attempt M NamedDone) (P : ℕ → Type 0) (n : ℕ) (stop : Stop) (state : TxState) → GrewBy (2 * newly_held a0.pass a.pass + 2) (trail_of a0.pass) (trail_of a.pass) → IsOfOne a0.writes stop → a ≡ record a0 { pass = a.pass; state = state; committing = true }
    → HoldsAt P n a0 a (Some stop) → ((c : ℕ) → IsFoundAt c stop → word_at a0.observations c ≡ None → FoundTwice (length (trail_of a0.pass)) (trail_of a.pass) stop) → (IsSole a0.pass → ⊥) → IsGivenUp s a0 a (stop_end stop)
lock_given_up {M = M} s a0 a P n stop state steps one is holds twice sole =
    given_up s a0 a stop (ap (λ (e : Attempt M NamedDone). e.table) is) (ap (λ (e : Attempt M NamedDone). e.version) is) (ap (λ (e : Attempt M NamedDone). e.observations) is) holds.does.pass.is holds.does.pass.grows steps (found_of_one a0.writes stop one)
    record { cause = holds.ends.cause; twice = twice_of_cells a0 (length (trail_of a0.pass)) (trail_of a.pass) stop twice; draws = omega (arith, holds.does.pass.draws) } sole

-- the last validation found an observation changed: it is of a cell that isn't held
pub changed_free : {M D : Type 0} (b d : Attempt M D) (stop : Stop) → d.pass.view.held ≡ b.pass.view.held → IsFirstChanged d.pass.view b.observations b.versions stop
    → IsFoundIn (λ c. has c (cells_of b.pass.view.held) ≡ false) stop × (IsUnseen b stop → ⊥)
changed_free b d (Held c k) held changed = (free_there b.pass.view.held d.pass.view.held c _ held changed.found changed.free, seen_there b.observations changed.place c changed.in_range changed.found)
changed_free b d (Newer c f) held changed = (free_there b.pass.view.held d.pass.view.held c _ held changed.found changed.free, seen_there b.observations changed.place c changed.in_range changed.found)
changed_free b d Memory held changed = absurd changed.found

-- so the attempt is given up
pub check_given_up : {M : Type 0} (s : Shape) (a0 a : Attempt M NamedDone) (locked : a ≡ record a0 { pass = a.pass; committing = true }) (goes : GoesOn a0.pass a.pass) (locks : GrewBy (2 * newly_held a0.pass a.pass) (trail_of a0.pass) (trail_of a.pass))
    → (at : ℕ) (b : Attempt M NamedDone) (to : IsResolvedTo s at a b) (d : Attempt M NamedDone) (stop : Stop) (state : TxState) → IsFound stop → d ≡ record b { pass = d.pass; state = state; committing = true }
    → CausedIn b d stop → IsFirstChanged d.pass.view b.observations b.versions stop → d.pass.view.draws ≡ b.pass.view.draws - 1 → d.pass.view.held ≡ b.pass.view.held → d.pass ≡ with_view b.pass d.pass.view
    → Grows b.pass.view d.pass.view → GrewBy (1 + length b.observations) (trail_of b.pass) (trail_of d.pass) → (IsSole a0.pass → ⊥) → IsGivenUp s a0 d (stop_end stop)
check_given_up {M = M} s a0 a locked goes locks at b to d stop state found is cause first draws held pass grows steps sole =
    let free = changed_free b d stop held first in
    let seen : d.observations ≡ b.observations = ap (λ (e : Attempt M NamedDone). e.observations) is in
    given_up_after s a0 a locked goes locks at b to d stop (ap (λ (e : Attempt M NamedDone). e.table) is) (ap (λ (e : Attempt M NamedDone). e.version) is) ([], seen ∙ sym (append-nil b.observations))
    (pass ∙ sym (ap (λ (p : PassState M NamedDone). let q : PassState M NamedDone = record b.pass { view = d.pass.view; places = p.places } in q) pass)) grows
    record { least = omega (arith, ap length held); steps = grew_more (1 + length b.observations) _ (trail_of b.pass) (trail_of d.pass) (omega (arith, ap length seen)) steps } found
    (stopped_after s a0 a locked goes locks at b to d stop cause (λ unseen. absurd (free.1 unseen)) free.0 (omega (arith, draws))) sole

-- on a sole pass a part alone can refuse it
pub sole_placing : {M D : Type 0} (p q : PassState M D) (end : ResolveEnd) → GoesOn p q → (IsSole q → IsFullEnd end) → IsSole p → IsFullEnd end
sole_placing p q end goes sole is = sole (goes_sole p q goes is)

abbrev stopped_with : {A : Type 0} → Stop → Result A Stop
stopped_with stop = Err stop

pub not_ok : (A : Type 0) (stop : Stop) → IsOk (stopped_with {A = A} stop) → ⊥
not_ok A stop ok = cc
