-- How an attempt of one call ends, from its begin to the pass that it leaves.
use Rattle.std.proofs.Common.{◌≡◌, ℕ, suc, ◌+◌, ◌-◌, ◌<◌, ◌≤◌, Bool, true, false, List, [], ◌∷◌, ◌++◌, length, length-append, append_assoc, Some, refl, sym, ap, ◌∙◌, subst, arith}
use Rattle.std.specs.Prelude.{slice_get, if◌then◌else◌}
use mathlib.Core.Logic.{dite}
use native.Mathlib.Decide.{dec_lt}
use Rattle.cell_table.specs.declared.view.Event.{Event}
use Rattle.cell_table.specs.declared.view.Event.TheVariants.{ClockLoaded}
use Rattle.cell_table.specs.declared.view.NotedBook.{NotedBook}
use Rattle.cell_table.specs.declared.view.Record.{Record}
use Rattle.cell_table.specs.Pass.{PassState, IsSole, trail_of, note}
use Rattle.cell_table.specs.Rule.{callers_of}
use Rattle.cell_table.specs.Steps.{IsIdle, Grows, clocked}
use Rattle.serial_terms.specs.declared.sight.SightEnd.{SightEnd}
use Rattle.serial_terms.specs.declared.sight.SightEnd.TheVariants.{Refused, Full}
use Rattle.serial_terms.specs.Renaming.{NamedDone}
use Rattle.serial_terms.specs.Serial.{State}
use Rattle.serial_terms.specs.Sights.{Seen}
use Rattle.store_layout.specs.Shapes.{Shape}
use Rattle.store_meaning.specs.declared.meaning.StoreMeaning.{StoreMeaning}
use Rattle.tx_core.specs.Calls.{waiting}
use Rattle.tx_core.specs.Causes.{CausedSince, IsFound, GrewBy}
use Rattle.tx_core.specs.declared.stop.Stop.{Stop}
use Rattle.tx_core.specs.declared.stop.Stop.TheVariants.{Held, Newer, Memory}
use Rattle.tx_core.specs.Facts.{caused_earlier, caused_longer, grows_trans}
use Rattle.tx_core.specs.Tx.{Attempt}
use Rattle.tx_store.specs.declared.commit.CommitEnd.{CommitEnd}
use Rattle.tx_store.specs.declared.commit.CommitEnd.TheVariants as commits
use Rattle.tx_store.specs.declared.commit.Receipt.{Receipt}
use Rattle.tx_store.specs.declared.run.BodyStop.{BodyStop}
use Rattle.tx_store.specs.declared.run.BodyStop.TheVariants as stops
use Rattle.tx_store.specs.Commits.{HasCause, IsFullAt, IsCommitted, IsRefused, SeesCalls}
use Rattle.tx_store.specs.Known.{Vouches}
use Rattle.tx_nest.specs.Ends.{Grew}
use Rattle.tx_store.specs.Children.{KeysGrow}
use Rattle.tx_store.specs.Runs.{IsSameAttempt, IsStopBetween, IsFullBetween, IsBodyStop, IsLeft, AttemptEnded, IsTryEnd, IsNotAgain, after_stop, after_refusal}
use Rattle.tx_store.specs.Stores.{StoreView, PassView, TxView, IsPassOfStore}
use Rattle.tx_nest.specs.AttemptLaws.{grew_trans}
use Rattle.tx_store.specs.BodyFacts.{longer}

get_at_length : (t more : List Event) (e : Event) → slice_get (t ++ e ∷ more) (length t) ≡ Some e
get_at_length [] more e = refl
get_at_length (x ∷ t) more e = get_at_length t more e

-- a cause stays one where the trail has grown
caused_more : (callers : List ℕ) (version n : ℕ) (t u : List Event) (s : Stop) → Grew t u → CausedSince callers version n t s → CausedSince callers version n u s
caused_more callers version n t u s a h = subst (λ (x : List Event). CausedSince callers version n x s) (sym a.1) (caused_longer callers version n t a.0 s h)

pub length_noted : {D : Type 0} (place : ℕ) (writer : Bool) (r : Record D) (bs : List (NotedBook D)) → length (note place writer r bs) ≡ length bs
length_noted place writer r [] = refl
length_noted place writer r (b ∷ bs) = refl

module _ {M : Type 0} where
  -- an attempt that began with the pass
  pub record Begins (s : StoreView M) (p : PassView M) (t : TxView M) : Type 0 where
    pub store : t.store ≡ s
    pub keys : t.keys ≡ p.keys
    pub books : t.attempt.pass.books ≡ p.pass.books
    pub callers : t.attempt.pass.view.books ≡ p.pass.view.books
    pub draws : t.attempt.pass.view.draws ≡ p.pass.view.draws
    pub room : t.attempt.pass.room ≡ p.pass.room
    pub seen : p.pass.seen ≤ t.attempt.version
    pub loaded : trail_of t.attempt.pass ≡ trail_of p.pass ++ ClockLoaded t.attempt.version ∷ []
    pub grows : Grows p.pass.view t.attempt.pass.view

  -- the pass that an attempt leaves
  pub record Ends (t : TxView M) (q : PassView M) : Type 0 where
    pub of : IsPassOfStore t.store q
    pub keys : q.keys ≡ t.keys
    pub idle : IsIdle q.pass.view
    pub callers : length q.pass.books ≡ length t.attempt.pass.books
    pub room : q.pass.room ≡ t.attempt.pass.room
    pub draws : t.attempt.pass.view.draws ≤ q.pass.view.draws + 1
    pub seen : t.attempt.version ≤ q.pass.seen
    pub trail : Grew (trail_of t.attempt.pass) (trail_of q.pass)
    pub grows : Grows t.attempt.pass.view q.pass.view

  pub begins : (store : StoreView M) (p : PassView M) (t : TxView M) → (t.store ≡ store) × (t.keys ≡ p.keys)
      → t.attempt.pass ≡ record p.pass { view = clocked p.pass.view t.attempt.version; reserved = t.attempt.pass.reserved }
      → (trail_of t.attempt.pass ≡ trail_of p.pass ++ ClockLoaded t.attempt.version ∷ []) × (p.pass.seen ≤ t.attempt.version) → Grows p.pass.view t.attempt.pass.view → Begins store p t
  begins store p t on is version grows = record {
    store = on.0;
    keys = on.1;
    books = ap (λ (z : PassState M NamedDone). z.books) is;
    callers = ap (λ (z : PassState M NamedDone). z.view.books) is;
    draws = ap (λ (z : PassState M NamedDone). z.view.draws) is;
    room = ap (λ (z : PassState M NamedDone). z.room) is;
    seen = version.1;
    loaded = version.0;
    grows = grows;
  }

  pub ends_aborted : (u : TxView M) (q : PassView M) (n : ℕ) → IsPassOfStore u.store q → q.keys ≡ u.keys → IsIdle q.pass.view → q.pass.seen ≡ u.attempt.version → q.pass.books ≡ u.attempt.pass.books
      → (q.pass.room ≡ u.attempt.pass.room) × (q.pass.view.draws ≡ u.attempt.pass.view.draws) → Grows u.attempt.pass.view q.pass.view → GrewBy n (trail_of u.attempt.pass) (trail_of q.pass) → Ends u q
  ends_aborted u q n of keys idle seen books same grows steps =
      let draws = same.1 in
      record {
        of = of;
        keys = keys;
        idle = idle;
        callers = ap length books;
        room = same.0;
        draws = omega arith;
        seen = omega arith;
        trail = (steps.0, steps.1);
        grows = grows;
      }

  alone_begun : (p : PassView M) (t : TxView M) (store : StoreView M) → Begins store p t → IsSole p.pass → IsSole t.attempt.pass
  alone_begun p t store begins alone = ap length begins.books ∙ (alone ∙ sym begins.grows.total)

  module _ (store : StoreView M) (p : PassView M) (t u : TxView M) (q : PassView M) (begins : Begins store p t) (same : IsSameAttempt t u) (ends : Ends u q) where
    begun_trail : Grew (trail_of p.pass) (trail_of t.attempt.pass)
    begun_trail = (ClockLoaded t.attempt.version ∷ [], begins.loaded)

    rest_of_trail : Grew (trail_of t.attempt.pass) (trail_of q.pass)
    rest_of_trail = grew_trans _ _ _ same.trail ends.trail

    kept_keys : KeysGrow p.keys q.keys
    kept_keys = subst (λ k. KeysGrow p.keys k) (sym ends.keys) (subst (λ k. KeysGrow k u.keys) begins.keys same.keys)

    pub left : IsLeft store 1 p q
    left =
        let a = begins.seen in let b = same.version in let c = ends.seen in
        let d = begins.draws in let e = same.draws in let f = ends.draws in
        record {
          of = subst (λ s. IsPassOfStore s q) (same.store ∙ begins.store) ends.of;
          idle = ends.idle;
          callers = ends.callers ∙ ap length (same.books ∙ begins.books);
          room = ends.room ∙ same.room ∙ begins.room;
          draws = omega arith;
          seen = omega arith;
          trail = grew_trans _ _ _ begun_trail rest_of_trail;
          grows = grows_trans _ _ _ begins.grows (grows_trans _ _ _ same.grows ends.grows);
          keys = kept_keys;
        }

    loaded_first : slice_get (trail_of q.pass) (length (trail_of p.pass)) ≡ Some (ClockLoaded t.attempt.version)
    loaded_first =
        let all : trail_of q.pass ≡ trail_of p.pass ++ ClockLoaded t.attempt.version ∷ rest_of_trail.0 = rest_of_trail.1 ∙ (ap (λ x. x ++ rest_of_trail.0) begins.loaded ∙ append_assoc (trail_of p.pass) (ClockLoaded t.attempt.version ∷ []) rest_of_trail.0) in
        ap (λ x. slice_get x (length (trail_of p.pass))) all ∙ get_at_length (trail_of p.pass) rest_of_trail.0 (ClockLoaded t.attempt.version)

    after_begin : length (trail_of t.attempt.pass) ≡ suc (length (trail_of p.pass))
    after_begin = ap length begins.loaded ∙ (let e = length-append (trail_of p.pass) (ClockLoaded t.attempt.version ∷ []) in omega arith)

    module _ (Saw : PassView M → Seen NamedDone → Type 0) (parts : ℕ) (answered : List NamedDone → Type 0) (seen : Seen NamedDone) (there : u.attempt.version ≤ seen.place) (saw : Saw q seen) where
      -- the attempt was ended by Held or Newer, at a version that it had between its begin and its end
      pub ended : (stop : Stop) → IsFound stop → (w n : ℕ) → t.attempt.version ≤ w → w ≤ u.attempt.version → length (trail_of t.attempt.pass) ≤ n
          → CausedSince (callers_of t.attempt.pass.view.books) w n (trail_of q.pass) stop → AttemptEnded Saw p stop q
      ended stop found w n low high since caused =
          let start = after_begin in
          record {
            found = found;
            begun = t.attempt.version;
            loaded = loaded_first;
            version = w;
            raised = low;
            caused = subst (λ books. CausedSince (callers_of books) w (suc (length (trail_of p.pass))) (trail_of q.pass) stop) begins.callers
                (caused_earlier (callers_of t.attempt.pass.view.books) w (suc (length (trail_of p.pass))) n (trail_of q.pass) stop (omega arith) caused);
            seen = seen;
            since = omega arith;
            saw = saw;
          }

      body_ended : (stop : Stop) → IsFound stop → IsStopBetween t.attempt u.attempt stop → AttemptEnded Saw p stop q
      body_ended stop found is = ended stop found is.version (length (trail_of t.attempt.pass)) is.low is.high (omega arith)
          (caused_more (callers_of t.attempt.pass.view.books) is.version (length (trail_of t.attempt.pass)) (trail_of u.attempt.pass) (trail_of q.pass) stop ends.trail is.caused)

      pub stopped : (stop : BodyStop) → IsBodyStop t u stop → IsTryEnd Saw parts answered p q (after_stop stop)
      stopped (stops.Stop (Held cell owner)) is = body_ended (Held cell owner) tt is
      stopped (stops.Stop (Newer cell found)) is = body_ended (Newer cell found) tt is
      stopped (stops.Stop Memory) is = tt
      stopped (stops.KeysFull map capacity) is = subst (λ k. IsFullBetween k q.keys map capacity) begins.keys (subst (λ k. IsFullBetween t.keys k map capacity) (sym ends.keys) is)

  pub alone_again : (p : PassView M) (t u : TxView M) (store : StoreView M) → Begins store p t → IsSameAttempt t u → IsSole p.pass → IsSole u.attempt.pass
  alone_again p t u store begins same alone = ap length (same.books ∙ begins.books) ∙ (alone ∙ sym (same.grows.total ∙ begins.grows.total))

  pub stop_not_again : (p : PassView M) (t u : TxView M) (store : StoreView M) → Begins store p t → IsSole p.pass → (stop : BodyStop) → IsBodyStop t u stop → IsNotAgain (after_stop stop)
  stop_not_again p t u store begins alone (stops.Stop (Held cell owner)) is = let e : Held cell owner ≡ Memory = is.sole (alone_begun p t store begins alone) in absurd (cc)
  stop_not_again p t u store begins alone (stops.Stop (Newer cell found)) is = let e : Newer cell found ≡ Memory = is.sole (alone_begun p t store begins alone) in absurd (cc)
  stop_not_again p t u store begins alone (stops.Stop Memory) is = tt
  stop_not_again p t u store begins alone (stops.KeysFull map capacity) is = tt

-- ---- by the commit

drawn_at_most : (w : Bool) (d n : ℕ) → n ≡ d - (if w then 1 else 0) → d ≤ n + 1
drawn_at_most true d n e = omega arith
drawn_at_most false d n e = omega arith

placed_after : (w : Bool) (version place : ℕ) → (w ≡ false → place ≡ version) → (w ≡ true → version < place) → version ≤ place
placed_after true version place low high = let h = high refl in omega arith
placed_after false version place low high = let h = low refl in omega arith

module _ {P K : Type 0} where
  pub ends_committed : (u : TxView (StoreMeaning P K)) (q : PassView (StoreMeaning P K)) (receipt : Receipt) → IsCommitted u q receipt → Ends u q
  ends_committed u q receipt is =
      let after = placed_after receipt.writer u.attempt.version receipt.place is.commits.at_version is.commits.above in
      let seen = is.commits.seen in
      record {
        of = is.of;
        keys = is.keys;
        idle = is.returns.idle;
        callers = ap length is.commits.books ∙ length_noted receipt.place receipt.writer _ u.attempt.pass.books;
        room = is.returns.room;
        draws = drawn_at_most receipt.writer u.attempt.pass.view.draws q.pass.view.draws is.commits.draws;
        seen = omega arith;
        trail = is.returns.longer;
        grows = is.returns.grows;
      }

  module _ (lawful_state : P → State → Type 0) where
    drawn_of : (s : Shape) (a : Attempt (StoreMeaning P K) NamedDone) (p : PassState (StoreMeaning P K) NamedDone) (place : ℕ) (end : CommitEnd) → HasCause s a p place end → a.pass.view.draws ≤ p.view.draws + 1
    drawn_of s a p place (commits.Held cell owner) cause = cause.1.draws
    drawn_of s a p place (commits.Newer cell found) cause = cause.1.draws
    drawn_of s a p place (commits.Full part values adding) cause = let e = cause.draws in omega arith

    pub ends_refused : (u : TxView (StoreMeaning P K)) (q : PassView (StoreMeaning P K)) (end : CommitEnd) → IsRefused lawful_state u q end → Ends u q
    ends_refused u q end is =
        let seen = is.refuses.seen in
        record {
          of = is.of;
          keys = is.keys;
          idle = is.returns.idle;
          callers = ap length is.refuses.books;
          room = is.returns.room;
          draws = drawn_of u.store.table.meaning.plan u.attempt q.pass is.refuses.place end is.refuses.cause;
          seen = omega arith;
          trail = is.returns.longer;
          grows = is.returns.grows;
        }

    pub at_store : (store s : StoreView (StoreMeaning P K)) (q : PassView (StoreMeaning P K)) (seen : Seen NamedDone) → s ≡ store → Vouches lawful_state s.table.meaning q seen → Vouches lawful_state store.table.meaning q seen
    at_store store s q seen e vouches = subst (λ z. Vouches lawful_state z.table.meaning q seen) e vouches

    pub refused : (store : StoreView (StoreMeaning P K)) (p : PassView (StoreMeaning P K)) (t u : TxView (StoreMeaning P K)) (q : PassView (StoreMeaning P K)) → Begins store p t → IsSameAttempt t u
        → (parts : ℕ) (answered : List NamedDone → Type 0) → ((part : ℕ) → parts ≤ part → waiting part u.attempt ≡ []) → answered u.attempt.notes → (end : CommitEnd) → IsRefused lawful_state u q end
        → IsTryEnd (Vouches lawful_state store.table.meaning) parts answered p q (after_refusal end)
    refused store p t u q begins same parts answered none_waits is_answered end is = by_end end is
      where
        stopped_by : (end : CommitEnd) → IsRefused lawful_state u q end → (place : ℕ) → place ≡ u.attempt.version → (kind : SightEnd) → SeesCalls lawful_state u q place kind
            → (stop : Stop) → IsFound stop → CausedSince (callers_of u.attempt.pass.view.books) u.attempt.version (length (trail_of u.attempt.pass)) (trail_of q.pass) stop → AttemptEnded (Vouches lawful_state store.table.meaning) p stop q
        stopped_by end is place at kind sees stop found caused =
            let low = same.version in
            let grew = longer _ _ same.trail in
            ended store p t u q begins same (ends_refused u q end is) (Vouches lawful_state store.table.meaning) parts answered (record { caller = 0; after = 0; place = place; end = kind; dones = u.attempt.notes }) (omega arith)
            (at_store store u.store q _ (same.store ∙ begins.store) (sees 0 0)) stop found u.attempt.version (length (trail_of u.attempt.pass)) low (omega arith) (omega arith)
            (subst (λ books. CausedSince (callers_of books) u.attempt.version (length (trail_of u.attempt.pass)) (trail_of q.pass) stop) same.callers caused)

        -- what isn't waited for isn't added
        full_there : (part place values adding : ℕ) → IsFullAt u.store.table.meaning.plan u.attempt q.pass place part values adding → part < parts
        full_there part place values adding full = dite (dec_lt part parts) (λ low. low)
            (λ no. let none = ap length (none_waits part (omega arith)) in let adds = full.adds in let some = full.some in omega arith)

        by_end : (end : CommitEnd) → IsRefused lawful_state u q end → IsTryEnd (Vouches lawful_state store.table.meaning) parts answered p q (after_refusal end)
        by_end (commits.Held cell owner) is = stopped_by (commits.Held cell owner) is is.refuses.place is.refuses.cause.0 Refused is.sees (Held cell owner) tt is.refuses.cause.1.cause
        by_end (commits.Newer cell found) is = stopped_by (commits.Newer cell found) is is.refuses.place is.refuses.cause.0 Refused is.sees (Newer cell found) tt is.refuses.cause.1.cause
        by_end (commits.Full part values adding) is = record {
          there = full_there part is.refuses.place values adding is.refuses.cause;
          seen = record { caller = 0; after = 0; place = is.refuses.place; end = Full part values adding; dones = u.attempt.notes };
          end = refl;
          calls = is_answered;
          saw = at_store store u.store q _ (same.store ∙ begins.store) (is.sees 0 0);
        }

    pub refusal_not_again : (u : TxView (StoreMeaning P K)) (q : PassView (StoreMeaning P K)) → IsSole u.attempt.pass → (end : CommitEnd) → IsRefused lawful_state u q end → IsNotAgain (after_refusal end)
    refusal_not_again u q alone (commits.Held cell owner) is = is.refuses.sole alone
    refusal_not_again u q alone (commits.Newer cell found) is = is.refuses.sole alone
    refusal_not_again u q alone (commits.Full part values adding) is = tt
