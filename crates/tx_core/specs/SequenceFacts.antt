-- The additions of a sequence are placed or refused under the lock of its end, for the proofs of the structures.
use Rattle.std.proofs.Common.{◌≡◌, ◌≢◌, ℕ, zero, suc, ◌+◌, ◌-◌, ◌*◌, ◌<◌, ◌≤◌, eqb, Bool, true, false, List, [], ◌∷◌, ◌++◌, ◌⊎◌, inl, inr, length, set, if◌then◌else◌, Some, None, refl, sym, ap, subst, ◌∙◌, arith, append-nil}
use Rattle.std.specs.Prelude.{Option, IsSome, slice_index}
use Rattle.std.specs.Option.{option_or}
use Rattle.std.proofs.lemmas.Bool.Decides.{nat_tests}
use Rattle.std.proofs.lemmas.List.{length-append, get_or-set_other}
use Rattle.cell_table.specs.Cells.{AllHold, after, has, writes_to}
use Rattle.cell_table.specs.Rule.{cells_of}
use Rattle.cell_table.specs.declared.view.Event.{Event}
use Rattle.cell_table.specs.declared.view.Event.TheVariants.{ClockLoaded}
use Rattle.cell_table.specs.Steps.{Observes}
use Rattle.cell_table.specs.Pass.{IsHeld, trail_of}
use Rattle.attempt_lists.specs.Cells.{Entries, word_at, word_of, cell_at}
use Rattle.attempt_lists.specs.Parts.{Waiting, waiting_of, marked_of}
use Rattle.tx_core.specs.Tx.{Attempt, ObservedLate}
use Rattle.tx_core.specs.Parts.{Shows}
use Rattle.tx_core.specs.Causes.{IsFoundAt, FoundTwice, GrewBy}
use Rattle.tx_core.specs.Seen.{IsFirstChanged}
use Rattle.tx_core.specs.declared.spare.Spare.{Spare}
use Rattle.tx_core.specs.declared.stop.Stop.{Stop}
use Rattle.tx_core.specs.declared.stop.Stop.TheVariants.{Held, Newer, Memory}
use Rattle.tx_core.specs.Calls.{TouchesOnly, StepsAt, KeepsOthers, UsesAtMost, Locks, IsFoundIn, IsUnseen, CausedIn, stopped_from, known, waiting}
use Rattle.tx_core.specs.Words.{length_after}
use Rattle.tx_core.specs.Facts.{found_wider, found_at_in, held_kept, steps_none, steps_wider, steps_trans, caused_second, length_grown}
use Rattle.tx_core.specs.Sequences.{CellSequence, Makes, Settles, Exceeds, place_of, IsAddition, IsEndOrAddition, LocksUpTo, FoundEnd, IsPlace, IsExtended, IsStoppedAt, IsSettledBy, IsSettled, IsStopped, IsFull, Placing}
use Rattle.tx_core.specs.OneCell.{IsLateHold, late_hold_is, late_writes, holds_late, locked_and_checked, locks_late, locks_trans, locks_wider, locks_then, locks_looked, free_before, free_cell}
use Rattle.tx_core.specs.SequencePlaces.{HasPlaces, found_stays, twice_later, twice_at_cell}

-- ---- what the cells of additions make of the values

-- The cells have the values in the places behind the items, and the end counts them; all other cells are as before
pub record HasMore (s : CellSequence) (word : ℕ) (xs cells new : List ℕ) : Type 0 where
  pub sized : length new ≡ length cells
  pub end : slice_index new s.end ≡ word + length xs
  pub items : (k : ℕ) → k < length xs → slice_index new (place_of s word k) ≡ s.stored (slice_index xs k)
  pub others : (c : ℕ) → (IsEndOrAddition s word (length xs) c → ⊥) → slice_index new c ≡ slice_index cells c

-- What a structure shows of its sequence: the end's word counts the values of well-formed cells, and with values behind them the
-- cells are well formed, too, and have these values more
pub record IsSequenceOf (s : CellSequence) (IsFormed : List ℕ → Type 0) (values : List ℕ → List ℕ) : Type 0 where
  pub in_table : (cells : List ℕ) (word n : ℕ) → IsFormed cells → s.length_of word + n ≤ s.capacity → (c : ℕ) → IsEndOrAddition s word n c → c < length cells
  pub within : (cells : List ℕ) → IsFormed cells → s.length_of (slice_index cells s.end) ≤ s.capacity
  pub counts : (cells : List ℕ) → IsFormed cells → length (values cells) ≡ s.length_of (slice_index cells s.end)
  pub grows : (cells xs new : List ℕ) → IsFormed cells → s.length_of (slice_index cells s.end) + length xs ≤ s.capacity → HasMore s (slice_index cells s.end) xs cells new → IsFormed new × (values new ≡ values cells ++ xs)

-- ---- cells after writes

-- a cell that isn't written stays
pub after_other : (cells : List ℕ) (ws : List (ℕ × ℕ)) (c : ℕ) → writes_to ws c ≡ false → slice_index (after cells ws) c ≡ slice_index cells c
after_other cells [] c unwritten = refl
after_other cells (w ∷ ws) c unwritten =
    let off : c ≢ w.0 = λ same. grind (arith, nat_tests, unwritten, same) in
    after_other (set cells w.0 w.1) ws c (grind (arith, nat_tests, unwritten)) ∙ get_or-set_other cells w.0 c w.1 0 off

-- ---- observed cells

or_some : (o : ℕ × ℕ) (os : Entries) (c : ℕ) → IsSome (word_at os c) → IsSome (word_at (o ∷ os) c)
or_some o os c some = by (eqb c o.0) some
  where
    by : (b : Bool) → IsSome (word_at os c) → IsSome (if b then Some o.1 else word_at os c)
    by true rest = refl
    by false rest = rest

present : (os : Entries) (i : ℕ) → i < length os → IsSome (word_at os (cell_at os i))
present [] i lt = absurd (omega arith)
present (o ∷ os) zero lt = grind (arith, nat_tests)
present (o ∷ os) (suc i) lt = or_some o os (cell_at os i) (present os i (omega arith))

present_or_last : (os : Entries) (c x i : ℕ) → i < length (os ++ (c, x) ∷ []) → IsSome (word_at os (cell_at (os ++ (c, x) ∷ []) i)) ⊎ (cell_at (os ++ (c, x) ∷ []) i ≡ c)
present_or_last [] c x zero lt = inr refl
present_or_last [] c x (suc i) lt = absurd (omega arith)
present_or_last (o ∷ os) c x zero lt = inl (present (o ∷ os) zero (omega arith))
present_or_last (o ∷ os) c x (suc i) lt = elim (present_or_last os c x i (omega arith)) [
  | inl some ↦ inl (or_some o os _ some)
  | inr end ↦ inr end
]

-- the room that a lock of the end and the placing use
used_both : (a b d : Spare) (n : ℕ) → 0 < n → UsesAtMost 1 0 a b → UsesAtMost n (n + 1) b d → UsesAtMost (2 * n) (2 * n) a d
used_both a b d n some first next = record {
  locks = omega (arith, some, first.locks, next.locks);
  observations = omega (arith, some, first.observations, next.observations);
  writes = omega (arith, some, first.writes, next.writes);
}

module _ {M D : Type 0} (s : CellSequence) where
  -- the attempt a with what the placing may change taken from t
  abbrev pub left_as : Attempt M D → Attempt M D → Attempt M D
  left_as a t = record a { pass = t.pass; state = t.state; observations = t.observations; versions = t.versions; writes = t.writes; additions = t.additions; spare = t.spare; committing = t.committing }

  -- the attempt a with what a lock of the end may change taken from t
  abbrev pub end_as : Attempt M D → Attempt M D → Attempt M D
  end_as a t = record a { pass = t.pass; state = t.state; observations = t.observations; versions = t.versions; spare = t.spare; committing = t.committing }

  -- In the commit the end was locked, and its word found
  pub record HoldsEnd (a b : Attempt M D) (word : ℕ) : Type 0 where
    pub late : IsLateHold a b s.end
    pub found : FoundEnd s a b word
    pub held : IsHeld b.pass s.end
    pub does : StepsAt (λ c. c ≡ s.end) 3 a b
    pub locks : LocksUpTo 1 a.pass b.pass
    pub writes : b.writes ≡ a.writes
    pub additions : b.additions ≡ a.additions
    pub is_known : known b s.end ≡ Some word

  pub holds_end : {R : Type 0} (a b : Attempt M D) (word : ℕ)
      → (IsHeld a.pass s.end → R × (b ≡ record a { committing = true }))
      → (has s.end (cells_of a.pass.view.held) ≡ false → IsSome (option_or (word_at a.writes s.end) (word_at a.observations s.end)) → b ≡ record a { pass = b.pass; spare = record a.spare { locks = a.spare.locks - 1 }; committing = true })
      → (has s.end (cells_of a.pass.view.held) ≡ false → word_at a.writes s.end ≡ None → word_at a.observations s.end ≡ None → ObservedLate a b s.end word)
      → (has s.end (cells_of a.pass.view.held) ≡ false → (u : ℕ) × Locks a b s.end u)
      → FoundEnd s a b word → IsHeld b.pass s.end → StepsAt (λ c. c ≡ s.end) 3 a b → HoldsEnd a b word
  holds_end a b word already knew new takes found held does =
      let late = late_hold_is a b s.end word (λ h. (already h).1) knew new in
      let kept = late_writes a b s.end late in
      record {
        late = late;
        found = found;
        held = held;
        does = does;
        locks = locks_late a b s.end (λ h. (already h).1) takes does.steps;
        writes = kept.0;
        additions = kept.1;
        is_known = subst (λ (w : Entries). option_or (word_at w s.end) (word_at b.observations s.end) ≡ Some word) (sym kept.0) found;
      }

  -- as many wait as before
  same_count : (a b : Attempt M D) (word : ℕ) → HoldsEnd a b word → waiting s.part b ≡ waiting s.part a
  same_count a b word e = rw (e.additions) refl

  -- ---- what the call makes of the values

  module _ (IsFormed : List ℕ → Type 0) (values : List ℕ → List ℕ) (of : IsSequenceOf s IsFormed values) where
    -- in any cells in which all holds, the end has the word that is known
    pub found_word : (b : Attempt M D) (word : ℕ) (cells : List ℕ) → known b s.end ≡ Some word → ((c x : ℕ) → known b c ≡ Some x → Shows b c x) → AllHold cells b.observations → IsFormed (after cells b.writes) → slice_index (after cells b.writes) s.end ≡ word
    found_word b word cells is_known shows all is =
        let them : List ℕ = after cells b.writes in
        let fits : s.length_of (slice_index them s.end) + 0 ≤ s.capacity = omega (arith, of.within them is) in
        shows s.end word is_known cells all (omega (arith, of.in_table them (slice_index them s.end) 0 is fits s.end (inl refl), length_after b.writes cells))

    -- a claim of the attempt that holds the end is one of the attempt before
    makes_from : (a b d : Attempt M D) (P : List ℕ → List ℕ → Type 0) → b.writes ≡ a.writes → b.additions ≡ a.additions → Makes IsFormed values s.part b d P → Makes IsFormed values s.part a d P
    makes_from a b d P ws adds makes = subst (λ (w : Entries). Makes IsFormed values s.part (record a { writes = w }) d P) ws (subst (λ (w : List Waiting). Makes IsFormed values s.part (record b { additions = w }) d P) adds makes)

    -- the additions don't fit
    pub makes_nothing : (a b d : Attempt M D) (word n : ℕ) → HoldsEnd a b word → d.writes ≡ b.writes → d.observations ≡ b.observations → d.additions ≡ b.additions
        → ((c x : ℕ) → known b c ≡ Some x → Shows b c x) → n ≡ s.length_of word + length (waiting s.part a) → Makes IsFormed values s.part a d (Exceeds n)
    makes_nothing a b d word n e ws os adds shows sum = makes_from a b d (Exceeds n) e.writes e.additions (λ cells all is.
        let f = found_word b word cells e.is_known shows (subst (λ (o : Entries). AllHold cells o) os all) is in
        let long : length (values (after cells b.writes)) ≡ s.length_of word = of.counts (after cells b.writes) is ∙ ap s.length_of f in
        let count : length (waiting s.part b) ≡ length (waiting s.part a) = ap length (same_count a b word e) in
        (rw ws is, (omega (arith, sum, count, long, length-append (values (after cells b.writes)) (waiting s.part b)), rw (ws, adds) refl)))

    placed_there : (b d : Attempt M D) (word : ℕ) (cells : List ℕ) → known b s.end ≡ Some word → waiting s.part b ≢ [] → IsSettledBy s (length (waiting s.part b)) b d → StepsAt (IsEndOrAddition s word (length (waiting s.part b))) (3 * length (waiting s.part b)) b d
        → ((c : ℕ) → IsEndOrAddition s word (length (waiting s.part b)) c → c < length cells) → ((c x : ℕ) → known d c ≡ Some x → Shows d c x) → AllHold cells d.observations
        → HasMore s word (waiting s.part b) (after cells b.writes) (after cells d.writes)
    placed_there b d word cells is_known some settled does in_table shows all =
        let ext = settled.extended some in
        let same : ext.word ≡ word = one_word _ word ext.word (found_stays s b b d word is_known does.touches) ext.found in
        record {
          sized = length_after d.writes cells ∙ sym (length_after b.writes cells);
          end = shows s.end _ (written d s.end _ ext.written) cells all (in_table s.end (inl refl)) ∙ ap (λ w. w + length (waiting s.part b)) same;
          items = λ k lt. subst (λ w. slice_index (after cells d.writes) (place_of s w k) ≡ s.stored (slice_index (waiting s.part b) k)) same
              (shows (place_of s ext.word k) _ (written d _ _ (ext.items k lt).0) cells all (in_table _ (inr (k, lt, ap (λ w. place_of s w k) same))));
          others = λ c off. does.touches.others cells c off;
        }
      where
        one_word : (o : Option ℕ) (x y : ℕ) → o ≡ Some x → o ≡ Some y → y ≡ x
        one_word o x y p q = cc

        written : (a : Attempt M D) (c x : ℕ) → word_at a.writes c ≡ Some x → known a c ≡ Some x
        written a c x is = ap (λ (w : Option ℕ). option_or w (word_at a.observations c)) is

    -- the additions are placed
    pub makes_placed : (a b d : Attempt M D) (word : ℕ) → 0 < length (waiting s.part a) → HoldsEnd a b word → IsSettledBy s (length (waiting s.part b)) b d → StepsAt (IsEndOrAddition s word (length (waiting s.part b))) (3 * length (waiting s.part b)) b d
        → s.length_of word + length (waiting s.part a) ≤ s.capacity
        → ((c x : ℕ) → known b c ≡ Some x → Shows b c x) → ((cells : List ℕ) (more : Entries) → AllHold cells (b.observations ++ more) → AllHold cells b.observations) → ((c x : ℕ) → known d c ≡ Some x → Shows d c x)
        → Makes IsFormed values s.part a d (Settles s.capacity)
    makes_placed a b d word some e settled does fits shows earlier shows_after = makes_from a b d (Settles s.capacity) e.writes e.additions (λ cells all is.
        let count : length (waiting s.part b) ≡ length (waiting s.part a) = ap length (same_count a b word e) in
        let fit : s.length_of word + length (waiting s.part b) ≤ s.capacity = omega (arith, fits, count) in
        let them : List ℕ = after cells b.writes in
        let f = found_word b word cells e.is_known shows (earlier cells does.touches.observed.0 (subst (λ (o : Entries). AllHold cells o) (does.touches.observed.1) all)) is in
        let in_table : (c : ℕ) → IsEndOrAddition s word (length (waiting s.part b)) c → c < length cells = λ c of_these. omega (arith, of.in_table them word (length (waiting s.part b)) is fit c of_these, length_after b.writes cells) in
        let more = placed_there b d word cells e.is_known (λ none. omega (arith, some, count, ap length none)) settled does in_table shows_after all in
        let p = of.grows them (waiting s.part b) (after cells d.writes) is (rw f fit) (rw f more) in
        let long : length (values (after cells d.writes)) ≤ s.capacity = omega (arith, of.counts (after cells d.writes) p.0, of.within (after cells d.writes) p.0) in
        let whole : values (after cells d.writes) ++ waiting s.part d ≡ values (after cells d.writes) = rw (settled.emptied) (append-nil (values (after cells d.writes))) in
        (p.0, (whole ∙ p.1, omega (arith, ap length whole, long))))

  -- ---- how it ends

  pub full_refused : (Exceeding : ℕ → Type 0) (a b d : Attempt M D) (word t n more : ℕ) → HoldsEnd a b word → n ≡ s.length_of word → more ≡ length (waiting s.part a) → s.capacity < n + more → Exceeding (n + more)
      → (b.version ≤ t) × (t ≡ d.pass.view.known) × (later : List Event) × (trail_of d.pass ≡ trail_of b.pass ++ ClockLoaded t ∷ later)
      → ((i : ℕ) → i < length b.observations → Observes d.pass.view (cell_at b.observations i) (word_of b.observations i) t)
      → GrewBy (1 + length b.observations) (trail_of b.pass) (trail_of d.pass) → d.pass.view.held ≡ b.pass.view.held → d ≡ record b { pass = d.pass; committing = true } → IsFull s Exceeding a d n more
  full_refused Exceeding a b d word t n more e long adding above exceeds place check grew held same =
      let os : d.observations ≡ b.observations = ap (λ (a : Attempt M D). a.observations) same in
      record {
        word = word;
        found = rw os (e.found);
        length_there = long;
        adding = adding;
        above = above;
        exceeds = exceeds;
        late = rw (← (place.1)) (omega (arith, place.0, ap (λ (a : Attempt M D). a.version) e.late.is));
        loaded = (e.does.steps.0, place.2, rw (← (place.1)) (place.3 ∙ ap (λ (u : List Event). u ++ ClockLoaded t ∷ place.2) e.does.steps.1));
        stands = rw (os, ← (place.1)) check;
        few = locks_then 1 _ a.pass b.pass d.pass e.locks (locks_looked (1 + length b.observations) _ b.pass d.pass (omega (arith, ap length os)) held grew);
        same = locked_and_checked a b d s.end e.late same;
      }

  pub end_refused : (a d : Attempt M D) (stop : Stop) → IsFoundAt s.end stop → d ≡ record a { pass = d.pass; state = stopped_from a.state; committing = true } → CausedIn a d stop
      → (word_at a.observations s.end ≡ None → FoundTwice (length (trail_of a.pass)) (trail_of d.pass) stop)
      → (IsHeld a.pass s.end → ⊥) → d.pass.view.held ≡ a.pass.view.held → GrewBy 2 (trail_of a.pass) (trail_of d.pass) → IsStopped s a d stop
  end_refused a d stop at is cause twice free held grew = record {
    state = ap (λ (t : Attempt M D). t.state) is;
    found = found_at_in _ s.end stop (inl (inl refl)) at;
    cause = cause;
    twice = twice_at_cell a s.end _ _ stop at twice;
    free = found_at_in _ s.end stop (free_cell a s.end free) at;
    few = locks_looked 2 _ a.pass d.pass (omega arith) held grew;
  }

  -- an observed cell of the attempt whose end is held: it was observed before, or is the end
  observed_before : (a b : Attempt M D) (i : ℕ) → IsLateHold a b s.end → i < length b.observations → IsSome (word_at a.observations (cell_at b.observations i)) ⊎ (cell_at b.observations i ≡ s.end)
  observed_before a b i late lt = elim late.seen [
    | inl same ↦ inl (rw same (present a.observations i (omega (arith, lt, ap length same))))
    | inr more ↦ rw (more.1) (present_or_last a.observations s.end more.0 i (omega (arith, lt, ap length more.1)))
  ]

  -- the end is held, so a changed cell is one that was observed before
  seen_at_observed : (a b : Attempt M D) (i : ℕ) (stop : Stop) → IsLateHold a b s.end → i < length b.observations → IsFoundAt (cell_at b.observations i) stop → has (cell_at b.observations i) (cells_of b.pass.view.held) ≡ false → has s.end (cells_of b.pass.view.held) ≡ true → IsUnseen a stop → ⊥
  seen_at_observed a b i stop late lt at unheld held unseen = elim (observed_before a b i late lt) [
    | inl some ↦ by stop at unseen some
    | inr end ↦ let no : has s.end (cells_of b.pass.view.held) ≡ false = rw (← end) unheld in cc
  ]
    where
      by : (stop : Stop) → IsFoundAt (cell_at b.observations i) stop → IsUnseen a stop → IsSome (word_at a.observations (cell_at b.observations i)) → ⊥
      by (Held d owner) at unseen some = let none : word_at a.observations (cell_at b.observations i) ≡ None = rw (← at) unseen in let no = rw none at some in cc
      by (Newer d found) at unseen some = let none : word_at a.observations (cell_at b.observations i) ≡ None = rw (← at) unseen in let no = rw none at some in cc
      by Memory at unseen some = at

  -- all that was observed was validated, and one of it has changed
  pub check_refused : (a b d : Attempt M D) (word : ℕ) (stop : Stop) → HoldsEnd a b word → d.state ≡ stopped_from b.state → IsFirstChanged d.pass.view b.observations b.versions stop → CausedIn b d stop → d.pass.view.held ≡ b.pass.view.held
      → d.observations ≡ b.observations → GrewBy (1 + length b.observations) (trail_of b.pass) (trail_of d.pass) → IsStopped s a d stop
  check_refused a b d word stop e state first cause held os grew = record {
    state = state ∙ ap stopped_from (ap (λ (t : Attempt M D). t.state) e.late.is);
    found = found_at_in _ (cell_at b.observations first.place) stop (elim (observed_before a b first.place e.late first.in_range) [ inl some ↦ inr some | inr end ↦ inl (inl end) ]) first.found;
    cause = caused_second 3 a b d stop e.does.version e.does.pass.books e.does.steps cause;
    twice = λ unseen. absurd (seen_at_observed a b first.place stop e.late first.in_range first.found (rw (← held) first.free) e.held unseen);
    free = found_at_in _ (cell_at b.observations first.place) stop (free_before a b (held_kept _ a b e.does.touches) _ (rw (← held) first.free)) first.found;
    few = locks_then 1 _ a.pass b.pass d.pass e.locks (locks_looked (1 + length b.observations) _ b.pass d.pass (omega (arith, ap length os)) held grew);
  }

  -- the places of the additions, by the word that was found
  places_found : (a b d : Attempt M D) (word : ℕ) {P : ℕ → Type 0} → HoldsEnd a b word → TouchesOnly P b d → (c : ℕ) → IsEndOrAddition s word (length (waiting s.part b)) c → IsPlace s a d c
  places_found a b d word e t c (inl end) = inl end
  places_found a b d word e t c (inr one) = inr (word, one.0, found_stays s a b d word e.found t, omega (arith, one.1, ap length (same_count a b word e)), one.2)

  -- an addition can't be placed
  pub place_refused : (a b d : Attempt M D) (word : ℕ) {P : ℕ → Type 0} (stop : Stop) → HoldsEnd a b word → HasPlaces s word (length (waiting s.part b)) → TouchesOnly P b d → IsStoppedAt (IsAddition s word (length (waiting s.part b))) b d stop → IsStopped s a d stop
  place_refused a b d word stop e places touches stopped = record {
    state = stopped.state ∙ ap stopped_from (ap (λ (t : Attempt M D). t.state) e.late.is);
    found = found_wider _ _ stop (λ c one. inl (places_found a b d word e touches c (inr one))) stopped.found;
    cause = caused_second 3 a b d stop e.does.version e.does.pass.books e.does.steps stopped.cause;
    twice = twice_later (λ c. c ≡ s.end) (IsAddition s word (length (waiting s.part b))) a b _ _ _ stop e.does.touches (λ c one end. places.free one.0 one.1 (sym one.2 ∙ end)) (length_grown _ _ _ e.does.steps) stopped.found stopped.twice;
    free = found_wider _ _ stop (λ c free. free_before a b (held_kept _ a b e.does.touches) c free) stopped.free;
    few = locks_then 1 _ a.pass b.pass d.pass e.locks stopped.few;
  }

  -- all additions are placed
  pub settled_all : (a b d : Attempt M D) (word : ℕ) → HoldsEnd a b word → IsSettledBy s (length (waiting s.part b)) b d → IsSettled s a d
  settled_all a b d word e settled =
      let same = same_count a b word e in
      record {
        state = settled.state ∙ ap (λ (t : Attempt M D). t.state) e.late.is;
        emptied = settled.emptied;
        extended = λ some. extended_from (settled.extended (λ none. some (sym same ∙ none)));
        writes_held = λ all. settled.writes_held (holds_late _ a b s.end e.late e.does.touches all);
        locks = locks_wider (1 + length (waiting s.part b)) _ a.pass d.pass (omega (arith, ap length same)) (locks_trans 1 (length (waiting s.part b)) a.pass b.pass d.pass e.locks settled.locks);
      }
    where
      extended_from : IsExtended s b d → IsExtended s a d
      extended_from x =
          let same = same_count a b word e in
          record {
            word = x.word;
            found = subst (λ (w : Entries). option_or (word_at w s.end) (word_at d.observations s.end) ≡ Some x.word) e.writes x.found;
            within = omega (arith, x.within, ap length same);
            written = x.written ∙ ap (λ (w : List ℕ). Some (x.word + length w)) same;
            held = x.held;
            items = λ k lt. subst (λ (w : List ℕ). k < length w → (word_at d.writes (place_of s x.word k) ≡ Some (s.stored (slice_index w k))) × IsHeld d.pass (place_of s x.word k)) same (x.items k) lt;
          }

  -- ---- what is left of the attempt

  pub placing_none : (a : Attempt M D) → Placing s a a
  placing_none a = record {
    is = refl;
    does = steps_wider _ _ 0 _ a a (λ c h. h) (omega arith) (steps_none _ a);
    others = record { others = λ q off. refl; marked = λ q. refl };
    used = record { locks = omega arith; observations = omega arith; writes = omega arith };
  }

  -- at most the end was locked, and nothing is placed
  placing_end : (a d : Attempt M D) → 0 < length (waiting s.part a) → d ≡ end_as a d
      → StepsAt (λ c. c ≡ s.end) (4 + length d.observations) a d → UsesAtMost 1 0 a.spare d.spare → Placing s a d
  placing_end a d some is does used = record {
    is = is ∙ sym (ap (left_as a) is);
    does = steps_wider _ _ _ _ a d (λ c end. inl end) (omega arith) does;
    others = record { others = λ q off. ap (λ (t : Attempt M D). waiting_of t.additions q) is; marked = λ q. ap (λ (t : Attempt M D). marked_of t.additions q) is };
    used = record { locks = omega (arith, some, used.locks); observations = omega (arith, some, used.observations); writes = omega (arith, used.writes) };
  }

  -- the end couldn't be locked
  pub placing_unlocked : (a d : Attempt M D) → 0 < length (waiting s.part a) → d ≡ record a { pass = d.pass; state = stopped_from a.state; committing = true } → StepsAt (λ c. c ≡ s.end) 3 a d → Placing s a d
  placing_unlocked a d some is does =
      let spare = ap (λ (t : Attempt M D). t.spare) is in
      placing_end a d some (is ∙ sym (ap (end_as a) is)) (steps_wider _ _ 3 _ a d (λ c h. h) (omega arith) does) (rw spare (record { locks = omega arith; observations = omega arith; writes = omega arith }))

  -- the end was locked, and then all that was observed was validated
  pub placing_checked : (a b d : Attempt M D) (word : ℕ) → 0 < length (waiting s.part a) → HoldsEnd a b word → d ≡ record b { pass = d.pass; state = d.state; committing = true } → StepsAt (λ c. ⊥) (1 + length b.observations) b d → Placing s a d
  placing_checked a b d word some e checked next =
      let os : d.observations ≡ b.observations = ap (λ (t : Attempt M D). t.observations) checked in
      let sp : d.spare ≡ b.spare = ap (λ (t : Attempt M D). t.spare) checked in
      let is = checked ∙ ap (λ (t : Attempt M D). record t { pass = d.pass; state = d.state; committing = true }) e.late.is in
      placing_end a d some (is ∙ sym (ap (end_as a) is))
      (steps_wider _ _ (3 + (1 + length b.observations)) _ a d (λ c h. h) (omega (arith, ap length os)) (steps_trans _ 3 (1 + length b.observations) a b d e.does (steps_wider _ _ _ _ b d (λ c none. absurd none) (omega arith) next)))
      (rw sp e.late.used)

  -- the end was locked, and then additions were placed
  pub placing_placed : (a b d : Attempt M D) (word : ℕ) → 0 < length (waiting s.part a) → HoldsEnd a b word → d ≡ left_as b d → StepsAt (IsEndOrAddition s word (length (waiting s.part b))) (3 * length (waiting s.part b)) b d
      → KeepsOthers s.part b.additions d.additions → UsesAtMost (length (waiting s.part b)) (length (waiting s.part b) + 1) b.spare d.spare → Placing s a d
  placing_placed a b d word some e is next same_others used =
      let count : length (waiting s.part b) ≡ length (waiting s.part a) = ap length (same_count a b word e) in
      record {
        is = is ∙ ap (λ (t : Attempt M D). left_as t d) e.late.is;
        does = steps_wider _ _ (3 + 3 * length (waiting s.part b)) _ a d (λ c h. h) (omega (arith, count))
            (steps_trans _ 3 (3 * length (waiting s.part b)) a b d (steps_wider _ _ 3 3 a b (λ c end. inl end) (omega arith) e.does) (steps_wider _ _ _ _ b d (places_found a b d word e next.touches) (omega arith) next));
        others = rw (← (e.additions)) same_others;
        used = used_both a.spare b.spare d.spare (length (waiting s.part a)) some e.late.used (rw (← count) used);
      }
