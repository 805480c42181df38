-- The cells of sequences, and one addition after another that is placed, for the proofs of the structures.
use Rattle.std.proofs.Common.{◌≡◌, ◌≢◌, ℕ, ◌+◌, ◌*◌, ◌<◌, ◌≤◌, List, [], ◌∷◌, ◌++◌, inl, inr, length, get_or, Some, None, refl, sym, ap, subst, ◌∙◌, arith, append-nil, append_assoc}
use Rattle.std.specs.Prelude.{All, slice_index}
use Rattle.std.proofs.lemmas.List.{length-append, get_or_at, get_or_append_left, length_push}
use Rattle.std.proofs.lemmas.Bool.{cases_lt}
use Rattle.std.proofs.lemmas.Bool.Decides.{nat_tests}
use Rattle.cell_table.specs.Sorted.{Each}
use Rattle.cell_table.specs.Pass.{PassState, IsHeld, trail_of}
use Rattle.cell_table.specs.declared.view.Event.{Event}
use Rattle.attempt_lists.specs.Cells.{Entries, word_at, put}
use Rattle.attempt_lists.specs.Parts.{Waiting, waiting_of, marked_of, ChangesOnly}
use Rattle.tx_core.specs.Tx.{Attempt}
use Rattle.tx_core.specs.Causes.{IsFoundAt, FoundTwice, GrewBy}
use Rattle.tx_core.specs.Calls.{GoesOn, TouchesOnly, StepsAt, UsesAtMost, KeepsOthers, HoldsWrites, IsFoundIn, IsUnseen, stopped_from, waiting}
use Rattle.tx_core.specs.Words.{put_other, put_same}
use Rattle.tx_core.specs.Facts.{held_kept, found_wider, caused_second, grew_none, goes_none, touches_none, steps_none, steps_wider, steps_trans, length_grown, known_stays}
use Rattle.tx_core.specs.Sequences.{CellSequence, place_of, next_of, IsAddition, IsEndOrAddition, LocksUpTo, IsPlaced, IsStoppedAt, IsExtended, IsSettledBy, FoundEnd}
use Rattle.tx_core.specs.OneCell.{IsLateHold, holds_late, holds_put, locks_none, locks_trans, locks_wider, locks_then, free_before}
use Rattle.tx_core.specs.declared.stop.Stop.{Stop}
use Rattle.tx_core.specs.declared.stop.Stop.TheVariants.{Held, Newer, Memory}

-- The places of n additions behind the items that are there by this word of the end: with k items more the next place is the
-- k-th one's, no two are one cell, and none is the end
pub record HasPlaces (s : CellSequence) (word n : ℕ) : Type 0 where
  pub next : (k : ℕ) → k < n → next_of s (word + k) ≡ place_of s word k
  pub apart : (j k : ℕ) → j < k → k < n → place_of s word j ≢ place_of s word k
  pub free : (k : ℕ) → k < n → place_of s word k ≢ s.end

pub addition_wider : (s : CellSequence) (word n m c : ℕ) → n ≤ m → IsAddition s word n c → IsAddition s word m c
addition_wider s word n m c le h = (h.0, omega (arith, le, h.1), h.2)

module _ {M D : Type 0} where
  -- the attempt a with what the placing may change taken from t
  abbrev pub placed_as : Attempt M D → Attempt M D → Attempt M D
  placed_as a t = record a { pass = t.pass; observations = t.observations; versions = t.versions; writes = t.writes; additions = t.additions; spare = t.spare; committing = t.committing }

  same_but_placed : (a d : Attempt M D) → d.table ≡ a.table → d.state ≡ a.state → d.version ≡ a.version → d.notes ≡ a.notes → d.mark ≡ a.mark → d ≡ placed_as a d
  same_but_placed a d table state version notes mark = rw (← table, ← state, ← version, ← notes, ← mark) refl

  -- an addition that is taken touches nothing
  steps_took : (b m : Attempt M D) → m ≡ record b { additions = m.additions } → StepsAt (λ c. ⊥) 0 b m
  steps_took b m is =
      let ps : m.pass ≡ b.pass = ap (λ (s : Attempt M D). s.pass) is in
      record {
        version = ap (λ (s : Attempt M D). s.version) is;
        touches = touches_none _ b m (ap (λ (s : Attempt M D). s.observations) is) (ap (λ (s : Attempt M D). s.writes) is) (ap (λ (p : PassState M D). p.view.held) ps);
        pass = subst (λ (p : PassState M D). GoesOn b.pass p) (sym ps) (goes_none b.pass);
        steps = subst (λ (p : PassState M D). GrewBy 0 (trail_of b.pass) (trail_of p)) (sym ps) (grew_none (trail_of b.pass));
      }

  -- a cell that is not among those that were touched is still not observed
  pub unseen_still : (P : ℕ → Type 0) (a b : Attempt M D) (cell : ℕ) → (P cell → ⊥) → TouchesOnly P a b → word_at a.observations cell ≡ None → word_at b.observations cell ≡ None
  unseen_still P a b cell off t none = rw (t.observed.1) (by a.observations none)
    where
      in_more : (more : Entries) → Each (λ o. P o.0) more → word_at more cell ≡ None
      in_more [] each = refl
      in_more (o ∷ os) each = let apart : o.0 ≢ cell = λ same. off (subst P same each.0) in grind (arith, nat_tests, in_more os each.1, apart)

      by : (os : Entries) → word_at os cell ≡ None → word_at (os ++ t.observed.0) cell ≡ None
      by [] e = in_more t.observed.0 t.observed.2
      by (o ∷ os) e = grind (arith, nat_tests, e, by os (grind (arith, nat_tests, e)))

  -- what was found twice at a cell that the first of two calls didn't touch
  pub twice_later : (P Q : ℕ → Type 0) (a b : Attempt M D) (j k : ℕ) (trail : List Event) (stop : Stop) → TouchesOnly P a b → ((c : ℕ) → Q c → P c → ⊥) → k ≤ j → IsFoundIn Q stop → (IsUnseen b stop → FoundTwice j trail stop) → IsUnseen a stop → FoundTwice k trail stop
  twice_later P Q a b j k trail (Held c owner) t off le at twice unseen = tt
  twice_later P Q a b j k trail (Newer c found) t off le at twice unseen =
      let h = twice (unseen_still P a b c (off c at) t unseen) in
      (h.0, h.1, (h.2.0, omega (arith, le, h.2.1), h.2.2))
  twice_later P Q a b j k trail Memory t off le at twice unseen = tt

  -- a stop at the cell that was to be locked
  pub twice_at_cell : (a : Attempt M D) (cell n : ℕ) (trail : List Event) (stop : Stop) → IsFoundAt cell stop → (word_at a.observations cell ≡ None → FoundTwice n trail stop) → IsUnseen a stop → FoundTwice n trail stop
  twice_at_cell a cell n trail (Held c owner) at twice unseen = tt
  twice_at_cell a cell n trail (Newer c found) at twice unseen = twice (rw (← at) unseen)
  twice_at_cell a cell n trail Memory at twice unseen = tt

  -- under the lock of a cell its value was written
  pub placed_one : (s : CellSequence) (a b d : Attempt M D) (cell value : ℕ) → IsLateHold a b cell → StepsAt (λ c. c ≡ cell) 3 a b → IsHeld b.pass cell → LocksUpTo 1 a.pass b.pass
      → d.writes ≡ put b.writes cell (s.stored value) → d.pass ≡ b.pass → d.state ≡ b.state → IsPlaced s cell value a d
  placed_one s a b d cell value late does held locks writes pass state = record {
    state = state ∙ ap (λ (t : Attempt M D). t.state) late.is;
    written = ap (λ (w : Entries). word_at w cell) writes ∙ put_same b.writes cell (s.stored value);
    held = rw pass held;
    writes_held = λ all. holds_put b d cell (s.stored value) (holds_late _ a b cell late does.touches all) held writes pass;
    locks = subst (LocksUpTo 1 a.pass) (sym pass) locks;
  }

  -- the word of the end that was found stays found
  pub found_stays : (s : CellSequence) (a b d : Attempt M D) (word : ℕ) {P : ℕ → Type 0} → FoundEnd s a b word → TouchesOnly P b d → FoundEnd s a d word
  found_stays s a b d word {P} is t = known_stays P (record b { writes = a.writes }) (record d { writes = a.writes }) s.end word (record { observed = t.observed; written = λ c off. refl; held = t.held; kept = t.kept; others = λ cells c off. refl }) refl is

  module _ (s : CellSequence) (word : ℕ) where
    -- the cell of the k-th addition has the value, and is held
    abbrev HasItem : Attempt M D → ℕ → ℕ → Type 0
    HasItem b k value = (word_at b.writes (place_of s word k) ≡ Some (s.stored value)) × IsHeld b.pass (place_of s word k)

    -- the additions that were taken so far are placed, and the word of the end counts them
    pub record IsPlacing (a b : Attempt M D) (next : ℕ) : Type 0 where
      pub taken : List ℕ
      pub waits : waiting s.part a ≡ taken ++ waiting s.part b
      pub at : next ≡ word + length taken
      -- each has its cell
      pub items : (k : ℕ) → k < length taken → HasItem b k (get_or taken k 0)
      pub same : b ≡ placed_as a b
      pub does : StepsAt (IsAddition s word (length taken)) (3 * length taken) a b
      pub others : KeepsOthers s.part a.additions b.additions
      pub writes_held : HoldsWrites a → HoldsWrites b
      pub used : UsesAtMost (length taken) (length taken) a.spare b.spare
      pub locks : LocksUpTo (length taken) a.pass b.pass

    pub placing_begins : (a : Attempt M D) → IsPlacing a a word
    placing_begins a = record {
      taken = [];
      waits = refl;
      at = omega arith;
      items = λ k lt. absurd (omega arith);
      same = refl;
      does = steps_wider _ _ 0 _ a a (λ c h. h) (omega arith) (steps_none _ a);
      others = record { others = λ q off. refl; marked = λ q. refl };
      writes_held = λ h. h;
      used = record { locks = omega arith; observations = omega arith; writes = omega arith };
      locks = locks_none a.pass a.pass refl;
    }

    -- while one waits, fewer than all are taken
    pub taken_before : (a b : Attempt M D) (next v : ℕ) (rest : List ℕ) → (p : IsPlacing a b next) → waiting s.part b ≡ v ∷ rest → length p.taken < length (waiting s.part a)
    taken_before a b next v rest p waits = omega (arith, ap length p.waits, length-append p.taken (waiting s.part b), ap length waits)

    -- the next place is the next addition's
    pub next_place : (a b : Attempt M D) (next v : ℕ) (rest : List ℕ) → HasPlaces s word (length (waiting s.part a)) → (p : IsPlacing a b next) → waiting s.part b ≡ v ∷ rest → next_of s next ≡ place_of s word (length p.taken)
    next_place a b next v rest places p waits = ap (next_of s) p.at ∙ places.next (length p.taken) (taken_before a b next v rest p waits)

    -- and one of them
    next_is_one : (a b : Attempt M D) (next v : ℕ) (rest : List ℕ) (c : ℕ) → HasPlaces s word (length (waiting s.part a)) → IsPlacing a b next → waiting s.part b ≡ v ∷ rest → c ≡ next_of s next → IsAddition s word (length (waiting s.part a)) c
    next_is_one a b next v rest c places p waits here = (length p.taken, taken_before a b next v rest p waits, here ∙ next_place a b next v rest places p waits)

    pub placing_step : (a b m d : Attempt M D) (next v : ℕ) → HasPlaces s word (length (waiting s.part a)) → IsPlacing a b next
        → m ≡ record b { additions = m.additions } → waiting s.part b ≡ v ∷ waiting s.part m → ChangesOnly b.additions m.additions s.part (waiting s.part m)
        → IsPlaced s (next_of s next) v m d
        → d ≡ record m { pass = d.pass; state = d.state; observations = d.observations; versions = d.versions; writes = d.writes; spare = d.spare; committing = d.committing }
        → StepsAt (λ c. c ≡ next_of s next) 3 m d → UsesAtMost 1 1 m.spare d.spare
        → IsPlacing a d (next + 1)
    placing_step a b m d next v places p took waits changes placed same does used =
        let takes = steps_took b m took in
        let at_place = next_place a b next v (waiting s.part m) places p waits in
        let before = taken_before a b next v (waiting s.part m) p waits in
        let additions : d.additions ≡ m.additions = ap (λ (t : Attempt M D). t.additions) same in
        let ps : m.pass ≡ b.pass = ap (λ (t : Attempt M D). t.pass) took in
        let ws : m.writes ≡ b.writes = ap (λ (t : Attempt M D). t.writes) took in
        let sp : m.spare ≡ b.spare = ap (λ (t : Attempt M D). t.spare) took in
        let more : length (p.taken ++ v ∷ []) ≡ length p.taken + 1 = length_push p.taken v in
        let wider : (c : ℕ) → IsAddition s word (length p.taken) c → IsAddition s word (length (p.taken ++ v ∷ [])) c = λ c h. addition_wider s word _ _ c (omega (arith, more)) h in
        let here : (c : ℕ) → c ≡ next_of s next → IsAddition s word (length (p.taken ++ v ∷ [])) c = λ c h. (length p.taken, omega (arith, more), h ∙ at_place) in
        record {
          taken = p.taken ++ v ∷ [];
          waits = p.waits ∙ ap (λ (w : List ℕ). p.taken ++ w) waits ∙ sym (append_assoc p.taken (v ∷ []) (waiting s.part m)) ∙ ap (λ (w : List Waiting). (p.taken ++ v ∷ []) ++ waiting_of w s.part) (sym additions);
          at = omega (arith, p.at, more);
          items = λ k lt. elim (cases_lt k (length p.taken)) [
            | inl low ↦
                let i = p.items k low in
                let apart : (place_of s word k ≡ next_of s next) → ⊥ = λ is. places.apart k (length p.taken) low before (is ∙ at_place) in
                let value : get_or (p.taken ++ v ∷ []) k 0 ≡ get_or p.taken k 0 = get_or_append_left p.taken (v ∷ []) 0 k low in
                (does.touches.written _ apart ∙ ap (λ (w : Entries). word_at w (place_of s word k)) ws ∙ i.0 ∙ ap (λ x. Some (s.stored x)) (sym value), held_kept _ m d does.touches _ (rw ps i.1))
            | inr high ↦
                let last : length p.taken ≡ k = omega (arith, more) in
                let cell : next_of s next ≡ place_of s word k = at_place ∙ ap (place_of s word) last in
                let value : v ≡ get_or (p.taken ++ v ∷ []) k 0 = rw (← last) (sym (get_or_at p.taken v [] 0 (length p.taken) refl)) in
                subst (λ c. (word_at d.writes c ≡ Some (s.stored (get_or (p.taken ++ v ∷ []) k 0))) × IsHeld d.pass c) cell (placed.written ∙ ap (λ x. Some (s.stored x)) value, placed.held)
          ];
          same = same_but_placed a d
              (ap (λ (t : Attempt M D). t.table) same ∙ ap (λ (t : Attempt M D). t.table) took ∙ ap (λ (t : Attempt M D). t.table) p.same)
              (placed.state ∙ ap (λ (t : Attempt M D). t.state) took ∙ ap (λ (t : Attempt M D). t.state) p.same)
              (ap (λ (t : Attempt M D). t.version) same ∙ ap (λ (t : Attempt M D). t.version) took ∙ ap (λ (t : Attempt M D). t.version) p.same)
              (ap (λ (t : Attempt M D). t.notes) same ∙ ap (λ (t : Attempt M D). t.notes) took ∙ ap (λ (t : Attempt M D). t.notes) p.same)
              (ap (λ (t : Attempt M D). t.mark) same ∙ ap (λ (t : Attempt M D). t.mark) took ∙ ap (λ (t : Attempt M D). t.mark) p.same);
          does =
              let upto : StepsAt (IsAddition s word (length (p.taken ++ v ∷ []))) (3 * length p.taken) a b = steps_wider _ _ _ _ a b wider (omega arith) p.does in
              let then : StepsAt (IsAddition s word (length (p.taken ++ v ∷ []))) 3 b d = steps_trans _ 0 3 b m d (steps_wider _ _ 0 0 b m (λ c none. absurd none) (omega arith) takes) (steps_wider _ _ 3 3 m d here (omega arith) does) in
              steps_wider _ _ (3 * length p.taken + 3) _ a d (λ c h. h) (omega (arith, more)) (steps_trans _ (3 * length p.taken) 3 a b d upto then);
          others = record {
            others = λ q off. ap (λ (w : List Waiting). waiting_of w q) additions ∙ changes.others q off ∙ p.others.others q off;
            marked = λ q. ap (λ (w : List Waiting). marked_of w q) additions ∙ changes.marked q ∙ p.others.marked q;
          };
          writes_held = λ h. placed.writes_held (λ c some. rw ps (p.writes_held h c (rw (ap (λ (w : Entries). word_at w c) ws) at some)));
          used = let u : UsesAtMost 1 1 b.spare d.spare = rw (← sp) used in record { locks = omega (arith, p.used.locks, u.locks, more); observations = omega (arith, p.used.observations, u.observations, more); writes = omega (arith, p.used.writes, u.writes, more) };
          locks = locks_wider (length p.taken + 1) _ a.pass d.pass (omega (arith, more)) (locks_trans (length p.taken) 1 a.pass b.pass d.pass p.locks (rw (← ps) placed.locks));
        }

    -- the next value is one of those that waited
    pub next_small : (a b : Attempt M D) (next v : ℕ) (rest : List ℕ) (n : ℕ) → IsPlacing a b next → waiting s.part b ≡ v ∷ rest → All (λ x. x < n) (waiting s.part a) → v < n
    next_small a b next v rest n p waits small =
        let whole : waiting s.part a ≡ p.taken ++ v ∷ rest = p.waits ∙ ap (λ (w : List ℕ). p.taken ++ w) waits in
        let here : get_or (waiting s.part a) (length p.taken) 0 ≡ v = rw whole (get_or_at p.taken v rest 0 (length p.taken) refl) in
        rw (← here) (small (length p.taken) 0 (taken_before a b next v rest p waits))

    -- the steps so far are within all the places
    placing_does : (a b : Attempt M D) (next : ℕ) → (p : IsPlacing a b next) → StepsAt (IsEndOrAddition s word (length (waiting s.part a))) (3 * length p.taken) a b
    placing_does a b next p = steps_wider _ _ _ _ a b (λ c h. inr (addition_wider s word _ _ c (omega (arith, ap length p.waits, length-append p.taken (waiting s.part b))) h)) (omega arith) p.does

    -- ---- a stop at the next place

    pub placing_stopped : (a b m d : Attempt M D) (next v : ℕ) → HasPlaces s word (length (waiting s.part a)) → IsPlacing a b next → m ≡ record b { additions = m.additions } → waiting s.part b ≡ v ∷ waiting s.part m → StepsAt (λ c. c ≡ next_of s next) 3 m d
        → StepsAt (IsEndOrAddition s word (length (waiting s.part a))) (3 * length (waiting s.part a)) a d
    placing_stopped a b m d next v places p took waits does =
        let takes = steps_took b m took in
        let before = taken_before a b next v (waiting s.part m) p waits in
        let count : 3 * length p.taken + 3 ≤ 3 * length (waiting s.part a) = omega (arith, before) in
        let then = steps_trans _ 0 3 b m d (steps_wider _ (IsEndOrAddition s word (length (waiting s.part a))) 0 0 b m (λ c none. absurd none) (omega arith) takes) (steps_wider _ _ 3 3 m d (λ c here. inr (next_is_one a b next v (waiting s.part m) c places p waits here)) (omega arith) does) in
        steps_wider _ _ (3 * length p.taken + 3) _ a d (λ c h. h) count (steps_trans _ (3 * length p.taken) 3 a b d (placing_does a b next p) then)

    pub placing_stop : (a b m d : Attempt M D) (next v : ℕ) (stop : Stop) → HasPlaces s word (length (waiting s.part a)) → IsPlacing a b next → m ≡ record b { additions = m.additions } → waiting s.part b ≡ v ∷ waiting s.part m
        → IsStoppedAt (λ c. c ≡ next_of s next) m d stop → IsStoppedAt (IsAddition s word (length (waiting s.part a))) a d stop
    placing_stop a b m d next v stop places p took waits stopped =
        let takes = steps_took b m took in
        let upto : StepsAt (IsAddition s word (length p.taken)) (3 * length p.taken + 0) a m = steps_trans _ (3 * length p.taken) 0 a b m p.does (steps_wider _ _ 0 0 b m (λ c none. absurd none) (omega arith) takes) in
        let before = taken_before a b next v (waiting s.part m) p waits in
        let at_place = next_place a b next v (waiting s.part m) places p waits in
        let off : (c : ℕ) → c ≡ next_of s next → IsAddition s word (length p.taken) c → ⊥ = λ c here there. places.apart there.0 (length p.taken) there.1 before (sym there.2 ∙ here ∙ at_place) in
        record {
          state = stopped.state ∙ ap stopped_from (ap (λ (t : Attempt M D). t.state) took ∙ ap (λ (t : Attempt M D). t.state) p.same);
          found = found_wider _ _ stop (λ c here. next_is_one a b next v (waiting s.part m) c places p waits here) stopped.found;
          cause = caused_second (3 * length p.taken + 0) a m d stop upto.version upto.pass.books upto.steps stopped.cause;
          twice = twice_later (IsAddition s word (length p.taken)) (λ c. c ≡ next_of s next) a m _ _ _ stop upto.touches off (length_grown _ _ _ upto.steps) stopped.found stopped.twice;
          free = found_wider _ _ stop (λ c free. free_before a m (held_kept _ a m upto.touches) c free) stopped.free;
          few = locks_then (length p.taken) _ a.pass m.pass d.pass (rw (ap (λ (t : Attempt M D). t.pass) took) p.locks) stopped.few;
        }

    -- ---- all are placed, and the end is written

    placing_counts : (a b : Attempt M D) (next : ℕ) → (p : IsPlacing a b next) → waiting s.part b ≡ [] → waiting s.part a ≡ p.taken
    placing_counts a b next p none = p.waits ∙ ap (λ (w : List ℕ). p.taken ++ w) none ∙ append-nil p.taken

    pub placing_ends : (a b d : Attempt M D) (next : ℕ) → HasPlaces s word (length (waiting s.part a)) → IsPlacing a b next → waiting s.part b ≡ []
        → IsHeld a.pass s.end → FoundEnd s a a word → s.length_of word + length (waiting s.part a) ≤ s.capacity
        → d.writes ≡ put b.writes s.end next → d.pass ≡ b.pass → d.state ≡ b.state → d.additions ≡ b.additions → d.observations ≡ b.observations
        → IsSettledBy s (length (waiting s.part a)) a d
    placing_ends a b d next places p none held found fits ws ps state adds os =
        let all = placing_counts a b next p none in
        let counts : next ≡ word + length (waiting s.part a) = omega (arith, p.at, ap length all) in
        let end_held : IsHeld b.pass s.end = held_kept _ a b p.does.touches s.end held in
        record {
          state = state ∙ ap (λ (t : Attempt M D). t.state) p.same;
          emptied = rw adds none;
          extended = λ some. record {
            word = word;
            found = rw os (found_stays s a a b word found p.does.touches);
            within = fits;
            written = ap (λ (w : Entries). word_at w s.end) ws ∙ put_same b.writes s.end next ∙ ap (λ n. Some n) counts;
            held = rw ps end_held;
            items = λ k lt.
                let i = p.items k (omega (arith, lt, ap length all)) in
                (ap (λ (w : Entries). word_at w (place_of s word k)) ws ∙ put_other b.writes s.end next _ (λ same. places.free k lt (sym same)) ∙ i.0 ∙ ap (λ (w : List ℕ). Some (s.stored (get_or w k 0))) (sym all), rw ps i.1);
          };
          writes_held = λ h. holds_put b d s.end next (p.writes_held h) end_held ws ps;
          locks = subst (LocksUpTo (length (waiting s.part a)) a.pass) (sym ps) (locks_wider (length p.taken) _ a.pass b.pass (omega (arith, ap length all)) p.locks);
        }

    pub placing_all_does : (a b m d : Attempt M D) (next : ℕ) → IsPlacing a b next → m ≡ record b { additions = m.additions } → StepsAt (λ c. c ≡ s.end) 0 m d
        → StepsAt (IsEndOrAddition s word (length (waiting s.part a))) (3 * length (waiting s.part a)) a d
    placing_all_does a b m d next p took does =
        let takes = steps_took b m took in
        let count : 3 * length p.taken + 0 ≤ 3 * length (waiting s.part a) = omega (arith, ap length p.waits, length-append p.taken (waiting s.part b)) in
        let then = steps_trans _ 0 0 b m d (steps_wider _ (IsEndOrAddition s word (length (waiting s.part a))) 0 0 b m (λ c none. absurd none) (omega arith) takes) (steps_wider _ _ 0 0 m d (λ c here. inl here) (omega arith) does) in
        steps_wider _ _ (3 * length p.taken + 0) _ a d (λ c h. h) count (steps_trans _ (3 * length p.taken) 0 a b d (placing_does a b next p) then)
