-- What is left of the attempt by a slot that was filled, or by a walk that found none.
use Rattle.std.proofs.Common.{◌≡◌, ℕ, ◌+◌, ◌-◌, ◌%◌, append-nil, ◌<◌, ◌≤◌, List, [], ◌∷◌, ◌++◌, length, get_or, set, Some, None, Option, ◌⊎◌, inl, inr, refl, sym, ap, ◌∙◌, subst, arith}
use Rattle.std.specs.Option.{option_or}
use Rattle.std.proofs.Math.Nat.{mod-lt}
use Rattle.cell_table.specs.Cells.{has, after, AllHold}
use Rattle.cell_table.specs.Rule.{cells_of}
use Rattle.cell_table.specs.Steps.{Grows, Observes}
use Rattle.cell_table.specs.Pass.{PassState, IsSole, trail_of}
use Rattle.attempt_lists.specs.Cells.{Entries, word_at, put}
use Rattle.tx_core.specs.declared.stop.Stop.{Stop}
use Rattle.tx_core.specs.declared.stop.Stop.TheVariants.{Held, Newer, Memory}
use Rattle.tx_core.specs.declared.stop.TxState.{TxState}
use Rattle.tx_core.specs.Causes.{IsFound, IsFoundAt, GrewBy, begun_of}
use Rattle.tx_core.specs.Parts.{Shows, Explains}
use Rattle.tx_core.specs.Seen.{HoldsOnly}
use Rattle.tx_core.specs.Tx.{Attempt}
use Rattle.tx_core.specs.Calls.{GoesOn, TouchesOnly, StepsAt, HoldsAt, LooksAt, CausedIn, IsCausedInAttempt, IsOfThese, Stays, stopped_from}
use Rattle.tx_core.specs.Facts.{touches_none, touches_trans, holds_only_trans, holds_wider, holds_then, holds_looks, pass_of_holds, caused_in_attempt}
use Rattle.tx_pool.specs.declared.part.PoolPart.{PoolPart}
use Rattle.tx_pool.specs.declared.wanted.Wanted.{Wanted}
use Rattle.tx_pool.specs.Pool.{IsFormed, IsSlot, slot_at}
use Rattle.tx_pool.specs.Walk.{AreWalked, IsUnfit, FoundUnfit, PassedOver, FirstStop, FillsSlot, SeesSlots, SeesOn, AllKnown, Replaces, HasNone}
use Rattle.tx_pool.specs.Steps.{IsKnown, NoneHeld, LooksOn, HoldsCell, KnownUnfit, SeesStop}
use Rattle.tx_pool.proofs.Walks.{walk_in, walk_covers}
use Rattle.tx_pool.proofs.Finding.{unfit_later, passed_later, stopped_since, version_since}
use Rattle.tx_pool.proofs.Trying.{same_word}

module _ {M D : Type 0} where
  -- on a sole pass a slot is passed over for its word alone
  pub only_unfit : (wanted : Wanted) (a : Attempt M D) (p : PassState M D) (c : ℕ) → IsSole a.pass → PassedOver wanted a p c → FoundUnfit wanted a p c
  only_unfit wanted a p c sole h = elim h.found [
    | inl unfit ↦ unfit
    | inr stopped ↦ absurd (stopped.1.0 sole)
  ]

module _ {M D : Type 0} (part : PoolPart) (from : ℕ) (wanted : Wanted) (a m b : Attempt M D) where
  -- the slot that is held has a new word
  pub fills_slot : (at c w word : ℕ) → at < part.slots → c ≡ slot_at part from at → ((j : ℕ) → j < at → PassedOver wanted a m.pass (slot_at part from j)) → HoldsCell a m c w
      → b ≡ record m { pass = b.pass; writes = put m.writes c word } → LooksAt (λ d. d ≡ c) 0 m b None → FillsSlot part from wanted a b w word
  fills_slot at c w word lt is passed h new looks =
      let pass = pass_of_holds _ _ m b _ (holds_looks _ _ m b _ looks) in
      let observations : b.observations ≡ m.observations = ap (λ (s : Attempt M D). s.observations) new in
      let versions : b.versions ≡ m.versions = ap (λ (s : Attempt M D). s.versions) new in
      let before_by : (j : ℕ) → j < at → PassedOver wanted a b.pass (slot_at part from j) = λ j below. passed_later wanted a m.pass b.pass (slot_at part from j) 0 pass.grows looks.does.steps (passed j below) in
      subst (λ d. HoldsCell a m d w → b ≡ record m { pass = b.pass; writes = put m.writes d word } → TouchesOnly (λ k. k ≡ d) m b → FillsSlot part from wanted a b w word) (sym is)
      (λ h new touches. record {
        at = at;
        on_walk = lt;
        before = before_by;
        first = λ sole j below. only_unfit wanted a b.pass (slot_at part from j) sole (before_by j below);
        known = rw observations h.known;
        seen = h.seen;
        alone = h.alone;
        is = new ∙ ap (λ (s : Attempt M D). record s { pass = b.pass; writes = put s.writes (slot_at part from at) word }) h.is
            ∙ (λ i. record a { pass = b.pass; observations = a.observations ++ h.seen; versions = (sym versions) i; writes = put a.writes (slot_at part from at) word });
        pass = holds_only_trans a.pass m.pass b.pass h.pass pass;
        held = ap (λ (held : List (ℕ × ℕ)). has (slot_at part from at) (cells_of held)) looks.held ∙ h.held;
        touches = touches_trans _ a m b h.touches touches;
      }) h new looks.does.touches

  -- the slot is held, and there was no memory for its new word
  pub fills_none : (at c w : ℕ) → at < part.slots → c ≡ slot_at part from at → HoldsCell a m c w → b ≡ record m { pass = b.pass; state = b.state } → HoldsOnly m.pass b.pass → SeesSlots part from a b
  fills_none at c w lt is h new pass =
      let versions : b.versions ≡ m.versions = ap (λ (s : Attempt M D). s.versions) new in
      record {
        seen = h.seen;
        walked = walked h.seen h.alone;
        is = new ∙ ap (λ (s : Attempt M D). record s { pass = b.pass; state = b.state }) h.is ∙ (λ i. record a { pass = b.pass; state = b.state; observations = a.observations ++ h.seen; versions = (sym versions) i });
        pass = holds_only_trans a.pass m.pass b.pass h.pass pass;
      }
    where
      walked : (seen : Entries) → (seen ≡ []) ⊎ (seen ≡ (c, w) ∷ []) → AreWalked part from 0 part.slots seen
      walked seen (inl none) = rw none (omega arith)
      walked seen (inr one) = rw one (at, omega arith, lt, is, omega (arith, lt))

module _ {M D : Type 0} (part : PoolPart) (from : ℕ) (a m b : Attempt M D) (looks : LooksOn a m) where
  -- a walk that came to nothing, and then observations
  pub sees_since : SeesOn part from m b → SeesOn part from a b
  sees_since h =
      let held : b.pass.view.held ≡ a.pass.view.held = h.held ∙ looks.none.held in
      record {
        sees = record {
          seen = h.sees.seen;
          walked = h.sees.walked;
          is = h.sees.is ∙ ap (λ (s : Attempt M D). record s { pass = b.pass; state = b.state; observations = s.observations ++ h.sees.seen; versions = b.versions }) looks.is;
          pass = holds_only_trans a.pass m.pass b.pass looks.none.pass h.sees.pass;
        };
        held = held;
      }

module _ {M D : Type 0} (part : PoolPart) (from : ℕ) (a m : Attempt M D) where
  -- there was no memory for a lock
  pub sees_memory : (b : Attempt M D) → b ≡ record a { pass = b.pass; state = b.state } → NoneHeld a b → SeesSlots part from a b
  sees_memory b is none = record {
    seen = [];
    walked = omega arith;
    is = is ∙ (λ i. record a { pass = b.pass; state = b.state; observations = (sym (append-nil a.observations)) i; versions = (sym (ap (λ (s : Attempt M D). s.versions) is)) i });
    pass = none.pass;
  }

  -- a walk that came to nothing stops the attempt
  pub sees_stopped : (b : Attempt M D) (state : TxState) → LooksOn a m → b ≡ record m { state = state } → SeesSlots part from a b
  sees_stopped b state looks is =
      let pass : b.pass ≡ m.pass = ap (λ (s : Attempt M D). s.pass) is in
      let st : b.state ≡ state = ap (λ (s : Attempt M D). s.state) is in
      let versions : b.versions ≡ a.versions = ap (λ (s : Attempt M D). s.versions) is ∙ ap (λ (s : Attempt M D). s.versions) looks.is in
      record {
        seen = [];
        walked = omega arith;
        is = is ∙ ap (λ (s : Attempt M D). record s { state = state }) looks.is ∙ (λ i. record a { pass = (sym pass) i; state = (sym st) i; observations = (sym (append-nil a.observations)) i; versions = (sym versions) i });
        pass = subst (λ p. HoldsOnly a.pass p) (sym pass) looks.none.pass;
      }

module _ {M D : Type 0} (part : PoolPart) (from : ℕ) (wanted : Wanted) where
  pub all_known : (b : Attempt M D) → ((j : ℕ) → j < part.slots → IsKnown b (slot_at part from j)) → AllKnown part b
  all_known b known c slot =
      let place : c - part.base < part.slots = omega (arith, slot.0, slot.1) in
      let at = walk_covers from (c - part.base) part.slots place in
      let here : slot_at part from at.0 ≡ c = ap (λ (k : ℕ). part.base + k) at.2 ∙ omega (arith, slot.0) in
      subst (IsKnown b) here (known at.0 at.1)

  -- what was found unfit by the walk is known to be unfit, since a cell has one word at the attempt's version
  pub known_unfit : (m b : Attempt M D) (c : ℕ) → b.version ≡ m.version → b.writes ≡ m.writes → Grows m.pass.view b.pass.view
      → ((d x : ℕ) → word_at b.observations d ≡ Some x → Observes b.pass.view d x b.version)
      → ((d x y : ℕ) → Observes b.pass.view d x b.version → Observes b.pass.view d y b.version → x ≡ y)
      → IsKnown b c → FoundUnfit wanted m m.pass c → KnownUnfit wanted b c
  known_unfit m b c version writes grows stands one known found =
      let same : found.0 ≡ known.0 = same_word m b c found.0 known.0 version grows stands one (subst (λ (ws : Entries). option_or (word_at ws c) (word_at b.observations c) ≡ Some known.0) writes known.1) found.1 in
      (known.0, known.1, subst (IsUnfit wanted) same found.2)

  -- the stop of an observation after a walk that found no slot to have
  pub stop_since : (a m b : Attempt M D) (k n : ℕ) (stop : Stop) → LooksOn a m → GrewBy k (trail_of a.pass) (trail_of m.pass) → GrewBy n (trail_of m.pass) (trail_of b.pass) → SeesOn part from m b
      → ((j : ℕ) → j < part.slots → PassedOver wanted a m.pass (slot_at part from j) × FoundUnfit wanted a m.pass (slot_at part from j))
      → SeesStop part from m b stop → IsFound stop → FirstStop part from wanted a b.pass stop
  stop_since a m b k n stop looks grew then sees passed stopped found =
      let at = stopped found in
      record {
        at = at.0;
        on_walk = at.1;
        stopped = stopped_since a m b.pass (slot_at part from at.0) k stop (version_since a m looks) looks.none.pass grew at.2;
        before = λ j lt. unfit_later wanted a m.pass b.pass (slot_at part from j) sees.sees.pass.grows (passed j (omega (arith, lt, at.1))).1;
        all = λ j lt. passed_later wanted a m.pass b.pass (slot_at part from j) n sees.sees.pass.grows then (passed j lt).0;
      }

  pub explains_none : (a b : Attempt M D) → b.writes ≡ a.writes → ((c x : ℕ) → option_or (word_at b.writes c) (word_at b.observations c) ≡ Some x → Shows b c x)
      → ((cells : List ℕ) → length (after cells b.writes) ≡ length cells) → ((j : ℕ) → j < part.slots → KnownUnfit wanted b (slot_at part from j))
      → Explains (IsFormed part) a b (λ cells then. HasNone part wanted cells then)
  explains_none a b writes shows sized known cells all formed =
      let same : after cells b.writes ≡ after cells a.writes = ap (after cells) writes in
      let long : part.base + part.slots ≤ length cells = omega (arith, formed.0, ap length same, sized cells) in (
        λ i lt.
            let at = walk_covers from i part.slots lt in
            let h = known at.0 at.1 in
            let here : slot_at part from at.0 ≡ part.base + i = ap (λ (k : ℕ). part.base + k) at.2 in
            let word : get_or (after cells b.writes) (slot_at part from at.0) 0 ≡ h.0 = shows (slot_at part from at.0) h.0 h.1 cells all (omega (arith, here, long, lt)) in
            subst (IsUnfit wanted) (sym (subst (λ d. get_or (after cells a.writes) d 0 ≡ h.0) here (subst (λ (cs : List ℕ). get_or cs (slot_at part from at.0) 0 ≡ h.0) same word))) h.2,
        same,
      )

  pub explains_fill : (a m b : Attempt M D) (at c w word : ℕ) → at < part.slots → c ≡ slot_at part from at → HoldsCell a m c w
      → ((c x : ℕ) → option_or (word_at m.writes c) (word_at m.observations c) ≡ Some x → Shows m c x)
      → ((cells : List ℕ) (c x : ℕ) → after cells (put m.writes c x) ≡ set (after cells m.writes) c x)
      → ((cells : List ℕ) → length (after cells m.writes) ≡ length cells)
      → b ≡ record m { pass = b.pass; writes = put m.writes c word }
      → Explains (IsFormed part) a b (λ cells then. (i : ℕ) × (i < part.slots) × Replaces (part.base + i) w word cells then)
  explains_fill a m b at c w word lt is h shows puts sized new cells all formed =
      let writes : m.writes ≡ a.writes = ap (λ (s : Attempt M D). s.writes) h.is in
      let before : after cells m.writes ≡ after cells a.writes = ap (after cells) writes in
      let observed : AllHold cells m.observations = subst (AllHold cells) (ap (λ (s : Attempt M D). s.observations) new) all in
      let known : option_or (word_at m.writes c) (word_at m.observations c) ≡ Some w = subst (λ (ws : Entries). option_or (word_at ws c) (word_at m.observations c) ≡ Some w) (sym writes) h.known in
      let inside : (from + at) % part.slots < part.slots = mod-lt (from + at) (omega (arith, lt)) in
      let long : part.base + part.slots ≤ length cells = omega (arith, formed.0, ap length before, sized cells) in
      let word_there : get_or (after cells m.writes) c 0 ≡ w = shows c w known cells observed (omega (arith, is, long, inside)) in (
        (from + at) % part.slots,
        inside,
        (
          subst (λ d. get_or (after cells a.writes) d 0 ≡ w) is (subst (λ (cs : List ℕ). get_or cs c 0 ≡ w) before word_there),
          ap (λ (s : Attempt M D). after cells s.writes) new ∙ puts cells c word ∙ ap (λ (cs : List ℕ). set cs c word) before ∙ ap (λ d. set (after cells a.writes) d word) is,
        ),
      )

-- ---- what a call leaves of the attempt

module _ {M D : Type 0} where
  pub stays_by : (a b x : Attempt M D) → b ≡ x → Stays a x → Stays a b
  stays_by a b x is stays = subst (Stays a) (sym is) stays

  pub stays_fills : (part : PoolPart) (from : ℕ) (wanted : Wanted) (a b : Attempt M D) (old new : ℕ) → FillsSlot part from wanted a b old new → Stays a b
  stays_fills part from wanted a b old new f = stays_by a b _ f.is (record { table = refl; version = refl; notes = refl; additions = refl; spare = refl; committing = refl; mark = refl })

  pub stays_sees : (part : PoolPart) (from : ℕ) (a b : Attempt M D) → SeesSlots part from a b → Stays a b
  stays_sees part from a b s = stays_by a b _ s.is (record { table = refl; version = refl; notes = refl; additions = refl; spare = refl; committing = refl; mark = refl })

module _ {M D : Type 0} (part : PoolPart) (n : ℕ) (a m b : Attempt M D) where
  -- a slot is held, and its word written, or there was no memory for that
  pub holds_write : (from at c w : ℕ) (stop : Option Stop) → at < part.slots → c ≡ slot_at part from at → HoldsCell a m c w → StepsAt (IsSlot part) n a m → LooksAt (λ d. d ≡ c) 0 m b stop → HoldsAt (IsSlot part) n a b stop
  holds_write from at c w stop lt is h does looks =
      let slot : (d : ℕ) → d ≡ c → IsSlot part d = λ d same. subst (IsSlot part) (sym (same ∙ is)) (walk_in part from at lt) in
      let first : HoldsAt (IsSlot part) n a m None = record { ends = ap (λ (s : Attempt M D). s.state) h.is; does = does; known = h.pass.known; began = h.pass.begun } in
      holds_wider _ _ (n + 0) n a b stop (λ d here. here) (omega arith) (holds_then _ n 0 a m b stop first (holds_wider _ _ 0 0 m b stop slot (omega arith) (holds_looks _ 0 m b stop looks)))

  -- no slot could be had, and then all were observed
  pub holds_none : (k : ℕ) (stop : Option Stop) → LooksOn a m → StepsAt (IsSlot part) n a m → GrewBy k (trail_of a.pass) (trail_of m.pass) → HoldsAt (IsSlot part) k m b stop → k + k ≤ n → HoldsAt (IsSlot part) n a b stop
  holds_none k stop looks does grew then few =
      let first : HoldsAt (IsSlot part) k a m None = record {
        ends = ap (λ (s : Attempt M D). s.state) looks.is;
        does = record { version = does.version; touches = does.touches; pass = does.pass; steps = grew };
        known = looks.none.pass.known;
        began = looks.none.pass.begun;
      } in
      holds_wider _ _ (k + k) n a b stop (λ d here. here) few (holds_then _ k k a m b stop first then)

  -- the walk was stopped
  pub holds_stopped : (from : ℕ) (wanted : Wanted) (stop : Stop) → LooksOn a m → StepsAt (IsSlot part) n a m → FirstStop part from wanted a m.pass stop → b ≡ record m { state = stopped_from m.state } → HoldsAt (IsSlot part) n a b (Some stop)
  holds_stopped from wanted stop looks does first is =
      let pass : b.pass ≡ m.pass = ap (λ (s : Attempt M D). s.pass) is in
      let state : b.state ≡ stopped_from a.state = ap (λ (s : Attempt M D). s.state) is ∙ ap (λ (s : Attempt M D). stopped_from s.state) looks.is in
      record {
        ends = record {
          state = state;
          of = of_slot stop first.stopped.1.1;
          cause = subst (λ (p : PassState M D). CausedIn a (record a { pass = p }) stop) (sym pass) first.stopped.1.0;
          sole = λ sole. absurd (first.stopped.0 sole);
        };
        does = record {
          version = ap (λ (s : Attempt M D). s.version) is ∙ does.version;
          touches = touches_trans _ a m b does.touches (touches_none _ m b (ap (λ (s : Attempt M D). s.observations) is) (ap (λ (s : Attempt M D). s.writes) is) (ap (λ (p : PassState M D). p.view.held) pass));
          pass = subst (λ (p : PassState M D). GoesOn a.pass p) (sym pass) does.pass;
          steps = subst (λ (p : PassState M D). GrewBy n (trail_of a.pass) (trail_of p)) (sym pass) does.steps;
        };
        known = ap (λ (p : PassState M D). p.view.known) pass ∙ looks.none.pass.known;
        began = ap (λ (p : PassState M D). begun_of p.view.trail) pass ∙ looks.none.pass.begun;
      }
    where
      of_slot : (stop : Stop) → IsFoundAt (slot_at part from first.at) stop → IsOfThese (IsSlot part) stop
      of_slot (Held c k) at = subst (IsSlot part) (sym at) (walk_in part from first.at first.on_walk)
      of_slot (Newer c f) at = subst (IsSlot part) (sym at) (walk_in part from first.at first.on_walk)
      of_slot Memory at = tt

-- the walk's stop is one that this attempt was told of
pub stop_answered : {M D : Type 0} (part : PoolPart) (from : ℕ) (wanted : Wanted) (a m : Attempt M D) (stop : Stop) → LooksOn a m → FirstStop part from wanted a m.pass stop → IsCausedInAttempt m stop
stop_answered {M} {D} part from wanted a m stop looks first =
    caused_in_attempt a m stop (ap (λ (s : Attempt M D). s.version) looks.is) looks.none.pass (is_found stop first.stopped.1.1) first.stopped.1.0
  where
    is_found : (stop : Stop) → IsFoundAt (slot_at part from first.at) stop → IsFound stop
    is_found (Held c k) at = tt
    is_found (Newer c f) at = tt
    is_found Memory at = at

-- there was no memory for a lock
pub holds_memory : {M D : Type 0} (part : PoolPart) (n : ℕ) (a b : Attempt M D) → b ≡ record a { pass = b.pass; state = stopped_from a.state } → NoneHeld a b → StepsAt (IsSlot part) n a b → HoldsAt (IsSlot part) n a b (Some Memory)
holds_memory {M} {D} part n a b is none does = record {
  ends = record { state = ap (λ (s : Attempt M D). s.state) is; of = tt; cause = tt; sole = λ sole. refl };
  does = does;
  known = none.pass.known;
  began = none.pass.begun;
}
