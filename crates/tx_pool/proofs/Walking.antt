-- A walk, one slot after another.
use Rattle.std.proofs.Common.{◌≡◌, ℕ, ◌+◌, ◌*◌, ◌<◌, length, Some, None, Option, MatchOption, inl, inr, refl, sym, subst, arith}
use Rattle.std.proofs.lemmas.Bool.{cases_lt}
use Rattle.std.specs.Option.{option_or}
use Rattle.cell_table.specs.Pass.{trail_of}
use Rattle.attempt_lists.specs.Cells.{word_at}
use Rattle.tx_core.specs.declared.stop.Stop.{Stop}
use Rattle.tx_core.specs.Causes.{FoundSince, GrewBy}
use Rattle.tx_core.specs.Tx.{Attempt}
use Rattle.tx_core.specs.Calls.{StepsAt}
use Rattle.tx_core.specs.Facts.{grew_none, grew_trans, grew_more, holds_only_none, steps_none, steps_wider, steps_trans}
use Rattle.tx_pool.specs.declared.part.PoolPart.{PoolPart}
use Rattle.tx_pool.specs.declared.wanted.Wanted.{Wanted}
use Rattle.tx_pool.specs.declared.walk.Tried.TheVariants as tried
use Rattle.tx_pool.specs.declared.walk.Walked.{Walked}
use Rattle.tx_pool.specs.declared.walk.Walked.TheVariants as walked
use Rattle.tx_pool.specs.Pool.{IsSlot, slot_at}
use Rattle.tx_pool.specs.Walk.{FoundUnfit, FoundStopped, PassedOver}
use Rattle.tx_pool.specs.Steps.{LooksOn, Tells, WalkTells, UnfitBy}
use Rattle.tx_pool.proofs.Finding.{unfit_later, stopped_later, passed_later, unfit_since, stopped_since, version_since, passed_since}
use Rattle.tx_pool.proofs.Trying.{looks_on_trans}
use Rattle.tx_pool.proofs.Walks.{next_slot}

module _ {M D : Type 0} where
  -- the first stop that was found among the first n slots, or none was found, and each was unfit
  abbrev pub FirstOf : PoolPart → ℕ → Wanted → Attempt M D → Attempt M D → ℕ → Option Stop → Type 0
  FirstOf part from wanted a m n first = MatchOption first
      (((j : ℕ) → j < n → FoundUnfit wanted a m.pass (slot_at part from j)) × GrewBy (3 * n) (trail_of a.pass) (trail_of m.pass))
      (λ stop. (at : ℕ) × (at < n) × FoundStopped a m.pass (slot_at part from at) stop × ((j : ℕ) → j < at → FoundUnfit wanted a m.pass (slot_at part from j)))

  -- the first n slots were passed over
  pub record IsWalking (part : PoolPart) (from : ℕ) (wanted : Wanted) (a : Attempt M D) (n : ℕ) (first : Option Stop) (m : Attempt M D) : Type 0 where
    pub looks : LooksOn a m
    pub does : StepsAt (IsSlot part) (6 * n) a m
    pub passed : (j : ℕ) → j < n → PassedOver wanted a m.pass (slot_at part from j)
    pub stops : FirstOf part from wanted a m n first

module _ {M D : Type 0} (part : PoolPart) (from : ℕ) (wanted : Wanted) (a : Attempt M D) where
  -- one slot more was passed over
  record Passing (n : ℕ) (m b : Attempt M D) (c : ℕ) : Type 0 where
    pub looks : LooksOn a b
    pub does : StepsAt (IsSlot part) (6 * (n + 1)) a b
    pub passed : (j : ℕ) → j < n + 1 → PassedOver wanted a b.pass (slot_at part from j)

  passing : (n : ℕ) (first : Option Stop) (m b : Attempt M D) (c : ℕ) → IsWalking part from wanted a n first m → c ≡ slot_at part from n → n < part.slots → LooksOn m b → StepsAt (λ d. d ≡ c) 6 m b → PassedOver wanted m b.pass c → Passing n m b c
  passing n first m b c w at in_part looks does passed = record {
    looks = looks_on_trans a m b w.looks looks;
    does = steps_wider _ _ (6 * n + 6) (6 * (n + 1)) a b (λ d here. here) (omega arith) (steps_trans _ (6 * n) 6 a m b w.does (steps_wider _ _ 6 6 m b (next_slot part from n c at in_part) (omega arith) does));
    passed = λ j lt. elim (cases_lt j n) [
      | inl before ↦ passed_later wanted a m.pass b.pass (slot_at part from j) 6 looks.none.pass.grows does.steps (w.passed j before)
      | inr here ↦
          let same : n ≡ j = omega arith in
          subst (λ k. PassedOver wanted a b.pass (slot_at part from k)) same (subst (PassedOver wanted a b.pass) at (passed_since wanted a m b.pass c (6 * n) w.looks w.does.steps passed))
    ];
  }

  -- the earlier slots' findings, and that of one slot more
  unfit_more : (n : ℕ) (m b : Attempt M D) (c : ℕ) → c ≡ slot_at part from n → LooksOn a m → LooksOn m b → ((j : ℕ) → j < n → FoundUnfit wanted a m.pass (slot_at part from j)) → FoundUnfit wanted m b.pass c → (j : ℕ) → j < n + 1 → FoundUnfit wanted a b.pass (slot_at part from j)
  unfit_more n m b c at onto looks before here j lt = elim (cases_lt j n) [
    | inl below ↦ unfit_later wanted a m.pass b.pass (slot_at part from j) looks.none.pass.grows (before j below)
    | inr above ↦
        let same : n ≡ j = omega arith in
        subst (λ k. FoundUnfit wanted a b.pass (slot_at part from k)) same (subst (FoundUnfit wanted a b.pass) at (unfit_since wanted a m b.pass c onto here))
  ]

  kept : (n : ℕ) (m b : Attempt M D) (stop : Stop) → LooksOn m b → GrewBy 6 (trail_of m.pass) (trail_of b.pass) → FirstOf part from wanted a m n (Some stop) → FirstOf part from wanted a b (n + 1) (Some stop)
  kept n m b stop looks grew h = (h.0, omega (arith, h.1), stopped_later a m.pass b.pass (slot_at part from h.0) 6 stop grew h.2, λ j lt. unfit_later wanted a m.pass b.pass (slot_at part from j) looks.none.pass.grows (h.3 j lt))

  pub walking_start : IsWalking part from wanted a 0 None a
  walking_start = record {
    looks = record { is = refl; none = record { pass = holds_only_none a.pass; held = refl } };
    does = steps_wider _ _ 0 (6 * 0) a a (λ d here. here) (omega arith) (steps_none _ a);
    passed = λ j lt. absurd (omega arith);
    stops = (λ j lt. absurd (omega arith), grew_more 0 (3 * 0) _ _ (omega arith) (grew_none (trail_of a.pass)));
  }

  pub walking_unfit : (n : ℕ) (first : Option Stop) (m b : Attempt M D) (c : ℕ) → IsWalking part from wanted a n first m → c ≡ slot_at part from n → Tells wanted m b c tried.Unfit
      → (word_at m.writes c ≡ None → word_at m.observations c ≡ None → (w : ℕ) × FoundSince (length (trail_of m.pass)) (trail_of b.pass) c w)
      → n < part.slots → StepsAt (λ d. d ≡ c) 6 m b → UnfitBy 3 (trail_of m.pass) (trail_of b.pass) tried.Unfit → IsWalking part from wanted a (n + 1) first b
  walking_unfit n first m b c w at tells looked in_part does by =
      let more = passing n first m b c w at in_part tells.0 does (record { found = inl tells.1; looked = looked }) in
      record { looks = more.looks; does = more.does; passed = more.passed; stops = stops first w.stops }
    where
      stops : (first : Option Stop) → FirstOf part from wanted a m n first → FirstOf part from wanted a b (n + 1) first
      stops None h = (unfit_more n m b c at w.looks tells.0 h.0 tells.1, grew_more (3 * n + 3) (3 * (n + 1)) _ _ (omega arith) (grew_trans (3 * n) 3 _ _ _ h.1 by))
      stops (Some stop) h = kept n m b stop tells.0 does.steps h

  pub walking_stopped : (n : ℕ) (first : Option Stop) (m b : Attempt M D) (c : ℕ) (stop : Stop) → IsWalking part from wanted a n first m → c ≡ slot_at part from n → Tells wanted m b c (tried.Stopped stop)
      → (word_at m.writes c ≡ None → word_at m.observations c ≡ None → (w : ℕ) × FoundSince (length (trail_of m.pass)) (trail_of b.pass) c w)
      → n < part.slots → StepsAt (λ d. d ≡ c) 6 m b → (then : Option Stop) → then ≡ option_or first (Some stop) → IsWalking part from wanted a (n + 1) then b
  walking_stopped n first m b c stop w at tells looked in_part does then is =
      let more = passing n first m b c w at in_part tells.0 does (record { found = inr (stop, tells.1); looked = looked }) in
      record { looks = more.looks; does = more.does; passed = more.passed; stops = stops first is w.stops }
    where
      stops : (first : Option Stop) → then ≡ option_or first (Some stop) → FirstOf part from wanted a m n first → FirstOf part from wanted a b (n + 1) then
      stops None is h = subst (FirstOf part from wanted a b (n + 1)) (sym is)
          (n, omega arith, subst (λ d. FoundStopped a b.pass d stop) at (stopped_since a m b.pass c (6 * n) stop (version_since a m w.looks) w.looks.none.pass w.does.steps tells.1), λ j lt. unfit_later wanted a m.pass b.pass (slot_at part from j) tells.0.none.pass.grows (h.0 j lt))
      stops (Some s) is h = subst (FirstOf part from wanted a b (n + 1)) (sym is) (kept n m b s tells.0 does.steps h)

  -- a walk that came to all slots and held none
  pub walk_ended : (n : ℕ) (first : Option Stop) (m : Attempt M D) (w : Walked) → n ≡ part.slots → IsWalking part from wanted a n first m → MatchOption first (w ≡ walked.NoneFit) (λ stop. w ≡ walked.Stopped stop) → WalkTells part from wanted a m w
  walk_ended n first m w all h is = by first h.stops is
    where
      by : (first : Option Stop) → FirstOf part from wanted a m n first → MatchOption first (w ≡ walked.NoneFit) (λ stop. w ≡ walked.Stopped stop) → WalkTells part from wanted a m w
      by None stops is = subst (WalkTells part from wanted a m) (sym is)
          (h.looks, λ j lt. (h.passed j (omega (arith, lt, all)), stops.0 j (omega (arith, lt, all))), grew_more (3 * n) (3 * part.slots) _ _ (omega (arith, all)) stops.1)
      by (Some stop) stops is = subst (WalkTells part from wanted a m) (sym is) (
        h.looks,
        record {
          at = stops.0;
          on_walk = omega (arith, stops.1, all);
          stopped = stops.2;
          before = stops.3;
          all = λ j lt. h.passed j (omega (arith, lt, all));
        },
      )

  -- the steps of a walk that ended at this slot
  pub walking_does : (n : ℕ) (first : Option Stop) (m b : Attempt M D) (c : ℕ) → IsWalking part from wanted a n first m → c ≡ slot_at part from n → n < part.slots → StepsAt (λ d. d ≡ c) 6 m b → StepsAt (IsSlot part) (6 * part.slots) a b
  walking_does n first m b c w at lt does = steps_wider _ _ (6 * n + 6) _ a b (λ d here. here) (omega (arith, lt)) (steps_trans _ (6 * n) 6 a m b w.does (steps_wider _ _ 6 6 m b (next_slot part from n c at lt) (omega arith) does))
