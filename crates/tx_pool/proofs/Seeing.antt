-- Observing the slots one after another.
use Rattle.std.proofs.Common.{◌≡◌, ℕ, ◌+◌, ◌*◌, ◌<◌, ◌≤◌, [], ◌∷◌, ◌++◌, append-nil, append_assoc, Some, None, Option, ◌⊎◌, inl, inr, refl, sym, ap, ◌∙◌, subst, arith}
use Rattle.std.specs.Option.{option_or}
use Rattle.std.proofs.lemmas.Bool.{cases_lt}
use Rattle.attempt_lists.specs.Cells.{Entries, word_at}
use Rattle.tx_core.specs.declared.stop.Stop.{Stop}
use Rattle.tx_core.specs.declared.stop.Stop.TheVariants.{Held, Newer, Memory}
use Rattle.tx_core.specs.Causes.{IsFound, IsFoundAt}
use Rattle.tx_core.specs.Tx.{Attempt, Observed}
use Rattle.tx_core.specs.Calls.{IsOfThese, StepsAt, HoldsAt, LooksAt}
use Rattle.tx_core.specs.Words.{word_at_more}
use Rattle.tx_core.specs.Facts.{holds_only_none, holds_only_trans, holds_looks, pass_of_holds, steps_none, steps_wider, steps_trans, ends_wider, ends_then}
use Rattle.tx_pool.specs.declared.part.PoolPart.{PoolPart}
use Rattle.tx_pool.specs.Pool.{IsSlot, slot_at}
use Rattle.tx_pool.specs.Walk.{AreWalked, FoundStopped, SeesOn}
use Rattle.tx_pool.specs.Steps.{IsKnown, SeesStop}
use Rattle.tx_pool.proofs.Finding.{stopped_since}
use Rattle.tx_pool.proofs.Walks.{next_slot}

known_first : (own : Option ℕ) (os more : Entries) (c w : ℕ) → option_or own (word_at os c) ≡ Some w → option_or own (word_at (os ++ more) c) ≡ Some w
known_first (Some x) os more c w is = is
known_first None os more c w is = word_at_more os more c w is

module _ {M D : Type 0} where
  -- what a read adds
  pub read_adds : (b e : Attempt M D) (c x : ℕ) → ((y : ℕ) → word_at b.writes c ≡ Some y → e ≡ b) → ((y : ℕ) → word_at b.writes c ≡ None → word_at b.observations c ≡ Some y → e ≡ b)
      → (word_at b.writes c ≡ None → word_at b.observations c ≡ None → Observed b e c x) → (e ≡ b) ⊎ Observed b e c x
  read_adds b e c x own seen fresh = by (word_at b.writes c) (word_at b.observations c) refl refl
    where
      by : (w o : Option ℕ) → word_at b.writes c ≡ w → word_at b.observations c ≡ o → (e ≡ b) ⊎ Observed b e c x
      by (Some y) o w-is o-is = inl (own y w-is)
      by None (Some y) w-is o-is = inl (seen y w-is o-is)
      by None None w-is o-is = inr (fresh w-is o-is)

walked_wider : (part : PoolPart) (from n end far : ℕ) (os : Entries) → end ≤ far → AreWalked part from n end os → AreWalked part from n far os
walked_wider part from n end far [] le h = omega arith
walked_wider part from n end far (o ∷ os) le h = (h.0, h.1, omega (arith, h.2), h.3, walked_wider part from (h.0 + 1) end far os le h.4)

walked_more : (part : PoolPart) (from n end c x : ℕ) (os : Entries) → c ≡ slot_at part from end → AreWalked part from n end os → AreWalked part from n (end + 1) (os ++ (c, x) ∷ [])
walked_more part from n end c x [] at h = (end, h, omega arith, at, omega arith)
walked_more part from n end c x (o ∷ os) at h = (h.0, h.1, omega (arith, h.2), h.3, walked_more part from (h.0 + 1) end c x os at h.4)

module _ {M D : Type 0} (part : PoolPart) (from : ℕ) (a : Attempt M D) where
  -- slots before the end alone were observed
  pub record SeesUpTo (end : ℕ) (b : Attempt M D) : Type 0 where
    pub on : SeesOn part from a b
    pub walked : AreWalked part from 0 end on.sees.seen

  pub sees_none : SeesUpTo 0 a
  sees_none = record {
    on = record {
      sees = record {
        seen = [];
        walked = omega arith;
        is = λ i. record a { observations = (sym (append-nil a.observations)) i };
        pass = holds_only_none a.pass;
      };
      held = refl;
    };
    walked = omega arith;
  }

  -- a call that observes nothing
  pub sees_no_more : (P : ℕ → Type 0) (n : ℕ) (b e : Attempt M D) (stop : Option Stop) → SeesOn part from a b → e ≡ record b { pass = e.pass; state = e.state } → LooksAt P n b e stop → SeesOn part from a e
  sees_no_more P n b e stop h is looks =
      let held : e.pass.view.held ≡ a.pass.view.held = looks.held ∙ h.held in
      let versions : e.versions ≡ b.versions = ap (λ (s : Attempt M D). s.versions) is in
      record {
        sees = record {
          seen = h.sees.seen;
          walked = h.sees.walked;
          is = is ∙ ap (λ (s : Attempt M D). record s { pass = e.pass; state = e.state }) h.sees.is ∙ (λ i. record a { pass = e.pass; state = e.state; observations = a.observations ++ h.sees.seen; versions = (sym versions) i });
          pass = holds_only_trans a.pass b.pass e.pass h.sees.pass (pass_of_holds _ _ b e _ (holds_looks _ _ b e _ looks));
        };
        held = held;
      }

  -- a call that observes the next slot
  sees_one_more : (b e : Attempt M D) (n c x : ℕ) → c ≡ slot_at part from n → n < part.slots → SeesUpTo n b → Observed b e c x → LooksAt (λ d. d ≡ c) 3 b e None → SeesUpTo (n + 1) e
  sees_one_more b e n c x at lt h o looks =
      let held : e.pass.view.held ≡ a.pass.view.held = looks.held ∙ h.on.held in
      let state : e.state ≡ b.state = ap (λ (s : Attempt M D). s.state) o.is in
      let versions : e.versions ≡ b.versions ++ o.version ∷ [] = ap (λ (s : Attempt M D). s.versions) o.is in
      let more : Entries = h.on.sees.seen ++ (c, x) ∷ [] in
      let seen : b.observations ++ (c, x) ∷ [] ≡ a.observations ++ more = ap (λ (s : Attempt M D). s.observations ++ (c, x) ∷ []) h.on.sees.is ∙ append_assoc a.observations h.on.sees.seen ((c, x) ∷ []) in
      let walked = walked_more part from 0 n c x h.on.sees.seen at h.walked in
      record {
        on = record {
          sees = record {
            seen = more;
            walked = walked_wider part from 0 (n + 1) part.slots more (omega (arith, lt)) walked;
            is = o.is ∙ (λ i. record b { pass = e.pass; state = (sym state) i; observations = seen i; versions = (sym versions) i })
                ∙ ap (λ (s : Attempt M D). record s { pass = e.pass; state = e.state; observations = a.observations ++ more; versions = e.versions }) h.on.sees.is;
            pass = holds_only_trans a.pass b.pass e.pass h.on.sees.pass (pass_of_holds _ _ b e _ (holds_looks _ _ b e _ looks));
          };
          held = held;
        };
        walked = walked;
      }

  pub sees_more : (b e : Attempt M D) (n c x : ℕ) → c ≡ slot_at part from n → n < part.slots → SeesUpTo n b → (e ≡ b) ⊎ Observed b e c x → LooksAt (λ d. d ≡ c) 3 b e None → SeesUpTo (n + 1) e
  sees_more b e n c x at lt h (inl same) looks = subst (SeesUpTo (n + 1)) (sym same) (record { on = h.on; walked = walked_wider part from 0 n (n + 1) h.on.sees.seen (omega arith) h.walked })
  sees_more b e n c x at lt h (inr o) looks = sees_one_more b e n c x at lt h o looks

known_more : {M D : Type 0} (b e : Attempt M D) (c x d : ℕ) → (e ≡ b) ⊎ Observed b e c x → IsKnown b d → IsKnown e d
known_more {M} {D} b e c x d (inl same) h = subst (λ (s : Attempt M D). IsKnown s d) (sym same) h
known_more {M} {D} b e c x d (inr o) h = subst (λ (s : Attempt M D). IsKnown s d) (sym o.is) (h.0, known_first (word_at b.writes d) b.observations ((c, x) ∷ []) d h.0 h.1)

module _ {M D : Type 0} (part : PoolPart) (from : ℕ) (a : Attempt M D) where
  -- the first n slots were observed
  pub record IsSeeing (n : ℕ) (b : Attempt M D) : Type 0 where
    pub upto : SeesUpTo part from a n b
    pub state : b.state ≡ a.state
    pub does : StepsAt (IsSlot part) (3 * n) a b
    pub known : (j : ℕ) → j < n → IsKnown b (slot_at part from j)

  pub seeing_start : IsSeeing 0 a
  seeing_start = record {
    upto = sees_none part from a;
    state = refl;
    does = steps_wider _ _ 0 (3 * 0) a a (λ c h. h) (omega arith) (steps_none _ a);
    known = λ j lt. absurd (omega arith);
  }

  pub seeing_more : (n : ℕ) (b e : Attempt M D) (c x : ℕ) → IsSeeing n b → c ≡ slot_at part from n → n < part.slots → (e ≡ b) ⊎ Observed b e c x → LooksAt (λ d. d ≡ c) 3 b e None
      → option_or (word_at e.writes c) (word_at e.observations c) ≡ Some x → IsSeeing (n + 1) e
  seeing_more n b e c x h at lt adds looks value = record {
    upto = sees_more part from a b e n c x at lt h.upto adds looks;
    state = looks.ends ∙ h.state;
    does = steps_wider _ _ (3 * n + 3) (3 * (n + 1)) a e (λ d here. here) (omega arith) (steps_trans _ (3 * n) 3 a b e h.does (steps_wider _ _ 3 3 b e (next_slot part from n c at lt) (omega arith) looks.does));
    known = λ j below. elim (cases_lt j n) [
      | inl before ↦ known_more b e c x (slot_at part from j) adds (h.known j before)
      | inr here ↦ let there : n ≡ j = omega arith in subst (λ k. IsKnown e (slot_at part from k)) there (subst (IsKnown e) at (x, value))
    ];
  }

  -- what is left once all slots were observed, or a read was stopped
  pub seeing_ends : (n : ℕ) (b : Attempt M D) → n ≡ part.slots → IsSeeing n b → HoldsAt (IsSlot part) (3 * part.slots) a b None
  seeing_ends n b all h = record {
    ends = h.state;
    does = steps_wider _ _ (3 * n) _ a b (λ c here. here) (omega (arith, all)) h.does;
    known = h.upto.on.sees.pass.known;
    began = h.upto.on.sees.pass.begun;
  }

  pub seeing_stops : (n : ℕ) (b e : Attempt M D) (c : ℕ) (stop : Stop) → IsSeeing n b → c ≡ slot_at part from n → n < part.slots → LooksAt (λ d. d ≡ c) 3 b e (Some stop) → HoldsAt (IsSlot part) (3 * part.slots) a e (Some stop)
  seeing_stops n b e c stop h at lt looks =
      let slot = next_slot part from n c at lt in
      record {
        ends = ends_then (IsSlot part) (IsSlot part) (3 * n) a b e (Some stop) h.does h.state (ends_wider _ (IsSlot part) b e (Some stop) slot looks.ends);
        does = steps_wider _ _ (3 * n + 3) _ a e (λ d here. here) (omega (arith, lt)) (steps_trans _ (3 * n) 3 a b e h.does (steps_wider _ _ 3 3 b e slot (omega arith) looks.does));
        known = looks.known ∙ h.upto.on.sees.pass.known;
        began = looks.began ∙ h.upto.on.sees.pass.begun;
      }

  -- the stop that a read ended in
  pub sees_stop : (n : ℕ) (b e : Attempt M D) (c : ℕ) (stop : Stop) → IsSeeing n b → c ≡ slot_at part from n → n < part.slots → LooksAt (λ d. d ≡ c) 3 b e (Some stop) → SeesStop part from a e stop
  sees_stop n b e c stop h at lt looks found = (
    n,
    lt,
    subst (λ d. FoundStopped a e.pass d stop) at
        (stopped_since a b e.pass c (3 * n) stop h.does.version h.upto.on.sees.pass h.does.steps
        (λ all. memory_not_found stop (looks.ends.sole all) found, (looks.ends.cause, found_at c stop looks.ends.of found))),
  )
    where
      memory_not_found : (stop : Stop) → stop ≡ Memory → IsFound stop → ⊥
      memory_not_found (Held d k) is found = cc
      memory_not_found (Newer d k) is found = cc
      memory_not_found Memory is found = found

      found_at : (c : ℕ) (stop : Stop) → IsOfThese (λ d. d ≡ c) stop → IsFound stop → IsFoundAt c stop
      found_at c (Held d k) of found = of
      found_at c (Newer d k) of found = of
      found_at c Memory of found = absurd found
