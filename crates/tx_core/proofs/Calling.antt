-- What the calls of one cell leave of an attempt, as the words for calls say it.
use Rattle.std.proofs.Common.{◌≡◌, ◌≢◌, ℕ, ◌≤◌, List, [], ◌∷◌, ◌++◌, slice_index, Some, None, ◌⊎◌, inl, inr, refl, sym, ap, subst, ◌∙◌, arith, append-nil, get_or-set_other}
use Rattle.std.proofs.Math.Nat.{zero-add}
use Rattle.std.proofs.lemmas.Bool.Decides.{nat_tests}
use Rattle.std.specs.Prelude.{Option, IsSome, slice_set}
use Rattle.cell_table.specs.Cells.{has, after}
use Rattle.cell_table.specs.Sorted.{Each, Among}
use Rattle.cell_table.specs.Rule.{cells_of}
use Rattle.cell_table.specs.Pass.{PassState, IsSole, IsHeld, trail_of}
use Rattle.attempt_lists.specs.Cells.{Entries, word_at, put}
use Rattle.tx_core.specs.declared.stop.Stop.{Stop}
use Rattle.tx_core.specs.declared.stop.Stop.TheVariants.{Memory}
use Rattle.tx_core.specs.Causes.{IsOfCell, IsOfOne, GrewBy, begun_of}
use Rattle.tx_core.specs.Seen.{LooksOnly, HoldsOnly}
use Rattle.tx_core.specs.Tx.{Attempt, Observed, ObservedLate}
use Rattle.tx_core.specs.Calls.{stopped_from, IsOfThese, TouchesOnly, GoesOn, StepsAt, CausedIn, EndsAt, HoldsAt, LooksAt, Locks}
use Rattle.tx_core.specs.Words.{put_other}
use Rattle.tx_core.specs.Facts.{of_cell, of_found, found_at_in, grew_none, grew_more, goes_holds, goes_looks, goes_none, touches_none, looks_none, looks_wider, steps_trans}
use Rattle.tx_core.proofs.HeldCells.{has_insert}
use Rattle.tx_core.proofs.Locking.{among_insert}

none_of : (o : Option ℕ) → (IsSome o → ⊥) → o ≡ None
none_of None off = refl
none_of (Some x) off = absurd (off refl)

module _ {M D : Type 0} where
  -- no cell was written or came to be held, and at most these observations are new
  pub touches_seen : (P : ℕ → Type 0) (a b : Attempt M D) (more : Entries) → b.observations ≡ a.observations ++ more → Each (λ o. P o.0) more → b.writes ≡ a.writes → b.pass.view.held ≡ a.pass.view.held → TouchesOnly P a b
  touches_seen P a b more seen of writes held = record {
    observed = (more, seen, of);
    written = λ c off. ap (λ (w : Entries). word_at w c) writes;
    held = λ c off. ap (λ (h : Entries). has c (cells_of h)) held;
    kept = λ t there. subst (λ (h : Entries). Among t h) (sym held) there;
    others = λ cells c off. ap (λ (w : Entries). slice_index (after cells w) c) writes;
  }

  -- and a cell came to be held
  pub touches_locked : (P : ℕ → Type 0) (a b : Attempt M D) (more : Entries) (cell u : ℕ) → b.observations ≡ a.observations ++ more → Each (λ o. P o.0) more → b.writes ≡ a.writes → P cell → Locks a b cell u → TouchesOnly P a b
  touches_locked P a b more cell u seen of writes here held = record {
    observed = (more, seen, of);
    written = λ c off. ap (λ (w : Entries). word_at w c) writes;
    held = λ c off. let apart : cell ≢ c = λ same. off (subst P same here) in ap (λ (h : Entries). has c (cells_of h)) held ∙ has_insert c cell u a.pass.view.held ∙ grind (arith, nat_tests, apart);
    kept = λ t there. subst (λ (h : Entries). Among t h) (sym held) (among_insert (cell, u) t a.pass.view.held there);
    others = λ cells c off. ap (λ (w : Entries). slice_index (after cells w) c) writes;
  }

  -- one cell was written
  pub touches_written : (P : ℕ → Type 0) (a b : Attempt M D) (cell x : ℕ) → P cell → b.observations ≡ a.observations → b.writes ≡ put a.writes cell x → b.pass.view.held ≡ a.pass.view.held → ((cells : List ℕ) → after cells (put a.writes cell x) ≡ slice_set (after cells a.writes) cell x) → TouchesOnly P a b
  touches_written P a b cell x here seen writes held laid = record {
    observed = ([], seen ∙ sym (append-nil a.observations), tt);
    written = λ c off. let apart : cell ≢ c = λ same. off (subst P same here) in ap (λ (w : Entries). word_at w c) writes ∙ put_other a.writes cell x c apart;
    held = λ c off. ap (λ (h : Entries). has c (cells_of h)) held;
    kept = λ t there. subst (λ (h : Entries). Among t h) (sym held) there;
    others = λ cells c off. let apart : c ≢ cell = λ same. off (subst P (sym same) here) in
        ap (λ (w : Entries). slice_index (after cells w) c) writes ∙ ap (λ (z : List ℕ). slice_index z c) (laid cells) ∙ get_or-set_other (after cells a.writes) cell c x 0 apart;
  }

  pub held_locked : (a b : Attempt M D) (cell u : ℕ) → Locks a b cell u → IsHeld b.pass cell
  held_locked a b cell u held = ap (λ (h : Entries). has cell (cells_of h)) held ∙ has_insert cell cell u a.pass.view.held ∙ grind (arith, nat_tests)

  -- steps that changed nothing but what the pass knows
  pub steps_by : (P : ℕ → Type 0) (n : ℕ) (a b : Attempt M D) → b.version ≡ a.version → b.observations ≡ a.observations → b.writes ≡ a.writes → b.pass.view.held ≡ a.pass.view.held → GoesOn a.pass b.pass → GrewBy n (trail_of a.pass) (trail_of b.pass) → StepsAt P n a b
  steps_by P n a b version seen writes held goes grew = record { version = version; touches = touches_none P a b seen writes held; pass = goes; steps = grew }

  -- steps by which one cell came to be held
  pub steps_locked : (P : ℕ → Type 0) (n : ℕ) (a b : Attempt M D) (more : Entries) (cell u : ℕ) → b.version ≡ a.version → b.observations ≡ a.observations ++ more → Each (λ o. P o.0) more → b.writes ≡ a.writes → P cell → Locks a b cell u → HoldsOnly a.pass b.pass → GrewBy n (trail_of a.pass) (trail_of b.pass) → StepsAt P n a b
  steps_locked P n a b more cell u version seen of writes here held pass grew = record { version = version; touches = touches_locked P a b more cell u seen of writes here held; pass = goes_holds a.pass b.pass pass; steps = grew }

  -- the same where the cell was observed or written before, and where it was observed with its lock
  pub steps_locked_known : (n m : ℕ) (a b : Attempt M D) (cell u : ℕ) → n ≤ m → b.version ≡ a.version → b.observations ≡ a.observations → b.writes ≡ a.writes → Locks a b cell u → HoldsOnly a.pass b.pass → GrewBy n (trail_of a.pass) (trail_of b.pass) → StepsAt (λ c. c ≡ cell) m a b
  steps_locked_known n m a b cell u more version seen writes held pass grew =
      steps_locked (λ c. c ≡ cell) m a b [] cell u version (seen ∙ sym (append-nil a.observations)) tt writes refl held pass (grew_more n m (trail_of a.pass) (trail_of b.pass) more grew)

  pub steps_locked_new : (n : ℕ) (a b : Attempt M D) (cell u x : ℕ) → Observed a b cell x → Locks a b cell u → HoldsOnly a.pass b.pass → GrewBy n (trail_of a.pass) (trail_of b.pass) → StepsAt (λ c. c ≡ cell) n a b
  steps_locked_new n a b cell u x o held pass grew =
      steps_locked (λ c. c ≡ cell) n a b ((cell, x) ∷ []) cell u (ap (λ (t : Attempt M D). t.version) o.is) (ap (λ (t : Attempt M D). t.observations) o.is) (refl, tt) (ap (λ (t : Attempt M D). t.writes) o.is) refl held pass grew

  pub steps_locked_late : (n : ℕ) (a b : Attempt M D) (cell u x : ℕ) → ObservedLate a b cell x → Locks a b cell u → HoldsOnly a.pass b.pass → GrewBy n (trail_of a.pass) (trail_of b.pass) → StepsAt (λ c. c ≡ cell) n a b
  steps_locked_late n a b cell u x o held pass grew =
      steps_locked (λ c. c ≡ cell) n a b ((cell, x) ∷ []) cell u (ap (λ (t : Attempt M D). t.version) o.is) (ap (λ (t : Attempt M D). t.observations) o.is) (refl, tt) (ap (λ (t : Attempt M D). t.writes) o.is) refl held pass grew

  -- steps after the first call of the commit
  pub steps_late : (P : ℕ → Type 0) (n : ℕ) (a b d : Attempt M D) → b.version ≡ a.version → b.observations ≡ a.observations → b.writes ≡ a.writes → b.pass ≡ a.pass → StepsAt P n b d → StepsAt P n a d
  steps_late P n a b d version seen writes pass s =
      subst (λ (k : ℕ). StepsAt P k a d) (zero-add n) (steps_trans P 0 n a b d (steps_by P 0 a b version seen writes (ap (λ (p : PassState M D). p.view.held) pass) (subst (λ (p : PassState M D). GoesOn a.pass p) (sym pass) (goes_none a.pass)) (subst (λ (p : PassState M D). GrewBy 0 (trail_of a.pass) (trail_of p)) (sym pass) (grew_none (trail_of a.pass)))) s)

  -- a call that changed nothing
  pub looks_same : (P : ℕ → Type 0) (n : ℕ) (a b : Attempt M D) → b ≡ a → LooksAt P n a b None
  looks_same P n a b same = subst (λ (t : Attempt M D). LooksAt P n a t None) (sym same) (looks_wider P P 0 n a a None (λ c p. p) (omega arith) (looks_none P a))

  -- one observation
  pub looks_observed : (n : ℕ) (a b : Attempt M D) (cell x : ℕ) → Observed a b cell x → LooksOnly a.pass b.pass → GrewBy n (trail_of a.pass) (trail_of b.pass) → LooksAt (λ c. c ≡ cell) n a b None
  looks_observed n a b cell x o looks grew = record {
    ends = ap (λ (t : Attempt M D). t.state) o.is;
    does = record {
      version = ap (λ (t : Attempt M D). t.version) o.is;
      touches = touches_seen (λ c. c ≡ cell) a b ((cell, x) ∷ []) (ap (λ (t : Attempt M D). t.observations) o.is) (refl, tt) (ap (λ (t : Attempt M D). t.writes) o.is) looks.1.held;
      pass = goes_looks a.pass b.pass looks;
      steps = grew;
    };
    known = looks.1.known;
    began = looks.1.begun;
    held = looks.1.held;
  }

  -- looks that ended in a stop
  pub looks_stopped : (n : ℕ) (a b d : Attempt M D) (cell : ℕ) (stop : Stop) → b ≡ record a { pass = b.pass } → LooksOnly a.pass b.pass → GrewBy n (trail_of a.pass) (trail_of b.pass) → IsOfCell cell stop → CausedIn a b stop → (IsSole a.pass → stop ≡ Memory) → d ≡ record b { state = stopped_from b.state } → LooksAt (λ c. c ≡ cell) n a d (Some stop)
  looks_stopped n a b d cell stop same looks grew of cause sole is =
      let pass : d.pass ≡ b.pass = ap (λ (t : Attempt M D). t.pass) is in
      record {
        ends = record {
          state = ap (λ (t : Attempt M D). t.state) is ∙ ap (λ (t : Attempt M D). stopped_from t.state) same;
          of = of_cell cell stop of;
          cause = subst (λ (p : PassState M D). CausedIn a (record d { pass = p }) stop) (sym pass) cause;
          sole = sole;
        };
        does = record {
          version = ap (λ (t : Attempt M D). t.version) is ∙ ap (λ (t : Attempt M D). t.version) same;
          touches = touches_none (λ c. c ≡ cell) a d (ap (λ (t : Attempt M D). t.observations) is ∙ ap (λ (t : Attempt M D). t.observations) same) (ap (λ (t : Attempt M D). t.writes) is ∙ ap (λ (t : Attempt M D). t.writes) same) (ap (λ (p : PassState M D). p.view.held) pass ∙ looks.1.held);
          pass = subst (λ (p : PassState M D). GoesOn a.pass p) (sym pass) (goes_looks a.pass b.pass looks);
          steps = subst (λ (p : PassState M D). GrewBy n (trail_of a.pass) (trail_of p)) (sym pass) grew;
        };
        known = ap (λ (p : PassState M D). p.view.known) pass ∙ looks.1.known;
        began = ap (λ (p : PassState M D). begun_of p.view.trail) pass ∙ looks.1.begun;
        held = ap (λ (p : PassState M D). p.view.held) pass ∙ looks.1.held;
      }

  -- looks that changed nothing but what the pass knows
  pub steps_looked : (P : ℕ → Type 0) (n : ℕ) (a b : Attempt M D) → b ≡ record a { pass = b.pass } → LooksOnly a.pass b.pass → GrewBy n (trail_of a.pass) (trail_of b.pass) → StepsAt P n a b
  steps_looked P n a b same looks grew = record {
    version = ap (λ (t : Attempt M D). t.version) same;
    touches = touches_none P a b (ap (λ (t : Attempt M D). t.observations) same) (ap (λ (t : Attempt M D). t.writes) same) looks.1.held;
    pass = goes_looks a.pass b.pass looks;
    steps = grew;
  }

  -- the pass made room, and nothing else came of the call
  pub goes_rooms : (p q : PassState M D) → q ≡ record p { places = q.places } → GoesOn p q
  goes_rooms p q is = subst (λ (s : PassState M D). GoesOn p s) (sym is) (roomy q.places)
    where
      roomy : (n : ℕ) → GoesOn p (record p { places = n })
      roomy n = record { is = refl; grows = (goes_none p).grows; books = refl; draws = refl; stage = refl }

  rooms_grew : (p q : PassState M D) → q ≡ record p { places = q.places } → GrewBy 0 (trail_of p) (trail_of q)
  rooms_grew p q is = subst (λ (s : PassState M D). GrewBy 0 (trail_of p) (trail_of s)) (sym is) (grew_none (trail_of p))

  -- a call that takes no step, whatever it wrote
  pub looks_blind : (P : ℕ → Type 0) (a b : Attempt M D) (stop : Option Stop) → b.version ≡ a.version → TouchesOnly P a b → b.pass ≡ record a.pass { places = b.pass.places } → ((stop ≡ None) × (b.state ≡ a.state)) ⊎ ((stop ≡ Some Memory) × (b.state ≡ stopped_from a.state)) → LooksAt P 0 a b stop
  looks_blind P a b stop version touches is ended = record {
    ends = by ended;
    does = record { version = version; touches = touches; pass = goes_rooms a.pass b.pass is; steps = rooms_grew a.pass b.pass is };
    known = ap (λ (s : PassState M D). s.view.known) is;
    began = ap (λ (s : PassState M D). begun_of s.view.trail) is;
    held = ap (λ (s : PassState M D). s.view.held) is;
  }
    where
      by : ((stop ≡ None) × (b.state ≡ a.state)) ⊎ ((stop ≡ Some Memory) × (b.state ≡ stopped_from a.state)) → EndsAt P a b stop
      by (inl none) = rw (none.0) none.1
      by (inr some) = rw (some.0) (record { state = some.1; of = tt; cause = tt; sole = λ sole. refl })

  -- written cells came to be held, and no others
  pub holds_writes : (n : ℕ) (a b : Attempt M D) (stop : Option Stop) → b.version ≡ a.version → b.observations ≡ a.observations → b.writes ≡ a.writes → HoldsOnly a.pass b.pass → GrewBy n (trail_of a.pass) (trail_of b.pass) → ((c : ℕ) → word_at a.writes c ≡ None → has c (cells_of b.pass.view.held) ≡ has c (cells_of a.pass.view.held)) → ((t : ℕ × ℕ) → Among t a.pass.view.held → Among t b.pass.view.held) → EndsAt (λ c. IsSome (word_at a.writes c)) a b stop → HoldsAt (λ c. IsSome (word_at a.writes c)) n a b stop
  holds_writes n a b stop version seen writes pass grew others kept ends = record {
    ends = ends;
    does = record {
      version = version;
      touches = record {
        observed = ([], seen ∙ sym (append-nil a.observations), tt);
        written = λ c off. ap (λ (w : Entries). word_at w c) writes;
        held = λ c off. others c (none_of (word_at a.writes c) off);
        kept = kept;
        others = λ cells c off. ap (λ (w : Entries). slice_index (after cells w) c) writes;
      };
      pass = goes_holds a.pass b.pass pass;
      steps = grew;
    };
    known = pass.known;
    began = pass.begun;
  }

  -- a stop that was found at a written cell
  pub stops_at_write : (a : Attempt M D) (stop : Stop) → IsOfOne a.writes stop → IsOfThese (λ c. IsSome (word_at a.writes c)) stop
  stops_at_write a stop one = of_found (λ c. IsSome (word_at a.writes c)) stop (found_at_in (λ c. IsSome (word_at a.writes c)) one.0 stop one.1 one.2)
