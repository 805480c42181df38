-- What was found of a slot stays found while the pass goes on.
use Rattle.std.proofs.Common.{◌≡◌, ℕ, zero, suc, ◌≤◌, List, [], ◌∷◌, ◌++◌, length, length-append, slice_get, Some, None, Option, MatchOption, inl, inr, sym, ap, ◌∙◌, subst, arith}
use Rattle.cell_table.specs.Rule.{callers_of}
use Rattle.cell_table.specs.declared.view.Event.{Event}
use Rattle.cell_table.specs.Steps.{Grows, Observes}
use Rattle.cell_table.specs.Pass.{PassState, IsSole, trail_of}
use Rattle.attempt_lists.specs.Cells.{word_at}
use Rattle.tx_core.specs.declared.stop.Stop.{Stop}
use Rattle.tx_core.specs.declared.stop.Stop.TheVariants.{Held, Newer, Memory}
use Rattle.tx_core.specs.Causes.{FoundSince, CausedSince, GrewBy}
use Rattle.tx_core.specs.Seen.{HoldsOnly}
use Rattle.tx_core.specs.Tx.{Attempt}
use Rattle.tx_core.specs.Facts.{observes_grows, caused_earlier}
use Rattle.tx_pool.specs.declared.wanted.Wanted.{Wanted}
use Rattle.tx_pool.specs.Walk.{HasWord, FoundUnfit, FoundStopped, PassedOver}
use Rattle.tx_pool.specs.Steps.{LooksOn}

get_first : (t more : List Event) (k : ℕ) (e : Event) → slice_get t k ≡ Some e → slice_get (t ++ more) k ≡ Some e
get_first [] more k e is = absurd (cc)
get_first (x ∷ t) more zero e is = is
get_first (x ∷ t) more (suc k) e is = get_first t more k e is

-- ---- a longer trail

pub found_later : (n : ℕ) (t more u : List Event) (c w : ℕ) → u ≡ t ++ more → FoundSince n t c w → FoundSince n u c w
found_later n t more u c w is (k, le, inl loaded) = (k, le, inl (rw is (get_first t more k _ loaded)))
found_later n t more u c w is (k, le, inr exchanged) = (k, le, inr (rw is (get_first t more k _ exchanged)))

found_earlier : (n m : ℕ) (t : List Event) (c w : ℕ) → n ≤ m → FoundSince m t c w → FoundSince n t c w
found_earlier n m t c w le found = (found.0, omega (arith, found.1), found.2)

caused_later : (callers : List ℕ) (version n : ℕ) (t more u : List Event) (stop : Stop) → u ≡ t ++ more → CausedSince callers version n t stop → CausedSince callers version n u stop
caused_later callers version n t more u (Held c k) is h = (h.0, found_later n t more u c _ is h.1)
caused_later callers version n t more u (Newer c f) is (inl above, found) = (inl above, found_later n t more u c _ is found)
caused_later callers version n t more u (Newer c f) is (inr earlier, found) = (inr (earlier.0, earlier.1, found_later 0 t more u c _ is earlier.2), found_later n t more u c _ is found)
caused_later callers version n t more u Memory is h = tt

module _ {M D : Type 0} where
  pub word_later : (a : Attempt M D) (p q : PassState M D) (c w : ℕ) → Grows p.view q.view → HasWord a p c w → HasWord a q c w
  word_later a p q c w grows h = by (word_at a.writes c) h
    where
      by : (own : Option ℕ) → MatchOption own (Observes p.view c w a.version) (λ x. x ≡ w) → MatchOption own (Observes q.view c w a.version) (λ x. x ≡ w)
      by None stands = observes_grows p.view q.view c w a.version grows stands
      by (Some x) same = same

  -- where no cell has two values at the attempt's version, a cell has one word for it
  pub one_word : (a : Attempt M D) (p : PassState M D) (c w z : ℕ) → (Observes p.view c w a.version → Observes p.view c z a.version → w ≡ z) → HasWord a p c w → HasWord a p c z → w ≡ z
  one_word a p c w z one g h = by (word_at a.writes c) g h
    where
      by : (own : Option ℕ) → MatchOption own (Observes p.view c w a.version) (λ x. x ≡ w) → MatchOption own (Observes p.view c z a.version) (λ x. x ≡ z) → w ≡ z
      by None g h = one g h
      by (Some x) g h = sym g ∙ h

  pub unfit_later : (wanted : Wanted) (a : Attempt M D) (p q : PassState M D) (c : ℕ) → Grows p.view q.view → FoundUnfit wanted a p c → FoundUnfit wanted a q c
  unfit_later wanted a p q c grows h = (h.0, word_later a p q c h.0 grows h.1, h.2)

  pub stopped_later : (a : Attempt M D) (p q : PassState M D) (c k : ℕ) (stop : Stop) → GrewBy k (trail_of p) (trail_of q) → FoundStopped a p c stop → FoundStopped a q c stop
  stopped_later a p q c k stop grew h = (h.0, (caused_later _ _ _ (trail_of p) grew.0 (trail_of q) stop grew.1 h.1.0, h.1.1))

  pub passed_later : (wanted : Wanted) (a : Attempt M D) (p q : PassState M D) (c k : ℕ) → Grows p.view q.view → GrewBy k (trail_of p) (trail_of q) → PassedOver wanted a p c → PassedOver wanted a q c
  passed_later wanted a p q c k grows grew h = record {
    found = elim h.found [
      | inl unfit ↦ inl (unfit_later wanted a p q c grows unfit)
      | inr stopped ↦ inr (stopped.0, stopped_later a p q c k stopped.0 grew stopped.1)
    ];
    looked = λ unwritten unobserved. let load = h.looked unwritten unobserved in (load.0, found_later _ (trail_of p) grew.0 (trail_of q) c load.0 grew.1 load.1);
  }

  -- ---- seen from the beginning of the call

  pub unfit_since : (wanted : Wanted) (a m : Attempt M D) (p : PassState M D) (c : ℕ) → LooksOn a m → FoundUnfit wanted m p c → FoundUnfit wanted a p c
  unfit_since wanted a m p c looks h = subst (λ (x : Attempt M D). FoundUnfit wanted x p c) looks.is h

  pub sole_since : (p q : PassState M D) → HoldsOnly p q → IsSole p → IsSole q
  sole_since p q pass sole =
      let books : q.books ≡ p.books = ap (λ (s : PassState M D). s.books) pass.is in
      ap length books ∙ sole ∙ sym pass.grows.total

  pub stopped_since : (a m : Attempt M D) (p : PassState M D) (c k : ℕ) (stop : Stop) → m.version ≡ a.version → HoldsOnly a.pass m.pass → GrewBy k (trail_of a.pass) (trail_of m.pass) → FoundStopped m p c stop → FoundStopped a p c stop
  stopped_since a m p c k stop version pass grew h =
      let earlier : length (trail_of a.pass) ≤ length (trail_of m.pass) = omega (arith, ap length grew.1, length-append (trail_of a.pass) grew.0) in
      let cause = caused_earlier (callers_of m.pass.view.books) m.version (length (trail_of a.pass)) (length (trail_of m.pass)) (trail_of p) stop earlier h.1.0 in
      (λ sole. h.0 (sole_since a.pass m.pass pass sole), (rw (← pass.books, ← version) cause, h.1.1))

  pub version_since : (a m : Attempt M D) → LooksOn a m → m.version ≡ a.version
  version_since a m looks = ap (λ (x : Attempt M D). x.version) looks.is

  pub passed_since : (wanted : Wanted) (a m : Attempt M D) (p : PassState M D) (c k : ℕ) → LooksOn a m → GrewBy k (trail_of a.pass) (trail_of m.pass) → PassedOver wanted m p c → PassedOver wanted a p c
  passed_since wanted a m p c k looks grew h =
      let earlier : length (trail_of a.pass) ≤ length (trail_of m.pass) = omega (arith, ap length grew.1, length-append (trail_of a.pass) grew.0) in
      record {
        found = elim h.found [
          | inl unfit ↦ inl (unfit_since wanted a m p c looks unfit)
          | inr stopped ↦ inr (stopped.0, stopped_since a m p c k stopped.0 (version_since a m looks) looks.none.pass grew stopped.1)
        ];
        looked = λ unwritten unobserved.
            let load = h.looked (ap (λ (x : Attempt M D). word_at x.writes c) looks.is ∙ unwritten) (ap (λ (x : Attempt M D). word_at x.observations c) looks.is ∙ unobserved) in
            (load.0, found_earlier _ _ (trail_of p) c load.0 earlier load.1);
      }
