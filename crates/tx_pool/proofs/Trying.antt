-- What a try at one slot leaves of the attempt.
use Rattle.std.proofs.Common.{◌≡◌, ℕ, ◌*◌, [], ◌∷◌, ◌++◌, append-nil, Some, None, Ok, Option, MatchOption, ◌⊎◌, inl, inr, refl, sym, ap, ◌∙◌}
use Rattle.std.specs.Prelude.{Result}
use Rattle.std.specs.Option.{option_or}
use Rattle.cell_table.specs.Steps.{Grows, Observes}
use Rattle.cell_table.specs.Pass.{PassState, IsHeld, trail_of}
use Rattle.attempt_lists.specs.Cells.{word_at}
use Rattle.tx_core.specs.Causes.{FoundSince, GrewBy}
use Rattle.tx_core.specs.Seen.{LooksOnly, HoldsOnly}
use Rattle.tx_core.specs.Tx.{Attempt, Observed}
use Rattle.tx_core.specs.Calls.{TouchesOnly, stopped_from}
use Rattle.tx_core.specs.Words.{known_last}
use Rattle.tx_core.specs.Facts.{holds_only_trans, touches_none, touches_trans}
use Rattle.tx_pool.specs.declared.wanted.Wanted.{Wanted}
use Rattle.tx_pool.specs.declared.walk.Tried.{Tried}
use Rattle.tx_pool.specs.declared.walk.Tried.TheVariants as tried
use Rattle.tx_pool.specs.Walk.{HasWord}
use Rattle.tx_pool.specs.Steps.{NoneHeld, LooksOn, HoldsCell, Tells, IsNoUnfit}
use Rattle.tx_pool.proofs.Finding.{found_later, word_later, one_word, stopped_since, version_since}

pub ok_same : {E : Type 0} (w x : ℕ) (r : Result ℕ E) → r ≡ Ok w → r ≡ Ok x → w ≡ x
ok_same w x r is same = cc

module _ {M D : Type 0} where
  pub none_held_trans : (a m b : Attempt M D) → NoneHeld a m → NoneHeld m b → NoneHeld a b
  none_held_trans a m b x y = record { pass = holds_only_trans a.pass m.pass b.pass x.pass y.pass; held = y.held ∙ x.held }

  pub looks_on_trans : (a m b : Attempt M D) → LooksOn a m → LooksOn m b → LooksOn a b
  looks_on_trans a m b x y = record {
    is = y.is ∙ ap (λ (s : Attempt M D). record s { pass = b.pass }) x.is;
    none = none_held_trans a m b x.none y.none;
  }

  -- loads of words hold nothing
  pub looks_holds : (p q : PassState M D) → LooksOnly p q → HoldsOnly p q
  looks_holds p q looks = record {
    is = looks.0 ∙ ap (λ (n : ℕ). record p { view = q.view; places = n }) (sym (ap (λ (s : PassState M D). s.places) looks.0));
    grows = looks.1.grows;
    books = looks.1.books;
    draws = looks.1.draws;
    known = looks.1.known;
    stage = looks.1.stage;
    begun = looks.1.begun;
  }

  pub looks_on_by : (a b : Attempt M D) → b ≡ record a { pass = b.pass } → LooksOnly a.pass b.pass → LooksOn a b
  looks_on_by a b is looks = record { is = is; none = record { pass = looks_holds a.pass b.pass looks; held = looks.1.held } }

  -- nothing is touched by them
  pub looks_touch : (P : ℕ → Type 0) (a b : Attempt M D) → LooksOn a b → TouchesOnly P a b
  looks_touch P a b looks = touches_none P a b (ap (λ (s : Attempt M D). s.observations) looks.is) (ap (λ (s : Attempt M D). s.writes) looks.is) looks.none.held

  -- the word that a look answered
  pub peeked : (a : Attempt M D) (p : PassState M D) (c w : ℕ) → ((x : ℕ) → word_at a.writes c ≡ Some x → w ≡ x) → (word_at a.writes c ≡ None → Observes p.view c w a.version) → HasWord a p c w
  peeked a p c w own stands = by (word_at a.writes c) refl
    where
      by : (is : Option ℕ) → word_at a.writes c ≡ is → MatchOption is (Observes p.view c w a.version) (λ x. x ≡ w)
      by None e = stands e
      by (Some x) e = sym (own x e)

  -- the word that is answered with the lock
  pub holds_cell : (a b : Attempt M D) (c w : ℕ) → IsHeld b.pass c → option_or (word_at a.writes c) (word_at b.observations c) ≡ Some w
      → ((b ≡ record a { pass = b.pass }) ⊎ ((word_at a.writes c ≡ None) × (word_at a.observations c ≡ None) × (x : ℕ) × Observed a b c x))
      → HoldsOnly a.pass b.pass → TouchesOnly (λ d. d ≡ c) a b → HoldsCell a b c w
  holds_cell a b c w held known (inl same) pass touches = record {
    known = known;
    seen = [];
    alone = inl refl;
    is = same ∙ (λ i. record a { pass = b.pass; observations = (sym (append-nil a.observations)) i; versions = (sym (ap (λ (s : Attempt M D). s.versions) same)) i });
    pass = pass;
    held = held;
    touches = touches;
  }
  holds_cell a b c w held known (inr (unwritten, unobserved, x, o)) pass touches =
      let observations : b.observations ≡ a.observations ++ (c, x) ∷ [] = ap (λ (s : Attempt M D). s.observations) o.is in
      let versions : b.versions ≡ a.versions ++ o.version ∷ [] = ap (λ (s : Attempt M D). s.versions) o.is in
      let last : option_or (word_at a.writes c) (word_at b.observations c) ≡ Some x = known_last a.writes a.observations b.observations c x unwritten unobserved observations in
      let both : Some x ≡ Some w = sym last ∙ known in
      let one : x ≡ w = cc in
      record {
        known = known;
        seen = (c, w) ∷ [];
        alone = inr refl;
        is = o.is ∙ (λ i. record a { pass = b.pass; observations = a.observations ++ (c, one i) ∷ []; versions = (sym versions) i });
        pass = pass;
        held = held;
        touches = touches;
      }

  -- what is known of a cell with what was observed by now, where all of it stands at the attempt's version
  pub known_word : (a b : Attempt M D) (c w : ℕ) → b.version ≡ a.version → ((d x : ℕ) → word_at b.observations d ≡ Some x → Observes b.pass.view d x b.version)
      → option_or (word_at a.writes c) (word_at b.observations c) ≡ Some w → HasWord a b.pass c w
  known_word a b c w version stands known = by (word_at a.writes c) known
    where
      by : (own : Option ℕ) → option_or own (word_at b.observations c) ≡ Some w → MatchOption own (Observes b.pass.view c w a.version) (λ x. x ≡ w)
      by None is = rw (← version) (stands c w is)
      by (Some x) is = cc

  -- the word that is known of a cell by now is the one that was found before
  pub same_word : (a b : Attempt M D) (c w z : ℕ) → b.version ≡ a.version → Grows a.pass.view b.pass.view
      → ((d x : ℕ) → word_at b.observations d ≡ Some x → Observes b.pass.view d x b.version)
      → ((d x y : ℕ) → Observes b.pass.view d x b.version → Observes b.pass.view d y b.version → x ≡ y)
      → option_or (word_at a.writes c) (word_at b.observations c) ≡ Some z → HasWord a a.pass c w → w ≡ z
  same_word a b c w z version grows stands one known before =
      one_word a b.pass c w z (rw (← version) (one c w z)) (word_later a a.pass b.pass c w grows before) (known_word a b c z version stands known)

  -- ---- a look, and then the rest

  pub holds_cell_since : (a m b : Attempt M D) (c w : ℕ) → LooksOn a m → HoldsCell m b c w → HoldsCell a b c w
  holds_cell_since a m b c w looks h = record {
    known = rw (← ap (λ (s : Attempt M D). s.writes) looks.is) h.known;
    seen = h.seen;
    alone = h.alone;
    is = h.is ∙ ap (λ (s : Attempt M D). record s { pass = b.pass; observations = s.observations ++ h.seen; versions = b.versions }) looks.is;
    pass = holds_only_trans a.pass m.pass b.pass looks.none.pass h.pass;
    held = h.held;
    touches = touches_trans _ a m b (looks_touch _ a m looks) h.touches;
  }

  pub tells_since : (wanted : Wanted) (a m b : Attempt M D) (c k : ℕ) (r : Tried) → LooksOn a m → GrewBy k (trail_of a.pass) (trail_of m.pass) → IsNoUnfit r → Tells wanted m b c r → Tells wanted a b c r
  tells_since wanted a m b c k (tried.Holds w) looks grew not h = (holds_cell_since a m b c w looks h.0, h.1)
  tells_since wanted a m b c k tried.Unfit looks grew not h = absurd not
  tells_since wanted a m b c k (tried.Stopped stop) looks grew not h = (looks_on_trans a m b looks h.0, stopped_since a m b.pass c k stop (version_since a m looks) looks.none.pass grew h.1)
  tells_since wanted a m b c k tried.Memory looks grew not h =
      (h.0 ∙ ap (λ (s : Attempt M D). record s { pass = b.pass; state = stopped_from s.state }) looks.is, none_held_trans a m b looks.none h.1)

-- the look's lock word is found in the longer trail, too
pub looked_since : {M D : Type 0} (m b : Attempt M D) (k c : ℕ) {n : ℕ} → (u : ℕ) × FoundSince n (trail_of m.pass) c (2 * u) → GrewBy k (trail_of m.pass) (trail_of b.pass) → (w : ℕ) × FoundSince n (trail_of b.pass) c w
looked_since m b k c {n} load grew = (2 * load.0, found_later n (trail_of m.pass) grew.0 (trail_of b.pass) c (2 * load.0) grew.1 load.1)
