-- Facts of what calls leave of attempts, whatever the table's meaning, for the proofs of this crate and of those above.
use Rattle.std.proofs.Common.{◌≡◌, ℕ, zero, suc, ◌+◌, ◌*◌, ◌≤◌, cond, false, true, Bool, ltb, List, [], ◌∷◌, ◌++◌, length, slice_get, slice_index, inl, inr, Some, None, refl, sym, ap, subst, ◌∙◌, arith, append-nil, append_assoc, length-append}
use Rattle.std.proofs.lemmas.List.{length-reverse}
use Rattle.std.proofs.Math.Decide.{ℕ_discrete}
use Rattle.std.proofs.lemmas.Bool.Decides.{nat_tests}
use Rattle.std.specs.Prelude.{Option}
use Rattle.std.specs.Option.{option_or}
use Rattle.cell_table.specs.Cells.{has, after}
use Rattle.cell_table.specs.Sorted.{Each, Among, insert_by}
use Rattle.cell_table.specs.Rule.{cells_of, callers_of}
use Rattle.cell_table.specs.declared.view.View.{View}
use Rattle.cell_table.specs.declared.view.Event.{Event}
use Rattle.cell_table.specs.declared.view.Event.TheVariants.{ClockLoaded, LockLoaded, ValueLoaded, LockExchanged, VersionDrawn, ValueStored, LockStored, SeatMoved}
use Rattle.cell_table.specs.Steps.{Grows, Observes, cell_key}
use Rattle.cell_table.specs.Pass.{PassState, IsSole, trail_of, with_view}
use Rattle.attempt_lists.specs.Cells.{Entries, word_at}
use Rattle.tx_core.specs.declared.spare.Spare.{Spare}
use Rattle.tx_core.specs.declared.stop.Stop.{Stop}
use Rattle.tx_core.specs.declared.stop.Stop.TheVariants.{Held, Newer, Memory}
use Rattle.tx_core.specs.Causes.{FoundSince, FoundTwice, CausedSince, IsOfCell, IsFoundAt, IsFound, GrewBy, begun_of}
use Rattle.tx_core.specs.Seen.{IsLooked, LooksOnly, HoldsOnly, KnowsMore}
use Rattle.tx_core.specs.Tx.{Attempt}
use Rattle.tx_core.specs.Words.{word_at_more}
use Rattle.tx_core.specs.Calls.{stopped_from, IsOfThese, IsFoundIn, UsesAtMost, known, KeepsHeld, TouchesOnly, GoesOn, StepsAt, begun, IsCausedInAttempt, CausedIn, StopsAt, EndsAt, HoldsAt, LooksAt}

-- ---- trails

pub grew_none : (t : List Event) → GrewBy 0 t t
grew_none t = ([], sym append-nil_t, omega arith)
  where
    append-nil_t : t ++ [] ≡ t
    append-nil_t = append-nil t

pub grew_more : (n m : ℕ) (t u : List Event) → n ≤ m → GrewBy n t u → GrewBy m t u
grew_more n m t u le grew = (grew.0, grew.1, omega (arith, grew.2))

pub grew_trans : (n m : ℕ) (t u w : List Event) → GrewBy n t u → GrewBy m u w → GrewBy (n + m) t w
grew_trans n m t u w a b = (a.0 ++ b.0, b.1 ∙ ap (λ (x : List Event). x ++ b.0) a.1 ∙ append_assoc t a.0 b.0, omega (arith, length-append a.0 b.0, a.2, b.2))

pub length_grown : (n : ℕ) (t u : List Event) → GrewBy n t u → length t ≤ length u
length_grown n t u grew = omega (arith, ap length grew.1, length-append t grew.0)

-- an attempt began before its last step
pub begun_low : (t : List Event) → begun_of t ≤ length t
begun_low [] = omega arith
begun_low (ClockLoaded r ∷ t) = omega arith
begun_low (LockLoaded c w ∷ t) = omega (arith, begun_low t)
begun_low (ValueLoaded c x ∷ t) = omega (arith, begun_low t)
begun_low (LockExchanged c w ∷ t) = omega (arith, begun_low t)
begun_low (VersionDrawn u ∷ t) = omega (arith, begun_low t)
begun_low (ValueStored c x ∷ t) = omega (arith, begun_low t)
begun_low (LockStored c w ∷ t) = omega (arith, begun_low t)
begun_low (SeatMoved ∷ t) = omega (arith, begun_low t)

-- ---- causes

-- what was found since a later place was found since an earlier one
pub caused_earlier : (callers : List ℕ) (version n m : ℕ) (trail : List Event) (stop : Stop) → n ≤ m → CausedSince callers version m trail stop → CausedSince callers version n trail stop
caused_earlier callers version n m trail (Held c k) le h = (h.0, (h.1.0, omega (arith, h.1.1), h.1.2))
caused_earlier callers version n m trail (Newer c f) le h = (h.0, (h.1.0, omega (arith, h.1.1), h.1.2))
caused_earlier callers version n m trail Memory le h = tt

pub twice_earlier : (n m : ℕ) (trail : List Event) (stop : Stop) → n ≤ m → FoundTwice m trail stop → FoundTwice n trail stop
twice_earlier n m trail (Held c k) le h = tt
twice_earlier n m trail (Newer c f) le h = (h.0, h.1, (h.2.0, omega (arith, h.2.1), h.2.2))
twice_earlier n m trail Memory le h = tt

-- and it stays found when the trail grows
slice_get_longer : (xs ys : List Event) (e : Event) (k : ℕ) → slice_get xs k ≡ Some e → slice_get (xs ++ ys) k ≡ Some e
slice_get_longer [] ys e k is = absurd (none is)
  where
    none : None ≡ Some e → ⊥
    none is = cc
slice_get_longer (x ∷ xs) ys e zero is = is
slice_get_longer (x ∷ xs) ys e (suc k) is = slice_get_longer xs ys e k is

pub found_longer : (n : ℕ) (old more : List Event) (c w : ℕ) → FoundSince n old c w → FoundSince n (old ++ more) c w
found_longer n old more c w (k, le, inl is) = (k, le, inl (slice_get_longer old more _ k is))
found_longer n old more c w (k, le, inr is) = (k, le, inr (slice_get_longer old more _ k is))

pub caused_longer : (callers : List ℕ) (version n : ℕ) (trail more : List Event) (stop : Stop) → CausedSince callers version n trail stop → CausedSince callers version n (trail ++ more) stop
caused_longer callers version n trail more (Held c k) h = (h.0, found_longer n trail more c (2 * k + 1) h.1)
caused_longer callers version n trail more (Newer c f) h =
    (elim h.0 [ inl above ↦ inl above | inr twice ↦ inr (twice.0, twice.1, found_longer 0 trail more c (2 * twice.0) twice.2) ], found_longer n trail more c (2 * f) h.1)
caused_longer callers version n trail more Memory h = tt

-- a stop of a cell, as one of the cells that are this one
pub of_cell : (cell : ℕ) (stop : Stop) → IsOfCell cell stop → IsOfThese (λ c. c ≡ cell) stop
of_cell cell (Held c k) h = h
of_cell cell (Newer c f) h = h
of_cell cell Memory h = tt

pub of_wider : (P Q : ℕ → Type 0) (stop : Stop) → ((c : ℕ) → P c → Q c) → IsOfThese P stop → IsOfThese Q stop
of_wider P Q (Held c k) wider h = wider c h
of_wider P Q (Newer c f) wider h = wider c h
of_wider P Q Memory wider h = tt

pub found_wider : (P Q : ℕ → Type 0) (stop : Stop) → ((c : ℕ) → P c → Q c) → IsFoundIn P stop → IsFoundIn Q stop
found_wider P Q (Held c k) wider h = wider c h
found_wider P Q (Newer c f) wider h = wider c h
found_wider P Q Memory wider h = h

-- a stop that was found is of these cells
pub of_found : (P : ℕ → Type 0) (stop : Stop) → IsFoundIn P stop → IsOfThese P stop
of_found P (Held c k) h = h
of_found P (Newer c f) h = h
of_found P Memory h = tt

pub found_at_in : (P : ℕ → Type 0) (cell : ℕ) (stop : Stop) → P cell → IsFoundAt cell stop → IsFoundIn P stop
found_at_in P cell (Held c k) of at = subst P (sym at) of
found_at_in P cell (Newer c f) of at = subst P (sym at) of
found_at_in P cell Memory of at = at

-- ---- views and passes

module _ {M D : Type 0} where
  pub grows_none : (v : View M D) → Grows v v
  grows_none v = record { meaning = refl; opening = refl; total = refl; known = omega arith; values = λ t h. h; validations = λ t h. h }

  pub grows_trans : (u v w : View M D) → Grows u v → Grows v w → Grows u w
  grows_trans u v w a b = record {
    meaning = b.meaning ∙ a.meaning;
    opening = b.opening ∙ a.opening;
    total = b.total ∙ a.total;
    known = omega (arith, a.known, b.known);
    values = λ t h. b.values t (a.values t h);
    validations = λ t h. b.validations t (a.validations t h);
  }

  pub observes_grows : (v w : View M D) (c x p : ℕ) → Grows v w → Observes v c x p → Observes w c x p
  observes_grows v w c x p g o = (o.0, o.1, g.values _ o.2, g.validations _ o.3, o.4, o.5)

  pub looked_trans : (u v w : View M D) → IsLooked u v → IsLooked v w → IsLooked u w
  looked_trans u v w a b = record {
    grows = grows_trans u v w a.grows b.grows;
    books = b.books ∙ a.books;
    draws = b.draws ∙ a.draws;
    known = b.known ∙ a.known;
    held = b.held ∙ a.held;
    stage = b.stage ∙ a.stage;
    begun = b.begun ∙ a.begun;
  }

  pub looks_trans : (p q r : PassState M D) → LooksOnly p q → LooksOnly q r → LooksOnly p r
  looks_trans p q r a b = (b.0 ∙ ap (λ (s : PassState M D). with_view s r.view) a.0, looked_trans p.view q.view r.view a.1 b.1)

  pub holds_only_none : (p : PassState M D) → HoldsOnly p p
  holds_only_none p = record { is = refl; grows = record { meaning = refl; opening = refl; total = refl; known = omega arith; values = λ t h. h; validations = λ t h. h }; books = refl; draws = refl; known = refl; stage = refl; begun = refl }

  pub holds_only_trans : (p q r : PassState M D) → HoldsOnly p q → HoldsOnly q r → HoldsOnly p r
  holds_only_trans p q r a b = record {
    is = b.is ∙ ap (λ (s : PassState M D). record s { view = r.view; places = r.places }) a.is;
    grows = grows_trans p.view q.view r.view a.grows b.grows;
    books = b.books ∙ a.books;
    draws = b.draws ∙ a.draws;
    known = b.known ∙ a.known;
    stage = b.stage ∙ a.stage;
    begun = b.begun ∙ a.begun;
  }

  goes_as : PassState M D → PassState M D → PassState M D
  goes_as p s = record p { view = s.view; places = s.places }

  pub goes_none : (p : PassState M D) → GoesOn p p
  goes_none p = record { is = refl; grows = grows_none p.view; books = refl; draws = refl; stage = refl }

  pub goes_trans : (p q r : PassState M D) → GoesOn p q → GoesOn q r → GoesOn p r
  goes_trans p q r a b = record {
    is = b.is ∙ ap (λ (s : PassState M D). record s { view = r.view; places = r.places }) a.is;
    grows = grows_trans p.view q.view r.view a.grows b.grows;
    books = b.books ∙ a.books;
    draws = b.draws ∙ a.draws;
    stage = b.stage ∙ a.stage;
  }

  pub goes_holds : (p q : PassState M D) → HoldsOnly p q → GoesOn p q
  goes_holds p q h = record { is = h.is; grows = h.grows; books = h.books; draws = h.draws; stage = h.stage }

  pub goes_looks : (p q : PassState M D) → LooksOnly p q → GoesOn p q
  unfolding goes_as
  goes_looks p q l = record { is = l.0 ∙ sym (ap (goes_as p) l.0); grows = l.1.grows; books = l.1.books; draws = l.1.draws; stage = l.1.stage }

  pub goes_knows : (p q : PassState M D) → KnowsMore p q → GoesOn p q
  unfolding goes_as
  goes_knows p q k = record { is = k.is ∙ sym (ap (goes_as p) k.is); grows = k.grows; books = k.books; draws = k.draws; stage = k.stage }

  -- the pass holds the same callers
  pub goes_sole : (p q : PassState M D) → GoesOn p q → IsSole p → IsSole q
  goes_sole p q g sole = ap (λ (s : PassState M D). length s.books) g.is ∙ sole ∙ sym g.grows.total

-- ---- room, and what waits

pub used_trans : (n m k l : ℕ) (a b d : Spare) → UsesAtMost n m a b → UsesAtMost k l b d → UsesAtMost (n + k) (m + l) a d
used_trans n m k l a b d first next = record {
  locks = omega (arith, first.locks, next.locks);
  observations = omega (arith, first.observations, next.observations);
  writes = omega (arith, first.writes, next.writes);
}

pub used_wider : (n m k l : ℕ) (a b : Spare) → n ≤ k → m ≤ l → UsesAtMost n m a b → UsesAtMost k l a b
used_wider n m k l a b more most u = record {
  locks = omega (arith, more, u.locks);
  observations = omega (arith, more, u.observations);
  writes = omega (arith, most, u.writes);
}

each_append : (P : ℕ × ℕ → Type 0) (xs ys : Entries) → Each P xs → Each P ys → Each P (xs ++ ys)
each_append P [] ys a b = b
each_append P (x ∷ xs) ys a b = (a.0, each_append P xs ys a.1 b)

each_wider : (P Q : ℕ × ℕ → Type 0) → ((o : ℕ × ℕ) → P o → Q o) → (xs : Entries) → Each P xs → Each Q xs
each_wider P Q f [] a = tt
each_wider P Q f (x ∷ xs) a = (f x a.0, each_wider P Q f xs a.1)

-- ---- held cells

pub length_insert : (x : ℕ × ℕ) (held : List (ℕ × ℕ)) → length (insert_by cell_key x held) ≡ length held + 1
length_insert x [] = refl
length_insert x (t ∷ ts) = at (ltb x.0 t.0) (length_insert x ts)
  where
    at : (below : Bool) → length (insert_by cell_key x ts) ≡ length ts + 1 → length (cond below (x ∷ t ∷ ts) (t ∷ insert_by cell_key x ts)) ≡ length (t ∷ ts) + 1
    at true rest = omega arith
    at false rest = omega (arith, rest)

pub among_held : (hs : List (ℕ × ℕ)) (c : ℕ) → has c (cells_of hs) ≡ true → (u : ℕ) × Among (c, u) hs
among_held [] c h = cc
among_held (t ∷ ts) c h = elim (ℕ_discrete t.0 c) [
  | yes here ↦ (t.1, inl (ap (λ n. (n, t.1)) here))
  | no away ↦ let rest = among_held ts c (grind (arith, nat_tests, h, away)) in (rest.0, inr rest.1)
]

pub held_among : (hs : List (ℕ × ℕ)) (c u : ℕ) → Among (c, u) hs → has c (cells_of hs) ≡ true
held_among [] c u h = absurd h
held_among (t ∷ ts) c u (inl is) = let here : t.0 ≡ c = ap (λ (x : ℕ × ℕ). x.0) is in grind (arith, nat_tests, here)
held_among (t ∷ ts) c u (inr h) = let rest = held_among ts c u h in grind (arith, nat_tests, rest)

-- what stays listed stays held
pub held_still : (hs ks : List (ℕ × ℕ)) → ((t : ℕ × ℕ) → Among t hs → Among t ks) → (c : ℕ) → has c (cells_of hs) ≡ true → has c (cells_of ks) ≡ true
held_still hs ks kept c h = let at = among_held hs c h in held_among ks c at.0 (kept (c, at.0) at.1)

-- ---- what calls leave of an attempt

module _ {M D : Type 0} where
  -- a cause in the second of two calls, and one in the first, is one in both
  pub caused_second : (n : ℕ) (a b d : Attempt M D) (stop : Stop) → b.version ≡ a.version → b.pass.view.books ≡ a.pass.view.books → GrewBy n (trail_of a.pass) (trail_of b.pass) → CausedIn b d stop → CausedIn a d stop
  caused_second n a b d stop version books grew cause =
      let callers : callers_of b.pass.view.books ≡ callers_of a.pass.view.books = ap callers_of books in
      rw (← version, ← callers) (caused_earlier (callers_of b.pass.view.books) b.version (length (trail_of a.pass)) (length (trail_of b.pass)) (trail_of d.pass) stop (length_grown n (trail_of a.pass) (trail_of b.pass) grew) cause)

  pub caused_first : (n : ℕ) (a b d : Attempt M D) (stop : Stop) → GrewBy n (trail_of b.pass) (trail_of d.pass) → CausedIn a b stop → CausedIn a d stop
  caused_first n a b d stop grew cause =
      subst (λ (t : List Event). CausedSince (callers_of a.pass.view.books) a.version (length (trail_of a.pass)) t stop) (sym grew.1) (caused_longer (callers_of a.pass.view.books) a.version (length (trail_of a.pass)) (trail_of b.pass) grew.0 stop cause)

  -- nothing was touched
  pub touches_none : (P : ℕ → Type 0) (a b : Attempt M D) → b.observations ≡ a.observations → b.writes ≡ a.writes → b.pass.view.held ≡ a.pass.view.held → TouchesOnly P a b
  touches_none P a b seen writes held = record {
    observed = ([], seen ∙ sym (append-nil a.observations), tt);
    written = λ c off. ap (λ (w : Entries). word_at w c) writes;
    held = λ c off. ap (λ (h : Entries). has c (cells_of h)) held;
    kept = λ t there. subst (λ (h : Entries). Among t h) (sym held) there;
    others = λ cells c off. ap (λ (w : Entries). slice_index (after cells w) c) writes;
  }

  -- what was held is held
  pub held_kept : (P : ℕ → Type 0) (a b : Attempt M D) → TouchesOnly P a b → KeepsHeld a b
  held_kept P a b t = held_still a.pass.view.held b.pass.view.held t.kept

  pub touches_wider : (P Q : ℕ → Type 0) (a b : Attempt M D) → ((c : ℕ) → P c → Q c) → TouchesOnly P a b → TouchesOnly Q a b
  touches_wider P Q a b wider t = record {
    observed = (t.observed.0, t.observed.1, each_wider (λ o. P o.0) (λ o. Q o.0) (λ o p. wider o.0 p) t.observed.0 t.observed.2);
    written = λ c off. t.written c (λ p. off (wider c p));
    held = λ c off. t.held c (λ p. off (wider c p));
    kept = t.kept;
    others = λ cells c off. t.others cells c (λ p. off (wider c p));
  }

  pub touches_trans : (P : ℕ → Type 0) (a b d : Attempt M D) → TouchesOnly P a b → TouchesOnly P b d → TouchesOnly P a d
  touches_trans P a b d s t = record {
    observed = (s.observed.0 ++ t.observed.0, t.observed.1 ∙ ap (λ (o : Entries). o ++ t.observed.0) s.observed.1 ∙ append_assoc a.observations s.observed.0 t.observed.0, each_append (λ o. P o.0) s.observed.0 t.observed.0 s.observed.2 t.observed.2);
    written = λ c off. t.written c off ∙ s.written c off;
    held = λ c off. t.held c off ∙ s.held c off;
    kept = λ h there. t.kept h (s.kept h there);
    others = λ cells c off. t.others cells c off ∙ s.others cells c off;
  }

  -- what is known of a cell stays known, where it isn't written anew
  pub known_stays : (P : ℕ → Type 0) (a b : Attempt M D) (c x : ℕ) → TouchesOnly P a b → b.writes ≡ a.writes → known a c ≡ Some x → known b c ≡ Some x
  known_stays P a b c x t writes is = rw writes (by (word_at a.writes c) is)
    where
      by : (own : Option ℕ) → option_or own (word_at a.observations c) ≡ Some x → option_or own (word_at b.observations c) ≡ Some x
      by (Some y) e = e
      by None e = rw (t.observed.1) (word_at_more a.observations t.observed.0 c x e)

  pub steps_none : (P : ℕ → Type 0) (a : Attempt M D) → StepsAt P 0 a a
  steps_none P a = record { version = refl; touches = touches_none P a a refl refl refl; pass = goes_none a.pass; steps = grew_none (trail_of a.pass) }

  pub steps_wider : (P Q : ℕ → Type 0) (n m : ℕ) (a b : Attempt M D) → ((c : ℕ) → P c → Q c) → n ≤ m → StepsAt P n a b → StepsAt Q m a b
  steps_wider P Q n m a b wider more s = record { version = s.version; touches = touches_wider P Q a b wider s.touches; pass = s.pass; steps = grew_more n m (trail_of a.pass) (trail_of b.pass) more s.steps }

  pub steps_trans : (P : ℕ → Type 0) (n m : ℕ) (a b d : Attempt M D) → StepsAt P n a b → StepsAt P m b d → StepsAt P (n + m) a d
  steps_trans P n m a b d s t = record {
    version = t.version ∙ s.version;
    touches = touches_trans P a b d s.touches t.touches;
    pass = goes_trans a.pass b.pass d.pass s.pass t.pass;
    steps = grew_trans n m (trail_of a.pass) (trail_of b.pass) (trail_of d.pass) s.steps t.steps;
  }

  pub stops_wider : (P Q : ℕ → Type 0) (a b : Attempt M D) (stop : Stop) → ((c : ℕ) → P c → Q c) → StopsAt P a b stop → StopsAt Q a b stop
  stops_wider P Q a b stop wider s = record { state = s.state; of = of_wider P Q stop wider s.of; cause = s.cause; sole = s.sole }

  pub ends_wider : (P Q : ℕ → Type 0) (a b : Attempt M D) (stop : Option Stop) → ((c : ℕ) → P c → Q c) → EndsAt P a b stop → EndsAt Q a b stop
  ends_wider P Q a b None wider e = e
  ends_wider P Q a b (Some stop) wider e = stops_wider P Q a b stop wider e

  -- how two calls end of which the first one wasn't stopped
  pub ends_then : (P Q : ℕ → Type 0) (n : ℕ) (a b d : Attempt M D) (stop : Option Stop) → StepsAt Q n a b → b.state ≡ a.state → EndsAt P b d stop → EndsAt P a d stop
  ends_then P Q n a b d None s same e = e ∙ same
  ends_then P Q n a b d (Some stop) s same e = record {
    state = e.state ∙ ap stopped_from same;
    of = e.of;
    cause = caused_second n a b d stop s.version s.pass.books s.steps e.cause;
    sole = λ sole. e.sole (goes_sole a.pass b.pass s.pass sole);
  }

  -- how two calls end of which the second one took the stop that the first one had told of
  pub ends_with : (P Q : ℕ → Type 0) (n : ℕ) (a b d : Attempt M D) (stop : Stop) → b.state ≡ a.state → IsOfThese P stop → CausedIn a b stop → (IsSole a.pass → stop ≡ Memory) → d.state ≡ stopped_from b.state → StepsAt Q n b d → EndsAt P a d (Some stop)
  ends_with P Q n a b d stop same of cause sole stopped s = record {
    state = stopped ∙ ap stopped_from same;
    of = of;
    cause = caused_first n a b d stop s.steps cause;
    sole = sole;
  }

  pub holds_wider : (P Q : ℕ → Type 0) (n m : ℕ) (a b : Attempt M D) (stop : Option Stop) → ((c : ℕ) → P c → Q c) → n ≤ m → HoldsAt P n a b stop → HoldsAt Q m a b stop
  holds_wider P Q n m a b stop wider more h = record { ends = ends_wider P Q a b stop wider h.ends; does = steps_wider P Q n m a b wider more h.does; known = h.known; began = h.began }

  pub holds_then : (P : ℕ → Type 0) (n m : ℕ) (a b d : Attempt M D) (stop : Option Stop) → HoldsAt P n a b None → HoldsAt P m b d stop → HoldsAt P (n + m) a d stop
  holds_then P n m a b d stop s t = record { ends = ends_then P P n a b d stop s.does s.ends t.ends; does = steps_trans P n m a b d s.does t.does; known = t.known ∙ s.known; began = t.began ∙ s.began }

  pub looks_none : (P : ℕ → Type 0) (a : Attempt M D) → LooksAt P 0 a a None
  looks_none P a = record { ends = refl; does = steps_none P a; known = refl; began = refl; held = refl }

  pub looks_wider : (P Q : ℕ → Type 0) (n m : ℕ) (a b : Attempt M D) (stop : Option Stop) → ((c : ℕ) → P c → Q c) → n ≤ m → LooksAt P n a b stop → LooksAt Q m a b stop
  looks_wider P Q n m a b stop wider more h = record { ends = ends_wider P Q a b stop wider h.ends; does = steps_wider P Q n m a b wider more h.does; known = h.known; began = h.began; held = h.held }

  pub looks_then : (P : ℕ → Type 0) (n m : ℕ) (a b d : Attempt M D) (stop : Option Stop) → LooksAt P n a b None → LooksAt P m b d stop → LooksAt P (n + m) a d stop
  looks_then P n m a b d stop s t = record { ends = ends_then P P n a b d stop s.does s.ends t.ends; does = steps_trans P n m a b d s.does t.does; known = t.known ∙ s.known; began = t.began ∙ s.began; held = t.held ∙ s.held }

  -- a call that only looks is one that may hold
  pub holds_looks : (P : ℕ → Type 0) (n : ℕ) (a b : Attempt M D) (stop : Option Stop) → LooksAt P n a b stop → HoldsAt P n a b stop
  holds_looks P n a b stop l = record { ends = l.ends; does = l.does; known = l.known; began = l.began }

  -- the pass of such a call
  pub pass_of_holds : (P : ℕ → Type 0) (n : ℕ) (a b : Attempt M D) (stop : Option Stop) → HoldsAt P n a b stop → HoldsOnly a.pass b.pass
  pass_of_holds P n a b stop h = record { is = h.does.pass.is; grows = h.does.pass.grows; books = h.does.pass.books; draws = h.does.pass.draws; known = h.known; stage = h.does.pass.stage; begun = h.began }

  -- a stop that was found in a call before the commit was found in the attempt
  pub caused_in_attempt : (a b : Attempt M D) (stop : Stop) → b.version ≡ a.version → HoldsOnly a.pass b.pass → IsFound stop → CausedIn a b stop → IsCausedInAttempt b stop
  caused_in_attempt a b stop version pass found cause =
      let callers : callers_of b.pass.view.books ≡ callers_of a.pass.view.books = ap callers_of pass.books in
      let early : begun b ≤ length (trail_of a.pass) = omega (arith, pass.begun, begun_low a.pass.view.trail, length-reverse a.pass.view.trail) in
      (rw (version, callers) (caused_earlier (callers_of a.pass.view.books) a.version (begun b) (length (trail_of a.pass)) (trail_of b.pass) stop early cause), found)
