-- What keeps the facts of an attempt.
use Rattle.std.proofs.Common.{◌≡◌, ◌≢◌, ℕ, zero, suc, ◌+◌, ◌<◌, ◌≤◌, eqb, Bool, true, false, List, [], ◌∷◌, ◌++◌, length, slice_index, is_some, All, subst, if◌then◌else◌, Some, None, ◌⊎◌, inl, inr, refl, sym, ap, ◌∙◌, arith}
use Rattle.std.proofs.lemmas.Bool.Decides.{nat_tests}
use Rattle.std.proofs.lemmas.List.{length_push}
use Rattle.std.proofs.lemmas.Map.Views.{All-keys-insert_entry}
use Rattle.std.proofs.Math.Decide.{ℕ_discrete}
use Rattle.std.specs.Map.{keys_of}
use Rattle.std.specs.Ordering.{nat_cmp}
use Rattle.cell_table.specs.Cells.{has}
use Rattle.cell_table.specs.Sorted.{Among}
use Rattle.cell_table.specs.Rule.{cells_of}
use Rattle.cell_table.specs.declared.view.View.{View}
use Rattle.cell_table.specs.Steps.{Grows, drawn}
use Rattle.cell_table.specs.Pass.{TableState, PassState, IsPassOf, with_view}
use Rattle.attempt_lists.specs.Cells.{Entries, Listed, word_at, word_of, cell_at, put}
use Rattle.attempt_lists.specs.Laid.{word_at-put}
use Rattle.attempt_lists.specs.Observed.{Observed}
use Rattle.tx_core.specs.Seen.{LooksOnly, KnowsMore, IsSeen}
use Rattle.tx_core.specs.Tx.{IsAttempt}
use Rattle.tx_core.proofs.Looks.{seen_grows, drawn_grows}

-- an entry of a list with one more at its end is an old one or the new one
pub cell_at-push : (es : Entries) (e : ℕ × ℕ) (i : ℕ) → i < length (es ++ e ∷ []) → ((i < length es) × (cell_at (es ++ e ∷ []) i ≡ cell_at es i) × (word_of (es ++ e ∷ []) i ≡ word_of es i)) ⊎ ((i ≡ length es) × (cell_at (es ++ e ∷ []) i ≡ e.0) × (word_of (es ++ e ∷ []) i ≡ e.1))
cell_at-push [] e zero lt = inr (refl, refl, refl)
cell_at-push [] e (suc i) lt = absurd (omega arith)
cell_at-push (x ∷ es) e zero lt = inl (omega arith, refl, refl)
cell_at-push (x ∷ es) e (suc i) lt = elim (cell_at-push es e i (omega arith)) [
  | inl old ↦ inl (omega (arith, old.0), old.1, old.2)
  | inr new ↦ inr (ap suc new.0, new.1, new.2)
]

pub number_at-push : (xs : List ℕ) (x i : ℕ) → ((i < length xs) → slice_index (xs ++ x ∷ []) i ≡ slice_index xs i) × ((i ≡ length xs) → slice_index (xs ++ x ∷ []) i ≡ x)
number_at-push [] x i = (λ lt. absurd (omega arith), λ is. rw is refl)
number_at-push (y ∷ xs) x zero = (λ lt. refl, λ is. absurd (omega arith))
number_at-push (y ∷ xs) x (suc i) = let rest = number_at-push xs x i in (λ lt. rest.0 (omega arith), λ is. rest.1 (omega arith))

-- the word at a cell of a list with one more entry at its end, of a cell that had none
pub word_at-push : (es : Entries) (cell word q : ℕ) → word_at (es ++ (cell, word) ∷ []) q ≡ None → (word_at es q ≡ None) × (cell ≢ q)
word_at-push [] cell word q none = (refl, λ same. grind (arith, nat_tests, none, same))
word_at-push (e ∷ es) cell word q none =
    let rest = word_at-push es cell word q (grind (arith, nat_tests, none)) in
    (grind (arith, nat_tests, none, rest.0), rest.1)

-- what holds of all cells of the list holds of one in it
pub in_keys : (P : ℕ → Type 0) (es : Entries) (c : ℕ) → All P (keys_of es) → is_some (word_at es c) ≡ true → P c
in_keys P [] c all some = cc
in_keys P (e ∷ es) c all some = elim (ℕ_discrete e.0 c) [
  | yes same ↦ subst P same (all 0 0 (omega arith))
  | no away ↦ in_keys P es c (λ k d lt. all (suc k) d (omega arith)) (grind (arith, nat_tests, away, some))
]

module _ {M D : Type 0} (table : TableState M) (version : ℕ) where
  -- the view knows more, and the attempt holds what it held
  pub attempt_moves : (p q : PassState M D) (reads : Observed) (writes : Entries) (held : Listed) (committing : Bool) → Grows p.view q.view → q.view.held ≡ p.view.held → q.view.stage ≡ p.view.stage → (q.seen ≤ version) × (version ≤ q.view.known) → q.reserved ≡ p.reserved → IsPassOf table q → IsAttempt table p version reads writes held committing → IsAttempt table q version reads writes held committing
  attempt_moves p q reads writes held committing grows kept stage begun reserved of a = record {
    of = of;
    begun = begun;
    observed = λ i lt. seen_grows p.view q.view version _ _ _ grows (λ h. rw kept h) (a.observed i lt);
    written = a.written;
    listed = kept ∙ a.listed;
    holds = λ c. rw kept (a.holds c);
    in_table = a.in_table;
    sized = a.sized;
    met = λ c r w. rw kept (a.met c r w);
    pinned = λ i lt h. rw kept (a.pinned i lt (rw (← kept) h));
    undecided = rw stage a.undecided;
    undrawn = λ none. stage ∙ a.undrawn (sym kept ∙ none);
    nothing_drawn = λ before. stage ∙ a.nothing_drawn before;
    early = a.early;
    reserved = rw reserved a.reserved;
  }

  -- a load of the clock, and loads of words after it
  pub attempt_knows : (p q : PassState M D) (reads : Observed) (writes : Entries) (held : Listed) (committing : Bool) → KnowsMore p q → IsPassOf table q → IsAttempt table p version reads writes held committing → IsAttempt table q version reads writes held committing
  attempt_knows p q reads writes held committing knows of a =
      let seen : q.seen ≡ p.seen = ap (λ (s : PassState M D). s.seen) knows.is in
      attempt_moves p q reads writes held committing knows.grows knows.held knows.stage (rw seen a.begun.0, omega (arith, a.begun.1, knows.grows.known)) (ap (λ (s : PassState M D). s.reserved) knows.is) of a

  -- loads of words
  pub attempt_looks : (p q : PassState M D) (reads : Observed) (writes : Entries) (held : Listed) (committing : Bool) → LooksOnly p q → IsPassOf table q → IsAttempt table p version reads writes held committing → IsAttempt table q version reads writes held committing
  attempt_looks p q reads writes held committing looks of a =
      let seen : q.seen ≡ p.seen = ap (λ (s : PassState M D). s.seen) looks.0 in
      attempt_moves p q reads writes held committing looks.1.grows looks.1.held looks.1.stage (rw (seen, looks.1.known) a.begun) (ap (λ (s : PassState M D). s.reserved) looks.0) of a

  -- one more observation, of a cell that isn't held or has the version that was observed
  pub attempt_observes : (p : PassState M D) (reads more : Observed) (writes : Entries) (held : Listed) (committing : Bool) (cell x u : ℕ) → IsAttempt table p version reads writes held committing → more.observations ≡ reads.observations ++ (cell, x) ∷ [] → more.versions ≡ reads.versions ++ u ∷ [] → IsSeen p.view version cell x u → (committing ≡ false → u ≤ version) → (has cell (cells_of p.view.held) ≡ true → Among (cell, u) p.view.held) → IsAttempt table p version more writes held committing
  attempt_observes p reads more writes held committing cell x u a observations versions seen low pin = record {
    of = a.of;
    begun = a.begun;
    observed = λ i lt. elim (cell_at-push reads.observations (cell, x) i (rw observations at lt)) [
      | inl old ↦ rw (observations, versions, old.1, old.2, (number_at-push reads.versions u i).0 (omega (arith, old.0, a.sized))) (a.observed i old.0)
      | inr new ↦ rw (observations, versions, new.1, new.2, (number_at-push reads.versions u i).1 (omega (arith, new.0, a.sized))) seen
    ];
    written = a.written;
    listed = a.listed;
    holds = a.holds;
    in_table = a.in_table;
    sized = rw (observations, versions) (length_push reads.versions u ∙ ap (λ n. n + 1) a.sized ∙ sym (length_push reads.observations (cell, x)));
    met = λ c r w. a.met c (word_at-push reads.observations cell x c (rw observations at r)).0 w;
    pinned = λ i lt h. elim (cell_at-push reads.observations (cell, x) i (rw observations at lt)) [
      | inl old ↦ rw (observations, versions, old.1, (number_at-push reads.versions u i).0 (omega (arith, old.0, a.sized))) (a.pinned i old.0 (rw (observations, old.1) at h))
      | inr new ↦ rw (observations, versions, new.1, (number_at-push reads.versions u i).1 (omega (arith, new.0, a.sized))) (pin (rw (observations, new.1) at h))
    ];
    undecided = a.undecided;
    undrawn = a.undrawn;
    nothing_drawn = a.nothing_drawn;
    early = λ before i lt. elim (cell_at-push reads.observations (cell, x) i (rw observations at lt)) [
      | inl old ↦ rw (versions, (number_at-push reads.versions u i).0 (omega (arith, old.0, a.sized))) (a.early before i old.0)
      | inr new ↦ rw (versions, (number_at-push reads.versions u i).1 (omega (arith, new.0, a.sized))) (low before)
    ];
    reserved = a.reserved;
  }

  -- room for more observations
  pub attempt_reserves : (p : PassState M D) (reads more : Observed) (writes : Entries) (held : Listed) (committing : Bool) → more.observations ≡ reads.observations → more.versions ≡ reads.versions → IsAttempt table p version reads writes held committing → IsAttempt table p version more writes held committing
  attempt_reserves p reads more writes held committing observations versions a = record {
    of = a.of;
    begun = a.begun;
    observed = λ i lt. rw (observations, versions) (a.observed i (rw observations at lt));
    written = a.written;
    listed = a.listed;
    holds = a.holds;
    in_table = a.in_table;
    sized = rw (observations, versions) a.sized;
    met = λ c r w. a.met c (rw observations at r) w;
    pinned = λ i lt h. rw (observations, versions) (a.pinned i (rw observations at lt) (rw observations at h));
    undecided = a.undecided;
    undrawn = a.undrawn;
    nothing_drawn = a.nothing_drawn;
    early = λ before i lt. rw versions (a.early before i (rw observations at lt));
    reserved = a.reserved;
  }

  -- one more write
  pub attempt_writes : (p : PassState M D) (reads : Observed) (writes more : Entries) (held : Listed) (committing : Bool) (cell x : ℕ) → IsAttempt table p version reads writes held committing → cell < length table.opening → more ≡ put writes cell x → IsAttempt table p version reads more held committing
  attempt_writes p reads writes more held committing cell x a there puts = record {
    of = a.of;
    begun = a.begun;
    observed = a.observed;
    written = rw puts (All-keys-insert_entry nat_cmp cell x (λ c. c < length table.opening) writes a.written there);
    listed = a.listed;
    holds = a.holds;
    in_table = a.in_table;
    sized = a.sized;
    met = λ c r w. a.met c r (unwritten c (sym (word_at-put writes cell x c) ∙ ap (λ (es : Entries). word_at es c) (sym puts) ∙ w));
    pinned = a.pinned;
    undecided = a.undecided;
    undrawn = a.undrawn;
    nothing_drawn = a.nothing_drawn;
    early = a.early;
    reserved = a.reserved;
  }
    where
      unwritten : (c : ℕ) → (if eqb cell c then Some x else word_at writes c) ≡ None → word_at writes c ≡ None
      unwritten c e = grind (arith, nat_tests, e)

  -- more room for locks
  pub attempt_widens : (p q : PassState M D) (reads : Observed) (writes : Entries) (held wide : Listed) (committing : Bool) → IsAttempt table p version reads writes held committing → q ≡ record p { places = q.places } → wide.entries ≡ held.entries → IsAttempt table q version reads writes wide committing
  attempt_widens p q reads writes held wide committing a same entries =
      let view : q.view ≡ p.view = ap (λ (s : PassState M D). s.view) same in
      record {
        of = rw (view, ap (λ (s : PassState M D). s.table) same) a.of;
        begun = (rw (ap (λ (s : PassState M D). s.seen) same) a.begun.0, rw view a.begun.1);
        observed = λ i lt. rw view (a.observed i lt);
        written = a.written;
        listed = rw (view, entries) a.listed;
        holds = λ c. rw (view, entries) (a.holds c);
        in_table = rw entries a.in_table;
        sized = a.sized;
        met = λ c r w. rw view (a.met c r w);
        pinned = λ i lt h. rw view (a.pinned i lt (rw view at h));
        undecided = rw view a.undecided;
        undrawn = λ none. ap (λ (v : View M D). v.stage) view ∙ a.undrawn (sym (ap (λ (v : View M D). v.held) view) ∙ none);
        nothing_drawn = λ before. ap (λ (v : View M D). v.stage) view ∙ a.nothing_drawn before;
        early = a.early;
        reserved = rw (ap (λ (s : PassState M D). s.reserved) same) a.reserved;
      }

  -- a version is drawn
  pub attempt_draws : (p q : PassState M D) (reads : Observed) (writes : Entries) (held : Listed) (d : ℕ) → IsAttempt table p version reads writes held true → q ≡ with_view p (drawn p.view d) → IsPassOf table q → p.view.known < d → p.view.held ≢ [] → IsAttempt table q version reads writes held true
  attempt_draws p q reads writes held d a is of later some =
      let view : q.view ≡ drawn p.view d = ap (λ (s : PassState M D). s.view) is in
      let kept : q.view.held ≡ p.view.held = ap (λ (v : View M D). v.held) view in
      record {
        of = of;
        begun = (rw (ap (λ (s : PassState M D). s.seen) is) a.begun.0, rw (ap (λ (v : View M D). v.known) view) (omega (arith, a.begun.1)));
        observed = λ i lt. seen_grows p.view q.view version _ _ _ (rw view (drawn_grows p.view d later)) (λ h. rw kept h) (a.observed i lt);
        written = a.written;
        listed = kept ∙ a.listed;
        holds = λ c. rw kept (a.holds c);
        in_table = a.in_table;
        sized = a.sized;
        met = λ c r w. rw kept (a.met c r w);
        pinned = λ i lt h. rw kept (a.pinned i lt (rw kept at h));
        undecided = rw (ap (λ (v : View M D). v.stage) view) tt;
        undrawn = λ none. absurd (some (sym kept ∙ none));
        nothing_drawn = λ before. absurd (true_false before);
        early = λ before. absurd (true_false before);
        reserved = rw (ap (λ (s : PassState M D). s.reserved) is) a.reserved;
      }
    where
      true_false : true ≡ false → ⊥
      true_false e = cc

  -- the first call of the commit
  pub attempt_commits : (p : PassState M D) (reads : Observed) (writes : Entries) (held : Listed) (committing : Bool) → IsAttempt table p version reads writes held committing → IsAttempt table p version reads writes held true
  attempt_commits p reads writes held committing a = record {
    of = a.of;
    begun = a.begun;
    observed = a.observed;
    written = a.written;
    listed = a.listed;
    holds = a.holds;
    in_table = a.in_table;
    sized = a.sized;
    met = a.met;
    pinned = a.pinned;
    undecided = a.undecided;
    undrawn = a.undrawn;
    nothing_drawn = λ before. absurd (true_false before);
    early = λ before. absurd (true_false before);
    reserved = a.reserved;
  }
    where
      true_false : true ≡ false → ⊥
      true_false e = cc
