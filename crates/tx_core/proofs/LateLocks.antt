-- Locks of written cells, at the places that the writes reserved.
use Rattle.std.proofs.Common.{◌≡◌, ℕ, zero, suc, ◌+◌, ◌*◌, ◌<◌, ◌≤◌, true, [], ◌∷◌, ◌++◌, length, slice_index, None, IsSome, All, inl, inr, refl, sym, ap, subst, ◌∙◌, arith}
use Rattle.std.proofs.Math.Decide.{ℕ_discrete}
use Rattle.std.proofs.lemmas.Bool.{cases_lt}
use Rattle.std.proofs.lemmas.Bool.Decides.{nat_tests}
use Rattle.std.specs.Map.{keys_of}
use Rattle.cell_table.specs.Cells.{has}
use Rattle.cell_table.specs.Sorted.{Among}
use Rattle.cell_table.specs.Rule.{cells_of}
use Rattle.cell_table.specs.declared.view.Stage.TheVariants.{Open}
use Rattle.cell_table.specs.Pass.{TableState, PassState, IsPassOf, IsHeld, trail_of}
use Rattle.attempt_lists.specs.Cells.{Entries, Listed, word_at, cell_at}
use Rattle.attempt_lists.specs.Observed.{Observed}
use Rattle.tx_core.specs.Causes.{GrewBy}
use Rattle.tx_core.specs.Seen.{Takes, HoldsOnly, SameOthers}
use Rattle.tx_core.specs.Tx.{IsAttempt}
use Rattle.tx_core.specs.Calls.{newly_held}
use Rattle.tx_core.specs.Facts.{length_insert, grew_none, grew_more, grew_trans, holds_only_none, holds_only_trans}
use Rattle.tx_core.proofs.HeldCells.{has_insert}
use Rattle.tx_core.proofs.Locking.{attempt_locks_known, no_entry}

-- what holds of every cell of a list holds of the cell at a place
pub cell_there : (P : ℕ → Type 0) (es : Entries) (i : ℕ) → All P (keys_of es) → i < length es → P (cell_at es i)
cell_there P [] i all lt = absurd (omega arith)
cell_there P (e ∷ es) zero all lt = all 0 0 (omega arith)
cell_there P (e ∷ es) (suc i) all lt = cell_there P es i (λ k d l. all (suc k) d (omega arith)) (omega arith)

module _ {M D : Type 0} where
  -- the cells that came to be held, and two steps for each
  abbrev pub Counted : PassState M D → PassState M D → Type 0
  Counted p q = (length p.view.held ≤ length q.view.held) × GrewBy (2 * newly_held p q) (trail_of p) (trail_of q)

  pub counted_none : (p q : PassState M D) → q ≡ p → Counted p q
  counted_none p q same = subst (λ (s : PassState M D). Counted p s) (sym same) (omega arith, grew_more 0 (2 * newly_held p p) (trail_of p) (trail_of p) (omega arith) (grew_none (trail_of p)))

  pub counted_trans : (p q r : PassState M D) → Counted p q → Counted q r → Counted p r
  counted_trans p q r a b = (omega (arith, a.0, b.0), grew_more (2 * newly_held p q + 2 * newly_held q r) (2 * newly_held p r) (trail_of p) (trail_of r) (omega (arith, a.0, b.0)) (grew_trans (2 * newly_held p q) (2 * newly_held q r) (trail_of p) (trail_of q) (trail_of r) a.1 b.1))

  pub counted_takes : (p q : PassState M D) (cell u : ℕ) → Takes p q cell u → GrewBy 2 (trail_of p) (trail_of q) → Counted p q
  counted_takes p q cell u t grew = let long = ap length t.held ∙ length_insert (cell, u) p.view.held in (omega (arith, long), grew_more 2 (2 * newly_held p q) (trail_of p) (trail_of q) (omega (arith, long)) grew)

  pub counted_to_stop : (p q r : PassState M D) → Counted p q → r.view.held ≡ q.view.held → GrewBy 2 (trail_of q) (trail_of r) → GrewBy (2 * newly_held p r + 2) (trail_of p) (trail_of r)
  counted_to_stop p q r a same grew = let long = ap length same in grew_more (2 * newly_held p q + 2) (2 * newly_held p r + 2) (trail_of p) (trail_of r) (omega (arith, long)) (grew_trans (2 * newly_held p q) 2 (trail_of p) (trail_of q) (trail_of r) a.1 grew)

module _ {M D : Type 0} where
  pub kept_takes : (p q : PassState M D) (cell u c : ℕ) → Takes p q cell u → IsHeld p c → IsHeld q c
  kept_takes p q cell u c t h = ap (λ l. has c (cells_of l)) t.held ∙ has_insert c cell u p.view.held ∙ grind (arith, nat_tests, h)

module _ {M D : Type 0} (table : TableState M) (version : ℕ) where
  -- a written cell is locked at a reserved place
  pub attempt_locks_reserved : (p q : PassState M D) (reads : Observed) (writes : Entries) (held more : Listed) (cell u i : ℕ) → IsAttempt table p version reads writes held true → Takes p q cell u → IsPassOf table q → p.view.stage ≡ Open → more.entries ≡ held.entries ++ (cell, u) ∷ [] → i < length writes → cell ≡ cell_at writes i
      → ((i : ℕ) → i < length reads.observations → cell_at reads.observations i ≡ cell → slice_index reads.versions i ≡ u)
      → IsAttempt table q version reads writes more true
  attempt_locks_reserved p q reads writes held more cell u i a t of stage pushed lt is at_u =
      attempt_locks_known table version p p q reads writes held held more true cell u a refl refl t of stage pushed
      (rw is (cell_there (λ c. c < length table.opening) writes i a.written lt))
      (λ r w. no_entry writes cell i w lt (sym is))
      at_u

-- every cell of a list stands at a place, and the cell at a place is in the list
pub place_of : (es : Entries) (c : ℕ) → IsSome (word_at es c) → (i : ℕ) × (i < length es) × (cell_at es i ≡ c)
place_of [] c some = absurd (none some)
  where
    none : IsSome (word_at [] c) → ⊥
    none h = cc
place_of (e ∷ es) c some = elim (ℕ_discrete e.0 c) [
  | yes here ↦ (0, omega arith, here)
  | no away ↦ let rest = place_of es c (grind (arith, nat_tests, some, away)) in (suc rest.0, omega (arith, rest.1), rest.2)
]

pub word_there : (es : Entries) (i : ℕ) → i < length es → IsSome (word_at es (cell_at es i))
word_there [] i lt = absurd (omega arith)
word_there (e ∷ es) zero lt = grind (arith, nat_tests)
word_there (e ∷ es) (suc i) lt = grind (arith, nat_tests, word_there es i (omega arith))

-- After n written cells were tried and m of them are held
pub record IsLocking {M D : Type 0} (table : TableState M) (version : ℕ) (reads : Observed) (writes : Entries) (start : PassState M D) (room n m : ℕ) (p : PassState M D) (held : Listed) : Type 0 where
  pub attempt : IsAttempt table p version reads writes held true
  pub undrawn : p.view.stage ≡ Open
  pub locked : (i : ℕ) → i < m → IsHeld p (cell_at writes i)
  pub pass : HoldsOnly start p
  pub others : (c : ℕ) → word_at writes c ≡ None → has c (cells_of p.view.held) ≡ has c (cells_of start.view.held)
  pub kept : (t : ℕ × ℕ) → Among t start.view.held → Among t p.view.held
  pub places : held.reserved ≤ p.places
  pub left : room ≤ held.reserved + n
  pub grew : GrewBy (2 * n) (trail_of start) (trail_of p)

module _ {M D : Type 0} (table : TableState M) (version : ℕ) (reads : Observed) (writes : Entries) (start : PassState M D) (room : ℕ) where
  pub locking_begins : (held : Listed) → IsAttempt table start version reads writes held true → start.view.stage ≡ Open → held.reserved ≤ start.places → room ≤ held.reserved → IsLocking table version reads writes start room 0 0 start held
  locking_begins held a stage places wide = record {
    attempt = a;
    undrawn = stage;
    locked = λ i lt. absurd (omega arith);
    pass = holds_only_none start;
    others = λ c none. refl;
    kept = λ t h. h;
    places = places;
    left = omega arith;
    grew = grew_none (trail_of start);
  }

  -- one more cell was tried
  pub locking_tries : (n m : ℕ) (p q : PassState M D) (held more : Listed) → IsLocking table version reads writes start room n m p held → n < length writes → IsAttempt table q version reads writes more true → HoldsOnly p q → SameOthers p q (cell_at writes n) → ((c : ℕ) → IsHeld p c → IsHeld q c) → ((t : ℕ × ℕ) → Among t p.view.held → Among t q.view.held) → more.reserved ≤ q.places → held.reserved ≤ more.reserved + 1 → GrewBy 2 (trail_of p) (trail_of q) → IsLocking table version reads writes start room (n + 1) m q more
  locking_tries n m p q held more l lt a only same still kept places used grew = record {
    attempt = a;
    undrawn = only.stage ∙ l.undrawn;
    locked = λ i low. still _ (l.locked i low);
    pass = holds_only_trans start p q l.pass only;
    others = λ c none. same c (λ is. not_there c none is) ∙ l.others c none;
    kept = λ t h. kept t (l.kept t h);
    places = places;
    left = omega (arith, l.left, used);
    grew = grew_more (2 * n + 2) _ _ _ (omega arith) (grew_trans (2 * n) 2 _ _ _ l.grew grew);
  }
    where
      not_there : (c : ℕ) → word_at writes c ≡ None → c ≡ cell_at writes n → ⊥
      not_there c none is = no_entry writes c n none lt (sym is)

  -- and is held
  pub locking_holds : (n m : ℕ) (p : PassState M D) (held : Listed) → IsLocking table version reads writes start room n m p held → IsHeld p (cell_at writes m) → IsLocking table version reads writes start room n (m + 1) p held
  locking_holds n m p held l h = record {
    attempt = l.attempt;
    undrawn = l.undrawn;
    locked = λ i low. elim (cases_lt i m) [
      | inl before ↦ l.locked i before
      | inr at ↦ let same : i ≡ m = omega arith in rw same h
    ];
    pass = l.pass;
    others = l.others;
    kept = l.kept;
    places = l.places;
    left = l.left;
    grew = l.grew;
  }
