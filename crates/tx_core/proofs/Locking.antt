-- Locks that an attempt takes.
use Rattle.std.proofs.Common.{◌≡◌, ◌≢◌, ℕ, zero, suc, ◌+◌, ◌-◌, ◌<◌, ◌≤◌, eqb, ltb, Bool, true, false, cond, List, [], ◌∷◌, ◌++◌, length, slice_index, is_some, if◌then◌else◌, Some, None, inl, inr, refl, sym, ap, ◌∙◌, arith}
use Rattle.std.proofs.Math.Decide.{ℕ_discrete}
use Rattle.std.proofs.lemmas.Bool.Decides.{nat_tests}
use Rattle.std.proofs.lemmas.List.{length_push, map_push}
use Rattle.std.proofs.lemmas.List.Elements.{All-push}
use Rattle.std.specs.Map.{keys_of}
use Rattle.cell_table.specs.Cells.{has}
use Rattle.cell_table.specs.Sorted.{Among, insert_by}
use Rattle.cell_table.specs.Rule.{cells_of}
use Rattle.cell_table.specs.declared.view.View.{View}
use Rattle.cell_table.specs.declared.view.Stage.TheVariants.{Open}
use Rattle.cell_table.specs.Steps.{Grows, cell_key}
use Rattle.cell_table.specs.Pass.{TableState, PassState, IsPassOf}
use Rattle.attempt_lists.specs.Cells.{Entries, Listed, word_at, word_of, cell_at}
use Rattle.attempt_lists.specs.Observed.{Observed}
use Rattle.tx_core.specs.Causes.{begun_of}
use Rattle.tx_core.specs.Seen.{LooksOnly, IsSeen, Takes, HoldsOnly, SameOthers}
use Rattle.tx_core.specs.Tx.{IsAttempt}
use Rattle.tx_core.specs.Facts.{grows_trans}
use Rattle.tx_core.proofs.Looks.{seen_grows}
use Rattle.tx_core.specs.Children.{held_of}
use Rattle.tx_core.proofs.HeldCells.{held_of_more, has_insert}
use Rattle.tx_core.proofs.AttemptFacts.{cell_at-push, number_at-push, word_at-push}

pub among_inserted : (x : ℕ × ℕ) (held : List (ℕ × ℕ)) → Among x (insert_by cell_key x held)
among_inserted x [] = inl refl
among_inserted x (t ∷ ts) = at (ltb x.0 t.0) (among_inserted x ts)
  where
    at : (below : Bool) → Among x (insert_by cell_key x ts) → Among x (cond below (x ∷ t ∷ ts) (t ∷ insert_by cell_key x ts))
    at true rest = inl refl
    at false rest = inr rest

pub among_insert : (x y : ℕ × ℕ) (held : List (ℕ × ℕ)) → Among y held → Among y (insert_by cell_key x held)
among_insert x y [] h = elim h [ ]
among_insert x y (t ∷ ts) h = at (ltb x.0 t.0) h (λ g. among_insert x y ts g)
  where
    at : (below : Bool) → Among y (t ∷ ts) → (Among y ts → Among y (insert_by cell_key x ts)) → Among y (cond below (x ∷ t ∷ ts) (t ∷ insert_by cell_key x ts))
    at true g rest = inr g
    at false (inl is) rest = inl is
    at false (inr g) rest = inr (rest g)

pub word_at-add : (es : Entries) (cell word c : ℕ) → is_some (word_at (es ++ (cell, word) ∷ []) c) ≡ (if eqb cell c then true else is_some (word_at es c))
word_at-add [] cell word c = grind (arith, nat_tests)
word_at-add (e ∷ es) cell word c = grind (arith, nat_tests, word_at-add es cell word c)

pub word_at-new : (es : Entries) (cell x : ℕ) → word_at es cell ≡ None → word_at (es ++ (cell, x) ∷ []) cell ≡ Some x
word_at-new [] cell x none = grind (arith, nat_tests)
word_at-new (e ∷ es) cell x none = grind (arith, nat_tests, none, word_at-new es cell x (grind (arith, nat_tests, none)))

-- a list has no entry of a cell that has no word in it
pub no_entry : (es : Entries) (c i : ℕ) → word_at es c ≡ None → i < length es → cell_at es i ≢ c
no_entry [] c i none lt same = absurd (omega arith)
no_entry (e ∷ es) c zero none lt same = grind (arith, nat_tests, none, same)
no_entry (e ∷ es) c (suc i) none lt same = no_entry es c i (grind (arith, nat_tests, none)) (omega arith) same

module _ {M D : Type 0} where
  pub takes_then_looks : (p q r : PassState M D) (c u : ℕ) → Takes p q c u → LooksOnly q r → Takes p r c u
  takes_then_looks p q r c u a b = record {
    is = b.0 ∙ ap (λ (s : PassState M D). record s { view = r.view }) a.is;
    grows = grows_trans p.view q.view r.view a.grows b.1.grows;
    books = b.1.books ∙ a.books;
    draws = b.1.draws ∙ a.draws;
    known = b.1.known ∙ a.known;
    stage = b.1.stage ∙ a.stage;
    begun = b.1.begun ∙ a.begun;
    held = b.1.held ∙ a.held;
    other = a.other;
  }

  pub holds_only_takes : (p mid q : PassState M D) (c u : ℕ) → mid ≡ record p { places = mid.places } → Takes mid q c u → HoldsOnly p q
  holds_only_takes p mid q c u same t =
      let view : mid.view ≡ p.view = ap (λ (s : PassState M D). s.view) same in
      record {
        is = t.is ∙ ap (λ (s : PassState M D). record s { view = q.view; places = mid.places - 1 }) same ∙ ap (λ n. record p { view = q.view; places = n }) (sym (ap (λ (s : PassState M D). s.places) t.is));
        grows = rw (← view) t.grows;
        books = t.books ∙ ap (λ (v : View M D). v.books) view;
        draws = t.draws ∙ ap (λ (v : View M D). v.draws) view;
        known = t.known ∙ ap (λ (v : View M D). v.known) view;
        stage = t.stage ∙ ap (λ (v : View M D). v.stage) view;
        begun = t.begun ∙ ap (λ (v : View M D). begun_of v.trail) view;
      }

  pub others_takes : (p mid q : PassState M D) (c u : ℕ) → mid ≡ record p { places = mid.places } → Takes mid q c u → SameOthers p q c
  others_takes p mid q c u same t d differ =
      let held : q.view.held ≡ insert_by cell_key (c, u) p.view.held = t.held ∙ ap (λ (s : PassState M D). insert_by cell_key (c, u) s.view.held) same in
      ap (λ h. has d (cells_of h)) held ∙ has_insert d c u p.view.held ∙ grind (arith, nat_tests, differ)

module _ {M D : Type 0} (table : TableState M) (version : ℕ) where
  -- a lock is taken, and what is observed afterwards still fits
  pub attempt_locks : (p mid q : PassState M D) (reads after : Observed) (writes : Entries) (held wide more : Listed) (committing : Bool) (cell u : ℕ) → IsAttempt table p version reads writes held committing → mid ≡ record p { places = mid.places } → wide.entries ≡ held.entries → Takes mid q cell u → IsPassOf table q → p.view.stage ≡ Open → more.entries ≡ wide.entries ++ (cell, u) ∷ [] → cell < length table.opening
      → length after.versions ≡ length after.observations
      → ((i : ℕ) → i < length after.observations → IsSeen q.view version (cell_at after.observations i) (word_of after.observations i) (slice_index after.versions i))
      → (committing ≡ false → (i : ℕ) → i < length after.observations → slice_index after.versions i ≤ version)
      → ((c : ℕ) → word_at after.observations c ≡ None → word_at writes c ≡ None → has c (cells_of q.view.held) ≡ false)
      → ((i : ℕ) → i < length after.observations → has (cell_at after.observations i) (cells_of q.view.held) ≡ true → Among (cell_at after.observations i, slice_index after.versions i) q.view.held)
      → IsAttempt table q version after writes more committing
  attempt_locks p mid q reads after writes held wide more committing cell u a same entries t of stage pushed there sized observed early met pinned =
      let view : mid.view ≡ p.view = ap (λ (s : PassState M D). s.view) same in
      let kept : q.view.held ≡ insert_by cell_key (cell, u) p.view.held = t.held ∙ ap (λ (v : View M D). insert_by cell_key (cell, u) v.held) view in
      let now : q.view.stage ≡ Open = t.stage ∙ ap (λ (v : View M D). v.stage) view ∙ stage in
      let all : more.entries ≡ held.entries ++ (cell, u) ∷ [] = pushed ∙ ap (λ (es : Entries). es ++ (cell, u) ∷ []) entries in
      record {
        of = of;
        begun = (rw (ap (λ (s : PassState M D). s.seen) t.is ∙ ap (λ (s : PassState M D). s.seen) same) a.begun.0, rw (t.known ∙ ap (λ (v : View M D). v.known) view) a.begun.1);
        observed = observed;
        written = a.written;
        listed = kept ∙ ap (insert_by cell_key (cell, u)) a.listed ∙ sym (held_of_more held.entries (cell, u)) ∙ ap held_of (sym all);
        holds = λ c. ap (λ h. has c (cells_of h)) kept ∙ has_insert c cell u p.view.held ∙ ap (λ b. if eqb cell c then true else b) (a.holds c) ∙ sym (word_at-add held.entries cell u c) ∙ ap (λ es. is_some (word_at es c)) (sym all);
        in_table = rw (all, map_push (λ (e : ℕ × ℕ). e.0) held.entries (cell, u)) (All-push (λ c. c < length table.opening) (keys_of held.entries) cell a.in_table there);
        sized = sized;
        met = met;
        pinned = pinned;
        undecided = rw now tt;
        undrawn = λ none. now;
        nothing_drawn = λ before. now;
        early = early;
        reserved = rw (ap (λ (s : PassState M D). s.reserved) t.is ∙ ap (λ (s : PassState M D). s.reserved) same) a.reserved;
      }

  -- the cell was observed at the version that it is locked at, or it was written alone
  pub attempt_locks_known : (p mid q : PassState M D) (reads : Observed) (writes : Entries) (held wide more : Listed) (committing : Bool) (cell u : ℕ) → IsAttempt table p version reads writes held committing → mid ≡ record p { places = mid.places } → wide.entries ≡ held.entries → Takes mid q cell u → IsPassOf table q → p.view.stage ≡ Open → more.entries ≡ wide.entries ++ (cell, u) ∷ [] → cell < length table.opening
      → (word_at reads.observations cell ≡ None → word_at writes cell ≡ None → ⊥)
      → ((i : ℕ) → i < length reads.observations → cell_at reads.observations i ≡ cell → slice_index reads.versions i ≡ u)
      → IsAttempt table q version reads writes more committing
  attempt_locks_known p mid q reads writes held wide more committing cell u a same entries t of stage pushed there known at_u =
      let view : mid.view ≡ p.view = ap (λ (s : PassState M D). s.view) same in
      let kept : q.view.held ≡ insert_by cell_key (cell, u) p.view.held = t.held ∙ ap (λ (v : View M D). insert_by cell_key (cell, u) v.held) view in
      let grows : Grows p.view q.view = rw (← view) t.grows in
      attempt_locks p mid q reads reads writes held wide more committing cell u a same entries t of stage pushed there a.sized
      (λ i lt. seen_grows p.view q.view version _ _ _ grows (keeps (cell_at reads.observations i)) (a.observed i lt))
      a.early
      (λ c r w. ap (λ h. has c (cells_of h)) kept ∙ has_insert c cell u p.view.held ∙ other c (λ (same : cell ≡ c). known (rw same r) (rw same w)) (a.met c r w))
      (λ i lt h. dite_pin i (a.pinned i lt) (at_u i lt) kept h)
    where
      keeps : (c : ℕ) → has c (cells_of p.view.held) ≡ true → has c (cells_of q.view.held) ≡ true
      keeps c h =
          let kept : q.view.held ≡ insert_by cell_key (cell, u) p.view.held = t.held ∙ ap (λ (s : PassState M D). insert_by cell_key (cell, u) s.view.held) same in
          ap (λ l. has c (cells_of l)) kept ∙ has_insert c cell u p.view.held ∙ grind (arith, nat_tests, h)

      other : (c : ℕ) → (cell ≡ c → ⊥) → has c (cells_of p.view.held) ≡ false → (if eqb cell c then true else has c (cells_of p.view.held)) ≡ false
      other c differ free = grind (arith, nat_tests, differ, free)

      before : (i : ℕ) → cell_at reads.observations i ≢ cell → (if eqb cell (cell_at reads.observations i) then true else has (cell_at reads.observations i) (cells_of p.view.held)) ≡ true → has (cell_at reads.observations i) (cells_of p.view.held) ≡ true
      before i away e = grind (arith, nat_tests, away, e)

      dite_pin : (i : ℕ) → (has (cell_at reads.observations i) (cells_of p.view.held) ≡ true → Among (cell_at reads.observations i, slice_index reads.versions i) p.view.held) → (cell_at reads.observations i ≡ cell → slice_index reads.versions i ≡ u) → q.view.held ≡ insert_by cell_key (cell, u) p.view.held → has (cell_at reads.observations i) (cells_of q.view.held) ≡ true → Among (cell_at reads.observations i, slice_index reads.versions i) q.view.held
      dite_pin i pin at_u kept h = elim (ℕ_discrete (cell_at reads.observations i) cell) [
        | yes here ↦ rw (kept, here, at_u here) (among_inserted (cell, u) p.view.held)
        | no away ↦ rw kept (among_insert (cell, u) _ p.view.held (pin (before i away (sym (has_insert (cell_at reads.observations i) cell u p.view.held) ∙ ap (λ l. has (cell_at reads.observations i) (cells_of l)) (sym kept) ∙ h))))
      ]

  -- the cell was neither observed nor written, and is observed with its lock
  pub attempt_locks_new : (p mid q : PassState M D) (reads after : Observed) (writes : Entries) (held wide more : Listed) (committing : Bool) (cell u x : ℕ) → IsAttempt table p version reads writes held committing → mid ≡ record p { places = mid.places } → wide.entries ≡ held.entries → Takes mid q cell u → IsPassOf table q → p.view.stage ≡ Open → more.entries ≡ wide.entries ++ (cell, u) ∷ [] → cell < length table.opening
      → word_at reads.observations cell ≡ None → after.observations ≡ reads.observations ++ (cell, x) ∷ [] → after.versions ≡ reads.versions ++ u ∷ [] → IsSeen q.view version cell x u → (committing ≡ false → u ≤ version)
      → IsAttempt table q version after writes more committing
  attempt_locks_new p mid q reads after writes held wide more committing cell u x a same entries t of stage pushed there unobserved observations versions seen low =
      let view : mid.view ≡ p.view = ap (λ (s : PassState M D). s.view) same in
      let kept : q.view.held ≡ insert_by cell_key (cell, u) p.view.held = t.held ∙ ap (λ (v : View M D). insert_by cell_key (cell, u) v.held) view in
      let grows : Grows p.view q.view = rw (← view) t.grows in
      attempt_locks p mid q reads after writes held wide more committing cell u a same entries t of stage pushed there
      (rw (observations, versions) (length_push reads.versions u ∙ ap (λ n. n + 1) a.sized ∙ sym (length_push reads.observations (cell, x))))
      (λ i lt. elim (cell_at-push reads.observations (cell, x) i (rw observations at lt)) [
        | inl old ↦ rw (observations, versions, old.1, old.2, (number_at-push reads.versions u i).0 (omega (arith, old.0, a.sized))) (seen_grows p.view q.view version _ _ _ grows (keeps (cell_at reads.observations i)) (a.observed i old.0))
        | inr new ↦ rw (observations, versions, new.1, new.2, (number_at-push reads.versions u i).1 (omega (arith, new.0, a.sized))) seen
      ])
      (λ before i lt. elim (cell_at-push reads.observations (cell, x) i (rw observations at lt)) [
        | inl old ↦ rw (versions, (number_at-push reads.versions u i).0 (omega (arith, old.0, a.sized))) (a.early before i old.0)
        | inr new ↦ rw (versions, (number_at-push reads.versions u i).1 (omega (arith, new.0, a.sized))) (low before)
      ])
      (λ c r w. let gone = word_at-push reads.observations cell x c (rw observations at r) in ap (λ h. has c (cells_of h)) kept ∙ has_insert c cell u p.view.held ∙ away c gone.1 (a.met c gone.0 w))
      (λ i lt h. elim (cell_at-push reads.observations (cell, x) i (rw observations at lt)) [
        | inl old ↦
            let far : cell_at reads.observations i ≢ cell = no_entry reads.observations cell i unobserved old.0 in
            rw (observations, versions, old.1, (number_at-push reads.versions u i).0 (omega (arith, old.0, a.sized)), kept)
            (among_insert (cell, u) _ p.view.held (a.pinned i old.0 (back i far (sym (has_insert (cell_at reads.observations i) cell u p.view.held) ∙ ap (λ l. has (cell_at reads.observations i) (cells_of l)) (sym kept) ∙ (rw (observations, old.1) at h)))))
        | inr new ↦ rw (observations, versions, new.1, (number_at-push reads.versions u i).1 (omega (arith, new.0, a.sized)), kept) (among_inserted (cell, u) p.view.held)
      ])
    where
      keeps : (c : ℕ) → has c (cells_of p.view.held) ≡ true → has c (cells_of q.view.held) ≡ true
      keeps c h =
          let kept : q.view.held ≡ insert_by cell_key (cell, u) p.view.held = t.held ∙ ap (λ (s : PassState M D). insert_by cell_key (cell, u) s.view.held) same in
          ap (λ l. has c (cells_of l)) kept ∙ has_insert c cell u p.view.held ∙ grind (arith, nat_tests, h)

      away : (c : ℕ) → cell ≢ c → has c (cells_of p.view.held) ≡ false → (if eqb cell c then true else has c (cells_of p.view.held)) ≡ false
      away c differ free = grind (arith, nat_tests, differ, free)

      back : (i : ℕ) → cell_at reads.observations i ≢ cell → (if eqb cell (cell_at reads.observations i) then true else has (cell_at reads.observations i) (cells_of p.view.held)) ≡ true → has (cell_at reads.observations i) (cells_of p.view.held) ≡ true
      back i far e = grind (arith, nat_tests, far, e)

module _ {M D : Type 0} where
  pub held_takes : (p q : PassState M D) (c u : ℕ) → Takes p q c u → has c (cells_of q.view.held) ≡ true
  held_takes p q c u t = ap (λ h. has c (cells_of h)) t.held ∙ has_insert c c u p.view.held ∙ grind (arith, nat_tests)
