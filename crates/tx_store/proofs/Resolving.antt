-- One part after another whose additions are placed.
use mathlib.Core.Logic.{dite}
use native.Mathlib.Decide.{ℕ_discrete}
use Rattle.std.proofs.Common.{◌≡◌, ◌≢◌, ℕ, ◌+◌, ◌-◌, ◌*◌, ◌<◌, ◌≤◌, false, List, [], ◌∷◌, ◌++◌, inl, inr, length, Some, refl, ap, sym, ◌∙◌, subst, arith, append-nil, append_assoc}
use Rattle.std.proofs.lemmas.Bool.{cases_lt}
use Rattle.std.proofs.lemmas.Bool.Decides.{nat_tests}
use Rattle.std.specs.Prelude.{◌⊎◌, Option, nat_eq, Ok}
use Rattle.std.specs.List.{IsDistinct, AllByRecursion}
use Rattle.std.specs.List.{sum_by}
use Rattle.std.proofs.lemmas.List.Sums.{sum_by-cons}
use Rattle.cell_table.specs.Sorted.{Each}
use Rattle.cell_table.specs.Pass.{PassState, IsHeld, trail_of}
use Rattle.attempt_lists.specs.Cells.{Entries, word_at}
use Rattle.serial_terms.specs.Renaming.{NamedDone}
use Rattle.store_layout.specs.Shapes.{Shape, with_end, most_cells}
use Rattle.store_layout.specs.Shapes.{cells_of as cells_of_shape}
use Rattle.store_meaning.specs.Follows.{Follows}
use Rattle.store_meaning.specs.Laws.{AttemptsFollow}
use Rattle.store_parts.specs.Parts.{progress}
use Rattle.tx_core.specs.Additions.{HasSpare, HasTwoEach, count_in}
use Rattle.tx_core.specs.Calls.{HoldsWrites, KeepsHeld, NothingWaits, TouchesOnly, waiting}
use Rattle.tx_core.specs.Facts.{goes_none, goes_trans, grew_none, grew_more, grew_trans, held_kept}
use Rattle.tx_core.specs.Sequences.{CellSequence, place_of, IsPlace, IsExtended}
use Rattle.tx_core.specs.Tx.{Attempt}
use Rattle.tx_store.specs.Attempts.{AreWaiting}
use Rattle.tx_store.specs.Resolves.{parts_of, ObservesHeld, LocksOnly, Resolves, IsResolvedTo}

-- each queue and each log has a cell
ends_count : (ns : List ℕ) → length ns ≤ sum_by with_end ns
ends_count [] = omega arith
ends_count (n ∷ ns) = omega (arith, sum_by-cons with_end n ns, ends_count ns)

pub few_parts : (s : Shape) → cells_of_shape s ≤ most_cells → parts_of s ≤ most_cells
few_parts s small = omega (arith, ends_count s.queues, ends_count s.logs)

-- ---- cells that are held, and steps

each_held : {M D : Type 0} (p q : PassState M D) → ((c : ℕ) → IsHeld p c → IsHeld q c) → (es : Entries) → Each (λ o. IsHeld p o.0) es → Each (λ o. IsHeld q o.0) es
each_held p q kept [] each = tt
each_held p q kept (e ∷ es) each = (kept e.0 each.0, each_held p q kept es each.1)

each_both : (P : ℕ × ℕ → Type 0) (es fs : Entries) → Each P es → Each P fs → Each P (es ++ fs)
each_both P [] fs e f = f
each_both P (x ∷ es) fs e f = (e.0, each_both P es fs e.1 f)

each_which : (P Q : ℕ × ℕ → Type 0) → ((o : ℕ × ℕ) → P o → Q o) → (es : Entries) → Each P es → Each Q es
each_which P Q f [] e = tt
each_which P Q f (x ∷ es) e = (f x e.0, each_which P Q f es e.1)

some_length : (ws : Entries) (c x : ℕ) → word_at ws c ≡ Some x → 0 < length ws
some_length [] c x is = absurd (cc)
some_length (w ∷ ws) c x is = omega arith

module _ {M D : Type 0} where
  pub observes_none : (a : Attempt M D) → ObservesHeld a a
  observes_none a = record { more = []; observed = sym (append-nil a.observations); held = tt }

  pub observes_then : (a b d : Attempt M D) → ObservesHeld a b → ObservesHeld b d → KeepsHeld b d → ObservesHeld a d
  observes_then a b d first second kept = record {
    more = first.more ++ second.more;
    observed = second.observed ∙ ap (λ (es : Entries). es ++ second.more) first.observed ∙ append_assoc a.observations first.more second.more;
    held = each_both (λ o. IsHeld d.pass o.0) first.more second.more (each_held b.pass d.pass kept first.more first.held) second.held;
  }

  pub locks_only_none : (p : PassState M D) → LocksOnly p p
  locks_only_none p = record { least = omega arith; steps = grew_more 0 (3 * (length p.view.held - length p.view.held)) (trail_of p) (trail_of p) (omega arith) (grew_none (trail_of p)) }

  pub locks_only_then : (p q r : PassState M D) → LocksOnly p q → LocksOnly q r → LocksOnly p r
  locks_only_then p q r first second = record {
    least = omega (arith, first.least, second.least);
    steps = grew_more (3 * (length q.view.held - length p.view.held) + 3 * (length r.view.held - length q.view.held)) (3 * (length r.view.held - length p.view.held)) (trail_of p) (trail_of r)
        (omega (arith, first.least, second.least)) (grew_trans _ _ (trail_of p) (trail_of q) (trail_of r) first.steps second.steps);
  }

  -- a cell in which an addition came to stand is held
  place_held : (part : CellSequence) (old new : Attempt M D) → IsExtended part old new → (c : ℕ) → IsPlace part old new c → IsHeld new.pass c
  place_held part old new extended c (inl end) = subst (λ (d : ℕ). IsHeld new.pass d) (sym end) extended.held
  place_held part old new extended c (inr one) =
      let word : one.0 ≡ extended.word = one_word _ one.0 extended.word one.2 extended.found in
      subst (λ (d : ℕ). IsHeld new.pass d) (sym (one.4 ∙ ap (λ (w : ℕ). place_of part w one.1) word)) (extended.items one.1 one.3).1
    where
      one_word : (o : Option ℕ) (x y : ℕ) → o ≡ Some x → o ≡ Some y → x ≡ y
      one_word o x y p q = cc

  pub observes_places : (part : CellSequence) (old new : Attempt M D) → IsExtended part old new → TouchesOnly (IsPlace part old new) old new → ObservesHeld old new
  observes_places part old new extended touches = record {
    more = touches.observed.0;
    observed = touches.observed.1;
    held = each_which (λ o. IsPlace part old new o.0) (λ o. IsHeld new.pass o.0) (λ o place. place_held part old new extended o.0 place) touches.observed.0 touches.observed.2;
  }

-- ---- the places that are kept

module _ (f g : ℕ → List ℕ) (n : ℕ) where
  other_parts : (parts : List ℕ) → Each (λ p. n + 1 ≤ p) parts → AllByRecursion (λ p. nat_eq n p ≡ false) parts
  other_parts [] each = tt
  other_parts (p ∷ parts) each = (grind (arith, nat_tests, each.0), other_parts parts each.1)

  later_parts : (parts : List ℕ) → Each (λ p. n + 1 ≤ p) parts → Each (λ p. n ≤ p) parts
  later_parts [] each = tt
  later_parts (p ∷ parts) each = (omega (arith, each.0), later_parts parts each.1)

  same_count : ((p : ℕ) → n + 1 ≤ p → g p ≡ f p) → (parts : List ℕ) → Each (λ p. n + 1 ≤ p) parts → count_in g parts ≡ count_in f parts
  same_count same [] each = refl
  same_count same (p ∷ parts) each = omega (arith, ap length (same p each.0), same_count same parts each.1)

module _ {M : Type 0} (s : Shape) where
  -- while something waits there is a part more
  pub more_parts : (n : ℕ) (a b : Attempt M NamedDone) → AreWaiting s (λ p. waiting p a) → IsResolvedTo s n a b → (NothingWaits b → ⊥) → n < parts_of s
  more_parts n a b waits to some = elim (cases_lt n (parts_of s)) [
    | inl low ↦ low
    | inr high ↦ absurd (some (λ p. elim (cases_lt p n) [
      | inl below ↦ to.emptied p below
      | inr from ↦ to.waits p from ∙ waits.there p (omega (arith, high, from))
    ]))
  ]

  -- for the additions to the next part its places are kept
  pub next_spare : (n : ℕ) (a b : Attempt M NamedDone) → IsResolvedTo s n a b → HasSpare b.spare (2 * length (waiting n b))
  unfolding IsDistinct
  next_spare n a b to = let h = to.spare (n ∷ []) (tt, tt) (omega arith, tt) in (omega (arith, h.0), omega (arith, h.1), omega (arith, h.2))

  pub resolved_none : (a : Attempt M NamedDone) → Follows s (progress a) a.notes → HoldsWrites a → HasTwoEach a.spare a.additions → IsResolvedTo s 0 a a
  resolved_none a follows held spare = record {
    same = refl;
    pass = goes_none a.pass;
    emptied = λ p lt. absurd (omega arith);
    waits = λ p le. refl;
    follows = follows;
    writes_held = held;
    spare = λ parts distinct each. spare parts distinct;
    observes = observes_none a;
    locks = locks_only_none a.pass;
    wrote = inl (λ p lt. absurd (omega arith), refl);
  }

  -- one part more, for which nothing waited
  module _ {A : Type 0} (law : AttemptsFollow s) (n : ℕ) (a b d : Attempt M NamedDone) (done : A) (to : IsResolvedTo s n a b) (r : Resolves s n b d (Ok done)) where
    spared : (parts : List ℕ) → IsDistinct nat_eq parts → Each (λ p. n + 1 ≤ p) parts → HasSpare d.spare (2 * count_in (λ p. waiting p d) parts)
    unfolding IsDistinct
    spared parts distinct each =
        let h = to.spare (n ∷ parts) (other_parts (λ p. waiting p b) (λ p. waiting p d) n parts each, distinct) (omega arith, later_parts (λ p. waiting p b) (λ p. waiting p d) n parts each) in
        let u = r.leaves.used in
        let own : length (waiting r.part.part b) ≡ length (waiting n b) = ap (λ (p : ℕ). length (waiting p b)) r.is.number in
        let same = same_count (λ p. waiting p b) (λ p. waiting p d) n (λ p le. r.leaves.others.others p (λ is. absurd (omega (arith, is, r.is.number, le)))) parts each in
        (omega (arith, h.0, u.locks, own, same), omega (arith, h.1, u.observations, own, same), omega (arith, h.2, u.writes, own, same))

    observing : ((waiting n b ≡ []) ⊎ (waiting n b ≢ [])) → ObservesHeld b d
    observing (inl none) = subst (λ (e : Attempt M NamedDone). ObservesHeld b e) (sym (r.nothing none)) (observes_none b)
    observing (inr some) = observes_places r.part b d (r.ends.1.extended (λ none. some (ap (λ (p : ℕ). waiting p b) (sym r.is.number) ∙ none))) r.leaves.does.touches

    empty_or_not : (ws : List ℕ) → (ws ≡ []) ⊎ (ws ≢ [])
    empty_or_not [] = inl refl
    empty_or_not (w ∷ ws) = inr (λ none. absurd (cc))

    writing : ((waiting n b ≡ []) ⊎ (waiting n b ≢ [])) → (((p : ℕ) → p < n + 1 → waiting p a ≡ []) × (d.writes ≡ a.writes)) ⊎ (0 < length d.writes)
    writing (inl none) =
        let same : d.writes ≡ b.writes = ap (λ (e : Attempt M NamedDone). e.writes) (r.nothing none) in
        elim to.wrote [
          | inl early ↦ inl (
            (λ p lt. dite (ℕ_discrete p n)
                (λ here. ap (λ (q : ℕ). waiting q a) here ∙ sym (to.waits n (omega arith)) ∙ none)
                (λ off. early.0 p (omega (arith, off)))),
            same ∙ early.1,
          )
          | inr some ↦ inr (rw same some)
        ]
    writing (inr some) = inr (some_length d.writes r.part.end _ (r.ends.1.extended (λ none. some (ap (λ (p : ℕ). waiting p b) (sym r.is.number) ∙ none))).written)

    pub resolved_more : IsResolvedTo s (n + 1) a d
    resolved_more =
        let settled = r.ends.1 in
        let is = r.leaves.is in
        record {
          same = same_but a b d to.same is settled.state;
          pass = goes_trans a.pass b.pass d.pass to.pass r.leaves.does.pass;
          emptied = λ p lt. dite (ℕ_discrete p n)
              (λ here. ap (λ (q : ℕ). waiting q d) (here ∙ sym r.is.number) ∙ settled.emptied)
              (λ off. r.leaves.others.others p (λ same. off (same ∙ r.is.number)) ∙ to.emptied p (omega (arith, off)));
          waits = λ p le. r.leaves.others.others p (λ same. absurd (omega (arith, same, r.is.number, le))) ∙ to.waits p (omega (arith, le));
          follows = law.placed r.ends.0.0 (progress b) (progress d) a.notes r.ends.0.1 to.follows;
          writes_held = settled.writes_held to.writes_held;
          spare = spared;
          observes = observes_then a b d to.observes (observing (empty_or_not (waiting n b))) (held_kept (IsPlace r.part b d) b d r.leaves.does.touches);
          locks = locks_only_then a.pass b.pass d.pass to.locks record { least = settled.locks.least; steps = settled.locks.steps };
          wrote = writing (empty_or_not (waiting n b));
        }
      where
        same_but : (a b d : Attempt M NamedDone) → b ≡ record a { pass = b.pass; observations = b.observations; versions = b.versions; writes = b.writes; additions = b.additions; spare = b.spare; committing = b.committing }
            → d ≡ record b { pass = d.pass; state = d.state; observations = d.observations; versions = d.versions; writes = d.writes; additions = d.additions; spare = d.spare; committing = d.committing } → d.state ≡ b.state
            → d ≡ record a { pass = d.pass; observations = d.observations; versions = d.versions; writes = d.writes; additions = d.additions; spare = d.spare; committing = d.committing }
        same_but a b d first second state =
            let table : d.table ≡ a.table = ap (λ (e : Attempt M NamedDone). e.table) second ∙ ap (λ (e : Attempt M NamedDone). e.table) first in
            let st : d.state ≡ a.state = state ∙ ap (λ (e : Attempt M NamedDone). e.state) first in
            let version : d.version ≡ a.version = ap (λ (e : Attempt M NamedDone). e.version) second ∙ ap (λ (e : Attempt M NamedDone). e.version) first in
            let notes : d.notes ≡ a.notes = ap (λ (e : Attempt M NamedDone). e.notes) second ∙ ap (λ (e : Attempt M NamedDone). e.notes) first in
            let mark : d.mark ≡ a.mark = ap (λ (e : Attempt M NamedDone). e.mark) second ∙ ap (λ (e : Attempt M NamedDone). e.mark) first in
            rw (← table, ← st, ← version, ← notes, ← mark) refl
