-- Queues of a store, whose parts are told by a plan.
use Rattle.std.proofs.Common.{◌≡◌, ℕ, ◌+◌, ◌<◌, inl, inr, ltb, List, [], ◌∷◌, ◌++◌, length, get_or, ap, sym, ◌∙◌, subst, arith}
use Rattle.std.specs.List.{All}
use mathlib.Core.Logic.{dite}
use native.Mathlib.Decide.{ℕ_discrete}
use Rattle.std.proofs.lemmas.Bool.{cases_lt, cond-true, lt-ltb}
use Rattle.std.proofs.lemmas.List.{get_or_past}
use Rattle.std.proofs.lemmas.List.Elements.{All-drop}
use Rattle.std.proofs.lemmas.Nat.{mod_below}
use Rattle.attempt_lists.specs.Cells.{IsAscending}
use Rattle.attempt_lists.specs.Parts.{marked_of, waiting_of, ChangesOnly}
use Rattle.cell_table.specs.Cells.{after}
use Rattle.serial_terms.specs.Ranges.{IsKept}
use Rattle.serial_terms.specs.Renaming.{NamedDone}
use Rattle.store_layout.specs.Shapes.{Shape, the_queue, with_end, first_of, size_of, IsCellOf}
use Rattle.store_layout.specs.States.{head_in}
use Rattle.store_parts.specs.Parts.{queue_part, progress, KeepsWordsBut}
use Rattle.tx_core.specs.Calls.{KeepsOthers, waiting}
use Rattle.tx_core.specs.Tx.{Attempt}
use Rattle.tx_core.specs.Words.{length_after, after_same_at}
use Rattle.tx_queue.specs.declared.part.QueuePart.{QueuePart}
use Rattle.tx_queue.specs.Queue.{IsFront, IsEndAlone, LeavesRest}
use Rattle.tx_store.specs.Attempts.{AreWaiting}
use Rattle.tx_store.specs.Calls.{Goes}
use Rattle.tx_store.proofs.Telling.{waits_added}

module _ (s : Shape) (q : ℕ) (there : q < length s.queues) (part : QueuePart) (is : part ≡ queue_part s q) where
  at_end : part.end ≡ first_of s (the_queue q)
  at_end = ap (λ (p : QueuePart). p.end) is

  sized : size_of s (the_queue q) ≡ part.capacity + 1
  sized = cond-true {A = ℕ} (ltb q (length s.queues)) (with_end (get_or s.queues q 0)) 0 (lt-ltb q (length s.queues) there) ∙ ap (λ (p : QueuePart). p.capacity + 1) (sym is)

  pub end_inside : (c : ℕ) → c ≡ part.end → IsCellOf s (the_queue q) c
  end_inside c own = (omega (arith, own, at_end), omega (arith, own, at_end, sized))

  module _ {M : Type 0} (old new : Attempt M NamedDone) where
    pub front_inside : (c : ℕ) → IsFront part old new c → IsCellOf s (the_queue q) c
    front_inside c (inl end) = end_inside c end
    front_inside c (inr front) =
        let low = mod_below (head_in front.0) part.capacity front.3 in
        (omega (arith, front.4, at_end), omega (arith, front.4, low, at_end, sized))

    number : part.part ≡ q
    number = ap (λ (p : QueuePart). p.part) is

    -- one value more waits for the queue
    pub waits_in_queue : (value : ℕ) → IsKept value → ChangesOnly old.additions new.additions part.part (waiting part.part old ++ value ∷ [])
        → AreWaiting s (λ p. waiting p old) → AreWaiting s (λ p. waiting p new)
    waits_in_queue value kept added = waits_added s old new part.part value (omega (arith, number, there)) kept added

    -- or the first one is gone
    pub waits_but_first : KeepsOthers part.part old.additions new.additions → LeavesRest part old new → AreWaiting s (λ p. waiting p old) → AreWaiting s (λ p. waiting p new)
    waits_but_first others rest waits = record {
      small = λ p. dite (ℕ_discrete p part.part)
          (λ own. subst (λ (j : ℕ). All IsKept (waiting_of new.additions j)) (sym own) (left rest))
          (λ other. subst (λ (vs : List ℕ). All IsKept vs) (sym (others.others p other)) (waits.small p));
      there = λ p out. others.others p (λ own. omega (arith, own, number, there, out)) ∙ waits.there p out;
    }
      where
        left : LeavesRest part old new → All IsKept (waiting part.part new)
        left (inl all) = subst (λ (vs : List ℕ). All IsKept vs) (sym all) (waits.small part.part)
        left (inr rest) = All-drop IsKept 1 (rest.0 ∷ waiting part.part new) (subst (λ (vs : List ℕ). All IsKept vs) rest.1 (waits.small part.part))

module _ {M : Type 0} (part : QueuePart) (old new : Attempt M NamedDone) where
  -- each word but that of the end stays
  pub words_stay : IsAscending old.writes → IsAscending new.writes → IsEndAlone part old new → KeepsWordsBut part.end (progress old) (progress new)
  words_stay early late alone cells c off = inl (elim (cases_lt c (length cells)) [
    | inl lt ↦ after_same_at new.writes old.writes cells c late early (alone c off).0 lt
    | inr ge ↦ get_or_past (after cells new.writes) c 0 (omega (arith, ge, length_after new.writes cells)) ∙ sym (get_or_past (after cells old.writes) c 0 (omega (arith, ge, length_after old.writes cells)))
  ])

module _ {M : Type 0} (s : Shape) (old new : Attempt M NamedDone) where
  pub goes_dequeued : new ≡ record old { pass = new.pass; state = new.state; observations = new.observations; versions = new.versions; writes = new.writes; additions = new.additions }
      → ((p : ℕ) → marked_of new.additions p ≡ marked_of old.additions p) → (AreWaiting s (λ p. waiting p old) → AreWaiting s (λ p. waiting p new)) → Goes s old new
  goes_dequeued is marked waits = record {
    table = ap (λ (a : Attempt M NamedDone). a.table) is;
    committing = ap (λ (a : Attempt M NamedDone). a.committing) is;
    notes = ap (λ (a : Attempt M NamedDone). a.notes) is;
    child = record { mark = ap (λ (a : Attempt M NamedDone). a.mark) is; marked = marked };
    waits = waits;
  }
