-- What a placing of additions leaves of a queue and of a log, for the proofs of the crates above.
use Rattle.std.proofs.Common.{◌≡◌, ◌≢◌, ℕ, zero, suc, ◌+◌, ◌-◌, ◌^◌, ◌<◌, ◌⊎◌, inl, inr, ltb, List, [], ◌∷◌, ◌++◌, length, get_or, ap, sym, ◌∙◌, refl, subst, arith}
use Rattle.std.specs.Prelude.{Option, Some, slice_index}
use Rattle.std.specs.List.{All}
use Rattle.std.specs.Option.{option_or}
use Rattle.std.proofs.lemmas.Bool.{cases_lt, cond-true, lt-ltb}
use Rattle.std.proofs.lemmas.Nat.{mod_below}
use Rattle.std.proofs.lemmas.List.{get_or_past}
use Rattle.std.proofs.lemmas.List.Elements.{All-get_or}
use mathlib.Core.Logic.{dite}
use native.Mathlib.Decide.{ℕ_discrete}
use Rattle.attempt_lists.specs.Cells.{Entries, word_at, IsAscending}
use Rattle.cell_table.specs.Cells.{AllHold, after}
use Rattle.serial_terms.specs.Ranges.{IsKept}
use Rattle.store_layout.specs.Shapes.{Shape, Object, the_queue, the_log, with_end, size_of, IsCellOf}
use Rattle.store_layout.specs.States.{head_in, length_in}
use Rattle.store_meaning.specs.Follows.{IsPlacedOn}
use Rattle.store_parts.specs.Laws.{QueueCalls, LogCalls}
use Rattle.store_parts.specs.Parts.{queue_part, log_part, progress, Touches, KeepsWordsBut}
use Rattle.tx_core.specs.Calls.{TouchesOnly, waiting}
use Rattle.tx_core.specs.Sequences.{CellSequence, place_of, FoundEnd, IsPlace, IsExtended, IsSettled, Settles, Placing}
use Rattle.tx_core.specs.Tx.{Attempt}
use Rattle.tx_core.specs.Words.{length_after, after_written}
use Rattle.tx_queue.specs.declared.part.QueuePart.{QueuePart}
use Rattle.tx_queue.specs.Queue as queue
use Rattle.tx_log.specs.declared.part.LogPart.{LogPart}
use Rattle.tx_log.specs.Log as log

module _ (s : CellSequence) (word c : ℕ) where
  -- the cell is that of one of n additions, or of none
  place_or_not : (n : ℕ) → ((k : ℕ) × (k < n) × (c ≡ place_of s word k)) ⊎ ((k : ℕ) → k < n → c ≢ place_of s word k)
  place_or_not zero = inr (λ k lt. absurd (omega arith))
  place_or_not (suc n) = elim (place_or_not n) [
    | inl here ↦ inl (here.0, omega (arith, here.1), here.2)
    | inr none ↦ dite (ℕ_discrete c (place_of s word n))
        (λ last. inl (n, omega arith, last))
        (λ off. inr (λ k lt. dite (ℕ_discrete k n)
        (λ same. subst (λ (j : ℕ). c ≢ place_of s word j) (sym same) off)
        (λ other. none k (omega (arith, other)))))
  ]

one_word : (o : Option ℕ) (x y : ℕ) → o ≡ Some x → o ≡ Some y → y ≡ x
one_word o x y p q = cc

module _ {M D : Type 0} (s : CellSequence) (old new : Attempt M D) (ascending : IsAscending new.writes) (kept : All IsKept (waiting s.part old)) where
  -- Where additions were placed, each cell but the end has its addition or what it had
  placed_words : ((v : ℕ) → v < 2 ^ 64 - 1 → s.stored v < 2 ^ 64) → IsExtended s old new → TouchesOnly (IsPlace s old new) old new → KeepsWordsBut s.end (progress old) (progress new)
  placed_words low extended touches cells c off = elim (place_or_not s extended.word c (length (waiting s.part old))) [
    | inl here ↦
        let value : ℕ = slice_index (waiting s.part old) here.0 in
        let small : s.stored value < 2 ^ 64 = low value (All-get_or IsKept (waiting s.part old) here.0 0 here.1 kept) in
        let written : word_at new.writes c ≡ Some (s.stored value) = subst (λ (d : ℕ). word_at new.writes d ≡ Some (s.stored value)) (sym here.2) (extended.items here.0 here.1).0 in
        inr (elim (cases_lt c (length cells)) [
          | inl lt ↦ omega (arith, after_written new.writes cells c (s.stored value) ascending written lt, small)
          | inr ge ↦ omega (arith, get_or_past (after cells new.writes) c 0 (omega (arith, length_after new.writes cells, ge)))
        ])
    | inr none ↦ inl (touches.others cells c (λ place. elim place [
      | inl end ↦ off end
      | inr one ↦ none one.1 one.3 (one.4 ∙ ap (λ (w : ℕ). place_of s w one.1) (one_word (option_or (word_at old.writes s.end) (word_at new.observations s.end)) extended.word one.0 extended.found one.2))
    ]))
  ]

all_earlier : (cells : List ℕ) (os more : Entries) → AllHold cells (os ++ more) → AllHold cells os
all_earlier cells [] more h = tt
all_earlier cells (o ∷ os) more h = (h.0, all_earlier cells os more h.1)

module _ {M D : Type 0} (s : Shape) (o : Object) (t : CellSequence) (old new : Attempt M D) where
  touches_places : ((c : ℕ) → IsPlace t old new c → IsCellOf s o c) → TouchesOnly (IsPlace t old new) old new → Touches s o (progress old) (progress new)
  touches_places inside touches = record {
    earlier = λ cells hold. all_earlier cells old.observations touches.observed.0 (subst (AllHold cells) touches.observed.1 hold);
    others = λ cells c apart. touches.others cells c (λ place. apart (inside c place));
  }

  touches_nothing : new ≡ old → Touches s o (progress old) (progress new)
  touches_nothing same = subst (λ (a : Attempt M D). Touches s o (progress old) (progress a)) (sym same) record { earlier = λ cells hold. hold; others = λ cells c apart. refl }

  -- the end that was found has one word
  word_found : (x y : ℕ) → FoundEnd t old new x → FoundEnd t old new y → y ≡ x
  word_found x y = one_word (option_or (word_at old.writes t.end) (word_at new.observations t.end)) x y

-- A queue's additions stand in its cells, where they waited before: the state that the attempt has is the same
pub queue_placed : {M D : Type 0} (s : Shape) (q : ℕ) → q < length s.queues → (part : QueuePart) → part ≡ queue_part s q → QueueCalls s q part → (old new : Attempt M D)
    → IsAscending new.writes → All IsKept (waiting part.part old) → (waiting part.part old ≡ [] → new ≡ old)
    → queue.MakesOf part old new (Settles part.capacity) → IsSettled (queue.sequence_of part) old new → Placing (queue.sequence_of part) old new
    → IsPlacedOn s (the_queue q) (progress old) (progress new)
queue_placed {M} {D} s q there part is calls old new ascending kept nothing makes settled placing =
    calls.resolve (progress old) (progress new) (touches (waiting part.part old) nothing (λ some. some)) (words (waiting part.part old) nothing (λ some. some)) (λ p other. placing.others.others p other) settled.emptied makes
  where
    sized : size_of s (the_queue q) ≡ part.capacity + 1
    sized = cond-true {A = ℕ} (ltb q (length s.queues)) (with_end (get_or s.queues q 0)) 0 (lt-ltb q (length s.queues) there) ∙ ap (λ (p : QueuePart). p.capacity + 1) (sym is)

    inside : IsExtended (queue.sequence_of part) old new → (c : ℕ) → IsPlace (queue.sequence_of part) old new c → IsCellOf s (the_queue q) c
    inside extended c (inl end) = (omega (arith, end, ap (λ (p : QueuePart). p.end) is), omega (arith, end, ap (λ (p : QueuePart). p.end) is, sized))
    inside extended c (inr one) =
        let low = mod_below (head_in one.0 + (length_in one.0 + one.1)) part.capacity (omega (arith, one.3, extended.within)) in
        (omega (arith, one.4, ap (λ (p : QueuePart). p.end) is), omega (arith, one.4, low, ap (λ (p : QueuePart). p.end) is, sized))

    touches : (ws : List ℕ) → (ws ≡ [] → new ≡ old) → (ws ≢ [] → waiting part.part old ≢ []) → Touches s (the_queue q) (progress old) (progress new)
    touches [] same some = touches_nothing s (the_queue q) (queue.sequence_of part) old new (same refl)
    touches (w ∷ ws) same some = touches_places s (the_queue q) (queue.sequence_of part) old new (inside (settled.extended (some (λ none. absurd (cc))))) placing.does.touches

    words : (ws : List ℕ) → (ws ≡ [] → new ≡ old) → (ws ≢ [] → waiting part.part old ≢ []) → KeepsWordsBut part.end (progress old) (progress new)
    words [] same some cells c off = inl (ap (λ (a : Attempt M D). slice_index (after cells a.writes) c) (same refl))
    words (w ∷ ws) same some cells c off = placed_words (queue.sequence_of part) old new ascending kept (λ v lt. omega (arith, lt)) (settled.extended (some (λ none. absurd (cc)))) placing.does.touches cells c off

-- So with a log's additions
pub log_placed : {M D : Type 0} (s : Shape) (l : ℕ) → l < length s.logs → (part : LogPart) → part ≡ log_part s l → LogCalls s l part → (old new : Attempt M D)
    → All IsKept (waiting part.part old) → (waiting part.part old ≡ [] → new ≡ old)
    → log.MakesOf part old new (Settles part.capacity) → IsSettled (log.sequence_of part) old new → Placing (log.sequence_of part) old new
    → IsPlacedOn s (the_log l) (progress old) (progress new)
log_placed {M} {D} s l there part is calls old new kept nothing makes settled placing =
    calls.resolve (progress old) (progress new) (touches (waiting part.part old) nothing (λ some. some)) (λ p other. placing.others.others p other) settled.emptied kept makes
  where
    sized : size_of s (the_log l) ≡ part.capacity + 1
    sized = cond-true {A = ℕ} (ltb l (length s.logs)) (with_end (get_or s.logs l 0)) 0 (lt-ltb l (length s.logs) there) ∙ ap (λ (p : LogPart). p.capacity + 1) (sym is)

    inside : IsExtended (log.sequence_of part) old new → (c : ℕ) → IsPlace (log.sequence_of part) old new c → IsCellOf s (the_log l) c
    inside extended c (inl end) = (omega (arith, end, ap (λ (p : LogPart). p.end) is), omega (arith, end, ap (λ (p : LogPart). p.end) is, sized))
    inside extended c (inr one) =
        let word = word_found s (the_log l) (log.sequence_of part) old new extended.word one.0 extended.found one.2 in
        (omega (arith, one.4, ap (λ (p : LogPart). p.end) is), omega (arith, one.4, word, one.3, extended.within, ap (λ (p : LogPart). p.end) is, sized))

    touches : (ws : List ℕ) → (ws ≡ [] → new ≡ old) → (ws ≢ [] → waiting part.part old ≢ []) → Touches s (the_log l) (progress old) (progress new)
    touches [] same some = touches_nothing s (the_log l) (log.sequence_of part) old new (same refl)
    touches (w ∷ ws) same some = touches_places s (the_log l) (log.sequence_of part) old new (inside (settled.extended (some (λ none. absurd (cc))))) placing.does.touches
