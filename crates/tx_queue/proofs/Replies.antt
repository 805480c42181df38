-- What the calls make of the queue, by what is known of its end and of its first item.
use Rattle.std.proofs.Common.{◌≡◌, ℕ, ◌+◌, ◌<◌, List, [], ◌∷◌, ◌++◌, ◌⊎◌, inl, inr, length, drop, set, Some, None, refl, sym, ap, ◌∙◌, arith}
use Rattle.std.specs.Prelude.{Option, MatchOption, slice_index, slice_set}
use Rattle.std.specs.List.{slice_get}
use Rattle.std.proofs.lemmas.List.{length-append, get_or-set_other}
use Rattle.cell_table.specs.Cells.{AllHold, after, has}
use Rattle.cell_table.specs.Rule.{cells_of}
use Rattle.attempt_lists.specs.Cells.{Entries, word_at, put}
use Rattle.attempt_lists.specs.Parts.{Waiting, waiting_of}
use Rattle.store_layout.specs.States.{head_in, length_in}
use Rattle.tx_core.specs.Tx.{Attempt}
use Rattle.tx_core.specs.Parts.{Shows}
use Rattle.tx_core.specs.Calls.{StepsAt, HoldsAt, TouchesOnly, known, begun, waiting}
use Rattle.tx_core.specs.Facts.{holds_wider, holds_then}
use Rattle.tx_core.specs.Words.{length_after, put_other}
use Rattle.tx_core.specs.Sequences.{FoundEnd, HasLength, Settles}
use Rattle.tx_core.specs.SequencePlaces.{found_stays}
use Rattle.tx_core.specs.declared.stop.Stop.{Stop}
use Rattle.tx_queue.specs.declared.part.QueuePart.{QueuePart}
use Rattle.tx_queue.specs.Queue.{IsQueue, MakesOf, Dequeues, IsFront, IsEndAlone, LeavesRest, end_in, values_in, sequence_of, front_of, end_after}
use Rattle.tx_queue.proofs.Rings.{first_of_both}
use Rattle.tx_queue.proofs.Queues.{length-values, place_below, none_there, queue_dequeued}

module _ {M D : Type 0} (queue : QueuePart) where
  abbrev pub AllShown : Attempt M D → Type 0
  AllShown a = (c x : ℕ) → known a c ≡ Some x → Shows a c x

  -- where nothing waits, the placing makes nothing new
  pub none_settles : (a : Attempt M D) → length (waiting queue.part a) ≡ 0 → MakesOf queue a a (Settles queue.capacity)
  none_settles a none cells all is =
      let them : List ℕ = after cells a.writes in
      (is, (refl, omega (arith, length-append (values_in queue them) (waiting queue.part a), none, length-values queue them, is.within)))

  -- what is known of the end is its word
  end_shown : (b : Attempt M D) (word : ℕ) (cells : List ℕ) → AllShown b → known b queue.end ≡ Some word → AllHold cells b.observations → IsQueue queue (after cells b.writes) → end_in queue (after cells b.writes) ≡ word
  end_shown b word cells shows is_known all is = shows queue.end word is_known cells all (omega (arith, is.in_table, length_after b.writes cells))

  pub length_known : (a b : Attempt M D) (word n : ℕ) → b.writes ≡ a.writes → b.additions ≡ a.additions → AllShown b → known b queue.end ≡ Some word → n ≡ length_in word + length (waiting queue.part b) → MakesOf queue a b (HasLength n)
  length_known a b word n ws adds shows is_known sum cells all is =
      let there : IsQueue queue (after cells b.writes) = rw ws is in
      let end = end_shown b word cells shows is_known all there in
      let long : length (values_in queue (after cells b.writes)) ≡ length_in word = length-values queue (after cells b.writes) ∙ ap length_in end in
      (there, (rw (← ws, ← adds) (omega (arith, sum, long, length-append (values_in queue (after cells b.writes)) (waiting queue.part b))), rw (ws, adds) refl))

  -- by the word of the end the cells have no item, and the attempt gives the first of its own additions
  pub own_taken : (a b d : Attempt M D) (word : ℕ) (x : Option ℕ) (S : Type 0) → b.writes ≡ a.writes → b.additions ≡ a.additions → AllShown b → known b queue.end ≡ Some word → (length_in word ≡ 0) ⊎ (queue.capacity ≡ 0)
      → d.writes ≡ b.writes → d.observations ≡ b.observations → MatchOption x ((waiting queue.part b ≡ []) × (d ≡ b)) (λ value. (waiting queue.part b ≡ value ∷ waiting queue.part d) × S) → MakesOf queue a d (Dequeues x)
  own_taken a b d word x S ws adds shows is_known none dws os given cells all is =
      let there : IsQueue queue (after cells b.writes) = rw ws is in
      let end = end_shown b word cells shows is_known (rw (← os) all) there in
      let empty : length_in word ≡ 0 = elim none [ inl zero ↦ zero | inr no_room ↦ absurd (omega (arith, no_room, there.head)) ] in
      let no_values : values_in queue (after cells b.writes) ≡ [] = none_there queue (after cells b.writes) word end empty in
      let own : Dequeues x (waiting queue.part b) (waiting queue.part d) = by x S given in
      let same : values_in queue (after cells d.writes) ≡ [] = rw dws no_values in
      (rw dws there, rw (← ws, ← adds, same, no_values) own)
    where
      by : (x : Option ℕ) (S : Type 0) → MatchOption x ((waiting queue.part b ≡ []) × (d ≡ b)) (λ value. (waiting queue.part b ≡ value ∷ waiting queue.part d) × S) → Dequeues x (waiting queue.part b) (waiting queue.part d)
      by None S h = let e : waiting queue.part d ≡ [] = ap (λ (t : Attempt M D). waiting queue.part t) h.1 ∙ h.0 in rw (h.0, e) (refl, refl)
      by (Some v) S h = rw (h.0) (refl, refl)

  -- the first item in the cells is given
  pub front_taken : (a b d : Attempt M D) (word x : ℕ) {P : ℕ → Type 0} → b.writes ≡ a.writes → b.additions ≡ a.additions → AllShown b → ((cells : List ℕ) (more : Entries) → AllHold cells (b.observations ++ more) → AllHold cells b.observations)
      → ((cells : List ℕ) (cell y : ℕ) → after cells (put b.writes cell y) ≡ slice_set (after cells b.writes) cell y)
      → known b queue.end ≡ Some word → 0 < length_in word → TouchesOnly P b d
      → d.writes ≡ put b.writes queue.end (end_after queue word) → d.additions ≡ b.additions → AllShown d → known d (front_of queue word) ≡ Some x → MakesOf queue a d (Dequeues (Some x))
  front_taken a b d word x ws adds shows earlier put_is is_known some touches dws dadds dshows front_known cells all is =
      let them : List ℕ = after cells b.writes in
      let there : IsQueue queue them = rw ws is in
      let end = end_shown b word cells shows is_known (earlier cells touches.observed.0 (rw (← (touches.observed.1)) all)) there in
      let took = queue_dequeued queue them word there end some in
      let new_cells : after cells d.writes ≡ set them queue.end (end_after queue word) = ap (λ (e : Entries). after cells e) dws ∙ put_is cells queue.end (end_after queue word) in
      let in_table : front_of queue word < length cells = omega (arith, there.in_table, length_after b.writes cells, place_below queue them (head_in word) there) in
      let front : slice_index them (front_of queue word) ≡ x = sym (get_or-set_other them queue.end (front_of queue word) (end_after queue word) 0 (λ same. omega (arith, same))) ∙ sym (ap (λ (cs : List ℕ). slice_index cs (front_of queue word)) new_cells) ∙ dshows (front_of queue word) x front_known cells all in_table in
      let split = first_of_both (values_in queue them) (waiting queue.part b) (omega (arith, length-values queue them, ap length_in end, some)) in
      let first : Some x ≡ slice_get (values_in queue them ++ waiting queue.part b) 0 = sym (split.0 ∙ took.2 ∙ ap (λ y. Some y) front) in
      let rest : values_in queue (after cells d.writes) ++ waiting queue.part d ≡ drop 1 (values_in queue them ++ waiting queue.part b) = rw (new_cells, dadds) (ap (λ (v : List ℕ). v ++ waiting queue.part b) took.1 ∙ sym split.1) in
      (rw new_cells took.0, rw (← ws, ← adds) (first, rest))

  -- the first of the own additions is gone, or none
  pub own_rest : (a b d : Attempt M D) (x : Option ℕ) (S : Type 0) → b.additions ≡ a.additions
      → MatchOption x ((waiting queue.part b ≡ []) × (d ≡ b)) (λ value. (waiting queue.part b ≡ value ∷ waiting queue.part d) × S) → LeavesRest queue a d
  own_rest a b d None S adds h = inl (ap (λ (t : Attempt M D). waiting queue.part t) h.1 ∙ ap (λ (ws : List Waiting). waiting_of ws queue.part) adds)
  own_rest a b d (Some v) S adds h = inr (v, sym (ap (λ (ws : List Waiting). waiting_of ws queue.part) adds) ∙ h.0)

  -- ---- the footprint

  pub own_holds : (a b d : Attempt M D) → HoldsAt (λ c. c ≡ queue.end) 3 a b None → d ≡ record b { additions = d.additions } → StepsAt (λ c. ⊥) 0 b d → HoldsAt (IsFront queue a d) 6 a d None
  own_holds a b d held is does =
      let next : HoldsAt (IsFront queue a d) 3 b d None = holds_wider (λ c. ⊥) (IsFront queue a d) 0 3 b d None (λ c none. absurd none) (omega arith) (record { ends = ap (λ (t : Attempt M D). t.state) is; does = does; known = ap (λ (t : Attempt M D). t.pass.view.known) is; began = ap (λ (t : Attempt M D). begun t) is }) in
      holds_then (IsFront queue a d) 3 3 a b d None (holds_wider (λ c. c ≡ queue.end) (IsFront queue a d) 3 3 a b None (λ c end. inl end) (omega arith) held) next

  pub front_holds : (a b d : Attempt M D) (word : ℕ) (stop : Option Stop) → HoldsAt (λ c. c ≡ queue.end) 3 a b None → FoundEnd (sequence_of queue) a b word → 0 < length_in word → 0 < queue.capacity → HoldsAt (λ c. (c ≡ queue.end) ⊎ (c ≡ front_of queue word)) 3 b d stop → HoldsAt (IsFront queue a d) 6 a d stop
  front_holds a b d word stop held found some room next =
      let front : (c : ℕ) → (c ≡ queue.end) ⊎ (c ≡ front_of queue word) → IsFront queue a d c = λ c. elim [ inl end ↦ inl end | inr here ↦ inr (word, found_stays (sequence_of queue) a b d word found next.does.touches, some, room, here) ] in
      holds_then (IsFront queue a d) 3 3 a b d stop (holds_wider (λ c. c ≡ queue.end) (IsFront queue a d) 3 3 a b None (λ c end. inl end) (omega arith) held) (holds_wider (λ c. (c ≡ queue.end) ⊎ (c ≡ front_of queue word)) (IsFront queue a d) 3 3 b d stop front (omega arith) next)

  -- of the cells the end alone came to be written or held
  pub front_alone : (a b d : Attempt M D) (x : ℕ) → TouchesOnly (λ c. c ≡ queue.end) a b → d.writes ≡ put b.writes queue.end x → d.pass.view.held ≡ b.pass.view.held → IsEndAlone queue a d
  front_alone a b d x touches ws held c off =
      (ap (λ (e : Entries). word_at e c) ws ∙ put_other b.writes queue.end x c (λ same. off (sym same)) ∙ touches.written c off, ap (λ (h : List (ℕ × ℕ)). has c (cells_of h)) held ∙ touches.held c off)
