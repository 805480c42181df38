-- The calls of a queue.
use Rattle.std.proofs.Common.{◌≡◌, ◌↔◌, ℕ, ◌+◌, ◌^◌, ◌<◌, ◌≤◌, inl, inr, ltb, List, [], ◌++◌, length, take, drop, get_or, ap, sym, ◌∙◌, refl, subst, arith}
use Rattle.std.specs.Prelude.{Option, slice_index}
use Rattle.std.specs.List.{All}
use Rattle.std.proofs.lemmas.Bool.{cond-true, lt-ltb}
use Rattle.std.proofs.lemmas.List.{length-take, get_or-take, get_or-drop}
use Rattle.std.proofs.lemmas.List.Elements.{All-from_get_or}
use mathlib.Core.Logic.{dite}
use native.Mathlib.Decide.{ℕ_discrete}
use Rattle.cell_table.specs.Cells.{AllHold, after}
use Rattle.serial_terms.specs.declared.call.Call.TheVariants.{Enqueue, Dequeue, QueueLen}
use Rattle.serial_terms.specs.declared.call.Reply.TheVariants.{Nothing, Value}
use Rattle.serial_terms.specs.Counts.{with_at}
use Rattle.serial_terms.specs.Facts.{with_at_own}
use Rattle.serial_terms.specs.Renaming.{NamedDone, named}
use Rattle.serial_terms.specs.Serial.{State, Sequence, IsReplied, step, put_queue, found, Allows}
use Rattle.serial_terms.specs.Serial as serial
use Rattle.store_layout.specs.Laws.{PartsAreApart}
use Rattle.store_layout.specs.Shapes.{Shape, the_queue, with_end, size_of, cells_of, most_cells}
use Rattle.store_layout.specs.States.{head_in, words_of, state_in, IsFormed}
use Rattle.store_layout.specs.States as layout
use Rattle.store_meaning.specs.Follows.{Progress, state_with, waits_for_queue, IsPartOf, ChangesOnly, IsCallOn}
use Rattle.store_parts.specs.Parts.{queue_part, Touches, WaitsAlikeBut, KeepsWordsBut, noted}
use Rattle.store_parts.specs.Laws.{QueueCalls}
use Rattle.store_parts.proofs.Touching.{fits, word_below, changes_only}
use Rattle.tx_core.specs.Words.{length_after}
use Rattle.tx_core.specs.Sequences.{Appends, HasLength}
use Rattle.tx_queue.specs.declared.part.QueuePart.{QueuePart}
use Rattle.tx_queue.specs.Queue.{IsQueue, values_in, words_in, end_in, Dequeues}

-- what the law of queues says of their calls
abbrev pub SerialEnqueue : Type 0
SerialEnqueue = (s : State) (q value : ℕ) (then : List ℕ) → Appends value (s.queues q).items then → Allows s (Enqueue q value) Nothing × (serial.after s (Enqueue q value) Nothing ≡ put_queue s q then)

abbrev pub SerialDequeue : Type 0
SerialDequeue = (s : State) (q : ℕ) (x : Option ℕ) (then : List ℕ) → Dequeues x (s.queues q).items then → Allows s (Dequeue q) (found x) × (serial.after s (Dequeue q) (found x) ≡ put_queue s q then)

abbrev pub SerialLength : Type 0
SerialLength = (s : State) (q n : ℕ) (then : List ℕ) → HasLength n (s.queues q).items then → Allows s (QueueLen q) (Value n) × (serial.after s (QueueLen q) (Value n) ≡ put_queue s q then)

-- what the layout of a store has in the words of a queue
abbrev pub FormedAlike : QueuePart → Type 0
FormedAlike part = (cells : List ℕ) → part.end + part.capacity < length cells → IsQueue part cells ↔ layout.IsQueue (words_in part cells)

abbrev pub ValuesAlike : QueuePart → Type 0
ValuesAlike part = (cells : List ℕ) → part.end + part.capacity < length cells → layout.queue_in (words_in part cells) ≡ values_in part cells

module _ (apart : PartsAreApart) (s : Shape) (q : ℕ) (there : q < length s.queues) (few : cells_of s ≤ most_cells)
    (formed_alike : FormedAlike (queue_part s q)) (values_alike : ValuesAlike (queue_part s q)) where
  abbrev part : QueuePart
  part = queue_part s q

  sized : size_of s (the_queue q) ≡ part.capacity + 1
  sized = cond-true {A = ℕ} (ltb q (length s.queues)) (with_end (get_or s.queues q 0)) 0 (lt-ltb q (length s.queues) there)

  in_cells : (cells : List ℕ) → IsFormed s cells → part.end + part.capacity < length cells
  in_cells cells f = omega (arith, sized, fits apart s (the_queue q) (omega (arith, sized)) cells f)

  words_here : (cells : List ℕ) → words_of s (the_queue q) cells ≡ words_in part cells
  words_here cells = ap (λ (n : ℕ). take n (drop part.end cells)) sized

  formed : (cells : List ℕ) → IsFormed s cells → IsQueue part cells
  formed cells f = (formed_alike cells (in_cells cells f)).1 (subst layout.IsQueue (words_here cells) (f.parts (the_queue q)))

  are : (cells : List ℕ) → IsQueue part cells → layout.IsQueue (words_of s (the_queue q) cells)
  are cells is = subst layout.IsQueue (sym (words_here cells)) ((formed_alike cells is.in_table).0 is)

  items_here : (cells : List ℕ) → IsQueue part cells → ((state_in s cells).queues q).items ≡ values_in part cells
  unfolding state_in
  items_here cells is = ap layout.queue_in (words_here cells) ∙ values_alike cells is.in_table

  waits_here : (waiting : ℕ → List ℕ) → waits_for_queue s waiting q ≡ waiting q
  waits_here waiting = cond-true (ltb q (length s.queues)) (waiting q) [] (lt-ltb q (length s.queues) there)

  -- with what waits
  abbrev with_waiting : Progress → List ℕ → List ℕ
  with_waiting a cells = values_in part (after cells a.writes) ++ a.waiting part.part

  items_with : (a : Progress) (cells : List ℕ) → IsQueue part (after cells a.writes) → ((state_with s (after cells a.writes) a.waiting).queues q).items ≡ with_waiting a cells
  unfolding state_with
  items_with a cells is = ap (λ (xs : List ℕ). xs ++ waits_for_queue s a.waiting q) (items_here (after cells a.writes) is)
      ∙ ap (λ (xs : List ℕ). values_in part (after cells a.writes) ++ xs) (waits_here a.waiting)

  sequence_is : (a b : Sequence) → a.items ≡ b.items → a.capacity ≡ b.capacity → a ≡ b
  sequence_is a b items capacity = λ i. record { items = items i; capacity = capacity i }

  capacity_with : (a : Progress) (cells : List ℕ) → ((state_with s (after cells a.writes) a.waiting).queues q).capacity ≡ part.capacity
  unfolding state_with state_in
  capacity_with a cells = refl

  -- the word of an end is below 2^64, since its head and its length are below the number of all cells
  end_below : (cells : List ℕ) → IsFormed s cells → (new : List ℕ) → length new ≡ length cells → IsQueue part new → end_in part new < 2 ^ 64
  end_below cells f new same is =
      let head : head_in (end_in part new) < 2 ^ 24 = omega (arith, is.head, in_cells cells f, f.sized, few) in
      omega (arith, head)

  -- so are all words of the queue, where the others were or are
  queue_below : (a b : Progress) → KeepsWordsBut part.end a b → (cells : List ℕ) → IsFormed s (after cells a.writes) → length (after cells b.writes) ≡ length (after cells a.writes) → IsQueue part (after cells b.writes)
      → All (λ w. w < 2 ^ 64) (words_of s (the_queue q) (after cells b.writes))
  queue_below a b keeps cells f same is =
      let new : List ℕ = after cells b.writes in
      let word : (c : ℕ) → slice_index new c < 2 ^ 64 = λ c. dite (ℕ_discrete c part.end)
      (λ here. subst (λ (e : ℕ). slice_index new e < 2 ^ 64) (sym here) (end_below (after cells a.writes) f new same is))
      (λ off. elim (keeps cells c off) [
        | inl stays ↦ omega (arith, stays, word_below (after cells a.writes) c f.words)
        | inr low ↦ low
      ]) in
      All-from_get_or (λ w. w < 2 ^ 64) (words_of s (the_queue q) new) 0 (λ i lt.
      let low : i < size_of s (the_queue q) = omega (arith, length-take (size_of s (the_queue q)) (drop part.end new)) in
      omega (arith, get_or-take (size_of s (the_queue q)) (drop part.end new) i 0 low, get_or-drop part.end new i 0, word (part.end + i)))

  waits_elsewhere : (old new : Progress) → WaitsAlikeBut part.part old new → (p : ℕ) → (IsPartOf s (the_queue q) p → ⊥) → new.waiting p ≡ old.waiting p
  waits_elsewhere old new waits p own = waits p (λ same. own (same, there))

  changes : (old new : Progress) → Touches s (the_queue q) old new → KeepsWordsBut part.end old new → WaitsAlikeBut part.part old new → (cells : List ℕ) → IsFormed s (after cells old.writes) → IsQueue part (after cells new.writes)
      → ChangesOnly s (the_queue q) (after cells old.writes) (after cells new.writes) old.waiting new.waiting
  changes old new touches keeps waits cells f is = changes_only s (the_queue q) old new touches (waits_elsewhere old new waits) cells
      (queue_below old new keeps cells f (length_after new.writes cells ∙ sym (length_after old.writes cells)) is)
      (are (after cells new.writes) is)

  on_queue : (old new : Progress) (d : NamedDone) → Touches s (the_queue q) old new → KeepsWordsBut part.end old new → WaitsAlikeBut part.part old new
      → ((cells : List ℕ) → AllHold cells new.observations → IsQueue part (after cells old.writes)
      → IsQueue part (after cells new.writes) × ((st : State) → (st.queues q).items ≡ with_waiting old cells
      → IsReplied st (named d) × (step st (named d) ≡ put_queue st q (with_waiting new cells))))
      → IsCallOn s (the_queue q) old new d
  on_queue old new d touches keeps waits step = record {
    earlier = touches.earlier;
    changes = λ cells hold f. changes old new touches keeps waits cells f (step cells hold (formed (after cells old.writes) f)).0;
    steps = λ cells hold f.
        let st : State = state_with s (after cells old.writes) old.waiting in
        let then : State = state_with s (after cells new.writes) new.waiting in
        let was = formed (after cells old.writes) f in
        let made = step cells hold was in
        let x = made.1 st (items_with old cells was) in
        let own : (let z : Sequence = record { items = with_waiting new cells; capacity = (st.queues q).capacity } in z) ≡ then.queues q =
        sequence_is (record { items = with_waiting new cells; capacity = (st.queues q).capacity }) (then.queues q) (sym (items_with new cells made.0)) (capacity_with old cells ∙ sym (capacity_with new cells)) in
        record { replied = x.0; leaves = x.1 ∙ ap (λ (own : Sequence). let z : State = record st { queues = with_at st.queues q own } in z) own };
  }

  unwritten : (old new : Progress) → new.writes ≡ old.writes → KeepsWordsBut part.end old new
  unwritten old new same cells c off = inl (ap (λ (ws : List (ℕ × ℕ)). slice_index (after cells ws) c) same)

  own_calls : SerialEnqueue → SerialDequeue → SerialLength → QueueCalls s q part
  own_calls enqueue dequeue len = record {
    formed = formed;
    enqueue = λ old new value child touches same waits makes. on_queue old new (noted (Enqueue q value) Nothing child 0) touches (unwritten old new same) waits (λ cells hold is.
        let x = makes cells hold is in
        (x.0, λ st items. enqueue st q value (with_waiting new cells) (subst (λ (xs : List ℕ). Appends value xs (with_waiting new cells)) (sym items) x.1)));
    dequeue = λ old new first child touches keeps waits makes. on_queue old new (noted (Dequeue q) (found first) child 0) touches keeps waits (λ cells hold is.
        let x = makes cells hold is in
        (x.0, λ st items. dequeue st q first (with_waiting new cells) (subst (λ (xs : List ℕ). Dequeues first xs (with_waiting new cells)) (sym items) x.1)));
    len = λ old new n child touches same waits makes. on_queue old new (noted (QueueLen q) (Value n) child 0) touches (unwritten old new same) (λ p own. waits p) (λ cells hold is.
        let x = makes cells hold is in
        (x.0, λ st items. len st q n (with_waiting new cells) (subst (λ (xs : List ℕ). HasLength n xs (with_waiting new cells)) (sym items) x.1)));
    resolve = λ old new touches keeps waits emptied makes. record {
      earlier = touches.earlier;
      changes = λ cells hold f. changes old new touches keeps waits cells f (makes cells hold (formed (after cells old.writes) f)).0;
      same = λ cells hold f.
          let st : State = state_with s (after cells old.writes) old.waiting in
          let then : State = state_with s (after cells new.writes) new.waiting in
          let was = formed (after cells old.writes) f in
          let x = makes cells hold was in
          let own : then.queues q ≡ st.queues q = sequence_is (then.queues q) (st.queues q) (items_with new cells x.0 ∙ (x.1.0 ∙ sym (items_with old cells was))) (capacity_with new cells ∙ sym (capacity_with old cells)) in
          ap (λ (own : Sequence). let z : State = record st { queues = with_at st.queues q own } in z) own ∙ ap (λ (g : ℕ → Sequence). let z : State = record st { queues = g } in z) (with_at_own st.queues q);
    };
    exceeds = λ old new n makes cells hold f.
        let was = formed (after cells old.writes) f in
        ap length (items_with old cells was) ∙ (makes cells hold was).1.0;
  }

pub queue_calls : PartsAreApart → (s : Shape) (q : ℕ) → q < length s.queues → cells_of s ≤ most_cells → (own : QueuePart) → own ≡ queue_part s q
    → FormedAlike own → ValuesAlike own → SerialEnqueue → SerialDequeue → SerialLength → QueueCalls s q own
queue_calls apart s q there few own is formed_alike values_alike enqueue dequeue len =
    subst (λ (p : QueuePart). QueueCalls s q p) (sym is) (own_calls apart s q there few (subst FormedAlike is formed_alike) (subst ValuesAlike is values_alike) enqueue dequeue len)
