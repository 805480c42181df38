-- The placing of a queue's and of a log's additions as that of a part.
use Rattle.std.proofs.Common.{◌≡◌, ℕ, ◌+◌, ◌-◌, ◌<◌, false, ltb, cond, List, [], length, get_or, Bool, ap, sym, ◌∙◌, refl, subst, arith}
use Rattle.std.proofs.lemmas.Bool.{cond-true, lt-ltb}
use Rattle.std.proofs.lemmas.Bool.Decides.{nat_tests}
use Rattle.std.specs.Prelude.{Result, Ok, Err, IsOk}
use Rattle.std.specs.List.{All}
use Rattle.cell_table.specs.Cells.{after}
use Rattle.attempt_lists.specs.Cells.{IsAscending}
use Rattle.serial_terms.specs.Ranges.{IsKept}
use Rattle.serial_terms.specs.Renaming.{NamedDone}
use Rattle.serial_terms.specs.Serial.{Sequence}
use Rattle.serial_terms.specs.Sights.{part_of}
use Rattle.store_layout.specs.Shapes.{Shape, the_queue, the_log}
use Rattle.store_layout.specs.States.{state_in}
use Rattle.store_meaning.specs.Follows.{state_with, part_of_log}
use Rattle.store_parts.specs.Laws.{QueueCalls, LogCalls}
use Rattle.store_parts.specs.Parts.{queue_part, log_part, progress}
use Rattle.store_parts.specs.Placed.{queue_placed, log_placed}
use Rattle.tx_core.specs.Calls.{waiting}
use Rattle.tx_core.specs.Sequences.{CellSequence, Settles, Exceeds, IsSettled, IsRefused, Placing}
use Rattle.tx_core.specs.Tx.{Attempt}
use Rattle.tx_core.specs.declared.resolve_end.ResolveEnd.{ResolveEnd}
use Rattle.tx_core.specs.declared.resolve_end.ResolveEnd.TheVariants as resolves
use Rattle.tx_log.specs.declared.part.LogPart.{LogPart}
use Rattle.tx_log.specs.Log as log
use Rattle.tx_queue.specs.declared.part.QueuePart.{QueuePart}
use Rattle.tx_queue.specs.Queue as queue
use Rattle.tx_store.specs.Resolves.{IsLong, IsPart, Resolves}

abbrev result : {A : Type 0} → Result A ResolveEnd → Result A ResolveEnd
result r = r

is_refused : (A : Type 0) (end : ResolveEnd) → IsOk (result {A = A} (Err end)) → ⊥
is_refused A end ok = cc

module _ {M D : Type 0} (part : CellSequence) (E F : ℕ → Type 0) (old new : Attempt M D) (same : (n : ℕ) → E n → F n) where
  refused_as : (end : ResolveEnd) → IsRefused part E old new end → IsRefused part F old new end
  refused_as (resolves.Stop stop) refused = refused
  refused_as (resolves.Full number values adding) refused = (
    refused.0,
    record {
      word = refused.1.word;
      found = refused.1.found;
      length_there = refused.1.length_there;
      adding = refused.1.adding;
      above = refused.1.above;
      exceeds = same (values + adding) refused.1.exceeds;
      late = refused.1.late;
      loaded = refused.1.loaded;
      stands = refused.1.stands;
      few = refused.1.few;
      same = refused.1.same;
    },
  )

module _ (s : Shape) (cells : List ℕ) (waits : ℕ → List ℕ) where
  queue_at : (q : ℕ) → q < length s.queues → part_of (length s.queues) (state_with s cells waits) q ≡ (state_with s cells waits).queues q
  queue_at q low = cond-true {A = Sequence} (ltb q (length s.queues)) ((state_with s cells waits).queues q) ((state_with s cells waits).logs (q - length s.queues)) (lt-ltb q (length s.queues) low)

  log_at : (l : ℕ) → part_of (length s.queues) (state_with s cells waits) (length s.queues + l) ≡ (state_with s cells waits).logs l
  log_at l =
      let p = length s.queues + l in
      let no : ltb p (length s.queues) ≡ false = grind (arith, nat_tests) in
      let number : p - length s.queues ≡ l = omega arith in
      ap (λ (b : Bool). cond b ((state_with s cells waits).queues p) ((state_with s cells waits).logs (p - length s.queues))) no
      ∙ ap (λ (n : ℕ). (state_with s cells waits).logs n) number

  queue_capacity : (q : ℕ) → ((state_with s cells waits).queues q).capacity ≡ get_or s.queues q 0
  unfolding state_with state_in
  queue_capacity q = refl

  log_capacity : (l : ℕ) → ((state_with s cells waits).logs l).capacity ≡ get_or s.logs l 0
  unfolding state_with state_in
  log_capacity l = refl

module _ {M : Type 0} (s : Shape) (old new : Attempt M NamedDone) where
  module _ (q : ℕ) (there : q < length s.queues) (part : QueuePart) (is : part ≡ queue_part s q) (calls : QueueCalls s q part) where
    queue_is_part : IsPart s q (queue.sequence_of part)
    queue_is_part = record {
      number = ap (λ (p : QueuePart). p.part) is;
      capacity = λ cells waits. ap (λ (x : Sequence). x.capacity) (queue_at s cells waits q there) ∙ queue_capacity s cells waits q ∙ sym (ap (λ (p : QueuePart). p.capacity) is);
    }

    queue_nothing : {A : Type 0} (r : Result A ResolveEnd) → (waiting part.part old ≡ [] → IsOk r × (new ≡ old)) → waiting q old ≡ [] → IsOk r × (new ≡ old)
    queue_nothing r nothing none = nothing (ap (λ (p : QueuePart). waiting p.part old) is ∙ none)

    pub queue_resolves : {A : Type 0} (done : A) → IsAscending new.writes → All IsKept (waiting q old) → (waiting part.part old ≡ [] → IsOk (result (Ok done)) × (new ≡ old))
        → queue.MakesOf part old new (Settles part.capacity) → IsSettled (queue.sequence_of part) old new → Placing (queue.sequence_of part) old new → Resolves s q old new (result (Ok done))
    queue_resolves done ascending kept nothing makes settled leaves = record {
      part = queue.sequence_of part;
      is = queue_is_part;
      nothing = λ none. (queue_nothing (result (Ok done)) nothing none).1;
      leaves = leaves;
      ends = ((the_queue q, queue_placed s q there part is calls old new ascending (subst (λ (p : QueuePart). All IsKept (waiting p.part old)) (sym is) kept) (λ none. (nothing none).1) makes settled leaves), settled);
    }

    pub queue_refuses : (A : Type 0) (end : ResolveEnd) → (waiting part.part old ≡ [] → IsOk (result {A = A} (Err end)) × (new ≡ old))
        → IsRefused (queue.sequence_of part) (λ n. queue.MakesOf part old new (Exceeds n)) old new end → Placing (queue.sequence_of part) old new → Resolves s q old new (result {A = A} (Err end))
    queue_refuses A end nothing refused leaves = record {
      part = queue.sequence_of part;
      is = queue_is_part;
      nothing = λ none. (queue_nothing {A = A} (result (Err end)) nothing none).1;
      leaves = leaves;
      ends = (
        λ none. is_refused A end (queue_nothing {A = A} (result (Err end)) nothing none).0,
        refused_as (queue.sequence_of part) (λ n. queue.MakesOf part old new (Exceeds n)) (IsLong s q old new) old new
            (λ n makes cells hold formed. ap (λ (x : Sequence). length x.items) (queue_at s (after cells old.writes) (λ p. waiting p old) q there) ∙ calls.exceeds (progress old) (progress new) n makes cells hold formed) end refused,
      );
    }

  module _ (l : ℕ) (there : l < length s.logs) (part : LogPart) (is : part ≡ log_part s l) (calls : LogCalls s l part) where
    log_is_part : IsPart s (part_of_log s l) (log.sequence_of part)
    log_is_part = record {
      number = ap (λ (p : LogPart). p.part) is;
      capacity = λ cells waits. ap (λ (x : Sequence). x.capacity) (log_at s cells waits l) ∙ log_capacity s cells waits l ∙ sym (ap (λ (p : LogPart). p.capacity) is);
    }

    log_nothing : {A : Type 0} (r : Result A ResolveEnd) → (waiting part.part old ≡ [] → IsOk r × (new ≡ old)) → waiting (part_of_log s l) old ≡ [] → IsOk r × (new ≡ old)
    log_nothing r nothing none = nothing (ap (λ (p : LogPart). waiting p.part old) is ∙ none)

    pub log_resolves : {A : Type 0} (done : A) → All IsKept (waiting (part_of_log s l) old) → (waiting part.part old ≡ [] → IsOk (result (Ok done)) × (new ≡ old))
        → log.MakesOf part old new (Settles part.capacity) → IsSettled (log.sequence_of part) old new → Placing (log.sequence_of part) old new → Resolves s (part_of_log s l) old new (result (Ok done))
    log_resolves done kept nothing makes settled leaves = record {
      part = log.sequence_of part;
      is = log_is_part;
      nothing = λ none. (log_nothing (result (Ok done)) nothing none).1;
      leaves = leaves;
      ends = ((the_log l, log_placed s l there part is calls old new (subst (λ (p : LogPart). All IsKept (waiting p.part old)) (sym is) kept) (λ none. (nothing none).1) makes settled leaves), settled);
    }

    pub log_refuses : (A : Type 0) (end : ResolveEnd) → (waiting part.part old ≡ [] → IsOk (result {A = A} (Err end)) × (new ≡ old))
        → IsRefused (log.sequence_of part) (λ n. log.MakesOf part old new (Exceeds n)) old new end → Placing (log.sequence_of part) old new → Resolves s (part_of_log s l) old new (result {A = A} (Err end))
    log_refuses A end nothing refused leaves = record {
      part = log.sequence_of part;
      is = log_is_part;
      nothing = λ none. (log_nothing {A = A} (result (Err end)) nothing none).1;
      leaves = leaves;
      ends = (
        λ none. is_refused A end (log_nothing {A = A} (result (Err end)) nothing none).0,
        refused_as (log.sequence_of part) (λ n. log.MakesOf part old new (Exceeds n)) (IsLong s (part_of_log s l) old new) old new
            (λ n makes cells hold formed. ap (λ (x : Sequence). length x.items) (log_at s (after cells old.writes) (λ p. waiting p old) l) ∙ calls.exceeds (progress old) (progress new) n makes cells hold formed) end refused,
      );
    }
