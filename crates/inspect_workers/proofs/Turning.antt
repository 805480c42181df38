-- The two transactions of a turn together.
use Rattle.std.proofs.Common.{◌≡◌, ℕ, ◌+◌, ◌≤◌, inr, Bool, true, false, List, [], ◌∷◌, ap, ◌∙◌, arith}
use Rattle.cell_table.specs.declared.view.Noted.{Noted}
use Rattle.cell_table.specs.Pass.{PassState, IsSole}
use Rattle.run_bodies.specs.Records.{TookItem, TookTask}
use Rattle.run_purpose.specs.declared.purpose.RunPurpose.{RunPurpose}
use Rattle.run_stages.specs.Allowed.{IsAllowed}
use Rattle.run_stages.specs.Work.{Work}
use Rattle.serial_terms.specs.declared.call.Done.{Done}
use Rattle.serial_terms.specs.Entries.{Each}
use Rattle.serial_terms.specs.Renaming.{NamedDone}
use Rattle.serial_terms.specs.Worked.{no_item, no_task}
use Rattle.store_meaning.specs.declared.meaning.StoreMeaning.{StoreMeaning}
use Rattle.tx_core.specs.Facts.{grows_trans}
use Rattle.tx_nest.specs.AttemptLaws.{grew_trans}
use Rattle.tx_store.specs.ChildLaws.{keys_then}
use Rattle.tx_store.specs.declared.run.RunEnd.TheVariants as runs
use Rattle.tx_store.specs.Runs.{IsLeft}
use Rattle.tx_store.specs.Runs as ends
use Rattle.tx_store.specs.Stores.{StoreView, PassView}
use Rattle.inspect_workers.specs.declared.turns.TurnEnd.{TurnEnd}
use Rattle.inspect_workers.specs.declared.turns.TurnEnd.TheVariants as turns
use Rattle.inspect_workers.specs.Noted.{Books, Adds, AddsOne, HasNoneAfter, IsMatched, IsTaken, with_record}
use Rattle.inspect_workers.specs.Turns.{IsTurnEnd, IsTakeEnd}

-- ---- passes

module _ {M : Type 0} (store : StoreView M) where
  pub left_then : (n m k : ℕ) (p q r : PassView M) → n + m ≤ k → IsLeft store n p q → IsLeft store m q r → IsLeft store k p r
  left_then n m k p q r low a b =
      let c = a.draws in let d = b.draws in
      let e = a.seen in let f = b.seen in
      record {
        of = b.of;
        idle = b.idle;
        callers = b.callers ∙ a.callers;
        room = b.room ∙ a.room;
        draws = omega arith;
        seen = omega arith;
        trail = grew_trans _ _ _ a.trail b.trail;
        grows = grows_trans _ _ _ a.grows b.grows;
        keys = keys_then p.keys q.keys r.keys a.keys b.keys;
      }

  pub left_less : (n k : ℕ) (p q : PassView M) → n ≤ k → IsLeft store n p q → IsLeft store k p q
  left_less n k p q low a = let d = a.draws in record {
    of = a.of;
    idle = a.idle;
    callers = a.callers;
    room = a.room;
    draws = omega arith;
    seen = a.seen;
    trail = a.trail;
    grows = a.grows;
    keys = a.keys;
  }

-- ---- records

pub adds : {M : Type 0} (D : List Done → Type 0) (old new : PassState M NamedDone) → AddsOne D old new → Adds D old.books new.books
adds D old new is = record { entry = is.entry; books = is.books; calls = is.calls }

module _ {M : Type 0} (w : Work) (old new : PassState M NamedDone) (found : Bool) where
  pub matched : found ≡ true → AddsOne (λ calls. IsAllowed w calls × TookItem calls found) old new → AddsOne (IsMatched w) old new
  matched e is = record { entry = is.entry; books = is.books; place = is.place; calls = record { allowed = is.calls.0; one = is.calls.1.one e } }

  pub matched_none : found ≡ false → AddsOne (λ calls. IsAllowed w calls × TookItem calls found) old new → AddsOne (λ calls. calls ≡ no_item ∷ []) old new
  matched_none e is = record { entry = is.entry; books = is.books; place = is.place; calls = is.calls.1.none e }

  pub taken : found ≡ true → AddsOne (λ calls. IsAllowed w calls × TookTask calls found) old new → AddsOne (IsTaken w) old new
  taken e is = record { entry = is.entry; books = is.books; place = is.place; calls = record { allowed = is.calls.0; one = is.calls.1.one e } }

  pub taken_none : found ≡ false → AddsOne (λ calls. IsAllowed w calls × TookTask calls found) old new → AddsOne (λ calls. calls ≡ no_task ∷ []) old new
  taken_none e is = record { entry = is.entry; books = is.books; place = is.place; calls = is.calls.1.none e }

-- ---- a turn

none_after_more : {M : Type 0} (places later : ℕ) (p : PassState M NamedDone) → places ≤ later → HasNoneAfter places p.books → HasNoneAfter later p.books
none_after_more places later p low none = books p.books none
  where
    entries : (es : List (Noted NamedDone)) → Each (λ e. e.place ≤ places) es → Each (λ e. e.place ≤ later) es
    entries [] a = tt
    entries (e ∷ es) a = ((let b = a.0 in omega arith), entries es a.1)

    books : (bs : Books) → HasNoneAfter places bs → HasNoneAfter later bs
    books [] a = tt
    books (b ∷ bs) a = (entries b.entries a.0, books bs a.1)

module _ {K : Type 0} (run : RunPurpose) (store : StoreView (StoreMeaning RunPurpose K)) (tries : ℕ) (old middle new : PassView (StoreMeaning RunPurpose K))
    (left : IsLeft store tries old middle) (none : AddsOne (λ calls. calls ≡ no_item ∷ []) old.pass middle.pass)
    (places : IsSole old.pass → HasNoneAfter old.pass.seen old.pass.books) (after : IsLeft store tries middle new) where
  -- a turn whose first transaction found nothing ends as its second one does
  pub second_ends : (end : TurnEnd) → IsTakeEnd run store tries middle new end → IsTurnEnd run store tries old new end
  second_ends turns.Worked is = inr (middle.pass.books, adds _ old.pass middle.pass none, adds _ middle.pass new.pass is)
  second_ends turns.Empty is = record {
    item = none.entry;
    task = is.entry;
    books = is.books ∙ ap (with_record is.entry) none.books;
    no_item = none.calls;
    no_task = is.calls;
    order = let a = none.place in let b = is.place in let c = after.seen in omega arith;
    seen = is.place;
    last = λ alone. none_after_more old.pass.seen none.entry.place old.pass (let a = none.place in let c = left.seen in omega arith) (places alone);
  }
  second_ends (turns.Spent n last) is = inr (middle, adds _ old.pass middle.pass none, left, is)
  second_ends (turns.Full part values adding) is = inr (middle, adds _ old.pass middle.pass none, left, is)
  second_ends turns.Memory is = inr (middle, adds _ old.pass middle.pass none, left, is)
