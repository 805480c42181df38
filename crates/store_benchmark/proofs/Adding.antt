-- What a committed transaction adds to the books of its pass.
use Rattle.std.proofs.Common.{◌≡◌, ℕ, ◌+◌, ◌<◌, Bool, List, [], ◌∷◌, length, length-append, ◌∙◌, ap, arith}
use Rattle.cell_table.specs.declared.view.NotedBook.{NotedBook}
use Rattle.cell_table.specs.declared.view.Record.{Record}
use Rattle.cell_table.specs.Pass.{note}
use Rattle.serial_terms.specs.declared.call.Done.{Done}
use Rattle.serial_terms.specs.Renaming.{NamedDone}
use Rattle.serial_terms.specs.Sights.{Seen}
use Rattle.tx_store.specs.Runs.{IsLeft, AfterFewer, IsCommittedRun}
use Rattle.tx_store.specs.Stores.{StoreView, PassView}
use Rattle.store_benchmark.specs.Passes.{records_in, HasAdded}

note_adds : {D : Type 0} (place : ℕ) (writer : Bool) (r : Record D) (books : List (NotedBook D)) → 0 < length books → records_in (note place writer r books) ≡ records_in books + 1
note_adds place writer r [] some = absurd (omega arith)
note_adds place writer r (b ∷ bs) some = length-append b.entries (_ ∷ [])

pub transacts : {M O : Type 0} (store : StoreView M) (p : PassView M) (Saw : PassView M → Seen NamedDone → Type 0) (allows : List Done → Type 0) (runs : List Done → O → Type 0) (tries : ℕ) (q : PassView M) (out : O)
    → 0 < length p.pass.books → AfterFewer Saw tries p (λ before. IsCommittedRun allows runs before q out) → IsLeft store tries p q → HasAdded store 1 p q
transacts store p Saw allows runs tries q out some after left =
    let run = after.ends in
    record {
      work = record { of = left.of; idle = left.idle };
      callers = left.callers;
      records = ap records_in run.books ∙ (ap (λ (books : List (NotedBook NamedDone)). records_in (note q.pass.seen run.writer run.content books)) after.books ∙ note_adds q.pass.seen run.writer run.content p.pass.books some);
    }
