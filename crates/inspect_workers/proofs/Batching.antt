-- How the pass of all callers ends a batch alone.
use Rattle.std.proofs.Common.{◌≡◌, ℕ, ◌+◌, ◌*◌, ◌^◌, ◌<◌, ◌≤◌, inl, inr, List, length, get_or, refl, sym, ap, ◌∙◌, subst, arith}
use Rattle.cell_table.specs.Pass.{PassState, IsSole, opened}
use Rattle.inspect_workers.specs.declared.fills.RefillEnd.{RefillEnd}
use Rattle.inspect_workers.specs.declared.fills.RefillEnd.TheVariants as refills
use Rattle.inspect_workers.specs.declared.works.WorkEnd.{WorkEnd}
use Rattle.inspect_workers.specs.declared.works.WorkEnd.TheVariants as works
use Rattle.inspect_workers.specs.Batches.{RunStore, RunPass, IsAtEnd, HasBatchEnded, MayGoOn}
use Rattle.inspect_workers.specs.Fills.{IsRefillEnd}
use Rattle.inspect_workers.specs.Noted.{AddsUpTo, IsOfWorker, fills_in}
use Rattle.inspect_workers.specs.Opened.{IsOpenedFor, IsOpeningPass}
use Rattle.inspect_workers.specs.Seats.{IsWholeAtRest}
use Rattle.inspect_workers.specs.Turns.{FindsNothing, IsFullLog, IsRefusedTurn}
use Rattle.inspect_workers.specs.Works.{IsWorkEnd, IsLastTurn, most_draws}
use Rattle.inspect_workers.proofs.Filling.{one_fill, records_stay, none_new}
use Rattle.inspection_terms.specs.Findings.{all_findings}
use Rattle.run_bodies.specs.RunStores.{work_of_run}
use Rattle.run_purpose.specs.declared.purpose.RunPurpose.{RunPurpose}
use Rattle.serial_terms.specs.Renaming.{NamedDone}
use Rattle.store_meaning.specs.declared.meaning.StoreMeaning.{StoreMeaning}
use Rattle.key_directory.specs.declared.key_test.BelowCapacity.{BelowCapacity}
use Rattle.run_stages.specs.Ends.{AreAllDatagrams}
use Rattle.run_stages.specs.Work.{Work, values_of}
use Rattle.serial_terms.specs.RunLayout.{layout_by}
use Rattle.store_layout.specs.Shapes.{Shape, shape_of}
use Rattle.tx_store.specs.declared.run.RunEnd.TheVariants as runs
use Rattle.tx_store.specs.Runs.{IsLeft}

module _ (store : RunStore) (old : RunPass) (whole : IsWholeAtRest store old) (n : ℕ) where
  sole_left : (new : RunPass) → IsLeft store n old new → IsSole new.pass
  sole_left new left = left.callers ∙ (whole.sole ∙ (whole.of.cells.3 ∙ sym left.of.cells.3))

  -- what is left of the pass of all callers is again the pass of all callers
  pub whole_left : (new : RunPass) → IsLeft store n old new → IsWholeAtRest store new
  whole_left new left = record {
    of = left.of;
    sole = sole_left new left;
    idle = left.idle;
    room = subst (λ (k : ℕ). store.table.callers ≤ k) (sym left.room) whole.room;
  }

module _ (run : RunPurpose) (store : RunStore) (old new : RunPass) (whole : IsWholeAtRest store old) where
  at_end : (before : RunPass) → IsSole before.pass → FindsNothing before.pass new.pass → IsAtEnd new.pass.books
  at_end before sole is = record {
    others = before.pass.books;
    item = is.item;
    task = is.task;
    are = is.books;
    no_item = is.no_item;
    no_task = is.no_task;
    order = is.order;
    last = is.last sole;
  }

  -- its run is done
  pub ended : (end : WorkEnd) (n : ℕ) → end ≡ works.Done → IsWorkEnd run store 1 old new end → AddsUpTo n (IsOfWorker (work_of_run run)) old.pass.books new.pass.books
      → IsLeft store most_draws old new → HasBatchEnded store most_draws old new
  ended end n done is adds left =
      let nothing : FindsNothing is.before.pass new.pass = subst (IsLastTurn run store 1 is.before new) done is.ends in
      record {
        pass = whole_left store old whole most_draws new left;
        nothing = (is.before.pass, nothing);
        end = at_end is.before (sole_left store old whole most_draws is.before is.left) nothing;
        fills = ap fills_in adds.books ∙ records_stay (work_of_run run) adds.entries old.pass.books adds.calls;
        draws_left = left.draws;
      }

full_log : (run : RunPurpose) (store : RunStore) (old new : RunPass) (part values adding : ℕ) → IsRefusedTurn run store 1 old new (runs.Full part values adding)
    → IsFullLog (work_of_run run) store.table.meaning.plan part values adding
full_log run store old new part values adding (inl is) = is.full
full_log run store old new part values adding (inr is) = is.3.full

log_size : (n g f : ℕ) → get_or (shape_of (layout_by n g f)).logs 0 0 ≡ f
unfolding layout_by
log_size n g f = refl

-- or the log is full, which may have fewer values than there are findings
pub too_many : (run : RunPurpose) (findings : ℕ) (store : RunStore) → IsOpenedFor run findings store → (old new : RunPass) (end : WorkEnd) (part values adding : ℕ)
    → end ≡ works.Full part values adding → IsWorkEnd run store 1 old new end
    → (items : List ℕ) → AreAllDatagrams (work_of_run run) items → values_of (work_of_run run) items ≡ all_findings run.rules.now run.bytes.now run.plan.now.tasks.items
    → findings < length (all_findings run.rules.now run.bytes.now run.plan.now.tasks.items)
too_many run findings store opened old new end part values adding full is items all found =
    let log = full_log run store is.before new part values adding (subst (IsLastTurn run store 1 is.before new) full is.ends) in
    let size : get_or store.table.meaning.plan.logs 0 0 ≡ findings
    = ap (λ (s : Shape). get_or s.logs 0 0) opened.laid ∙ log_size (length run.plan.now.tasks.items) (length run.plan.now.groups.items) findings in
    subst (λ (n : ℕ). n < length (all_findings run.rules.now run.bytes.now run.plan.now.tasks.items)) size
    (subst (λ (vs : List ℕ). get_or store.table.meaning.plan.logs 0 0 < length vs) found (log.more items all))

-- ---- and then the next tasks are given

module _ (store : RunStore) (w : Work) (fills : ℕ) (first old new : RunPass) (end : RefillEnd) (filled : end ≡ refills.Filled) (is : IsRefillEnd w fills old new end) where
  is_filled : IsRefillEnd w fills old new refills.Filled
  is_filled = subst (IsRefillEnd w fills old new) filled is

  pub more_left : 4096 * (fills + 1) < length w.tasks
  more_left = is_filled.0

  pub goes_on : MayGoOn store fills first → HasBatchEnded store (store.table.callers * 2 ^ 32) first old → IsLeft store 1 old new → 0 < store.table.callers → store.table.callers ≤ 16
      → MayGoOn store (fills + 1) new
  goes_on may batch left some few =
      let callers : length old.pass.books ≡ store.table.callers = batch.pass.sole ∙ batch.pass.of.cells.3 in
      let one = one_fill w old.pass.books new.pass.books (omega (arith, callers, some)) is_filled.1 in
      let before = may.filled in
      let same = batch.fills in
      let a = may.draws_left in let b = batch.draws_left in let d = left.draws in
      record {
        pass = whole_left store old batch.pass 1 new left;
        filled = omega (arith, one, before, same);
        draws_left = omega (arith, a, b, d, few);
      }

-- the first batch may begin with the pass as it opened
pub opened_may : (workers : ℕ) (store : RunStore) (p : RunPass) → IsOpeningPass workers store p → MayGoOn store 0 p
opened_may workers store p is =
    let callers = is.callers in
    let draws = is.draws in
    record {
      pass = record {
        of = is.of;
        sole = is.sole;
        idle = is.idle;
        room = let room = ap (λ (q : PassState (StoreMeaning RunPurpose BelowCapacity) NamedDone). q.room) is.pass in omega (arith, room);
      };
      filled = ap (λ (q : PassState (StoreMeaning RunPurpose BelowCapacity) NamedDone). fills_in q.books) is.pass ∙ none_new 0 store.table.callers;
      draws_left = omega (arith, callers, draws);
    }
