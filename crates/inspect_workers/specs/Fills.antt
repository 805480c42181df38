-- How the filling of the pool ends.
use Rattle.std.specs.Prelude.{◌≡◌, ℕ, ◌+◌, ◌*◌, ◌<◌, ◌≤◌, length}
use Rattle.inspect_workers.specs.declared.fills.RefillEnd.{RefillEnd}
use Rattle.inspect_workers.specs.declared.fills.RefillEnd.TheVariants as refills
use Rattle.inspect_workers.specs.Noted.{Adds, IsFill}
use Rattle.inspect_workers.specs.Turns.{FindsNothing}
use Rattle.run_stages.specs.Work.{Work}
use Rattle.serial_terms.specs.Renaming.{NamedDone}
use Rattle.cell_table.specs.Pass.{PassState}
use Rattle.tx_store.specs.Stores.{PassView}

module _ {M : Type 0} where
  -- the last two records of the acting caller say that queue and pool gave nothing, and no record has a later place
  abbrev pub HasFoundNothing : PassState M NamedDone → Type 0
  HasFoundNothing p = (before : PassState M NamedDone) × FindsNothing before p

  -- After so many fills: no task is left to be given, and the pass is as it was; or one record more gave the next tasks, 4,096 at most; or the
  -- books are as they were, for want of memory
  abbrev pub IsRefillEnd : Work → ℕ → PassView M → PassView M → RefillEnd → Type 0
  IsRefillEnd w fills old new refills.NoMore = (length w.tasks ≤ 4096 * (fills + 1)) × (new ≡ old)
  IsRefillEnd w fills old new refills.Filled = (4096 * (fills + 1) < length w.tasks) × Adds (IsFill w) old.pass.books new.pass.books
  IsRefillEnd w fills old new refills.Memory = (4096 * (fills + 1) < length w.tasks) × (new.pass.books ≡ old.pass.books)
