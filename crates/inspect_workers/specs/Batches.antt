-- How a batch ends, and how all batches do.
use Rattle.std.specs.Prelude.{◌≡◌, ℕ, ◌+◌, ◌*◌, ◌^◌, ◌≤◌, ◌∷◌, []}
use Rattle.cell_table.specs.declared.view.Noted.{Noted}
use Rattle.inspect_workers.specs.Fills.{HasFoundNothing}
use Rattle.inspect_workers.specs.Noted.{Books, HasNoneAfter, calls_of, fills_in, with_record}
use Rattle.inspect_workers.specs.Seats.{IsWholeAtRest}
use Rattle.key_directory.specs.declared.key_test.BelowCapacity.{BelowCapacity}
use Rattle.run_purpose.specs.declared.purpose.RunPurpose.{RunPurpose}
use Rattle.serial_terms.specs.Renaming.{NamedDone}
use Rattle.serial_terms.specs.Worked.{no_item, no_task}
use Rattle.store_meaning.specs.declared.meaning.StoreMeaning.{StoreMeaning}
use Rattle.tx_store.specs.Stores.{StoreView, PassView}

abbrev pub RunStore : Type 0
RunStore = StoreView (StoreMeaning RunPurpose BelowCapacity)

abbrev pub RunPass : Type 0
RunPass = PassView (StoreMeaning RunPurpose BelowCapacity)

-- the acting caller's last two records say that queue and pool gave nothing, and no other record has a later place than the first of them
pub record IsAtEnd (books : Books) : Type 0 where
  pub others : Books
  pub item : Noted NamedDone
  pub task : Noted NamedDone
  pub are : books ≡ with_record task (with_record item others)
  pub no_item : calls_of item ≡ no_item ∷ []
  pub no_task : calls_of task ≡ no_task ∷ []
  pub order : item.place ≤ task.place
  pub last : HasNoneAfter item.place others

module _ (store : RunStore) where
  -- of the pass of all callers: nothing is left to be matched or taken, the pool was filled as often as before, and so many draws are gone at most
  pub record HasBatchEnded (draws : ℕ) (old new : RunPass) : Type 0 where
    pub pass : IsWholeAtRest store new
    pub nothing : HasFoundNothing new.pass
    pub end : IsAtEnd new.pass.books
    pub fills : fills_in new.pass.books ≡ fills_in old.pass.books
    pub draws_left : old.pass.view.draws ≤ new.pass.view.draws + draws

  -- the pool was filled so often, and after at most 63 fills of up to 16 callers there are draws for one more batch
  pub record MayGoOn (fills : ℕ) (p : RunPass) : Type 0 where
    pub pass : IsWholeAtRest store p
    pub filled : fills_in p.pass.books ≡ fills
    pub draws_left : store.table.callers * 2 ^ 48 ≤ p.pass.view.draws + fills * 2 ^ 37

  -- nothing is left to be matched or taken, and each of so many tasks was given
  pub record HasGivenAll (tasks : ℕ) (p : RunPass) : Type 0 where
    pub pass : IsWholeAtRest store p
    pub end : IsAtEnd p.pass.books
    pub given : tasks ≤ 4096 * (fills_in p.pass.books + 1)
