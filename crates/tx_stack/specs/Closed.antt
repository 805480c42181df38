-- What stands of stacks that an attempt sees, and of those of a store that is closed.
use Rattle.std.specs.Prelude.{ℕ, List, [], get_or}
use Rattle.cell_table.specs.Pass.{PassState}
use Rattle.key_directory.specs.declared.key_test.BelowCapacity.{BelowCapacity}
use Rattle.key_directory.specs.declared.view.Claim.{Claim}
use Rattle.serial_terms.specs.declared.call.Done.{Done}
use Rattle.serial_terms.specs.declared.store.Layout.{Layout}
use Rattle.serial_terms.specs.declared.store.StoreState.{StoreState}
use Rattle.serial_terms.specs.Entries.{Entry}
use Rattle.serial_terms.specs.Renaming.{NamedDone, by_key}
use Rattle.store_contents.specs.Closed.{IsClosed, AreLaidOutBy}
use Rattle.store_meaning.specs.declared.meaning.StoreMeaning.{StoreMeaning}
use Rattle.tx_store.specs.Sees.{SeesHistory}
use Rattle.tx_store.specs.Stores.{TxView}
use Rattle.tx_stack.specs.declared.purpose.Stacks.{Stacks}
use Rattle.tx_stack.specs.Calls.{lawful_stacks, allowed_stacks}
use Rattle.tx_stack.specs.Stacks.{StandForStacks, StackCall, IsReadAs, RunsToStacks, AreStackRecords}

-- There is one legal history of allowed records. At the attempt's version the cells stand for lists, from which the attempt's calls so far, read as
-- calls on stacks, run with these answers
pub record SeesStacks {K : Type 0} (t : TxView (StoreMeaning Stacks K)) : Type 0 where
  pub sees : SeesHistory lawful_stacks allowed_stacks t.store.table.meaning t.attempt
  pub lists : ℕ → List ℕ
  pub stand : StandForStacks t.store.table.meaning.purpose.parts.items sees.state.cells lists
  pub calls : List StackCall
  pub read : IsReadAs t.store.table.meaning.purpose.parts.items (by_key t.attempt.notes) calls
  pub run : RunsToStacks t.store.table.meaning.purpose.parts.items lists calls sees.now.cells

-- The history of a store that is closed, read as calls on stacks, is a legal run of the lists: from empty stacks to those for which the plain cells
-- of its contents stand
abbrev pub ClosedStacks : Type 0
ClosedStacks = (m : StoreMeaning Stacks BelowCapacity) (p : PassState (StoreMeaning Stacks BelowCapacity) NamedDone) (claims : List Claim) (history : List (Entry Done)) (contents : StoreState)
    → IsClosed lawful_stacks allowed_stacks m p claims history contents → (layout : Layout) → AreLaidOutBy m.plan p.view.opening layout
    → AreStackRecords m.purpose.parts.items (λ c. []) history (λ c. get_or contents.cells c 0)
