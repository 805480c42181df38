-- The history of a closed store of stacks is a legal run of the lists.
use Rattle.std.proofs.Common.{◌≡◌, ℕ, List, [], get_or, sym, refl, ap, ◌∙◌, subst}
use Rattle.serial_terms.specs.declared.call.Done.{Done}
use Rattle.serial_terms.specs.declared.store.Layout.{Layout}
use Rattle.serial_terms.specs.declared.store.StoreState.{StoreState}
use Rattle.serial_terms.specs.Histories.{Runs}
use Rattle.serial_terms.specs.Names.{own_calls}
use Rattle.serial_terms.specs.Ranges.{BelowCapacity}
use Rattle.serial_terms.specs.Renaming.{by_key, by_name, SameButKeys}
use Rattle.serial_terms.specs.Stores.{state_of, opening_of}
use Rattle.store_meaning.specs.declared.meaning.StoreMeaning.{StoreMeaning}
use Rattle.tx_store.specs.Sees.{SeesHistory}
use Rattle.tx_store.specs.Stores.{TxView}
use Rattle.tx_stack.specs.declared.purpose.Stacks.{Stacks}
use Rattle.tx_stack.specs.Calls.{lawful_stacks, allowed_stacks, IsAllowedSoFar}
use Rattle.tx_stack.specs.Closed.{SeesStacks, ClosedStacks}
use Rattle.tx_stack.specs.Laws.{RecordsRunOnLists, StacksOpenEmpty}
use Rattle.tx_stack.specs.Runs.{all_run}
use Rattle.tx_stack.specs.Stacks.{AreStackRecords}

contents_are : (layout : Layout) (contents : StoreState) → (state_of layout contents).cells ≡ (λ c. get_or contents.cells c 0)
unfolding state_of
contents_are layout contents = refl

pub closes : StacksOpenEmpty → RecordsRunOnLists → ClosedStacks
closes empty run m p claims history contents closed layout laid =
    let serial = closed.serial layout laid in
    let parts = m.purpose.parts.items in
    subst (λ (cells : ℕ → ℕ). AreStackRecords parts (λ c. []) history cells) (contents_are layout contents)
    (run parts (opening_of layout) (state_of layout contents) (λ c. []) (empty parts serial.lawful.1.apart layout) history closed.may_be serial.legal.run)

-- what an open attempt sees of the lists
pub sees_stacks : {K : Type 0} (t : TxView (StoreMeaning Stacks K)) → IsAllowedSoFar t → SameButKeys BelowCapacity (by_key t.attempt.notes) (by_name t.attempt.notes)
    → SeesHistory lawful_stacks allowed_stacks t.store.table.meaning t.attempt → SeesStacks t
sees_stacks t allowed named sees =
    let own = own_calls BelowCapacity (λ c j low. low) (by_key t.attempt.notes) (by_name t.attempt.notes) named in
    record {
      sees = sees;
      lists = sees.there.0.0;
      stand = sees.there.0.1;
      calls = allowed.0;
      read = allowed.1;
      run = all_run t.store.table.meaning.purpose.parts.items allowed.0 sees.state sees.now sees.there.0.0 sees.there.0.1 allowed.1.each
          (subst (λ (ds : List Done). Runs sees.state ds sees.now) (own ∙ allowed.1.all) sees.run);
    }
