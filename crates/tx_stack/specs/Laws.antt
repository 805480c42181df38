-- What is true of all records that the purpose of stacks allows.
use Rattle.std.specs.Prelude.{◌≡◌, ◌≢◌, ℕ, Bool, List, [], ◌∷◌, Option}
use Rattle.serial_terms.specs.declared.call.Done.{Done}
use Rattle.serial_terms.specs.declared.store.Layout.{Layout}
use Rattle.serial_terms.specs.Entries.{Entry, Each, OrderedBy}
use Rattle.serial_terms.specs.Histories.{Runs, IsLegalRun}
use Rattle.serial_terms.specs.Serial.{State}
use Rattle.serial_terms.specs.Stores.{opening_of}
use Rattle.tx_stack.specs.declared.part.StackPart.{StackPart}
use Rattle.tx_stack.specs.Stacks.{AreApart, StandForStacks, pushed, shown, StackCall, IsReadAs, IsAllowed, pops, IsItemOf, RunsOnLists, RunsToStacks, AreStackRecords, IsMoved}

-- a store opens with empty stacks, where no two parts have a cell in common
abbrev pub StacksOpenEmpty : Type 0
StacksOpenEmpty = (parts : List StackPart) → OrderedBy AreApart parts → (layout : Layout) → StandForStacks parts (opening_of layout).cells (λ c. [])

-- a record is read as calls on stacks in one way only
abbrev pub RecordsAreReadInOneWay : Type 0
RecordsAreReadInOneWay = (parts : List StackPart) → OrderedBy AreApart parts → (dones : List Done) (xs ys : List StackCall)
    → IsReadAs parts dones xs → IsReadAs parts dones ys → xs ≡ ys

-- where calls run from cells that stand for stacks, the calls on stacks that they are read as run on the lists
abbrev pub CallsRunOnLists : Type 0
CallsRunOnLists = (parts : List StackPart) (s t : State) (lists : ℕ → List ℕ) → StandForStacks parts s.cells lists
    → (dones : List Done) (calls : List StackCall) → IsReadAs parts dones calls → Runs s dones t → RunsToStacks parts lists calls t.cells

-- a legal run of allowed records, read as calls on stacks, is a legal run of the lists
abbrev pub RecordsRunOnLists : Type 0
RecordsRunOnLists = (parts : List StackPart) (s t : State) (lists : ℕ → List ℕ) → StandForStacks parts s.cells lists
    → (history : List (Entry Done)) → Each (λ e. IsAllowed parts e.dones) history → IsLegalRun s history t → AreStackRecords parts lists history t.cells

-- the calls of a move from a stack of n items to one of m: the top is read and put on the other stack, and then the item is taken off that is
-- on top of the first, which has k items
abbrev pub move_calls : StackPart → StackPart → Bool → ℕ → ℕ → ℕ → ℕ → Option ℕ → List StackCall
move_calls from to b n m k v item = record { part = from; had = n; child = b; act = shown v } ∷ record { part = to; had = m; child = b; act = pushed v }
    ∷ record { part = from; had = k; child = b; act = pops item } ∷ []

-- they take the item off the one list and put it on the other, and leave all else
abbrev pub MovesMoveTheTop : Type 0
MovesMoveTheTop = (from to : StackPart) (b : Bool) (n m k v : ℕ) (item : Option ℕ) (before after : ℕ → List ℕ) → from.base ≢ to.base → IsItemOf from.capacity k item
    → RunsOnLists before (move_calls from to b n m k v item) after → IsMoved from.base to.base v before after
