-- The stacks that plain cells stand for, and the calls on stacks that a record's calls are read as.
use Rattle.std.specs.Prelude.{◌≡◌, ◌≢◌, ◌⊎◌, ℕ, zero, suc, ◌+◌, ◌-◌, ◌<◌, ◌≤◌, Bool, true, false, nat_lt, List, [], ◌∷◌, ◌++◌, length, Option, Some, None}
use Rattle.serial_terms.specs.declared.call.Call.{Call}
use Rattle.serial_terms.specs.declared.call.Call.TheVariants.{CellGet, CellPut}
use Rattle.serial_terms.specs.declared.call.Reply.{Reply}
use Rattle.serial_terms.specs.declared.call.Reply.TheVariants.{Nothing, Value}
use Rattle.serial_terms.specs.declared.call.Done.{Done}
use Rattle.serial_terms.specs.Counts.{with_at}
use Rattle.serial_terms.specs.Entries.{Entry, Each, OrderedBy, IsIn}
use Rattle.serial_terms.specs.Renaming.{entries_with}
use Rattle.serial_terms.specs.Runs.{RunsBy, LegalBy}
use Rattle.serial_terms.specs.Serial.{State, rest}
use Rattle.tx_stack.specs.declared.part.StackPart.{StackPart}

-- ---- what cells stand for

-- the n items of the stack whose length stands in the cell `base`, the top first: item k, from the bottom, stands in cell base + 1 + k
abbrev pub items_at : (ℕ → ℕ) → ℕ → ℕ → List ℕ
items_at cells base zero = []
items_at cells base (suc n) = cells (base + 1 + n) ∷ items_at cells base n

-- no cell is one of both
abbrev pub AreApart : StackPart → StackPart → Type 0
AreApart p q = (p.base + p.capacity < q.base) ⊎ (q.base + q.capacity < p.base)

module _ (parts : List StackPart) where
  -- The parts have no cell in common, each length is at most the capacity, and the items below the length are the stack's list. A list is
  -- named by the cell of its length
  pub record StandForStacks (cells : ℕ → ℕ) (lists : ℕ → List ℕ) : Type 0 where
    pub apart : OrderedBy AreApart parts
    pub within : (p : StackPart) → IsIn p parts → cells p.base ≤ p.capacity
    pub items : (p : StackPart) → IsIn p parts → lists p.base ≡ items_at cells p.base (cells p.base)
    pub others : (c : ℕ) → ((p : StackPart) → IsIn p parts → p.base ≢ c) → lists c ≡ []

  -- the plain cells of the state stand for stacks
  abbrev pub IsLawful : State → Type 0
  IsLawful s = (lists : ℕ → List ℕ) × StandForStacks s.cells lists

-- ---- calls on stacks

-- what was done with a stack
pub data Act : Type 0 where
  -- its length was read and nothing else, since it was asked for, or the stack was empty or full
  counted : Act
  -- the value was put on top
  pushed : ℕ → Act
  -- the value was read on top
  shown : ℕ → Act
  -- the value was taken off the top
  popped : ℕ → Act

-- a call on a stack, with what it was answered
pub record StackCall : Type 0 where
  pub part : StackPart
  -- how many items the stack had
  pub had : ℕ
  -- it was made in a child
  pub child : Bool
  pub act : Act

module _ (p : StackPart) (n : ℕ) where
  -- there is room for an item, or there is an item
  abbrev pub HasRoom : Act → Type 0
  HasRoom counted = Unit {0}
  HasRoom (pushed v) = n < p.capacity
  HasRoom (shown v) = (0 < n) × (n ≤ p.capacity)
  HasRoom (popped v) = (0 < n) × (n ≤ p.capacity)

  module _ (child : Bool) where
    abbrev pub made : Call → Reply → Done
    made call reply = record { call = call; reply = reply; child = child }

    -- the calls of cells behind that which reads the length
    abbrev pub more_calls : Act → List Done
    more_calls counted = []
    more_calls (pushed v) = made (CellPut (p.base + 1 + n) v) Nothing ∷ made (CellPut p.base (n + 1)) Nothing ∷ []
    more_calls (shown v) = made (CellGet (p.base + n)) (Value v) ∷ []
    more_calls (popped v) = made (CellGet (p.base + n)) (Value v) ∷ made (CellPut p.base (n - 1)) Nothing ∷ []

-- the calls of cells that a call on a stack makes: the first one reads the cell of its length
abbrev pub cell_calls : StackCall → List Done
cell_calls c = made c.part c.had c.child (CellGet c.part.base) (Value c.had) ∷ more_calls c.part c.had c.child c.act

abbrev pub all_cell_calls : List StackCall → List Done
all_cell_calls [] = []
all_cell_calls (c ∷ cs) = cell_calls c ++ all_cell_calls cs

module _ (parts : List StackPart) where
  -- it is a call on one of the stacks
  pub record IsStackCall (c : StackCall) : Type 0 where
    pub part : IsIn c.part parts
    pub room : HasRoom c.part c.had c.act

  -- the calls of a record are these calls on stacks, one after another
  pub record IsReadAs (dones : List Done) (calls : List StackCall) : Type 0 where
    pub each : Each IsStackCall calls
    pub all : dones ≡ all_cell_calls calls

  -- a record is allowed that is read as calls on stacks
  abbrev pub IsAllowed : List Done → Type 0
  IsAllowed dones = (calls : List StackCall) × IsReadAs dones calls

-- ---- what an answer says was done with a stack of n items, of at most so many

abbrev pub pushes : ℕ → Bool → Act
pushes v true = pushed v
pushes v false = counted

abbrev pub shows : Option ℕ → Act
shows (Some v) = shown v
shows None = counted

abbrev pub pops : Option ℕ → Act
pops (Some v) = popped v
pops None = counted

-- the answer is the length
abbrev pub IsLength : ℕ → ℕ → ℕ → Type 0
IsLength capacity n answer = (answer ≡ n) × (n ≤ capacity)

-- an item was put on exactly where there was room
abbrev pub IsPutOn : ℕ → ℕ → Bool → Type 0
IsPutOn capacity n added = added ≡ nat_lt n capacity

-- there is an answer exactly where there is an item
abbrev pub IsItemOf : ℕ → ℕ → Option ℕ → Type 0
IsItemOf capacity n (Some v) = (0 < n) × (n ≤ capacity)
IsItemOf capacity n None = n ≡ 0

-- ---- stacks as lists, the top first

-- what a list has to be where this was done with it
abbrev pub IsListFor : ℕ → List ℕ → Act → Type 0
IsListFor capacity xs counted = Unit {0}
IsListFor capacity xs (pushed v) = length xs < capacity
IsListFor capacity xs (shown v) = (below : List ℕ) × (xs ≡ v ∷ below)
IsListFor capacity xs (popped v) = (below : List ℕ) × (xs ≡ v ∷ below)

-- the lists may answer so: this one has the length that was read, a push finds it below its capacity, and what is read or taken is its top
pub record IsAnswered (lists : ℕ → List ℕ) (c : StackCall) : Type 0 where
  pub had : length (lists c.part.base) ≡ c.had
  pub list : IsListFor c.part.capacity (lists c.part.base) c.act

abbrev pub lists_after : (ℕ → List ℕ) → ℕ → Act → ℕ → List ℕ
lists_after lists base counted = lists
lists_after lists base (pushed v) = with_at lists base (v ∷ lists base)
lists_after lists base (shown v) = lists
lists_after lists base (popped v) = with_at lists base (rest (lists base))

-- the lists after the call
abbrev pub stepped : (ℕ → List ℕ) → StackCall → ℕ → List ℕ
stepped lists c = lists_after lists c.part.base c.act

-- the calls run one after another from lists to lists, each with an answer that the lists may give
abbrev pub RunsOnLists : (ℕ → List ℕ) → List StackCall → (ℕ → List ℕ) → Type 0
RunsOnLists = RunsBy IsAnswered stepped

module _ (parts : List StackPart) where
  -- each list is within its capacity
  abbrev pub AreWithin : (ℕ → List ℕ) → Type 0
  AreWithin lists = (p : StackPart) → IsIn p parts → length (lists p.base) ≤ p.capacity

  -- the records run one after another from lists to lists, each leaves the lists within their capacities, and one that is no writer leaves
  -- them as they were
  abbrev pub IsLegalOnLists : (ℕ → List ℕ) → List (Entry StackCall) → (ℕ → List ℕ) → Type 0
  IsLegalOnLists = LegalBy IsAnswered stepped AreWithin

  -- the calls run from these lists to lists for which the cells stand
  pub record RunsToStacks (lists : ℕ → List ℕ) (calls : List StackCall) (cells : ℕ → ℕ) : Type 0 where
    pub end : ℕ → List ℕ
    pub run : RunsOnLists lists calls end
    pub stand : StandForStacks parts cells end

  -- The records of a history are read as calls on stacks, which are a legal run from these lists to lists for which the cells stand
  pub record AreStackRecords (lists : ℕ → List ℕ) (history : List (Entry Done)) (cells : ℕ → ℕ) : Type 0 where
    pub calls : List (Entry StackCall)
    pub each : Each (λ e. Each (IsStackCall parts) e.dones) calls
    pub all : history ≡ entries_with all_cell_calls calls
    pub end : ℕ → List ℕ
    pub legal : IsLegalOnLists lists calls end
    pub stand : StandForStacks parts cells end

-- ---- an item goes from one stack to another

-- it is on top of the one, then gone from there and on top of the other, and all else is as it was
pub record IsMoved (from to v : ℕ) (before after : ℕ → List ℕ) : Type 0 where
  pub top : before from ≡ v ∷ after from
  pub there : after to ≡ v ∷ before to
  pub others : (c : ℕ) → c ≢ from → c ≢ to → after c ≡ before c
