-- Calls of cells that are read as calls on stacks run on the lists, so that allowed records keep the cells lawful: facts for the purpose that is
-- proved where it is stated.
use Rattle.std.proofs.Common.{◌≡◌, ℕ, suc, ◌+◌, ◌-◌, ◌<◌, ◌≤◌, Bool, List, [], ◌∷◌, ◌++◌, length, append_assoc, sym, refl, ap, ◌∙◌, subst, arith}
use Rattle.serial_terms.specs.declared.call.Reply.TheVariants.{Value}
use Rattle.serial_terms.specs.declared.call.Done.{Done}
use Rattle.serial_terms.specs.Counts.{with_at}
use Rattle.serial_terms.specs.Entries.{Each, IsIn}
use Rattle.serial_terms.specs.Facts.{with_at_same, with_at_other}
use Rattle.serial_terms.specs.Histories.{Runs}
use Rattle.serial_terms.specs.Names.{own_calls}
use Rattle.serial_terms.specs.Ranges.{BelowCapacity}
use Rattle.serial_terms.specs.Renaming.{SameButKeys}
use Rattle.serial_terms.specs.Serial.{State, put_cell, rest}
use Rattle.tx_stack.specs.declared.part.StackPart.{StackPart}
use Rattle.tx_stack.specs.Stacks.{items_at, StandForStacks, IsLawful, Act, counted, pushed, shown, popped, StackCall, HasRoom, cell_calls, all_cell_calls, IsStackCall, IsAllowed, IsAnswered, lists_after, stepped, RunsToStacks}
use Rattle.tx_stack.specs.Facts.{items_count, items_same, items_top, changed}

value_is : (m n : ℕ) → Value m ≡ Value n → n ≡ m
value_is m n e = let same : m ≡ n = cc in sym same

module _ (parts : List StackPart) (s : State) (lists : ℕ → List ℕ) (l : StandForStacks parts s.cells lists) (p : StackPart) (there : IsIn p parts) where
  module _ (n : ℕ) (read : s.cells p.base ≡ n) where
    list_is : lists p.base ≡ items_at s.cells p.base n
    list_is = l.items p there ∙ ap (items_at s.cells p.base) read

    counts : length (lists p.base) ≡ n
    counts = ap length list_is ∙ items_count s.cells p.base n

    -- the value stands behind the items, and then the length is one more
    after_push : (v : ℕ) → n < p.capacity → StandForStacks parts (put_cell (put_cell s (p.base + 1 + n) v) p.base (n + 1)).cells (with_at lists p.base (v ∷ lists p.base))
    after_push v room =
        let mid = with_at s.cells (p.base + 1 + n) v in
        let now = with_at mid p.base (n + 1) in
        let long : now p.base ≡ n + 1 = with_at_same mid p.base (n + 1) p.base refl in
        let top : now (p.base + 1 + n) ≡ v = with_at_other mid p.base (n + 1) (p.base + 1 + n) (λ e. omega arith) ∙ with_at_same s.cells (p.base + 1 + n) v (p.base + 1 + n) refl in
        let below = items_same s.cells now p.base n (λ c low high. sym (with_at_other mid p.base (n + 1) c (λ e. omega arith) ∙ with_at_other s.cells (p.base + 1 + n) v c (λ e. omega arith))) in
        let whole : v ∷ lists p.base ≡ items_at now p.base (suc n) = (λ i. sym top i ∷ (list_is ∙ below) i) in
        let more : suc n ≡ n + 1 = omega arith in
        changed parts s.cells now lists l p there (v ∷ lists p.base) (omega (arith, long)) (whole ∙ ap (items_at now p.base) (more ∙ sym long))
        (λ c out. with_at_other mid p.base (n + 1) c (λ e. out (omega arith) (omega arith)) ∙ with_at_other s.cells (p.base + 1 + n) v c (λ e. out (omega arith) (omega arith)))

    module _ (v : ℕ) (some : 0 < n) (few : n ≤ p.capacity) (top : s.cells (p.base + n) ≡ v) where
      top_is : lists p.base ≡ v ∷ items_at s.cells p.base (n - 1)
      top_is = list_is ∙ (items_top s.cells p.base n some ∙ ap (λ (x : ℕ). x ∷ items_at s.cells p.base (n - 1)) top)

      -- the length is one less
      after_pop : StandForStacks parts (put_cell s p.base (n - 1)).cells (with_at lists p.base (rest (lists p.base)))
      after_pop =
          let now = with_at s.cells p.base (n - 1) in
          let long : now p.base ≡ n - 1 = with_at_same s.cells p.base (n - 1) p.base refl in
          let below = items_same s.cells now p.base (n - 1) (λ c low high. sym (with_at_other s.cells p.base (n - 1) c (λ e. omega arith))) in
          changed parts s.cells now lists l p there (rest (lists p.base)) (omega (arith, long)) (ap rest top_is ∙ (below ∙ ap (items_at now p.base) (sym long)))
          (λ c out. with_at_other s.cells p.base (n - 1) c (λ e. out (omega arith) (omega arith)))

  -- the calls of cells of one call on a stack, and then others
  pub one_runs : (n : ℕ) (b : Bool) (act : Act) → HasRoom p n act → (ds : List Done) (t : State)
      → Runs s (cell_calls (record { part = p; had = n; child = b; act = act }) ++ ds) t
      → (u : State) × Runs u ds t × IsAnswered lists (record { part = p; had = n; child = b; act = act }) × StandForStacks parts u.cells (lists_after lists p.base act)
  one_runs n b counted room ds t r = (s, r.1, record { had = counts n (value_is n (s.cells p.base) r.0); list = tt }, l)
  one_runs n b (pushed v) room ds t r =
      let read = value_is n (s.cells p.base) r.0 in
      let count = counts n read in
      (put_cell (put_cell s (p.base + 1 + n) v) p.base (n + 1), r.1.1.1, record { had = count; list = subst (λ (m : ℕ). m < p.capacity) (sym count) room }, after_push n read v room)
  one_runs n b (shown v) room ds t r =
      let read = value_is n (s.cells p.base) r.0 in
      let top = value_is v (s.cells (p.base + n)) r.1.0 in
      (s, r.1.1, record { had = counts n read; list = (items_at s.cells p.base (n - 1), top_is n read v room.0 room.1 top) }, l)
  one_runs n b (popped v) room ds t r =
      let read = value_is n (s.cells p.base) r.0 in
      let top = value_is v (s.cells (p.base + n)) r.1.0 in
      (put_cell s p.base (n - 1), r.1.1.1, record { had = counts n read; list = (items_at s.cells p.base (n - 1), top_is n read v room.0 room.1 top) }, after_pop n read v room.0 room.1 top)

-- calls that are read as calls on stacks, one after another
pub all_run : (parts : List StackPart) (calls : List StackCall) (s t : State) (lists : ℕ → List ℕ) → StandForStacks parts s.cells lists → Each (IsStackCall parts) calls
    → Runs s (all_cell_calls calls) t → RunsToStacks parts lists calls t.cells
all_run parts [] s t lists l each r = record { end = lists; run = refl; stand = subst (λ (u : State). StandForStacks parts u.cells lists) r l }
all_run parts (c ∷ cs) s t lists l each r =
    let one = one_runs parts s lists l c.part each.0.part c.had c.child c.act each.0.room (all_cell_calls cs) t r in
    let more = all_run parts cs one.0 t (stepped lists c) one.3 each.1 one.1 in
    record { end = more.end; run = (one.2, more.run); stand = more.stand }

-- a record that is allowed leads from a lawful state to a lawful one
pub ends_lawful : (parts : List StackPart) (dones : List Done) (s t : State) → IsLawful parts s → IsAllowed parts dones → Runs s dones t → IsLawful parts t
ends_lawful parts dones s t l allowed r =
    let runs = all_run parts allowed.0 s t l.0 l.1 allowed.1.each (subst (λ (ds : List Done). Runs s ds t) allowed.1.all r) in
    (runs.end, runs.stand)

-- the same record with other keys is the same record, where each key is its own name
pub renamed_allowed : (parts : List StackPart) (dones others : List Done) → SameButKeys BelowCapacity dones others → IsAllowed parts dones → IsAllowed parts others
renamed_allowed parts dones others same allowed = subst (IsAllowed parts) (sym (own_calls BelowCapacity (λ c j low. low) dones others same)) allowed

-- where calls that are read as calls on stacks run from a lawful state, the length of a stack that is read behind them is within its capacity
pub read_within : (parts : List StackPart) (p : StackPart) → IsIn p parts → (n : ℕ) (b : Bool) (calls : List StackCall) (s t : State) (lists : ℕ → List ℕ) → StandForStacks parts s.cells lists
    → Each (IsStackCall parts) calls → Runs s (all_cell_calls calls ++ cell_calls (record { part = p; had = n; child = b; act = counted })) t → n ≤ p.capacity
read_within parts p there n b [] s t lists l each r =
    let read = value_is n (s.cells p.base) r.0 in
    let few = l.within p there in
    omega (arith, read, few)
read_within parts p there n b (c ∷ cs) s t lists l each r =
    let next = cell_calls (record { part = p; had = n; child = b; act = counted }) in
    let one = one_runs parts s lists l c.part each.0.part c.had c.child c.act each.0.room (all_cell_calls cs ++ next) t
    (subst (λ (ds : List Done). Runs s ds t) (append_assoc (cell_calls c) (all_cell_calls cs) next) r) in
    read_within parts p there n b cs one.0 t (stepped lists c) one.3 each.1 one.1
