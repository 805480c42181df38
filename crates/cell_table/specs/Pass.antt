-- A table and a pass as contracts see them.
use Rattle.std.specs.Prelude.{◌≡◌, ℕ, zero, suc, ◌+◌, ◌-◌, ◌*◌, ◌/◌, Bool, true, false, max, List, [], ◌∷◌, ◌++◌, length, take, drop, reverse, Some, None, Option}
use Rattle.atomic_table.specs.Seated.{TableId}
use Rattle.cell_table.specs.Sorted.{merge_by}
use Rattle.cell_table.specs.Cells.{has, Leaves}
use Rattle.cell_table.specs.declared.view.Record.{Record}
use Rattle.cell_table.specs.declared.view.Event.{Event}
use Rattle.cell_table.specs.declared.view.NotedBook.{NotedBook}
use Rattle.cell_table.specs.declared.view.View.{View}
use Rattle.cell_table.specs.declared.view.Stage.{Stage}
use Rattle.cell_table.specs.declared.view.Stage.TheVariants.{Open, Drawn, Decided}
use Rattle.cell_table.specs.Rule.{actor, cells_of, without, first_view}
use Rattle.cell_table.specs.Steps.{AllHeld, MayStore, first_put, next_put, given, due, kept_part, new_part, both_parts, clocked}

pub record TableState (M : Type 0) : Type 0 where
  -- which table it is
  pub id : TableId
  pub meaning : M
  -- the values at the opening, one for each cell
  pub opening : List ℕ
  -- the number of callers
  pub callers : ℕ

pub record PassState (M D : Type 0) : Type 0 where
  pub view : View M D
  pub table : TableId
  -- the books of its callers, the least caller first
  pub books : List (NotedBook D)
  -- the place that it has seen
  pub seen : ℕ
  -- how many callers it may hold
  pub room : ℕ
  -- how many entries the acting caller's book has room for
  pub reserved : ℕ
  -- how many more locks it may take
  pub places : ℕ
  -- the record that the attempt is about to decide
  pub plan : Option (Record D)

module _ {M D : Type 0} where
  -- the pass is one of the table
  abbrev pub IsPassOf : TableState M → PassState M D → Type 0
  IsPassOf t p = (p.table ≡ t.id) × (p.view.meaning ≡ Some t.meaning) × (p.view.opening ≡ t.opening) × (p.view.total ≡ t.callers)

  -- its steps, the first one first
  abbrev pub trail_of : PassState M D → List Event
  trail_of p = reverse p.view.trail

  -- the caller under which it acts
  abbrev pub acting : PassState M D → ℕ
  acting p = actor p.view.books p.view.total

  -- it holds every caller number of its table
  abbrev pub IsSole : PassState M D → Type 0
  IsSole p = length p.books ≡ p.view.total

  abbrev pub IsHeld : PassState M D → ℕ → Type 0
  IsHeld p c = has c (cells_of p.view.held) ≡ true

  abbrev pub with_view : PassState M D → View M D → PassState M D
  with_view p v = record p { view = v }

-- the acting caller's book with one more entry
abbrev pub note : {D : Type 0} → ℕ → Bool → Record D → List (NotedBook D) → List (NotedBook D)
note place writer r [] = []
note place writer r (b ∷ bs) = record { caller = b.caller; entries = b.entries ++ record { place = place; writer = writer; content = r } ∷ [] } ∷ bs

abbrev pub book_key : {D : Type 0} → NotedBook D → ℕ
book_key b = b.caller

abbrev pub version_drawn : {D : Type 0} → Stage D → ℕ
version_drawn Open = 0
version_drawn (Drawn u) = u
version_drawn (Decided u r stored) = u

-- an undecided plan is dropped with the last held cell
abbrev pub plan_after : {D : Type 0} → List (ℕ × ℕ) → Option (Record D) → Option (Record D)
plan_after [] plan = None
plan_after (t ∷ ts) plan = plan

module _ {M D : Type 0} where
  -- The value x may be stored in the cell c. Before the first store each cell that the plan writes is held.
  abbrev pub MayPut : PassState M D → ℕ → ℕ → Option (Record D) → Type 0
  MayPut p c x (Some r) = Leaves r.writes c x × AllHeld r.writes p.view.held
  MayPut p c x None = MayStore c x p.view.held p.view.stage

  -- the first store of a value decides the plan
  abbrev pub after_put : PassState M D → ℕ → ℕ → Option (Record D) → PassState M D
  after_put p c x (Some r) = record p { view = first_put p.view (version_drawn p.view.stage) r c x; books = note (version_drawn p.view.stage) true r p.books; seen = version_drawn p.view.stage; reserved = p.reserved - 1; plan = None }
  after_put p c x None = record p { view = next_put p.view c x }

  abbrev pub after_give : PassState M D → ℕ → PassState M D
  after_give p c = record p { view = given p.view c (2 * due c p.view.held p.view.stage); places = p.places + 1; plan = plan_after (without c p.view.held) p.plan }

  abbrev pub after_entry : PassState M D → ℕ → Record D → PassState M D
  after_entry p place r = record p { books = note place false r p.books; seen = place; reserved = p.reserved - 1 }

abbrev pub new_noted : {D : Type 0} → ℕ → ℕ → List (NotedBook D)
new_noted k zero = []
new_noted k (suc n) = record { caller = k; entries = [] } ∷ new_noted (suc k) n

module _ {M D : Type 0} where
  -- the pass of a new table
  abbrev pub opened : TableState M → PassState M D
  opened t = record { view = first_view t.meaning t.opening t.callers; table = t.id; books = new_noted 0 t.callers; seen = 0; room = t.callers; reserved = 0; places = 8; plan = None }

  -- the draws that go with n of its callers
  abbrev pub share : PassState M D → ℕ → ℕ
  share p n = n * (p.view.draws / length p.books)

  -- what a pass keeps when the n greatest callers leave, and the pass that gets them
  abbrev pub split_kept : PassState M D → ℕ → PassState M D
  split_kept p n = record p { view = kept_part (length p.books - n) (share p n) p.view; books = take (length p.books - n) p.books }

  abbrev pub split_new : PassState M D → ℕ → ℕ → PassState M D
  split_new p n reserved = record { view = new_part (length p.books - n) (share p n) p.view; table = p.table; books = drop (length p.books - n) p.books; seen = p.seen; room = n; reserved = reserved; places = 8; plan = None }

  -- both passes in one, after a load of the clock that gave r
  abbrev pub joined : PassState M D → PassState M D → ℕ → ℕ → PassState M D
  joined p q r reserved = record p { view = clocked (both_parts p.view q.view) r; books = merge_by book_key q.books p.books; seen = max p.seen q.seen; reserved = reserved }
