-- What a view knows at any moment, by itself.
use Rattle.std.specs.Prelude.{◌≡◌, ℕ, ◌*◌, ◌^◌, ◌<◌, ◌≤◌, List, Some}
use Rattle.cell_table.specs.Sorted.{Each}
use Rattle.cell_table.specs.History.{Outcome, decided, records_by, IsValue, IsNewest}
use Rattle.cell_table.specs.declared.view.Record.{Record}
use Rattle.cell_table.specs.declared.view.View.{View}
use Rattle.cell_table.specs.Rule.{IsRecord, IsAscending, FitsEvent}

module _ {M D : Type 0} (lawful : M → List ℕ → Type 0) (explains : M → List (ℕ × ℕ) → List (ℕ × ℕ) → List D → Type 0) where
  -- There is one history of lawful records with this view in it: of the view's own callers it has exactly the records of their books, and all that the view ever found is right in it.
  -- Once true of a view it stays true: it names no moment.
  pub record LegalNow (v : View M D) : Type 0 where
    pub meaning : M
    -- what became of each version, and how many were drawn
    pub history : ℕ → Outcome D
    pub clock : ℕ
    pub is : v.meaning ≡ Some meaning
    pub known : v.known ≤ clock
    pub few : v.total ≤ 4096
    pub draws : v.draws ≤ v.total * 2 ^ 48
    pub lawful_opening : lawful meaning v.opening
    -- each decided record is explained, and what it observed stands just before its place
    pub records : (w k : ℕ) (r : Record D) → history w ≡ decided k r → IsRecord lawful explains meaning v.opening history w r
    pub callers : (w k : ℕ) (r : Record D) → history w ≡ decided k r → (w ≤ clock) × (k < v.total)
    pub order : IsAscending v.books
    pub books : Each (λ b. (b.caller < v.total) × (b.records ≡ records_by b.caller history clock)) v.books
    pub values : Each (λ t. (t.1 ≤ clock) × IsValue v.opening history t.0 t.1 t.2) v.values
    pub validations : Each (λ t. (t.2 ≤ clock) × IsNewest history t.0 t.1 t.2) v.validations
    pub trail : Each (FitsEvent history clock) v.trail
