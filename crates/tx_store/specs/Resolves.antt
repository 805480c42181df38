-- How the additions of an attempt are placed at its commit, one part after another: first the queues, then the logs.
use Rattle.std.specs.Prelude.{◌≡◌, ◌≢◌, ℕ, ◌+◌, ◌-◌, ◌*◌, ◌<◌, ◌≤◌, ◌⊎◌, nat_eq, List, [], ◌++◌, length, Result, Ok, Err}
use Rattle.std.specs.List.{IsDistinct}
use Rattle.cell_table.specs.Cells.{AllHold, after}
use Rattle.cell_table.specs.Sorted.{Each}
use Rattle.cell_table.specs.Pass.{PassState, IsHeld, trail_of}
use Rattle.attempt_lists.specs.Cells.{Entries}
use Rattle.serial_terms.specs.Renaming.{NamedDone}
use Rattle.serial_terms.specs.Sights.{part_of}
use Rattle.store_layout.specs.Shapes.{Shape, Object}
use Rattle.store_layout.specs.States.{IsFormed}
use Rattle.store_meaning.specs.Follows.{Follows, IsPlacedOn, state_with}
use Rattle.store_parts.specs.Parts.{progress}
use Rattle.tx_core.specs.Additions.{HasSpare, count_in}
use Rattle.tx_core.specs.Calls.{GoesOn, HoldsWrites, NothingWaits, waiting}
use Rattle.tx_core.specs.Causes.{GrewBy}
use Rattle.tx_core.specs.Sequences.{CellSequence, IsSettled, IsRefused, Placing}
use Rattle.tx_core.specs.Tx.{Attempt}
use Rattle.tx_core.specs.declared.resolve_end.ResolveEnd.{ResolveEnd}

-- how many parts there are
abbrev pub parts_of : Shape → ℕ
parts_of s = length s.queues + length s.logs

module _ {M D : Type 0} where
  -- each cell that was observed since then is held
  pub record ObservesHeld (a b : Attempt M D) : Type 0 where
    pub more : Entries
    pub observed : b.observations ≡ a.observations ++ more
    pub held : Each (λ o. IsHeld b.pass o.0) more

  -- each cell that came to be held took at most three steps, and there were no others
  pub record LocksOnly (p q : PassState M D) : Type 0 where
    pub least : length p.view.held ≤ length q.view.held
    pub steps : GrewBy (3 * (length q.view.held - length p.view.held)) (trail_of p) (trail_of q)

-- the cells of the part, by the number under which values wait for it
pub record IsPart (s : Shape) (p : ℕ) (part : CellSequence) : Type 0 where
  pub number : part.part ≡ p
  pub capacity : (cells : List ℕ) (waits : ℕ → List ℕ) → (part_of (length s.queues) (state_with s cells waits) p).capacity ≡ part.capacity

module _ {M : Type 0} (s : Shape) where
  -- with what waits the part has n values, wherever all holds that is observed by now
  abbrev pub IsLong : ℕ → Attempt M NamedDone → Attempt M NamedDone → ℕ → Type 0
  IsLong p old new n = (cells : List ℕ) → AllHold cells new.observations → IsFormed s (after cells old.writes)
      → length (part_of (length s.queues) (state_with s (after cells old.writes) (λ q. waiting q old)) p).items ≡ n

  -- what waited stands in the cells of the part, or it is refused
  abbrev pub PlacesOrRefuses : {A : Type 0} → ℕ → CellSequence → Attempt M NamedDone → Attempt M NamedDone → Result A ResolveEnd → Type 0
  PlacesOrRefuses p part old new (Ok done) = ((o : Object) × IsPlacedOn s o (progress old) (progress new)) × IsSettled part old new
  PlacesOrRefuses p part old new (Err end) = (waiting p old ≢ []) × IsRefused part (IsLong p old new) old new end

  -- what the placing of a part's additions leaves
  pub record Resolves {A : Type 0} (p : ℕ) (old new : Attempt M NamedDone) (result : Result A ResolveEnd) : Type 0 where
    pub part : CellSequence
    pub is : IsPart s p part
    pub nothing : waiting p old ≡ [] → new ≡ old
    pub leaves : Placing part old new
    pub ends : PlacesOrRefuses p part old new result

  -- The additions to the parts below n are placed. The attempt goes on, and the calls run to the state that it has
  pub record IsResolvedTo (n : ℕ) (a b : Attempt M NamedDone) : Type 0 where
    pub same : b ≡ record a { pass = b.pass; observations = b.observations; versions = b.versions; writes = b.writes; additions = b.additions; spare = b.spare; committing = b.committing }
    pub pass : GoesOn a.pass b.pass
    pub emptied : (p : ℕ) → p < n → waiting p b ≡ []
    pub waits : (p : ℕ) → n ≤ p → waiting p b ≡ waiting p a
    pub follows : Follows s (progress b) a.notes
    pub writes_held : HoldsWrites b
    pub spare : (parts : List ℕ) → IsDistinct nat_eq parts → Each (λ p. n ≤ p) parts → HasSpare b.spare (2 * count_in (λ p. waiting p b) parts)
    pub observes : ObservesHeld a b
    pub locks : LocksOnly a.pass b.pass
    pub wrote : (((p : ℕ) → p < n → waiting p a ≡ []) × (b.writes ≡ a.writes)) ⊎ (0 < length b.writes)

  -- nothing waits any more
  pub record IsResolved (a b : Attempt M NamedDone) : Type 0 where
    pub parts : ℕ
    pub to : IsResolvedTo parts a b
    pub nothing : NothingWaits b

  -- the placing came to a part whose additions were refused
  pub record IsRefusedIn (a b : Attempt M NamedDone) (end : ResolveEnd) : Type 0 where
    pub at : ℕ
    pub there : at < parts_of s
    pub middle : Attempt M NamedDone
    pub before : IsResolvedTo at a middle
    pub part : CellSequence
    pub is : IsPart s at part
    pub some : waiting at middle ≢ []
    pub leaves : Placing part middle b
    pub refused : IsRefused part (IsLong at middle b) middle b end
