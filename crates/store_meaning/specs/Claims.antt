-- Calls whose keys have the positions that were claimed for them.
use Rattle.std.specs.Prelude.{List, [], ◌∷◌, length}
use Rattle.cell_table.specs.Pass.{PassState}
use Rattle.cell_table.specs.Sorted.{Each}
use Rattle.cell_table.specs.declared.view.NotedBook.{NotedBook}
use Rattle.key_directory.specs.Directory.{Claimed}
use Rattle.key_directory.specs.declared.view.Claim.{Claim}
use Rattle.serial_terms.specs.Renaming.{NamedDone, OfKey}
use Rattle.serial_terms.specs.Serial.{State}
use Rattle.serial_terms.specs.Sights.{Seen}
use Rattle.store_history.specs.Histories.{VouchesFor}
use Rattle.store_history.specs.Meanings.{IsLawful}
use Rattle.store_layout.specs.States.{IsFormed, state_in}
use Rattle.store_meaning.specs.declared.meaning.StoreMeaning.{StoreMeaning}

-- each call that has a key has the position that was claimed for the key
abbrev pub AreClaimed : List Claim → List NamedDone → Type 0
AreClaimed claims [] = Unit {0}
AreClaimed claims (d ∷ ds) = OfKey (λ m k. Claimed claims m k d.name) d.done.call × AreClaimed claims ds

-- and so have the calls in all books
abbrev pub BooksAreClaimed : List Claim → List (NotedBook NamedDone) → Type 0
BooksAreClaimed claims books = Each (λ b. Each (λ e. AreClaimed claims e.content.dones) b.entries) books

module _ {P K : Type 0} (lawful_state : P → State → Type 0) where
  -- the view of the pass vouches for the sight, and each key in it has the position that was claimed for it
  pub record IsVouchedFor (m : StoreMeaning P K) (p : PassState (StoreMeaning P K) NamedDone) (claims : List Claim) (seen : Seen NamedDone) : Type 0 where
    pub view : VouchesFor (λ (m : StoreMeaning P K). IsLawful (IsFormed m.plan) (state_in m.plan) (lawful_state m.purpose)) (λ (notes : List NamedDone). notes)
        (λ (m : StoreMeaning P K). state_in m.plan) m p.view (length m.plan.queues) seen
    pub claimed : AreClaimed claims seen.dones
