-- What stands of a store that is closed.
use Rattle.std.specs.Prelude.{◌≡◌, ℕ, List, length}
use Rattle.cell_table.specs.Pass.{PassState}
use Rattle.key_directory.specs.declared.view.Claim.{Claim}
use Rattle.serial_terms.specs.declared.call.Done.{Done}
use Rattle.serial_terms.specs.declared.store.Layout.{Layout}
use Rattle.serial_terms.specs.declared.store.StoreState.{StoreState}
use Rattle.serial_terms.specs.Entries.{Entry, Each, Book, IsHistoryOf}
use Rattle.serial_terms.specs.Histories.{IsLegalHistory}
use Rattle.serial_terms.specs.Kinds.{HasKind}
use Rattle.serial_terms.specs.Renaming.{NamedDone, by_key, seen_with}
use Rattle.serial_terms.specs.Serial.{State}
use Rattle.serial_terms.specs.Sights.{Seen, IsConsistent}
use Rattle.serial_terms.specs.Stores.{opening_of, state_of}
use Rattle.store_contents.specs.Contents.{AreByKey, HasAll}
use Rattle.store_history.specs.Books.{books_of}
use Rattle.store_history.specs.Keyed.{books_with}
use Rattle.store_layout.specs.Opening.{opening_words}
use Rattle.store_layout.specs.Shapes.{Shape, shape_of, IsLayout}
use Rattle.store_meaning.specs.Claims.{IsVouchedFor}
use Rattle.store_meaning.specs.declared.meaning.StoreMeaning.{StoreMeaning}

-- cells of this shape that opened with these words were laid out by the layout
pub record AreLaidOutBy (s : Shape) (opening : List ℕ) (layout : Layout) : Type 0 where
  pub is : IsLayout layout
  pub shape : s ≡ shape_of layout
  pub words : opening ≡ opening_words layout

-- the books of a pass by key
abbrev pub books_by_key : {M : Type 0} → PassState M NamedDone → List (Book Done)
books_by_key p = books_with by_key (books_of (λ (notes : List NamedDone). notes) p.books)

module _ {P K : Type 0} (lawful_state : P → State → Type 0) where
  -- From the opening of the layout the records are one legal history, which ends in the contents, a lawful state. All is seen in it that the
  -- pass vouches for
  pub record IsSerial (m : StoreMeaning P K) (p : PassState (StoreMeaning P K) NamedDone) (claims : List Claim) (layout : Layout) (history : List (Entry Done)) (contents : StoreState) : Type 0 where
    pub legal : IsLegalHistory (opening_of layout) history (state_of layout contents)
    pub lawful : lawful_state m.purpose (state_of layout contents)
    pub sights : (seen : Seen NamedDone) → IsVouchedFor lawful_state m p claims seen → IsConsistent (length layout.queues) (opening_of layout) history (seen_with by_key seen)

  -- The records are those of the pass's books and no others, in the order of a history, each may be one, and each reply is of its call's kind.
  -- They are serial from the opening of the layout to the contents, which have as many structures as were laid out
  pub record IsClosed (allowed : P → List Done → Type 0) (m : StoreMeaning P K) (p : PassState (StoreMeaning P K) NamedDone) (claims : List Claim) (history : List (Entry Done)) (contents : StoreState) : Type 0 where
    pub records : IsHistoryOf (books_by_key p) history
    pub may_be : Each (λ e. allowed m.purpose e.dones) history
    pub kinds : Each (λ e. Each HasKind e.dones) history
    pub serial : (layout : Layout) → AreLaidOutBy m.plan p.view.opening layout → IsSerial m p claims layout history contents
    pub maps : Each AreByKey contents.maps
    pub counted : HasAll m.plan contents

-- what room was taken for: the shape of the cells, and the books of records
pub record RoomView : Type 0 where
  pub shape : Shape
  pub books : List (Book Done)
