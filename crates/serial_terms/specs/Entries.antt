-- Committed records in the order of a history, whatever their calls are.
use Rattle.std.specs.Prelude.{◌≡◌, ◌≢◌, ℕ, zero, suc, ◌+◌, ◌<◌, ◌≤◌, Bool, IsTrue, IsFalse, ◌==◌, nat_le, List, [], ◌∷◌, ◌++◌, Option, ◌⊎◌, if◌then◌else◌, option_to_list}
use Rattle.serial_terms.specs.Counts.{with_at}

-- a committed record of calls of the type D
pub record Entry (D : Type 0) : Type 0 where
  pub caller : ℕ
  pub index : ℕ
  pub place : ℕ
  pub writer : Bool
  pub dones : List D

-- P holds of each element
abbrev pub Each : {A : Type 0} → (A → Type 0) → List A → Type 0
Each P [] = Unit {0}
Each P (x ∷ xs) = P x × Each P xs

-- R holds of each element and each one after it
abbrev pub OrderedBy : {A : Type 0} → (A → A → Type 0) → List A → Type 0
OrderedBy R [] = Unit {0}
OrderedBy R (x ∷ xs) = Each (R x) xs × OrderedBy R xs

-- x is an element of the list
abbrev pub IsIn : {A : Type 0} → A → List A → Type 0
IsIn x [] = ⊥
IsIn x (y ∷ ys) = (y ≡ x) ⊎ IsIn x ys

module _ {D : Type 0} where
  -- of two records at one place: the writer comes first, then the lower caller, then the lower index
  abbrev pub PrecedesThere : Entry D → Entry D → Type 0
  PrecedesThere a b = (IsTrue a.writer × IsFalse b.writer) ⊎ ((a.writer ≡ b.writer) × ((a.caller < b.caller) ⊎ ((a.caller ≡ b.caller) × (a.index < b.index))))

  -- the order of a history
  abbrev pub Precedes : Entry D → Entry D → Type 0
  Precedes a b = (a.place < b.place) ⊎ ((a.place ≡ b.place) × PrecedesThere a b)

  -- each record precedes all those after it
  abbrev pub IsInOrder : List (Entry D) → Type 0
  IsInOrder = OrderedBy Precedes

  -- the order of a history in which indices aren't known: by place, at one place the writer first, then by caller
  abbrev pub StandsBefore : Entry D → Entry D → Type 0
  StandsBefore a b = (a.place < b.place) ⊎ ((a.place ≡ b.place) × ((IsTrue a.writer × IsFalse b.writer) ⊎ ((a.writer ≡ b.writer) × (a.caller ≤ b.caller))))

  abbrev pub IsInPlaceOrder : List (Entry D) → Type 0
  IsInPlaceOrder = OrderedBy StandsBefore

  -- the records with a place of at most t
  abbrev pub up_to : ℕ → List (Entry D) → List (Entry D)
  up_to t [] = []
  up_to t (e ∷ es) = if nat_le e.place t then e ∷ up_to t es else up_to t es

  -- the records of one caller
  abbrev pub by_caller : ℕ → List (Entry D) → List (Entry D)
  by_caller k [] = []
  by_caller k (e ∷ es) = if e.caller == k then e ∷ by_caller k es else by_caller k es

  -- the indices are n, n + 1, n + 2 and so on
  abbrev pub IsCountedFrom : ℕ → List (Entry D) → Type 0
  IsCountedFrom n [] = Unit {0}
  IsCountedFrom n (e ∷ es) = (e.index ≡ n) × IsCountedFrom (n + 1) es

  -- each record with the number of its caller's records before it as its index, where `before k` of the caller k stand before the list
  abbrev pub numbered : (ℕ → ℕ) → List (Entry D) → List (Entry D)
  numbered before [] = []
  numbered before (e ∷ es) = record e { index = before e.caller } ∷ numbered (with_at before e.caller (before e.caller + 1)) es

  -- two writers never share a place
  abbrev pub OneWriterAPlace : List (Entry D) → Type 0
  OneWriterAPlace = OrderedBy (λ e x. IsTrue e.writer → IsTrue x.writer → e.place ≢ x.place)

  -- the sum of f over the records
  abbrev pub total : (Entry D → ℕ) → List (Entry D) → ℕ
  total f [] = 0
  total f (e ∷ es) = f e + total f es

  -- no writer is at place 0, where everything is as it was opened
  abbrev pub WritersArePlaced : List (Entry D) → Type 0
  WritersArePlaced = Each (λ e. IsTrue e.writer → 0 < e.place)

  -- the records place by place up to p: at each place from 1 on its writer, if it has one, and then its readers; at place 0 readers alone
  abbrev pub merged : (ℕ → Option (Entry D)) → (ℕ → List (Entry D)) → ℕ → List (Entry D)
  merged writer readers zero = readers 0
  merged writer readers (suc p) = merged writer readers p ++ (option_to_list (writer (suc p)) ++ readers (suc p))

  abbrev pub IsWriterAt : ℕ → Entry D → Type 0
  IsWriterAt p e = (e.place ≡ p) × IsTrue e.writer

  abbrev pub IsReaderAt : ℕ → Entry D → Type 0
  IsReaderAt p e = (e.place ≡ p) × IsFalse e.writer

  -- the writer and the readers at each place are of that place, the readers in the order R
  pub record AreOfTheirPlaces (R : Entry D → Entry D → Type 0) (writer : ℕ → Option (Entry D)) (readers : ℕ → List (Entry D)) : Type 0 where
    pub of_writers : (p : ℕ) → Each (IsWriterAt p) (option_to_list (writer p))
    pub of_readers : (p : ℕ) → Each (IsReaderAt p) (readers p)
    pub ordered : (p : ℕ) → OrderedBy R (readers p)

-- all records of one caller
pub record Book (D : Type 0) : Type 0 where
  pub caller : ℕ
  pub records : List (Entry D)

module _ {D : Type 0} where
  -- each book has records of its own caller alone, in order, and no two books have one caller
  abbrev pub AreBooks : List (Book D) → Type 0
  AreBooks [] = Unit {0}
  AreBooks (b ∷ bs) = Each (λ e. e.caller ≡ b.caller) b.records × IsInOrder b.records
      × Each (λ c. b.caller ≢ c.caller) bs × AreBooks bs

  -- the list has the records of these books and no others, in the order of a history
  pub record IsHistoryOf (books : List (Book D)) (history : List (Entry D)) : Type 0 where
    pub order : IsInOrder history
    pub all : (b : Book D) (e : Entry D) → IsIn b books → IsIn e b.records → IsIn e history
    pub only : (e : Entry D) → IsIn e history → (b : Book D) × IsIn b books × IsIn e b.records

  -- the sum of f over the records of all books
  abbrev pub total_of_books : (Entry D → ℕ) → List (Book D) → ℕ
  total_of_books f [] = 0
  total_of_books f (b ∷ bs) = total f b.records + total_of_books f bs

  -- the records of the caller k one after another: the indices are n, n + 1 and so on, no place is below p or below the one before
  -- it, and each writer's is above
  abbrev pub IsBookFrom : ℕ → ℕ → ℕ → List (Entry D) → Type 0
  IsBookFrom k n p [] = Unit {0}
  IsBookFrom k n p (e ∷ es) = (e.caller ≡ k) × (e.index ≡ n) × (p ≤ e.place) × (IsTrue e.writer → p < e.place) × IsBookFrom k (n + 1) e.place es
