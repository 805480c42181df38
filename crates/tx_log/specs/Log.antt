-- The log that cells stand for, and what each call makes of it.
use Rattle.std.specs.Prelude.{◌≡◌, ℕ, ◌+◌, ◌-◌, ◌<◌, ◌≤◌, ◌⊎◌, List, [], ◌∷◌, ◌++◌, length, map, take, drop, slice_index, slice_get, Option}
use Rattle.tx_core.specs.Tx.{Attempt}
use Rattle.tx_core.specs.Sequences.{CellSequence, Makes}
use Rattle.tx_log.specs.declared.part.LogPart.{LogPart}

-- how many entries are there
abbrev pub length_in : LogPart → List ℕ → ℕ
length_in log cells = slice_index cells log.end

-- the word of the entry at place i: its value plus 1, or 0 where it isn't there
abbrev pub word_in : LogPart → List ℕ → ℕ → ℕ
word_in log cells i = slice_index cells (log.end + 1 + i)

-- the values of the entries that are there
abbrev pub values_in : LogPart → List ℕ → List ℕ
values_in log cells = map (λ w. w - 1) (take (length_in log cells) (drop (log.end + 1) cells))

-- The cells stand for a log: exactly the entries below its length are there
pub record IsLog (log : LogPart) (cells : List ℕ) : Type 0 where
  pub in_table : log.end + log.capacity < length cells
  pub within : length_in log cells ≤ log.capacity
  pub there : (i : ℕ) → i < length_in log cells → 0 < word_in log cells i
  pub free : (i : ℕ) → length_in log cells ≤ i → i < log.capacity → word_in log cells i ≡ 0

-- the cell is the log's end or one of its entries
abbrev pub IsOfLog : LogPart → ℕ → Type 0
IsOfLog log c = (log.end ≤ c) × (c ≤ log.end + log.capacity)

-- a read at place i looks at the entry, where there is such a one, and at the end
abbrev pub IsReadOf : LogPart → ℕ → ℕ → Type 0
IsReadOf log i c = (c ≡ log.end) ⊎ ((i < log.capacity) × (c ≡ log.end + 1 + i))

-- the log as a sequence in cells: its end's word is the length
abbrev pub sequence_of : LogPart → CellSequence
sequence_of log = record { part = log.part; end = log.end; capacity = log.capacity; length_of = λ w. w; cell_of = λ w i. log.end + 1 + i; stored = λ v. v + 1 }

abbrev pub MakesOf : {M D : Type 0} → LogPart → Attempt M D → Attempt M D → (List ℕ → List ℕ → Type 0) → Type 0
MakesOf log old new P = Makes (IsLog log) (values_in log) log.part old new P

-- ---- the values before a call and after it

-- the value was added at this place
abbrev pub AppendsAt : ℕ → ℕ → List ℕ → List ℕ → Type 0
AppendsAt value place before after = (place ≡ length before) × (after ≡ before ++ value ∷ [])

-- x is what stands at place i
abbrev pub HasAt : ℕ → Option ℕ → List ℕ → List ℕ → Type 0
HasAt i x before after = (x ≡ slice_get before i) × (after ≡ before)
