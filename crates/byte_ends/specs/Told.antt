-- What calls on files and sinks did, where these tell their bytes, and how their counts of faults move.
use Rattle.std.specs.Prelude.{◌≡◌, ℕ, ◌+◌, ◌-◌, ◌^◌, ◌≤◌, min, List, ◌++◌, length, take, drop, Option, Some}

-- one more, of a count that stands still at the last u64
abbrev pub one_more : ℕ → ℕ
one_more count = min (count + 1) (2 ^ 64 - 1)

-- the count is greater than before, or stands at its end
abbrev pub Rose : ℕ → ℕ → Type 0
Rose before now = one_more before ≤ now

-- the fact holds of the bytes, where they are told
abbrev pub IfTold : Option (List ℕ) → (List ℕ → Type 0) → Type 0
IfTold told Fact = (bytes : List ℕ) → told ≡ Some bytes → Fact bytes

-- the first n bytes of a buffer are the n bytes of the file at a place
pub record IsPieceAt (file : List ℕ) (at n : ℕ) (buffer : List ℕ) : Type 0 where
  pub within : n ≤ length file - at
  pub same : take n buffer ≡ take n (drop at file)

-- what was told before is followed by this piece
abbrev pub Grows : Option (List ℕ) → Option (List ℕ) → List ℕ → Type 0
Grows before now piece = IfTold before (λ bytes. now ≡ Some (bytes ++ piece))

-- what was told before is followed by a prefix of this piece
pub record GrowsByPrefix (before now : Option (List ℕ)) (piece : List ℕ) : Type 0 where
  pub sent : List ℕ
  pub unsent : List ℕ
  pub split : sent ++ unsent ≡ piece
  pub grows : Grows before now sent
