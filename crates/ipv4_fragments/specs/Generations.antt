-- What is known of the newest generation of each key.
use Rattle.std.specs.Prelude.{◌≡◌, ℕ, ◌+◌, Bool, false, nat_lt, List, [], length, Option, None, Some, IfSome, IsSomeAnd, if◌then◌else◌}
use Rattle.std.specs.List.{last_or}
use Rattle.std.specs.BTreeMap.{get}
use Rattle.std.specs.Ordering.{nat_cmp, ordering_then}
use Rattle.std.specs.declared.cmp.Ordering.{Ordering}
use Rattle.capture_terms.specs.Generations.{Timed, beginnings, times_of}
use Rattle.capture_terms.specs.declared.datagram.Kind.{Kind}
use Rattle.capture_terms.specs.declared.datagram.Kind.TheVariants.{Fragment}
use Rattle.capture_terms.specs.declared.datagram.Piece.{Piece}
use Rattle.capture_terms.specs.declared.datagram.Header.{Header}
use Rattle.ipv4_fragments.specs.declared.generations.Generations.{Generations}
use Rattle.ipv4_fragments.specs.declared.generations.Key.{Key}
use Rattle.ipv4_fragments.specs.declared.generations.Newest.{Newest}

abbrev pub key_of : Piece → Key
key_of piece = record { header = piece.header; id = piece.id }

-- keys are ordered by their sources, then by the other fields in turn
abbrev pub header_cmp : Header → Header → Ordering
header_cmp g h = ordering_then (nat_cmp g.source h.source) (ordering_then (nat_cmp g.destination h.destination) (nat_cmp g.protocol h.protocol))

abbrev pub key_cmp : Key → Key → Ordering
key_cmp k l = ordering_then (header_cmp k.header l.header) (nat_cmp k.id l.id)

-- a frame that was captured at a time, and one with a fragment
abbrev pub frame_at : ℕ → Kind → Timed
frame_at time kind = record { time = time; kind = kind }

abbrev pub fragment_at : ℕ → Piece → Timed
fragment_at time piece = frame_at time (Fragment piece)

-- a time is later than the beginning of a generation by more than the window
abbrev pub is_later : Newest → ℕ → ℕ → Bool
is_later newest window time = nat_lt (newest.began + window) time

-- the newest generation of a key with a fragment more, where the next group has this number
abbrev pub newest_behind : Option Newest → ℕ → ℕ → ℕ → Newest
newest_behind None window time next = record { began = time; generation = 0; group = next }
newest_behind (Some newest) window time next =
    if is_later newest window time then record { began = time; generation = newest.generation + 1; group = next } else newest

-- this is the newest generation of the fragments at these times
abbrev pub IsNewest : ℕ → List ℕ → Option Newest → Type 0
IsNewest window times None = beginnings window times ≡ []
IsNewest window times (Some newest) = (last_or None (beginnings window times) ≡ Some newest.began) × (length (beginnings window times) ≡ newest.generation + 1)

-- what is known is the newest generation of each key in these frames
pub record Tells (generations : Generations) (frames : List Timed) : Type 0 where
  pub newest : (piece : Piece) → IsNewest generations.window (times_of piece frames) (get key_cmp generations.newest (key_of piece))
  pub last : IfSome generations.last (λ l. get key_cmp generations.newest l.0 ≡ Some l.1)

-- a fragment of the key at a time belongs to the generation that was told last, which is this one
abbrev pub IsStill : Generations → Key → ℕ → Newest → Type 0
IsStill generations key time newest = IsSomeAnd generations.last (λ l. (l.0 ≡ key) × (is_later l.1 generations.window time ≡ false) × (newest ≡ l.1))
