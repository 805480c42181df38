-- Which fragments can belong to one datagram. Identifications are used again in long captures, so the
-- fragments of a key are cut into generations by the times at which they were captured. That rule is
-- ours alone; the key is that of RFC 791, section 3.2: source, destination, protocol and identification.
use Rattle.std.specs.Prelude.{ℕ, ◌+◌, ◌-◌, Bool, true, false, ◌&&◌, ◌==◌, nat_lt, List, [], ◌∷◌, ◌++◌, length, fold, filter, map, Option, Some, None, if◌then◌else◌}
use Rattle.std.specs.List.{last_or}
use Rattle.capture_terms.specs.declared.datagram.Header.{Header}
use Rattle.capture_terms.specs.declared.datagram.Piece.{Piece}
use Rattle.capture_terms.specs.declared.datagram.Kind.{Kind}
use Rattle.capture_terms.specs.declared.datagram.Kind.TheVariants.{Fragment}

abbrev pub is_same_header : Header → Header → Bool
is_same_header g h =
    (g.source == h.source) && ((g.destination == h.destination) && (g.protocol == h.protocol))

-- two fragments have one key
abbrev pub is_same_key : Piece → Piece → Bool
is_same_key p q = is_same_header p.header q.header && (p.id == q.id)

-- The fragments of one key, told by their times in capture order.

-- a fragment begins a generation where it is the first, or is later than the last that began one by
-- more than the window
abbrev pub begins : ℕ → Option ℕ → ℕ → Bool
begins window None time = true
begins window (Some last) time = nat_lt (last + window) time

-- the beginnings with a further fragment
abbrev pub with_beginning : ℕ → List ℕ → ℕ → List ℕ
with_beginning window begun time = if begins window (last_or None begun) time then begun ++ time ∷ [] else begun

-- the times of the fragments that begin a generation
abbrev pub beginnings : ℕ → List ℕ → List ℕ
beginnings window times = fold (with_beginning window) [] times

-- the generation of the last of these fragments: the number of beginnings behind the first
abbrev pub generation_at : ℕ → List ℕ → ℕ
generation_at window times = length (beginnings window times) - 1

-- The frames of a capture.

-- what a frame is, and the time at which it was captured
pub record Timed : Type 0 where
  pub time : ℕ
  pub kind : Kind

-- whether a frame of this kind carries a fragment of the key of this one
abbrev pub is_of_key : Piece → Kind → Bool
is_of_key piece (Fragment other) = is_same_key piece other
is_of_key piece _ = false

-- the times of the fragments of this one's key
abbrev pub times_of : Piece → List Timed → List ℕ
times_of piece frames = map (λ frame. frame.time) (filter (λ frame. is_of_key piece frame.kind) frames)

-- the fragment that comes at a time behind these frames, in its generation
abbrev pub piece_behind : ℕ → List Timed → ℕ → Piece → Piece
piece_behind window before time piece = record piece { generation = generation_at window (times_of piece before ++ time ∷ []) }

-- what a frame behind these is, a fragment in its generation
abbrev pub kind_behind : ℕ → List Timed → ℕ → Kind → Kind
kind_behind window before time (Fragment piece) = Fragment (piece_behind window before time piece)
kind_behind window before time kind = kind

abbrev pub kinds_behind : ℕ → List Timed → List Timed → List Kind
kinds_behind window before [] = []
kinds_behind window before (frame ∷ frames) =
    kind_behind window before frame.time frame.kind ∷ kinds_behind window (before ++ frame ∷ []) frames

-- what these frames of a capture are, each fragment in its generation
unfoldable pub in_generations : ℕ → List Timed → List Kind
in_generations window frames = kinds_behind window [] frames
