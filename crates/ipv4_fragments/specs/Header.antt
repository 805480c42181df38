-- What a datagram's header has where it breaks no rule (RFC 791, section 3.1).
use Rattle.std.specs.Prelude.{ℕ, ◌+◌, ◌<◌, ◌≤◌, List, length}
use Rattle.capture_terms.specs.Classes.{header_length, total_length}
use Rattle.capture_terms.specs.Kept.{end_of}
use Rattle.capture_terms.specs.declared.datagram.Piece.{Piece}
use Rattle.capture_terms.specs.declared.datagram.Kind.{Kind}
use Rattle.capture_terms.specs.declared.datagram.Kind.TheVariants.{Whole, Fragment}

-- the header is there, and the datagram is as long as it at least
pub record HasHeader (datagram : List ℕ) : Type 0 where
  pub long : 20 ≤ length datagram
  pub least : 20 ≤ header_length datagram
  pub within : header_length datagram ≤ total_length datagram

-- a piece's bytes lie before an end in the file, and its place in a datagram of at most 65,535 bytes
pub record IsInside (end : ℕ) (piece : Piece) : Type 0 where
  pub there : piece.from + piece.length ≤ end
  pub short : end_of piece ≤ 65535

-- the data of a frame lies before an end in the file
abbrev pub IsSound : ℕ → Kind → Type 0
IsSound end (Whole piece) = IsInside end piece
IsSound end (Fragment piece) = IsInside end piece
IsSound end _ = Unit {0}

-- a fragment has data, and ends within 65,535 bytes
abbrev pub HasPlaces : Kind → Type 0
HasPlaces (Fragment piece) = (0 < piece.length) × (end_of piece ≤ 65535)
HasPlaces _ = Unit {0}
