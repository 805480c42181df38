-- What a group's ranges say of its kept fragments.
use Rattle.std.specs.Prelude.{◌≡◌, ℕ, ◌<◌, ◌≤◌, true, false, ◌&&◌, ◌==◌, nat_lt, List, Option, Some, is_some, All}
use Rattle.std.specs.List.{list_any}
use Rattle.std.specs.Option.{option_map_or}
use Rattle.std.specs.BTreeMap.{get}
use Rattle.std.specs.Ordering.{nat_cmp}
use Rattle.capture_terms.specs.declared.datagram.Piece.{Piece}
use Rattle.capture_terms.specs.Kept.{end_of}
use Rattle.ipv4_fragments.specs.declared.ranges.Ranges.{Ranges}

-- the end that is known of the range from a start
abbrev pub known : Ranges → ℕ → Option ℕ
known ranges start = get nat_cmp ranges.ends start

-- the ranges are those of these fragments
pub record Agrees (ranges : Ranges) (kept : List Piece) : Type 0 where
  -- each fragment's range is known, and each known range is a fragment's
  pub present : All (λ p. known ranges p.start ≡ Some (end_of p)) kept
  pub listed : (start end : ℕ) → known ranges start ≡ Some end → list_any (λ p. (p.start == start) && (end_of p == end)) kept ≡ true
  -- the ranges have places, and share none
  pub solid : (start end : ℕ) → known ranges start ≡ Some end → start < end
  pub apart : (s e t u : ℕ) → known ranges s ≡ Some e → known ranges t ≡ Some u → s < t → e ≤ t
  -- the greatest end
  pub greatest : (end : ℕ) → list_any (λ p. nat_lt end (end_of p)) kept ≡ nat_lt end ranges.greatest
  -- the end of the last fragment
  pub last : list_any (λ p. p.last) kept ≡ is_some ranges.last
  pub last_end : (end : ℕ) → list_any (λ p. p.last && nat_lt (end_of p) end) kept ≡ option_map_or (λ l. nat_lt l end) ranges.last false
