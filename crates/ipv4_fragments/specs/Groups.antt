-- What the groups say of all kept fragments so far.
use Rattle.std.specs.Prelude.{◌≡◌, ℕ, ◌<◌, List, length, filter, slice_index_or}
use Rattle.capture_terms.specs.declared.datagram.Piece.{Piece}
use Rattle.capture_terms.specs.declared.plan.Group.{Group}
use Rattle.capture_terms.specs.Kept.{group_of, is_same_group}
use Rattle.capture_terms.specs.Plan.{groups_among}
use Rattle.ipv4_fragments.specs.declared.groups.Groups.{Groups}
use Rattle.ipv4_fragments.specs.declared.ranges.Ranges.{Ranges}
use Rattle.ipv4_fragments.specs.Ranges.{Agrees}

-- the fragments of a group among these
abbrev pub of_group : Group → List Piece → List Piece
of_group group pieces = filter (λ piece. is_same_group group (group_of piece)) pieces

-- each group is known by its number, and its ranges are those of its kept fragments
pub record Follows (groups : Groups) (kept : List Piece) : Type 0 where
  pub known : groups.known ≡ groups_among kept
  pub long : length groups.ranges.items ≡ length groups.known
  pub ranges : (i : ℕ) (group : Group) (ranges : Ranges) → i < length groups.known → Agrees (slice_index_or groups.ranges.items i ranges) (of_group (slice_index_or groups.known i group) kept)
