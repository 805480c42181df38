-- The number of a generation's group is its place among the groups.
use Rattle.std.specs.Prelude.{◌≡◌, ℕ, ◌<◌, List, Option, None, Some, position}
use Rattle.std.specs.List.{position_or_len}
use Rattle.std.specs.BTreeMap.{get}
use Rattle.capture_terms.specs.Kept.{group_of, is_same_group}
use Rattle.capture_terms.specs.Plan.{with_group_of}
use Rattle.capture_terms.specs.declared.datagram.Kind.{Kind}
use Rattle.capture_terms.specs.declared.datagram.Kind.TheVariants.{Fragment}
use Rattle.capture_terms.specs.declared.datagram.Piece.{Piece}
use Rattle.capture_terms.specs.declared.plan.Group.{Group}
use Rattle.ipv4_fragments.specs.Generations.{key_cmp}
use Rattle.ipv4_fragments.specs.declared.generations.Generations.{Generations}
use Rattle.ipv4_fragments.specs.declared.generations.Key.{Key}
use Rattle.ipv4_fragments.specs.declared.generations.Newest.{Newest}

-- the group of a key's generation
abbrev pub group_in : Key → ℕ → Group
group_in key generation = record { header = key.header; id = key.id; generation = generation }

-- the newest generation of a key stands among the groups at its number, and no later one does
abbrev pub IsNumbered : List Group → Key → Option Newest → Type 0
IsNumbered groups key None = (generation : ℕ) → position (is_same_group (group_in key generation)) groups ≡ None
IsNumbered groups key (Some newest) =
    (position (is_same_group (group_in key newest.generation)) groups ≡ Some newest.group)
    × ((generation : ℕ) → newest.generation < generation → position (is_same_group (group_in key generation)) groups ≡ None)

-- so it is of each key
abbrev pub AreNumbered : Generations → List Group → Type 0
AreNumbered generations groups = (key : Key) → IsNumbered groups key (get key_cmp generations.newest key)

abbrev pub piece_in : Piece → ℕ → Piece
piece_in piece generation = record piece { generation = generation }

-- the place of a fragment's group, which may be the next one, is this number
abbrev pub HasPlace : List Group → Piece → ℕ → Type 0
HasPlace groups piece number = number ≡ position_or_len (is_same_group (group_of piece)) groups

-- a fragment's generation is the newest of its key and has the number that its group has or gets among these
pub record IsNumberedWith (generations : Generations) (groups : List Group) (piece : Piece) (told : Newest) : Type 0 where
  pub place : HasPlace groups (piece_in piece told.generation) told.group
  pub numbered : AreNumbered generations (with_group_of groups (piece_in piece told.generation))

-- the groups with that of a frame of this kind, if it carries a fragment
abbrev pub with_group_in : List Group → Kind → List Group
with_group_in groups (Fragment piece) = with_group_of groups piece
with_group_in groups _ = groups

abbrev pub HasPlaceIn : List Group → Kind → ℕ → Type 0
HasPlaceIn groups (Fragment piece) number = HasPlace groups piece number
HasPlaceIn groups _ number = Unit {0}
