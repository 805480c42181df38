-- Which fragments are kept. The rule is ours alone: of fragments that clash the earlier one stands,
-- and a later one is set aside whole, so that no order of work changes the outcome.
use Rattle.std.specs.Prelude.{ℕ, ◌+◌, Bool, ◌&&◌, ◌||◌, ◌==◌, nat_lt, min, max, List, [], ◌∷◌, ◌++◌, Option, Some, None, option_to_list, if◌then◌else◌}
use Rattle.std.specs.List.{list_any}
use Rattle.capture_terms.specs.Generations.{is_same_header}
use Rattle.capture_terms.specs.declared.datagram.Piece.{Piece}
use Rattle.capture_terms.specs.declared.plan.Group.{Group}
use Rattle.capture_terms.specs.declared.datagram.Kind.{Kind}
use Rattle.capture_terms.specs.declared.datagram.Kind.TheVariants.{Other, Bad, Cut, Whole, Fragment}
use Rattle.capture_terms.specs.declared.datagram.Class.{Class}
use Rattle.capture_terms.specs.declared.datagram.Class.TheVariants as class

-- Fragments of one datagram have one key and one generation.

abbrev pub is_same_group : Group → Group → Bool
is_same_group g h = is_same_header g.header h.header && ((g.id == h.id) && (g.generation == h.generation))

abbrev pub group_of : Piece → Group
group_of piece = record { header = piece.header; id = piece.id; generation = piece.generation }

-- the place behind a piece
abbrev pub end_of : Piece → ℕ
end_of piece = piece.start + piece.length

-- some place lies in both ranges
abbrev pub overlap : Piece → Piece → Bool
overlap p q = nat_lt (max p.start q.start) (min (end_of p) (end_of q))

-- one is said to be last, and the other ends behind it
abbrev pub ends_behind_last : Piece → Piece → Bool
ends_behind_last p q = (p.last && nat_lt (end_of p) (end_of q)) || (q.last && nat_lt (end_of q) (end_of p))

-- fragments that one datagram cannot have both
abbrev pub cannot_both_stand : Piece → Piece → Bool
cannot_both_stand p q = overlap p q || (p.last && q.last) || ends_behind_last p q

unfoldable pub clash : Piece → Piece → Bool
clash p q = is_same_group (group_of p) (group_of q) && cannot_both_stand p q

-- the class of a frame of this kind, behind these kept fragments
abbrev pub class_behind : List Piece → Kind → Class
class_behind kept Other = class.Other
class_behind kept Bad = class.Bad
class_behind kept Cut = class.Cut
class_behind kept (Whole piece) = class.Whole
class_behind kept (Fragment piece) = if list_any (clash piece) kept then class.Aside else class.Kept

-- the fragment of a frame of this kind, where it is kept
abbrev pub kept_piece : Class → Kind → Option Piece
kept_piece class.Kept (Fragment piece) = Some piece
kept_piece _ _ = None

-- the classes of frames of these kinds, in capture order, behind these kept fragments
abbrev pub classes_behind : List Piece → List Kind → List Class
classes_behind kept [] = []
classes_behind kept (kind ∷ kinds) =
    let here = class_behind kept kind in
    here ∷ classes_behind (kept ++ option_to_list (kept_piece here kind)) kinds

-- the class of each frame: a fragment is kept where it clashes with no kept fragment before it
unfoldable pub classes_of : List Kind → List Class
classes_of kinds = classes_behind [] kinds

-- the kept fragments among frames of these classes and kinds
abbrev pub kept_among : List Class → List Kind → List Piece
kept_among [] kinds = []
kept_among (class ∷ classes) [] = []
kept_among (class ∷ classes) (kind ∷ kinds) = option_to_list (kept_piece class kind) ++ kept_among classes kinds

-- the kept fragments, in capture order
unfoldable pub kept_of : List Kind → List Piece
kept_of kinds = kept_among (classes_of kinds) kinds
