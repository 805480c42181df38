-- The work that a capture gives: the class of each frame, a task for each whole datagram and each
-- kept fragment, and the groups of the kept fragments.
use Rattle.std.specs.Prelude.{◌≡◌, ℕ, ◌+◌, ◌*◌, List, [], ◌∷◌, ◌++◌, Option, Some, None, option_to_list, if◌then◌else◌, fold, map, position, length, ◌≤◌, All}
use Rattle.std.specs.List.{list_any}
use Rattle.capture_terms.specs.Capture.{Contents, contents_of, link_numbered, time_of, IsAcceptedLink, IsWithin}
use Rattle.capture_terms.specs.Classes.{kind_of}
use Rattle.capture_terms.specs.Generations.{Timed, in_generations}
use Rattle.capture_terms.specs.Kept.{group_of, is_same_group, classes_of, kept_of}
use Rattle.capture_terms.specs.declared.capture.Capture.{Capture}
use Rattle.capture_terms.specs.declared.capture.Frame.{Frame}
use Rattle.capture_terms.specs.declared.datagram.Piece.{Piece}
use Rattle.capture_terms.specs.declared.datagram.Kind.{Kind}
use Rattle.capture_terms.specs.declared.datagram.Kind.TheVariants.{Whole, Fragment}
use Rattle.capture_terms.specs.declared.datagram.Class.{Class}
use Rattle.capture_terms.specs.declared.datagram.Class.TheVariants as class
use Rattle.capture_terms.specs.declared.plan.Group.{Group}
use Rattle.capture_terms.specs.declared.plan.Plan.{Plan}
use Rattle.capture_terms.specs.declared.plan.Task.{Task}

-- the groups with that of a further fragment, in which no group stands twice
abbrev pub with_group_of : List Group → Piece → List Group
with_group_of groups piece =
    if list_any (is_same_group (group_of piece)) groups then groups else groups ++ group_of piece ∷ []

-- the groups of these fragments, in the order of the first fragment of each
abbrev pub groups_among : List Piece → List Group
groups_among pieces = fold with_group_of [] pieces

-- the place of a fragment's group among these
abbrev pub group_number : List Group → Piece → Option ℕ
group_number groups piece = position (is_same_group (group_of piece)) groups

-- the task of a piece in the frame of this number, which belongs to the group of this number, if any
abbrev pub task_of : ℕ → Option ℕ → Piece → Task
task_of frame group piece = record {
  frame = frame;
  group = group;
  header = piece.header;
  start = piece.start;
  from = piece.from;
  length = piece.length;
  last = piece.last;
}

-- the task of the frame of this number, class and kind
abbrev pub task_at : List Group → ℕ → Class → Kind → Option Task
task_at groups number class.Whole (Whole piece) = Some (task_of number None piece)
task_at groups number class.Kept (Fragment piece) = Some (task_of number (group_number groups piece) piece)
task_at _ _ _ _ = None

-- the tasks of frames of these classes and kinds, of which the first has this number
abbrev pub tasks_from : List Group → ℕ → List Class → List Kind → List Task
tasks_from groups number [] kinds = []
tasks_from groups number (class ∷ classes) [] = []
tasks_from groups number (class ∷ classes) (kind ∷ kinds) =
    option_to_list (task_at groups number class kind) ++ tasks_from groups (number + 1) classes kinds

-- the groups that have a kept fragment
unfoldable pub groups_of : List Kind → List Group
groups_of kinds = groups_among (kept_of kinds)

-- the tasks of the whole and the kept frames, in capture order
unfoldable pub tasks_of : List Kind → List Task
tasks_of kinds = tasks_from (groups_of kinds) 0 (classes_of kinds) kinds

-- what a frame is by itself, and when it was captured
abbrev pub timed : List ℕ → Contents → Frame → Timed
timed bytes contents frame = record {
  time = time_of contents.nanos frame;
  kind = kind_of (link_numbered contents.link) bytes frame;
}

-- what the frames of a capture are, each fragment in its generation. The window is in seconds.
abbrev pub kinds_of : List ℕ → ℕ → Contents → List Kind
kinds_of bytes window contents = in_generations (window * 1000000000) (map (timed bytes contents) contents.frames)

-- a capture whose frames can be told: there are at most 262,144, and their bytes lie in the file
pub record IsClassifiable (bytes : List ℕ) (capture : Capture) : Type 0 where
  pub few : length capture.frames.items ≤ 262144
  pub within : All (IsWithin bytes) capture.frames.items
  pub link : IsAcceptedLink capture.link

-- the plan is that of the capture, whose generations are parted by a window of so many seconds
pub record IsPlan (bytes : List ℕ) (capture : Capture) (window : ℕ) (plan : Plan) : Type 0 where
  pub classes : plan.classes.items ≡ classes_of (kinds_of bytes window (contents_of capture))
  pub tasks : plan.tasks.items ≡ tasks_of (kinds_of bytes window (contents_of capture))
  pub groups : plan.groups.items ≡ groups_of (kinds_of bytes window (contents_of capture))

-- the plan is that of some capture in the file, parted by some window
pub record IsPlanned (bytes : List ℕ) (plan : Plan) : Type 0 where
  pub capture : Capture
  pub window : ℕ
  pub fine : IsClassifiable bytes capture
  pub is : IsPlan bytes capture window plan
