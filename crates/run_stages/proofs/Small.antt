-- What a plan has: a task for a frame at most, and a group for a frame at most.
use Rattle.std.proofs.Common.{◌≡◌, ℕ, ◌+◌, ◌≤◌, Bool, true, false, List, [], ◌∷◌, ◌++◌, Option, None, Some, refl, ap, arith, length, length-append}
use Rattle.std.specs.Prelude.{◌*◌, map, option_to_list, fold, if◌then◌else◌}
use Rattle.std.specs.List.{list_any}
use Rattle.std.proofs.lemmas.List.{length-map}
use Rattle.capture_terms.specs.Capture.{contents_of}
use Rattle.capture_terms.specs.declared.capture.Capture.{Capture}
use Rattle.capture_terms.specs.declared.datagram.Class.{Class}
use Rattle.capture_terms.specs.declared.datagram.Kind.{Kind}
use Rattle.capture_terms.specs.declared.datagram.Piece.{Piece}
use Rattle.capture_terms.specs.declared.plan.Group.{Group}
use Rattle.capture_terms.specs.declared.plan.Plan.{Plan}
use Rattle.capture_terms.specs.declared.plan.Task.{Task}
use Rattle.capture_terms.specs.Generations.{Timed, kinds_behind, in_generations}
use Rattle.capture_terms.specs.Kept.{group_of, is_same_group, kept_piece, kept_among, kept_of, classes_of}
use Rattle.capture_terms.specs.Plan.{with_group_of, groups_of, task_at, tasks_from, tasks_of, timed, kinds_of, IsClassifiable}
use Rattle.run_stages.specs.FromCapture.{PlansAreSmall}

-- an element before a list, if there is one
longer_by_option : {X : Type 0} (o : Option X) (xs : List X) → length (option_to_list o ++ xs) ≤ length xs + 1
longer_by_option None xs = omega arith
longer_by_option (Some x) xs = omega arith

tasks_few : (groups : List Group) (number : ℕ) (classes : List Class) (kinds : List Kind) → length (tasks_from groups number classes kinds) ≤ length kinds
tasks_few groups number [] kinds = omega arith
tasks_few groups number (c ∷ classes) [] = omega arith
tasks_few groups number (c ∷ classes) (kind ∷ kinds) =
    let rest = tasks_few groups (number + 1) classes kinds in
    let step = longer_by_option (task_at groups number c kind) (tasks_from groups (number + 1) classes kinds) in
    omega (arith, rest, step)

kept_few : (classes : List Class) (kinds : List Kind) → length (kept_among classes kinds) ≤ length kinds
kept_few [] kinds = omega arith
kept_few (c ∷ classes) [] = omega arith
kept_few (c ∷ classes) (kind ∷ kinds) =
    let rest = kept_few classes kinds in
    let step = longer_by_option (kept_piece c kind) (kept_among classes kinds) in
    omega (arith, rest, step)

one_group_more : (groups : List Group) (piece : Piece) → length (with_group_of groups piece) ≤ length groups + 1
one_group_more groups piece = by_case (list_any (is_same_group (group_of piece)) groups)
  where
    by_case : (b : Bool) → length (if b then groups else groups ++ group_of piece ∷ []) ≤ length groups + 1
    by_case true = omega arith
    by_case false = omega (arith, length-append groups (group_of piece ∷ []))

groups_few : (groups : List Group) (pieces : List Piece) → length (fold with_group_of groups pieces) ≤ length groups + length pieces
groups_few groups [] = omega arith
groups_few groups (piece ∷ pieces) =
    let rest = groups_few (with_group_of groups piece) pieces in
    omega (arith, rest, one_group_more groups piece)

few_tasks : (kinds : List Kind) → length (tasks_of kinds) ≤ length kinds
unfolding tasks_of
few_tasks kinds = tasks_few (groups_of kinds) 0 (classes_of kinds) kinds

few_groups : (kinds : List Kind) → length (groups_of kinds) ≤ length kinds
unfolding groups_of kept_of
few_groups kinds = omega (arith, kept_few (classes_of kinds) kinds, groups_few [] (kept_among (classes_of kinds) kinds))

behind_long : (window : ℕ) (before frames : List Timed) → length (kinds_behind window before frames) ≡ length frames
behind_long window before [] = refl
behind_long window before (frame ∷ frames) = let rest = behind_long window (before ++ frame ∷ []) frames in omega (arith, rest)

frames_few : (bytes : List ℕ) (capture : Capture) (window : ℕ) → IsClassifiable bytes capture → length (kinds_of bytes window (contents_of capture)) ≤ 262144
unfolding in_generations
frames_few bytes capture window classifiable =
    let frames = map (timed bytes (contents_of capture)) capture.frames.items in
    omega (arith, behind_long (window * 1000000000) [] frames, length-map capture.frames.items (timed bytes (contents_of capture)), classifiable.few)

pub plans_small : PlansAreSmall
plans_small bytes capture window planned fine is =
    let kinds = kinds_of bytes window (contents_of capture) in
    let few = frames_few bytes capture window fine in
    let tasks = ap (length {A = Task}) is.tasks in
    let groups = ap (length {A = Group}) is.groups in
    (omega (arith, few, few_tasks kinds, tasks), omega (arith, few, few_groups kinds, groups))
