-- How many tasks a plan has: one for a frame at most.
use Rattle.std.proofs.Common.{◌≡◌, ℕ, ◌+◌, ◌≤◌, List, [], ◌∷◌, ◌++◌, Option, None, Some, refl, ◌∙◌, arith, length}
use Rattle.std.specs.Prelude.{◌*◌, map, option_to_list}
use Rattle.std.proofs.lemmas.List.{length-map}
use Rattle.capture_terms.specs.Capture.{Contents}
use Rattle.capture_terms.specs.declared.datagram.Class.{Class}
use Rattle.capture_terms.specs.declared.datagram.Kind.{Kind}
use Rattle.capture_terms.specs.declared.plan.Group.{Group}
use Rattle.capture_terms.specs.Generations.{Timed, kinds_behind, in_generations}
use Rattle.capture_terms.specs.Kept.{classes_of}
use Rattle.capture_terms.specs.Plan.{groups_of, task_at, tasks_from, tasks_of, timed, kinds_of}

-- an element before a list, if there is one
longer_by_option : {X : Type 0} (o : Option X) (xs : List X) → length (option_to_list o ++ xs) ≤ length xs + 1
longer_by_option None xs = omega arith
longer_by_option (Some x) xs = omega arith

tasks_few : (groups : List Group) (number : ℕ) (classes : List Class) (kinds : List Kind) → length (tasks_from groups number classes kinds) ≤ length kinds
tasks_few groups number [] kinds = omega arith
tasks_few groups number (c ∷ classes) [] = omega arith
tasks_few groups number (c ∷ classes) (kind ∷ kinds) =
    let rest = tasks_few groups (number + 1) classes kinds in
    let step = longer_by_option (task_at groups number c kind) (tasks_from groups (number + 1) classes kinds) in
    omega (arith, rest, step)

pub few_tasks_of : (kinds : List Kind) → length (tasks_of kinds) ≤ length kinds
unfolding tasks_of
few_tasks_of kinds = tasks_few (groups_of kinds) 0 (classes_of kinds) kinds

behind_long : (window : ℕ) (before frames : List Timed) → length (kinds_behind window before frames) ≡ length frames
behind_long window before [] = refl
behind_long window before (frame ∷ frames) = let rest = behind_long window (before ++ frame ∷ []) frames in omega (arith, rest)

pub kinds_long : (bytes : List ℕ) (window : ℕ) (contents : Contents) → length (kinds_of bytes window contents) ≡ length contents.frames
unfolding in_generations
kinds_long bytes window contents =
    behind_long (window * 1000000000) [] (map (timed bytes contents) contents.frames) ∙ length-map contents.frames (timed bytes contents)
