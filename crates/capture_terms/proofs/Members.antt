-- The members of a group, and the last task of a complete one.
use Rattle.std.proofs.Common.{◌≡◌, ℕ, Bool, true, false, List, Option, Some, refl, ◌∙◌, ap, eq-eqb, arith}
use Rattle.std.specs.Prelude.{Contains, slice_get, ◌&&◌, ◌==◌}
use Rattle.std.specs.Option.{option_map_or}
use Rattle.std.proofs.lemmas.Bool.Decides.{nat_tests}
use Rattle.capture_terms.specs.declared.plan.Task.{Task}
use Rattle.capture_terms.specs.Datagram.{end_of_task, size_of, is_member, is_complete, members}
use Rattle.capture_terms.proofs.Filters.{any_found, contains_filter, filter_contains}
use Rattle.capture_terms.proofs.PlanLaw.{member_group}

pub member_each : (tasks : List Task) (number i : ℕ) (task : Task) → slice_get tasks i ≡ Some task → task.group ≡ Some number → Contains (members tasks number) task
member_each tasks number i task there named =
    contains_filter (is_member number) tasks i task there (ap (λ (o : Option ℕ). option_map_or (λ group. group == number) o false) named ∙ eq-eqb number number refl)

pub member_only : (tasks : List Task) (number : ℕ) (task : Task) → Contains (members tasks number) task → (i : ℕ) × (slice_get tasks i ≡ Some task) × (task.group ≡ Some number)
member_only tasks number task among =
    let found = filter_contains (is_member number) tasks task among in
    (found.0, found.1, member_group number task found.2)

both_hold : (a b : Bool) → (a && b) ≡ true → (a ≡ true) × (b ≡ true)
both_hold true b both = (refl, both)
both_hold false b both = absurd (cc)

pub complete_last : (tasks : List Task) → is_complete tasks ≡ true → (task : Task) × Contains tasks task × (task.last ≡ true) × (size_of tasks ≡ end_of_task task)
complete_last tasks complete =
    let found = any_found (λ (t : Task). t.last && (size_of tasks == end_of_task t)) tasks complete in
    let both = both_hold found.0.last (size_of tasks == end_of_task found.0) found.2 in
    let full : size_of tasks ≡ end_of_task found.0 = grind (arith, nat_tests, both.1) in
    (found.0, found.1, both.0, full)
