-- What is made of the frames so far is what is defined of them.
use Rattle.std.specs.Prelude.{◌≡◌, List, ◌++◌}
use Rattle.capture_terms.specs.Generations.{Timed, in_generations}
use Rattle.capture_terms.specs.declared.datagram.Kind.{Kind}
use Rattle.capture_terms.specs.declared.plan.Group.{Group}
use Rattle.capture_terms.specs.Kept.{classes_of, kept_of}
use Rattle.capture_terms.specs.Plan.{tasks_from}
use Rattle.ipv4_fragments.specs.declared.sorting.Sorting.{Sorting}
use Rattle.ipv4_fragments.specs.Generations.{Tells}
use Rattle.ipv4_fragments.specs.GroupNumbers.{AreNumbered}
use Rattle.ipv4_fragments.specs.Groups.{Follows}

-- frames of these kinds, each fragment in its generation, whatever groups follow
pub record AreSorted (sorting : Sorting) (kinds : List Kind) : Type 0 where
  pub classes : sorting.classes.items ≡ classes_of kinds
  pub groups : Follows sorting.groups (kept_of kinds)
  pub tasks : (more : List Group) → sorting.tasks.items ≡ tasks_from (sorting.groups.known ++ more) 0 (classes_of kinds) kinds

-- these frames
pub record Holds (sorting : Sorting) (frames : List Timed) : Type 0 where
  pub tells : Tells sorting.generations frames
  pub numbered : AreNumbered sorting.generations sorting.groups.known
  pub sorted : AreSorted sorting (in_generations sorting.generations.window frames)
