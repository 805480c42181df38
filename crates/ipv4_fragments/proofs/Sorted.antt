-- One frame more.
use Rattle.std.proofs.Common.{◌≡◌, ℕ, suc, ◌+◌, ◌*◌, List, [], ◌∷◌, ◌++◌, Option, refl, sym, ◌∙◌, ap, arith, length, append_assoc, subst, take, take_all, ◌≤◌}
use Rattle.std.specs.Prelude.{option_to_list, map, Bool, true, false, if◌then◌else◌}
use Rattle.std.specs.List.{list_any}
use Rattle.std.proofs.lemmas.List.{append-nil}
use Rattle.capture_terms.specs.declared.datagram.Class.{Class}
use Rattle.capture_terms.specs.declared.datagram.Kind.{Kind}
use Rattle.capture_terms.specs.declared.datagram.Kind.TheVariants.{Fragment}
use Rattle.capture_terms.specs.declared.datagram.Piece.{Piece}
use Rattle.capture_terms.specs.declared.plan.Group.{Group}
use Rattle.capture_terms.specs.declared.plan.Task.{Task}
use Rattle.capture_terms.specs.Kept.{is_same_group, group_of, class_behind, kept_piece, classes_behind, classes_of, kept_among, kept_of}
use Rattle.capture_terms.specs.Generations.{in_generations}
use Rattle.capture_terms.specs.Plan.{task_at, tasks_from, tasks_of, groups_of, timed, kinds_of, IsPlan}
use Rattle.capture_terms.specs.Capture.{contents_of}
use Rattle.capture_terms.specs.declared.capture.Capture.{Capture}
use Rattle.capture_terms.specs.declared.capture.Frame.{Frame}
use Rattle.capture_terms.specs.declared.plan.Plan.{Plan}
use Rattle.ipv4_fragments.specs.declared.sorting.Sorting.{Sorting}
use Rattle.ipv4_fragments.specs.Groups.{Follows}
use Rattle.ipv4_fragments.specs.GroupNumbers.{AreNumbered, with_group_in}
use Rattle.ipv4_fragments.specs.Generations.{Tells}
use Rattle.ipv4_fragments.specs.Sorting.{AreSorted, Holds}

behind_push : (kept : List Piece) (kinds : List Kind) (kind : Kind) → classes_behind kept (kinds ++ kind ∷ []) ≡ classes_behind kept kinds ++ class_behind (kept ++ kept_among (classes_behind kept kinds) kinds) kind ∷ []
behind_push kept [] kind = ap (λ (l : List Piece). class_behind l kind ∷ []) (sym (append-nil kept))
behind_push kept (k ∷ kinds) kind =
    let here : Class = class_behind kept k in
    let now : List Piece = kept ++ option_to_list (kept_piece here k) in
    ap (λ (l : List Class). here ∷ l) (behind_push now kinds kind
    ∙ ap (λ (l : List Piece). classes_behind now kinds ++ class_behind l kind ∷ []) (append_assoc kept (option_to_list (kept_piece here k)) (kept_among (classes_behind now kinds) kinds)))

pub classes_push : (kinds : List Kind) (kind : Kind) → classes_of (kinds ++ kind ∷ []) ≡ classes_of kinds ++ class_behind (kept_of kinds) kind ∷ []
unfolding classes_of kept_of
classes_push kinds kind = behind_push [] kinds kind

length_behind : (kept : List Piece) (kinds : List Kind) → length (classes_behind kept kinds) ≡ length kinds
length_behind kept [] = refl
length_behind kept (k ∷ kinds) = ap (λ (n : ℕ). suc n) (length_behind (kept ++ option_to_list (kept_piece (class_behind kept k) k)) kinds)

pub length_classes : (kinds : List Kind) → length (classes_of kinds) ≡ length kinds
unfolding classes_of
length_classes kinds = length_behind [] kinds

among_push : (classes : List Class) (kinds : List Kind) (class : Class) (kind : Kind) → length classes ≡ length kinds → kept_among (classes ++ class ∷ []) (kinds ++ kind ∷ []) ≡ kept_among classes kinds ++ option_to_list (kept_piece class kind)
among_push [] [] class kind same = append-nil (option_to_list (kept_piece class kind))
among_push [] (k ∷ kinds) class kind same = absurd (omega arith)
among_push (c ∷ classes) [] class kind same = absurd (omega arith)
among_push (c ∷ classes) (k ∷ kinds) class kind same =
    ap (λ (l : List Piece). option_to_list (kept_piece c k) ++ l) (among_push classes kinds class kind (omega arith))
    ∙ sym (append_assoc (option_to_list (kept_piece c k)) (kept_among classes kinds) (option_to_list (kept_piece class kind)))

pub kept_push : (kinds : List Kind) (kind : Kind) → kept_of (kinds ++ kind ∷ []) ≡ kept_of kinds ++ option_to_list (kept_piece (class_behind (kept_of kinds) kind) kind)
unfolding kept_of
kept_push kinds kind =
    ap (λ (l : List Class). kept_among l (kinds ++ kind ∷ [])) (classes_push kinds kind)
    ∙ among_push (classes_of kinds) kinds (class_behind (kept_of kinds) kind) kind (length_classes kinds)

tasks_push_at : (groups : List Group) (number : ℕ) (classes : List Class) (kinds : List Kind) (class : Class) (kind : Kind) → length classes ≡ length kinds → tasks_from groups number (classes ++ class ∷ []) (kinds ++ kind ∷ []) ≡ tasks_from groups number classes kinds ++ option_to_list (task_at groups (number + length kinds) class kind)
tasks_push_at groups number [] [] class kind same =
    let here : number ≡ number + 0 = omega arith in
    append-nil (option_to_list (task_at groups number class kind)) ∙ ap (λ (n : ℕ). option_to_list (task_at groups n class kind)) here
tasks_push_at groups number [] (k ∷ kinds) class kind same = absurd (omega arith)
tasks_push_at groups number (c ∷ classes) [] class kind same = absurd (omega arith)
tasks_push_at groups number (c ∷ classes) (k ∷ kinds) class kind same =
    let there : number + 1 + length kinds ≡ number + length (k ∷ kinds) = omega arith in
    ap (λ (l : List Task). option_to_list (task_at groups number c k) ++ l) (tasks_push_at groups (number + 1) classes kinds class kind (omega arith) ∙ ap (λ (n : ℕ). tasks_from groups (number + 1) classes kinds ++ option_to_list (task_at groups n class kind)) there)
    ∙ sym (append_assoc (option_to_list (task_at groups number c k)) (tasks_from groups (number + 1) classes kinds) (option_to_list (task_at groups (number + length (k ∷ kinds)) class kind)))

pub tasks_push : (groups : List Group) (kinds : List Kind) (kind : Kind) → tasks_from groups 0 (classes_of (kinds ++ kind ∷ [])) (kinds ++ kind ∷ []) ≡ tasks_from groups 0 (classes_of kinds) kinds ++ option_to_list (task_at groups (length kinds) (class_behind (kept_of kinds) kind) kind)
tasks_push groups kinds kind =
    let here : 0 + length kinds ≡ length kinds = omega arith in
    ap (λ (l : List Class). tasks_from groups 0 l (kinds ++ kind ∷ [])) (classes_push kinds kind)
    ∙ tasks_push_at groups 0 (classes_of kinds) kinds (class_behind (kept_of kinds) kind) kind (length_classes kinds)
    ∙ ap (λ (n : ℕ). tasks_from groups 0 (classes_of kinds) kinds ++ option_to_list (task_at groups n (class_behind (kept_of kinds) kind) kind)) here

-- the groups behind a frame are those before and at most one more
pub with_extra : (groups : List Group) (kind : Kind) → (extra : List Group) × (with_group_in groups kind ≡ groups ++ extra)
with_extra groups (Fragment piece) = by_case (list_any (is_same_group (group_of piece)) groups)
  where
    by_case : (b : Bool) → (extra : List Group) × ((if b then groups else groups ++ group_of piece ∷ []) ≡ groups ++ extra)
    by_case true = ([], sym (append-nil groups))
    by_case false = (group_of piece ∷ [], refl)
with_extra groups kind = ([], sym (append-nil groups))

pub sorted_more : (old new : Sorting) (kinds : List Kind) (kind : Kind) (number : ℕ) (class : Class) (task : Option Task) (extra : List Group)
    → number ≡ length kinds → AreSorted old kinds
    → class ≡ class_behind (kept_of kinds) kind
    → Follows new.groups (kept_of kinds ++ option_to_list (kept_piece class kind))
    → new.groups.known ≡ old.groups.known ++ extra
    → ((more : List Group) → task ≡ task_at (new.groups.known ++ more) number class kind)
    → new.classes.items ≡ old.classes.items ++ class ∷ []
    → new.tasks.items ≡ old.tasks.items ++ option_to_list task
    → AreSorted new (kinds ++ kind ∷ [])
sorted_more old new kinds kind number class task extra here before is follows keys made classes tasks = record {
  classes = classes ∙ ap (λ (l : List Class). l ++ class ∷ []) before.classes ∙ ap (λ (k : Class). classes_of kinds ++ k ∷ []) is ∙ sym (classes_push kinds kind);
  groups = subst (Follows new.groups) (ap (λ (k : Class). kept_of kinds ++ option_to_list (kept_piece k kind)) is ∙ sym (kept_push kinds kind)) follows;
  tasks = λ more.
      tasks
      ∙ ap (λ (l : List Task). l ++ option_to_list task) (before.tasks (extra ++ more) ∙ ap (λ (l : List Group). tasks_from l 0 (classes_of kinds) kinds) (sym (append_assoc old.groups.known extra more) ∙ ap (λ (l : List Group). l ++ more) (sym keys)))
      ∙ ap (λ (o : Option Task). tasks_from (new.groups.known ++ more) 0 (classes_of kinds) kinds ++ option_to_list o) (made more ∙ ap (λ (n : ℕ). task_at (new.groups.known ++ more) n class kind) here ∙ ap (λ (k : Class). task_at (new.groups.known ++ more) (length kinds) k kind) is)
      ∙ sym (tasks_push (new.groups.known ++ more) kinds kind);
}

pub holds_none : (sorting : Sorting) → sorting.classes.items ≡ [] → sorting.tasks.items ≡ [] → Follows sorting.groups [] → Tells sorting.generations [] → AreNumbered sorting.generations sorting.groups.known → Holds sorting []
unfolding classes_of kept_of in_generations
holds_none sorting classes tasks follows tells numbered = record { tells = tells; numbered = numbered; sorted = record { classes = classes; groups = follows; tasks = λ more. tasks } }

pub plan_from : (bytes : List ℕ) (capture : Capture) (window : ℕ) (sorting : Sorting) (plan : Plan) (number : ℕ)
    → Holds sorting (map (timed bytes (contents_of capture)) (take number capture.frames.items)) → sorting.generations.window ≡ window * 1000000000 → length capture.frames.items ≤ number
    → plan.classes.items ≡ sorting.classes.items → plan.tasks.items ≡ sorting.tasks.items → plan.groups.items ≡ sorting.groups.known
    → IsPlan bytes capture window plan
unfolding tasks_of groups_of
plan_from bytes capture window sorting plan number holds parted all classes tasks groups =
    let whole : take number capture.frames.items ≡ capture.frames.items = take_all number capture.frames.items all in
    let kinds : List Kind = kinds_of bytes window (contents_of capture) in
    let same : in_generations sorting.generations.window (map (timed bytes (contents_of capture)) (take number capture.frames.items)) ≡ kinds
    = ap (λ (w : ℕ). in_generations w (map (timed bytes (contents_of capture)) (take number capture.frames.items))) parted
    ∙ ap (λ (l : List Frame). in_generations (window * 1000000000) (map (timed bytes (contents_of capture)) l)) whole in
    let now : AreSorted sorting kinds = subst (AreSorted sorting) same holds.sorted in
    let known : sorting.groups.known ≡ groups_of kinds = now.groups.known in
    record {
      classes = classes ∙ now.classes;
      tasks = tasks ∙ now.tasks [] ∙ ap (λ (l : List Group). tasks_from l 0 (classes_of kinds) kinds) (append-nil sorting.groups.known ∙ known);
      groups = groups ∙ known;
    }
