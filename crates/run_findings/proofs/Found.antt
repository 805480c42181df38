-- The findings in the datagrams of a run.
use Rattle.std.proofs.Common.{◌≡◌, ℕ, zero, suc, ◌+◌, ◌<◌, ◌≤◌, List, [], ◌∷◌, length, get_or, Option, Some, None, refl, sym, ap, ◌∙◌, subst, arith}
use Rattle.std.specs.Prelude.{map, take, slice_get, All, Contains, ◌^◌}
use Rattle.std.specs.Option.{option_map_or}
use Rattle.std.proofs.lemmas.Bool.Decides.{nat_tests}
use Rattle.std.proofs.lemmas.List.Elements.{All-contains, All-append, All-same, All-weaker}
use Rattle.std.proofs.lemmas.List.{take_more}
use Rattle.std.proofs.lemmas.Option.{slice_get-get_or}
use Rattle.capture_terms.specs.Datagram.{payload_of, IsDatagramAt}
use Rattle.capture_terms.specs.Groups.{LeastIsFirst}
use Rattle.capture_terms.specs.declared.plan.Group.{Group}
use Rattle.capture_terms.specs.declared.plan.Task.{Task}
use Rattle.inspection_terms.specs.Findings.{finding_number, findings_in}
use Rattle.rule_terms.specs.Match.{findings_of}
use Rattle.rule_terms.specs.Rule.{Rule}
use Rattle.serial_terms.specs.Counts.{times}
use Rattle.serial_terms.specs.Ranges.{IsKept}
use Rattle.run_stages.specs.FromCapture.{TasksHaveFacts, work_of}
use Rattle.run_stages.specs.Work.{TaskFacts, IsWhole}

-- a whole task has the values of the findings in its datagram
pub whole_is : (rules : List Rule) (bytes : List ℕ) (tasks : List Task) (groups : List Group) (i : ℕ) (t : Task) → i < length tasks → t ≡ get_or tasks i t
    → findings_in rules bytes (t ∷ []) ≡ (work_of rules bytes tasks groups).task_values i
unfolding work_of
whole_is rules bytes tasks groups i t there is =
    let got : slice_get tasks i ≡ Some t = slice_get-get_or tasks i t there ∙ ap (λ (x : Task). Some x) (sym is) in
    sym (ap (λ (o : Option Task). option_map_or (λ (x : Task). findings_in rules bytes (x ∷ [])) o []) got)

-- a task of no group is whole
pub is_whole : TasksHaveFacts → (rules : List Rule) (bytes : List ℕ) (tasks : List Task) (groups : List Group) (i : ℕ) (t : Task) → i < length tasks → t ≡ get_or tasks i t → t.group ≡ None
    → IsWhole (work_of rules bytes tasks groups) i
is_whole facts rules bytes tasks groups i t there is alone =
    let f = facts rules bytes tasks groups in
    let got : slice_get tasks i ≡ Some t = slice_get-get_or tasks i t there ∙ ap (λ (x : Task). Some x) (sym is) in
    record {
      below = (let n = f.0 in omega arith);
      alone = ap (λ (x : TaskFacts). x.group) (f.2 i t got) ∙ alone;
    }

-- the findings in a datagram are told by its first task
pub findings_first : (rules : List Rule) (bytes payload : List ℕ) (datagram : List Task) (first : Task) → ((others : List Task) × (datagram ≡ first ∷ others)) → payload ≡ payload_of bytes datagram
    → map (finding_number first.frame) (findings_of rules first.header payload) ≡ findings_in rules bytes datagram
findings_first rules bytes payload datagram first begins whole =
    ap (λ (p : List ℕ). map (finding_number first.frame) (findings_of rules first.header p)) (whole ∙ ap (payload_of bytes) begins.1) ∙ ap (findings_in rules bytes) (sym begins.1)

pub findings_none : (rules : List Rule) (bytes : List ℕ) (datagram : List Task) (first : Task) → ((others : List Task) × (datagram ≡ first ∷ others)) → ((payload : List ℕ) → findings_of rules first.header payload ≡ [])
    → [] ≡ findings_in rules bytes datagram
findings_none rules bytes datagram first begins none =
    sym (ap (findings_in rules bytes) begins.1 ∙ ap (map (finding_number first.frame)) (none (payload_of bytes (first ∷ begins.0))))

pub begins_with : LeastIsFirst → (tasks : List Task) (numbers : List ℕ) (datagram : List Task) (least : ℕ) (first : Task) → IsDatagramAt tasks numbers datagram → Contains numbers least
    → All (λ number. least ≤ number) numbers → All (λ number. number < length tasks) numbers → first ≡ get_or tasks least first → (others : List Task) × (datagram ≡ first ∷ others)
begins_with law tasks numbers datagram least first at among lowest there is =
    law tasks numbers datagram least first at among lowest
    (slice_get-get_or tasks least first (All-contains (λ (n : ℕ). n < length tasks) numbers least there among) ∙ ap (λ (x : Task). Some x) (sym is))

-- the value of a finding is kept in a cell plus 1
pub value_kept : (frame rule place : ℕ) → frame < 2 ^ 32 → rule < 1024 → place < 2 ^ 16 → IsKept (finding_number frame (rule, place))
value_kept frame rule place f r p = omega arith

-- an element stands in its list
times_at : (xs : List ℕ) (k d : ℕ) → k < length xs → 0 < times (get_or xs k d) xs
times_at [] k d h = absurd (omega arith)
times_at (x ∷ xs) zero d h = grind (arith, nat_tests)
times_at (x ∷ xs) (suc k) d h = let more = times_at xs k d (omega arith) in omega (arith, more)

pub all_there : (n m : ℕ) (numbers : List ℕ) → n ≡ m → ((i : ℕ) → 0 < times i numbers → i < n) → All (λ number. number < m) numbers
all_there n m numbers same only = λ k d h. let here = only (get_or numbers k d) (times_at numbers k d h) in omega arith

pub some_there : (i : ℕ) (numbers : List ℕ) → 0 < times i numbers → 0 < length numbers
some_there i [] h = absurd (omega arith)
some_there i (x ∷ xs) h = omega arith

get_within : (xs : List ℕ) (k d e : ℕ) → k < length xs → get_or xs k d ≡ get_or xs k e
get_within [] k d e h = absurd (omega arith)
get_within (x ∷ xs) zero d e h = refl
get_within (x ∷ xs) (suc k) d e h = get_within xs k d e (omega arith)

-- an element is among the elements
pub contains_at : (xs : List ℕ) (k d : ℕ) → k < length xs → Contains xs (get_or xs k d)
contains_at xs k d h = (k, h, get_within xs k (get_or xs k d) d h)

-- a number that is no more than those before it, and no more than the next one
pub least_more : (xs : List ℕ) (k d least less : ℕ) → k < length xs → All (λ x. least ≤ x) (take k xs) → less ≤ least → less ≤ get_or xs k d → All (λ x. less ≤ x) (take (k + 1) xs)
least_more xs k d least less h before low here =
    All-same (λ x. less ≤ x) (take (k + 1) xs) _ (take_more xs k d h)
    (All-append (λ x. less ≤ x) (take k xs) (get_or xs k d ∷ []) (All-weaker (λ x. least ≤ x) (λ x. less ≤ x) (λ x more. omega (arith, more, low)) (take k xs) before) (λ i e lt. one i e lt))
  where
    one : (i e : ℕ) → i < 1 → less ≤ get_or (get_or xs k d ∷ []) i e
    one zero e lt = here
    one (suc i) e lt = absurd (omega arith)

take_all : (xs : List ℕ) (k : ℕ) → length xs ≤ k → take k xs ≡ xs
take_all [] zero h = refl
take_all [] (suc k) h = refl
take_all (x ∷ xs) zero h = absurd (omega arith)
take_all (x ∷ xs) (suc k) h = ap (λ (ys : List ℕ). x ∷ ys) (take_all xs k (omega arith))

pub least_all : (xs : List ℕ) (k least : ℕ) → length xs ≤ k → All (λ x. least ≤ x) (take k xs) → All (λ x. least ≤ x) xs
least_all xs k least h before = subst (λ (ys : List ℕ). All (λ x. least ≤ x) ys) (take_all xs k h) before
