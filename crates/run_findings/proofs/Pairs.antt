-- Two tasks of one group that make up a datagram.
use Rattle.std.proofs.Common.{◌≡◌, ℕ, zero, suc, ◌+◌, ◌<◌, Bool, true, cond, List, [], ◌∷◌, length, get_or, Option, Some, None, ap, refl, arith}
use Rattle.std.specs.Prelude.{IsSomeAnd, IsTrue}
use Rattle.std.proofs.lemmas.Bool.Decides.{nat_tests}
use Rattle.capture_terms.specs.declared.plan.Group.{Group}
use Rattle.capture_terms.specs.declared.plan.Task.{Task}
use Rattle.rule_terms.specs.Rule.{Rule}
use Rattle.serial_terms.specs.Counts.{times}
use Rattle.run_stages.specs.FromCapture.{work_of}
use Rattle.run_stages.specs.Work.{task, is_some_of}
use Rattle.run_findings.specs.Datagrams.{AreAllTasks}

in_group : (group : Option ℕ) → IsSomeAnd group (λ g. g ≡ 0) → group ≡ Some 0
in_group None h = absurd h
in_group (Some g) h = ap (λ (x : ℕ). Some x) h

pair_size : (a b : Bool) (s t end : ℕ) → a ≡ true → b ≡ true → end ≡ t → 0 + cond a s 0 + cond b t 0 ≡ end + s
pair_size a b s t end x y z = rw (x, y) (omega arith)

both_are : (i : ℕ) → i < 2 → 0 < times i (1 ∷ 0 ∷ [])
both_are i h = grind (arith, nat_tests)

only_both : (i : ℕ) → 0 < times i (1 ∷ 0 ∷ []) → i < 2
only_both i h = grind (arith, nat_tests)

of_group : (rules : List Rule) (bytes : List ℕ) (groups : List Group) (end front : Task) → end.group ≡ Some 0 → front.group ≡ Some 0 → (i : ℕ) → i < 2
    → (task (work_of rules bytes (end ∷ front ∷ []) groups) i).group ≡ Some 0
unfolding work_of
of_group rules bytes groups end front e f zero h = e
of_group rules bytes groups end front e f (suc zero) h = f
of_group rules bytes groups end front e f (suc (suc i)) h = absurd (omega arith)

pub pair_is_all : (end front : Task) → IsTrue end.last → end.start ≡ front.length → IsSomeAnd end.group (λ g. g ≡ 0) → IsSomeAnd front.group (λ g. g ≡ 0)
    → (rules : List Rule) (bytes : List ℕ) (groups : List Group) → AreAllTasks (work_of rules bytes (end ∷ front ∷ []) groups) 0 (1 ∷ 0 ∷ [])
unfolding work_of
pair_is_all end front last whole a b rules bytes groups =
    let e = in_group end.group a in
    let f = in_group front.group b in
    record {
      complete = record {
        ender = 0;
        member = record { below = omega arith; belongs = e };
        last = last;
        full = pair_size (is_some_of end.group 0) (is_some_of front.group 0) end.length front.length end.start (ap (λ (g : Option ℕ). is_some_of g 0) e) (ap (λ (g : Option ℕ). is_some_of g 0) f) whole;
      };
      all = λ i member. both_are i member.below;
      only = λ i here. record { below = only_both i here; belongs = of_group rules bytes groups end front e f i (only_both i here) };
    }

pub pair_is : (tasks : List Task) → length tasks ≡ 2 → (d e : Task) → tasks ≡ get_or tasks 0 d ∷ get_or tasks 1 e ∷ []
pair_is [] two d e = absurd (omega (arith, two))
pair_is (s ∷ []) two d e = absurd (omega (arith, two))
pair_is (s ∷ t ∷ []) two d e = refl
pair_is (s ∷ t ∷ u ∷ tasks) two d e = absurd (omega (arith, two))
