-- What keeps the room of an attempt.
use Rattle.std.proofs.Common.{◌≡◌, ◌≢◌, ℕ, ◌+◌, ◌-◌, ◌*◌, ◌^◌, if◌then◌else◌, ◌<◌, ◌≤◌, Bool, true, false, List, [], ◌∷◌, ◌++◌, length, nat_eq, Option, Some, None, MatchOption, refl, ap, ◌∙◌, arith}
use Rattle.std.proofs.Math.Decide.{ℕ_discrete}
use Rattle.std.proofs.lemmas.Bool.Decides.{nat_tests}
use Rattle.std.proofs.lemmas.List.{length_push}
use Rattle.std.specs.List.{IsDistinct, AllByRecursion}
use Rattle.cell_table.specs.Pass.{PassState}
use Rattle.attempt_lists.specs.Cells.{Listed}
use Rattle.attempt_lists.specs.Levels.{Levels}
use Rattle.attempt_lists.specs.Observed.{Observed}
use Rattle.attempt_lists.specs.Parts.{Waiting, waiting_of, marked_of, ChangesOnly}
use Rattle.tx_core.specs.declared.spare.Spare.{Spare}
use Rattle.tx_core.specs.Additions.{IsProvided, HasSpare, HasTwoFor, HasTwoEach, promised, count_in, more_spare}

count_none : (f : ℕ → List ℕ) → ((part : ℕ) → f part ≡ []) → (parts : List ℕ) → count_in f parts ≡ 0
count_none f none [] = refl
count_none f none (part ∷ parts) = omega (arith, ap length (none part), count_none f none parts)

-- there is nothing, and nothing is kept
pub two_none : (f : ℕ → List ℕ) → ((part : ℕ) → f part ≡ []) → HasTwoFor (record { locks = 0; observations = 0; writes = 0 }) f
two_none f none parts once = let at = count_none f none parts in (omega (arith, at), omega (arith, at), omega (arith, at))

-- additions to another part change nothing of these
count_others : (f g : ℕ → List ℕ) (part : ℕ) → ((q : ℕ) → q ≢ part → g q ≡ f q) → (parts : List ℕ) → AllByRecursion (λ q. nat_eq part q ≡ false) parts → count_in g parts ≡ count_in f parts
count_others f g part others [] apart = refl
count_others f g part others (q ∷ parts) apart =
    let far : q ≢ part = λ same. grind (arith, nat_tests, same, apart.0) in
    omega (arith, ap length (others q far), count_others f g part others parts apart.1)

-- one more addition is one more in at most one of distinct parts
count_later : (f g : ℕ → List ℕ) (part value : ℕ) → g part ≡ f part ++ value ∷ [] → ((q : ℕ) → q ≢ part → g q ≡ f q) → (parts : List ℕ) → IsDistinct nat_eq parts → count_in g parts ≤ count_in f parts + 1
unfolding IsDistinct
count_later f g part value changed others [] once = omega arith
count_later f g part value changed others (q ∷ parts) once = elim (ℕ_discrete q part) [
  | yes same ↦ omega (arith, ap length (ap g same ∙ changed), length_push (f part) value, ap length (ap f same), count_others f g part others parts (rw (← same) once.0))
  | no far ↦ omega (arith, ap length (others q far), count_later f g part value changed others parts once.1)
]

-- for one part
pub two_each : (spare : Spare) (f : ℕ → List ℕ) → HasTwoFor spare f → (part : ℕ) → HasSpare spare (2 * length (f part))
unfolding IsDistinct
two_each spare f has part = let both = has (part ∷ []) (tt, tt) in (omega (arith, both.0), omega (arith, both.1), omega (arith, both.2))

pub two_later : (spare : Spare) (a b : List Waiting) (part value : ℕ) → HasTwoEach spare a → ChangesOnly a b part (waiting_of a part ++ value ∷ []) → HasTwoEach (more_spare 2 spare) b
two_later spare a b part value has changes parts once =
    let old = has parts once in
    let more = count_later (waiting_of a) (waiting_of b) part value changes.changed changes.others parts once in
    (omega (arith, old.0, more), omega (arith, old.1, more), omega (arith, old.2, more))

count_fewer : (f g : ℕ → List ℕ) → ((q : ℕ) → length (g q) ≤ length (f q)) → (parts : List ℕ) → count_in g parts ≤ count_in f parts
count_fewer f g fewer [] = omega arith
count_fewer f g fewer (q ∷ parts) = omega (arith, fewer q, count_fewer f g fewer parts)

-- for fewer as much is kept
pub two_fewer : (spare : Spare) (f g : ℕ → List ℕ) → HasTwoFor spare f → ((q : ℕ) → length (g q) ≤ length (f q)) → HasTwoFor spare g
two_fewer spare f g has fewer parts once =
    let old = has parts once in
    let less = count_fewer f g fewer parts in
    (omega (arith, old.0, less), omega (arith, old.1, less), omega (arith, old.2, less))

pub two_same : (spare : Spare) (f g : ℕ → List ℕ) → HasTwoFor spare f → ((q : ℕ) → g q ≡ f q) → HasTwoFor spare g
two_same spare f g has same = two_fewer spare f g has (λ q. omega (arith, ap length (same q)))

-- more is kept
pub two_more : (spare : Spare) (f : ℕ → List ℕ) → HasTwoFor spare f → HasTwoFor (more_spare 2 spare) f
two_more spare f has parts once = let old = has parts once in (omega (arith, old.0), omega (arith, old.1), omega (arith, old.2))

-- what is consumed waits no more
two_taken : (spare : Spare) (a b : List Waiting) (part value : ℕ) → HasTwoEach spare a → waiting_of a part ≡ value ∷ waiting_of b part → ((q : ℕ) → q ≢ part → waiting_of b q ≡ waiting_of a q) → HasTwoEach spare b
two_taken spare a b part value has first others = two_fewer spare (waiting_of a) (waiting_of b) has fewer
  where
    fewer : (q : ℕ) → length (waiting_of b q) ≤ length (waiting_of a q)
    fewer q = elim (ℕ_discrete q part) [
      | yes same ↦ rw same (omega (arith, ap length first))
      | no far ↦ omega (arith, ap length (others q far))
    ]

pub two_after : (spare : Spare) (a b : List Waiting) (part : ℕ) (taken : Option ℕ) → HasTwoEach spare a → MatchOption taken ((waiting_of a part ≡ []) × (b ≡ a)) (λ value. (waiting_of a part ≡ value ∷ waiting_of b part) × ChangesOnly a b part (waiting_of b part)) → HasTwoEach spare b
two_after spare a b part None has same = rw same.1 has
two_after spare a b part (Some value) has changes = two_taken spare a b part value has changes.0 changes.1.others

pub marked_after : (a b : List Waiting) (part : ℕ) (taken : Option ℕ) → MatchOption taken ((waiting_of a part ≡ []) × (b ≡ a)) (λ value. (waiting_of a part ≡ value ∷ waiting_of b part) × ChangesOnly a b part (waiting_of b part)) → (q : ℕ) → marked_of b q ≡ marked_of a q
marked_after a b part None same q = ap (λ (w : List Waiting). marked_of w q) same.1
marked_after a b part (Some value) changes q = changes.1.marked q

-- a write takes one place where its cell wasn't written
pub left_fits : (b : Bool) (spare reserved left now : ℕ) → left ≡ spare - (if b then 0 else 1) → now + (if b then 0 else 1) ≡ reserved → spare ≤ reserved → (left ≤ now) × (left ≤ spare)
left_fits true spare reserved left now l n le = (omega (arith, l, n, le), omega (arith, l))
left_fits false spare reserved left now l n le = (omega (arith, l, n, le), omega (arith, l))

module _ {M D : Type 0} where
  -- other additions wait, for which as much is kept
  pub provided_adds : (p : PassState M D) (reads : Observed) (writes : Levels) (held : Listed) (additions more : List Waiting) (spare kept : Spare) (committing : Bool) → IsProvided p reads writes held additions spare committing → kept.locks ≤ held.reserved → kept.observations ≤ reads.reserved → kept.writes ≤ writes.reserved → (kept.locks < 2 ^ 32) × (kept.observations < 2 ^ 32) × (kept.writes < 2 ^ 32) → (committing ≡ false → promised writes kept.locks ≤ held.reserved) → (committing ≡ false → HasTwoEach kept more) → (committing ≡ false → HasTwoFor kept (marked_of more)) → IsProvided p reads writes held more kept committing
  provided_adds p reads writes held additions more spare kept committing a locks observations written few room twice marks = record {
    locks = a.locks;
    spare_locks = locks;
    spare_observations = observations;
    spare_writes = written;
    few = few;
    room = room;
    twice = twice;
    marked = marks;
  }

module _ {M D : Type 0} where
  -- the lists have as much room as is kept
  pub provided_moves : (p q : PassState M D) (reads after : Observed) (writes more : Levels) (held now : Listed) (additions : List Waiting) (spare : Spare) (committing : Bool) → IsProvided p reads writes held additions spare committing → now.reserved ≤ q.places → spare.locks ≤ now.reserved → spare.observations ≤ after.reserved → spare.writes ≤ more.reserved → (committing ≡ false → promised more spare.locks ≤ now.reserved) → IsProvided q after more now additions spare committing
  provided_moves p q reads after writes more held now additions spare committing a locks spare_locks spare_observations spare_writes room = record {
    locks = locks;
    spare_locks = spare_locks;
    spare_observations = spare_observations;
    spare_writes = spare_writes;
    few = a.few;
    room = room;
    twice = a.twice;
    marked = a.marked;
  }

  -- a pass with as many places
  pub provided_places : (p q : PassState M D) (reads : Observed) (writes : Levels) (held : Listed) (additions : List Waiting) (spare : Spare) (committing : Bool) → q.places ≡ p.places → IsProvided p reads writes held additions spare committing → IsProvided q reads writes held additions spare committing
  provided_places p q reads writes held additions spare committing same a = provided_moves p q reads reads writes writes held held additions spare committing a (rw same a.locks) a.spare_locks a.spare_observations a.spare_writes a.room

  -- the first call of the commit
  pub provided_commits : (p : PassState M D) (reads : Observed) (writes : Levels) (held : Listed) (additions : List Waiting) (spare : Spare) (committing : Bool) → IsProvided p reads writes held additions spare committing → IsProvided p reads writes held additions spare true
  provided_commits p reads writes held additions spare committing a = record {
    locks = a.locks;
    spare_locks = a.spare_locks;
    spare_observations = a.spare_observations;
    spare_writes = a.spare_writes;
    few = a.few;
    room = λ before. absurd (true_false before);
    twice = λ before. absurd (true_false before);
    marked = λ before. absurd (true_false before);
  }
    where
      true_false : true ≡ false → ⊥
      true_false e = cc

module _ {M D : Type 0} where
  -- a lock of the commit takes a place that was kept
  pub provided_locks : (p q : PassState M D) (reads : Observed) (writes : Levels) (held now : Listed) (additions : List Waiting) (spare : Spare) → IsProvided p reads writes held additions spare true → q.places + 1 ≡ p.places → now.reserved + 1 ≡ held.reserved → 0 < spare.locks → IsProvided q reads writes now additions (record spare { locks = spare.locks - 1 }) true
  provided_locks p q reads writes held now additions spare a places used some = record {
    locks = omega (arith, a.locks, places, used);
    spare_locks = omega (arith, a.spare_locks, used, some);
    spare_observations = a.spare_observations;
    spare_writes = a.spare_writes;
    few = (omega (arith, a.few.0), a.few.1, a.few.2);
    room = λ early. cc;
    twice = λ early. cc;
    marked = λ early. cc;
  }

  -- and so does an observation
  pub provided_observes : (p : PassState M D) (reads more : Observed) (writes : Levels) (held : Listed) (additions : List Waiting) (spare : Spare) → IsProvided p reads writes held additions spare true → more.reserved + 1 ≡ reads.reserved → 0 < spare.observations → IsProvided p more writes held additions (record spare { observations = spare.observations - 1 }) true
  provided_observes p reads more writes held additions spare a used some = record {
    locks = a.locks;
    spare_locks = a.spare_locks;
    spare_observations = omega (arith, a.spare_observations, used, some);
    spare_writes = a.spare_writes;
    few = (a.few.0, omega (arith, a.few.1), a.few.2);
    room = λ early. cc;
    twice = λ early. cc;
    marked = λ early. cc;
  }
