-- A walk through the tasks of a group.
use Rattle.std.proofs.Common.{◌≡◌, ℕ, ◌+◌, ◌-◌, ◌<◌, ◌≤◌, eqb, List, [], ◌∷◌, ◌++◌, length, Some, None, refl, sym, ap, ◌∙◌, subst, arith, eq-eqb, length-append}
use Rattle.std.specs.Prelude.{false}
use Rattle.std.proofs.lemmas.Bool.{cond-true}
use Rattle.serial_terms.specs.Counts.{times}
use Rattle.serial_terms.specs.declared.call.Done.{Done}
use Rattle.serial_terms.specs.Histories.{Runs}
use Rattle.serial_terms.specs.Renaming.{by_key}
use Rattle.run_findings.specs.Datagrams.{AreAllTasks}
use Rattle.run_purpose.specs.declared.item.Item.{Item}
use Rattle.run_purpose.specs.declared.item.Item.TheVariants.{Whole, Group}
use Rattle.run_stages.specs.Allowed.{walk}
use Rattle.run_stages.specs.Told.{walked, WalkStaysInGroup, WalkFindsGroup}
use Rattle.run_stages.specs.Work.{Work, IsMember, head_of}
use Rattle.tx_store.specs.Bodies.{Does}
use Rattle.tx_store.specs.BodyFacts.{does_nothing, does_then}
use Rattle.tx_store.specs.Stores.{TxView}
use Rattle.run_bodies.specs.Matching.{IsDatagram, IsTakenOut, AreSomeTasks, HasWalked, word_taken, linked_from, walking, walked_all}
use Rattle.run_bodies.specs.RunStores.{RunsFromLawful}
use Rattle.run_bodies.proofs.Outside.{noted_then}

-- the task at which a walk stands
abbrev pub last_of : ℕ → List ℕ → ℕ
last_of i [] = i
last_of i (j ∷ js) = last_of j js

here : (i : ℕ) (is : List ℕ) → 0 < times i (i ∷ is)
here i is = let e : times i (i ∷ is) ≡ 1 + times i is = ap (λ (z : ℕ). z + times i is) (cond-true (eqb i i) 1 0 (eq-eqb i i refl)) in omega arith

pub stands_in : (i : ℕ) (js : List ℕ) → 0 < times (last_of i js) (i ∷ js)
stands_in i [] = here i []
stands_in i (j ∷ js) = let more = stands_in j js in omega arith

pub last_more : (i : ℕ) (js : List ℕ) (j : ℕ) → j ≡ last_of i (js ++ j ∷ [])
last_more i [] j = refl
last_more i (k ∷ js) j = last_more k js j

pub walked_more : (i : ℕ) (js : List ℕ) (j : ℕ) → walked i js ++ linked_from (last_of i js) (Some j) ≡ walked i (js ++ j ∷ [])
walked_more i [] j = refl
walked_more i (k ∷ js) j = ap (λ (ds : List Done). walked i (k ∷ []) ++ ds) (walked_more k js j)

pub walked_ends : (w : Work) (i : ℕ) (js : List ℕ) → walked i js ++ linked_from (last_of i js) None ≡ walk w i js
walked_ends w i [] = refl
walked_ends w i (k ∷ js) = ap (λ (ds : List Done). walked i (k ∷ []) ++ ds) (walked_ends w k js)

-- ---- what the calls tell

pub some_tasks : WalkStaysInGroup → (w : Work) (calls : List Done) → RunsFromLawful w calls → (group word : ℕ) (before : List ℕ) → calls ≡ walking group word before → AreSomeTasks w group (head_of word ∷ before)
some_tasks stays w calls runs group word before e =
    let tells = stays w runs.lawful.sound runs.state runs.now runs.lawful.lawful group word before (subst (λ (ds : List Done). Runs runs.state ds runs.now) e runs.run) in
    record { only = tells.1; few = tells.2 }

pub all_tasks : WalkFindsGroup → (w : Work) (calls : List Done) → RunsFromLawful w calls → (group word : ℕ) (before : List ℕ) → calls ≡ walked_all w group word before → AreAllTasks w group (head_of word ∷ before)
all_tasks finds w calls runs group word before e =
    let tells = finds w runs.lawful.sound runs.state runs.now runs.lawful.lawful group word before (subst (λ (ds : List Done). Runs runs.state ds runs.now) e runs.run) in
    record { complete = tells.0; all = λ i member. (let once = tells.1 i member in omega arith); only = tells.2 }

-- ---- a walk so far

-- it began with the one attempt and has come to the other: it stands at the task `last`, behind those in the chain
pub record IsWalking {M : Type 0} (w : Work) (group word : ℕ) (a b : TxView M) (chain : List ℕ) (last : ℕ) : Type 0 where
  pub before : List ℕ
  pub through : chain ++ last ∷ [] ≡ head_of word ∷ before
  pub stands : last ≡ last_of (head_of word) before
  pub does : Does a b (walked (head_of word) before)

pub walk_begins : {M : Type 0} (w : Work) (group word : ℕ) (a : TxView M) (chain : List ℕ) (last : ℕ) → a.attempt.committing ≡ false → chain ≡ [] → last ≡ head_of word → IsWalking w group word a a chain last
walk_begins w group word a chain last early none head = record {
  before = [];
  through = ap (λ (is : List ℕ). is ++ last ∷ []) none ∙ ap (λ (i : ℕ). i ∷ []) head;
  stands = head;
  does = does_nothing a early;
}

module _ {M : Type 0} (w : Work) (group word : ℕ) (a b : TxView M) (chain : List ℕ) (last : ℕ) (taken : by_key a.attempt.notes ≡ walking group word []) (is : IsWalking w group word a b chain last) where
  pub noted_so_far : by_key b.attempt.notes ≡ walking group word is.before
  noted_so_far = noted_then a b (walking group word []) (walked (head_of word) is.before) taken is.does

  module _ (tells : (before : List ℕ) → by_key b.attempt.notes ≡ walking group word before → AreSomeTasks w group (head_of word ∷ before)) where
    pub member : IsMember w group last
    member = (tells is.before noted_so_far).only last (subst (λ (i : ℕ). 0 < times i (head_of word ∷ is.before)) (sym is.stands) (stands_in (head_of word) is.before))

    pub few_so_far : length chain + 1 ≤ length w.tasks
    few_so_far = let few = (tells is.before noted_so_far).few in let e = ap length is.through in let l = length-append chain (last ∷ []) in omega arith

  -- one link further, where the chain has the task at which it stood
  module _ (longer : List ℕ) (pushed : longer ≡ chain ++ last ∷ []) (d : TxView M) where
    pub walks_on : (j : ℕ) → Does b d (linked_from last (Some j)) → IsWalking w group word a d longer j
    walks_on j link = record {
      before = is.before ++ j ∷ [];
      through = ap (λ (numbers : List ℕ). numbers ++ j ∷ []) (pushed ∙ is.through);
      stands = last_more (head_of word) is.before j;
      does = subst (λ (ds : List Done). Does a d ds) (walked_more (head_of word) is.before j)
          (does_then a b d (walked (head_of word) is.before) (linked_from (last_of (head_of word) is.before) (Some j)) is.does (subst (λ (i : ℕ). Does b d (linked_from i (Some j))) is.stands link));
    }

    walked_out : Does b d (linked_from last None) → Does a d (walk w (head_of word) is.before)
    walked_out link = subst (λ (ds : List Done). Does a d ds) (walked_ends w (head_of word) is.before)
        (does_then a b d (walked (head_of word) is.before) (linked_from (last_of (head_of word) is.before) None) is.does (subst (λ (i : ℕ). Does b d (linked_from i None)) is.stands link))

    -- or to the end
    pub walk_ended : Does b d (linked_from last None) → ((before : List ℕ) → by_key d.attempt.notes ≡ walked_all w group word before → AreAllTasks w group (head_of word ∷ before)) → HasWalked w group word a d longer
    walk_ended link tells = record {
      before = is.before;
      does = walked_out link;
      all = subst (λ (numbers : List ℕ). AreAllTasks w group numbers) (sym (pushed ∙ is.through))
          (tells is.before (noted_then a d (walking group word []) (walk w (head_of word) is.before) taken (walked_out link)));
    }

-- the next task of the walk brings its end nearer
pub comes_nearer : (tasks last : ℕ) (chain longer : List ℕ) → length chain + 1 ≤ tasks → longer ≡ chain ++ last ∷ [] → tasks - length longer < tasks - length chain
comes_nearer tasks last chain longer few is = let e = ap length is in let l = length-append chain (last ∷ []) in omega arith

-- ---- a datagram is taken out

module _ {M : Type 0} (w : Work) where
  -- a whole task's item was all that there is of it
  pub out_whole : (item : Item) (task : ℕ) (a : TxView M) (numbers : List ℕ) → item ≡ Whole task → IsDatagram w item → a.attempt.committing ≡ false → IsTakenOut w item a a numbers
  out_whole item task a numbers is datagram early =
      subst (λ (i : Item). IsTakenOut w i a a numbers) (sym is)
      (record { calls = []; does = does_nothing a early; takes = refl; tasks = subst (λ (i : Item). IsDatagram w i) is datagram })

  -- a group has its word and its links
  pub out_group : (group word : ℕ) (a b d : TxView M) (numbers : List ℕ) → Does a b (word_taken group word) → HasWalked w group word b d numbers → IsTakenOut w (Group group) a d numbers
  out_group group word a b d numbers does walked = record {
    calls = word_taken group word ++ walk w (head_of word) walked.before;
    does = does_then a b d (word_taken group word) (walk w (head_of word) walked.before) does walked.does;
    takes = (word, walked.before, refl);
    tasks = walked.all;
  }
