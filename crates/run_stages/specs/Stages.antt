-- The states between the records of a run: each task and each group stands at one of its stages.
use Rattle.std.specs.Prelude.{◌≡◌, ℕ, ◌+◌, ◌<◌, ◌≤◌, List, [], ◌∷◌, length, Option, Some, None, if◌then◌else◌}
use Rattle.serial_terms.specs.Counts.{times}
use Rattle.serial_terms.specs.Serial.{State, Pool, Sequence}
use Rattle.run_stages.specs.Work.{Work, task, IsWhole, IsMember, IsComplete, end_of, room, given_count, total_below, task_item, group_item, group_word, values_of}

module _ (w : Work) where
  -- ---- a group's tasks in the order in which they were added, the one added last first

  abbrev pub chain_bytes : List ℕ → ℕ
  chain_bytes [] = 0
  chain_bytes (i ∷ is) = (task w i).size + chain_bytes is

  abbrev pub chain_total : List ℕ → ℕ
  chain_total [] = 0
  chain_total (i ∷ is) = if (task w i).last then end_of w i else chain_total is

  -- the word of a group with these tasks
  abbrev pub chain_word : List ℕ → Option ℕ
  chain_word [] = None
  chain_word (i ∷ is) = Some (group_word i (chain_bytes (i ∷ is)) (chain_total (i ∷ is)))

  -- the links lead from each task to the one added before it, and from the first one added nowhere
  abbrev pub LeadThrough : (ℕ → Option ℕ) → List ℕ → Type 0
  LeadThrough links [] = Unit {0}
  LeadThrough links (i ∷ []) = links i ≡ None
  LeadThrough links (i ∷ j ∷ is) = (links i ≡ Some j) × LeadThrough links (j ∷ is)

  module _ (f : ℕ) (pool : Pool) where
    -- the task was given out
    abbrev pub IsGiven : ℕ → Type 0
    IsGiven i = i < given_count w f

    -- the task was added to its group: it was given, and it isn't in the pool any more
    pub record IsAdded (h i : ℕ) : Type 0 where
      pub member : IsMember w h i
      pub given : i < given_count w f
      pub taken : pool.count i ≡ 0

    -- all tasks of the group were added to it
    abbrev pub AllAdded : ℕ → Type 0
    AllAdded h = (i : ℕ) → IsMember w h i → IsAdded h i

    -- `matched` has the items of the datagrams that were matched, and `chain` the tasks added to each group that wasn't
    pub record Stages (queue : Sequence) (words links : ℕ → Option ℕ) (log matched : List ℕ) (chain : ℕ → List ℕ) : Type 0 where
      pub slots : pool.slots ≡ room w
      pub capacity : queue.capacity ≡ room w
      -- pool and queue together never have more items than the queue may have
      pub fits : pool.held + length queue.items ≤ room w
      -- the pool has tasks that were given, each at most once
      pub pooled : (i : ℕ) → 0 < pool.count i → i < given_count w f
      pub once : (i : ℕ) → pool.count i ≤ 1
      pub held : pool.held ≡ total_below pool.count (length w.tasks)
      -- each whole task that was given is in the pool, or in the queue, or matched
      pub whole : (i : ℕ) → IsWhole w i → i < given_count w f
          → pool.count i + times (task_item i) queue.items + times (task_item i) matched ≡ 1
      pub only_whole : (i : ℕ) → 0 < times (task_item i) queue.items + times (task_item i) matched → IsWhole w i
          × (i < given_count w f)
      -- each complete group whose tasks were all added is in the queue, or matched
      pub group : (h : ℕ) → IsComplete w h → AllAdded h
          → times (group_item h) queue.items + times (group_item h) matched ≡ 1
      pub only_group : (h : ℕ) → 0 < times (group_item h) queue.items + times (group_item h) matched
          → IsComplete w h × AllAdded h
      -- the log has the values of what was matched, in the order in which it was matched
      pub found : log ≡ values_of w matched
      -- a group that wasn't matched has its added tasks in its chain, each once, and no chain has others
      pub chained : (h i : ℕ) → IsAdded h i → times (group_item h) matched ≡ 0 → times i (chain h) ≡ 1
      pub only_chained : (h i : ℕ) → 0 < times i (chain h) → IsAdded h i × (times (group_item h) matched ≡ 0)
      -- map 0 has the groups' words, and map 1 leads through their chains; neither has another key
      pub word : (h : ℕ) → words h ≡ chain_word (chain h)
      pub lead : (h : ℕ) → LeadThrough links (chain h)
      pub only_linked : (i j : ℕ) → links i ≡ Some j → (h : ℕ) × (0 < times i (chain h))

  -- a lawful state of the run: plain cell 0 counts the fills
  pub record IsLawful (s : State) : Type 0 where
    pub matched : List ℕ
    pub chain : ℕ → List ℕ
    pub stages : Stages (s.cells 0) (s.pools 0) (s.queues 0) (s.maps 0) (s.maps 1) (s.logs 0).items matched chain
