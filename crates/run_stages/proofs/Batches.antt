-- A run with a fill.
use Rattle.std.proofs.Common.{◌≡◌, ℕ, zero, suc, ◌+◌, ◌-◌, ◌*◌, ◌^◌, ◌<◌, ◌≤◌, true, false, cond, List, [], ◌∷◌, ◌++◌, length, ⊎_elim, sym, refl, ap, ◌∙◌, subst, arith, lit<, lit≤}
use Rattle.std.specs.Prelude.{Option, Some, None, replicate}
use Rattle.std.proofs.Math.ListN.{get_or-eq_default}
use Rattle.std.proofs.lemmas.List.{get_or-replicate, length-replicate}
use Rattle.serial_terms.specs.declared.call.Call.TheVariants.{Enqueue, Dequeue, QueueLen, Take, Give, AppendPlaced, CellGet, CellPut}
use Rattle.serial_terms.specs.declared.call.Reply.TheVariants.{Nothing, Value, Flag}
use Rattle.serial_terms.specs.declared.call.Done.{Done}
use Rattle.serial_terms.specs.Counts.{times, numbers_from}
use Rattle.serial_terms.specs.Entries.{Entry, Each, IsBookFrom}
use Rattle.serial_terms.specs.Facts.{with_at_other, each_append}
use Rattle.serial_terms.specs.Histories.{Runs, IsLegalRun}
use Rattle.serial_terms.specs.Laws.{CapacitiesStay, RecordsRunInParts, OneBookIsAHistory}
use Rattle.serial_terms.specs.RunLayout.{layout_by}
use Rattle.serial_terms.specs.Serial.{State, IsWithinCapacity, step, first, rest, less, put_pool, put_queue, put_cell, outside, in_child}
use Rattle.serial_terms.specs.Stores.{opening_of}
use Rattle.serial_terms.specs.Worked.{writes, reads, no_item, no_task}
use Rattle.run_stages.specs.Work.{Work, IsSoundWork, IsWhole, IsMember, task, total_below, group_bytes, given_count, task_item, is_some_of}
use Rattle.run_stages.specs.Allowed.{Appends, IsAllowed, take_whole, match_whole, nothing_queued, nothing_pooled, fill, gives, next_batch}
use Rattle.run_stages.specs.Opening.{opening, layout_of, IsRunOfWork}
use Rattle.run_stages.specs.Ends.{IsFinished}
use Rattle.run_stages.specs.Laws.{RunsEndLawful}
use Rattle.run_stages.specs.Worked.{IsWholeRun, whole_task}
use Rattle.run_stages.specs.Batches.{frames, turns, given_out, batch_records, BatchesRun}
use Rattle.run_stages.proofs.Counting.{below_or, total_same, numbers_length, times_numbers, push_length}
use Rattle.run_stages.proofs.Filling.{pool_with}
use Rattle.run_stages.proofs.Runs.{gives_fit}

-- ---- the work

frames_length : (n : ℕ) → length (frames n).tasks ≡ n
unfolding frames
frames_length n = length-replicate n whole_task

frames_alone : (n i : ℕ) → (task (frames n) i).group ≡ None
unfolding frames
frames_alone n i = ⊎_elim
    (λ l. ap (λ (z : _). z.group) (get_or-replicate n i whole_task (record { group = None; start = 0; size = 0; last = false }) l))
    (λ l. ap (λ (z : _). z.group) (get_or-eq_default (replicate n whole_task) (record { group = None; start = 0; size = 0; last = false }) (let e = length-replicate n whole_task in omega arith)))
    (below_or i n)

frames_no_member : (n h i : ℕ) → IsMember (frames n) h i → ⊥
frames_no_member n h i m = let e : None ≡ Some h = sym (frames_alone n i) ∙ m.belongs in absurd (cc)

frames_whole : (n i : ℕ) → i < n → IsWhole (frames n) i
frames_whole n i l = record { below = let e = frames_length n in omega arith; alone = frames_alone n i }

no_bytes : (n h : ℕ) → group_bytes (frames n) h ≡ 0
no_bytes n h = total_same (λ i. cond (is_some_of (task (frames n) i).group h) (task (frames n) i).size 0) (λ i. 0) (length (frames n).tasks) (λ i l. ap (λ (z : Option ℕ). cond (is_some_of z h) (task (frames n) i).size 0) (frames_alone n i)) ∙ zeros (length (frames n).tasks)
  where
    zeros : (k : ℕ) → total_below (λ i. 0) k ≡ 0
    zeros zero = refl
    zeros (suc k) = let a = zeros k in omega arith

frames_no_groups : (n : ℕ) → (frames n).groups ≡ 0
unfolding frames
frames_no_groups n = refl

frames_values : (n i : ℕ) → (frames n).task_values i ≡ (i * 2 ^ 32 + 8) ∷ []
unfolding frames
frames_values n i = refl

frames_sound : (n : ℕ) → IsSoundWork (frames n)
frames_sound n = record {
  numbered = λ h i m. absurd (frames_no_member n h i m);
  inhabited = λ h l. let e = frames_no_groups n in absurd (omega arith);
  filled = λ h i m. absurd (frames_no_member n h i m);
  short = λ h i m. absurd (frames_no_member n h i m);
  one_last = λ h i j m. absurd (frames_no_member n h i m);
  packed = λ h i m. absurd (frames_no_member n h i m);
  bounded = λ h. let e = no_bytes n h in omega arith;
}

-- ---- turns

-- before the turns for k tasks from i on
record Ready (s : State) (i k : ℕ) : Type 0 where
  empty : (s.queues 0).items ≡ []
  room : 0 < (s.queues 0).capacity
  there : (j : ℕ) → i ≤ j → j < i + k → 0 < (s.pools 0).count j
  held : k ≤ (s.pools 0).held
  logged : length (s.logs 0).items ≡ i
  space : i + k ≤ (s.logs 0).capacity
  within : IsWithinCapacity s

-- after them
record Turned (s : State) (k : ℕ) (t : State) : Type 0 where
  empty : (t.queues 0).items ≡ []
  room : (t.queues 0).capacity ≡ (s.queues 0).capacity
  held : (t.pools 0).held + k ≡ (s.pools 0).held
  slots : (t.pools 0).slots ≡ (s.pools 0).slots
  logged : length (t.logs 0).items ≡ length (s.logs 0).items + k
  space : (t.logs 0).capacity ≡ (s.logs 0).capacity
  cell : t.cells 0 ≡ s.cells 0
  within : IsWithinCapacity t

-- the state after a task was taken, and after the turn
abbrev taken : State → ℕ → State
taken s i = step (step s (outside (Take 0) (Value i))) (in_child (Enqueue 0 (task_item i)) Nothing)

abbrev turned : State → ℕ → State
turned s i = step (step (taken s i) (outside (Dequeue 0) (Value (task_item i)))) (in_child (AppendPlaced 0 (i * 2 ^ 32 + 8)) (Value i))

-- the records of turns, with those behind them, are one book
turns_book : (k i place index : ℕ) (es : List (Entry Done)) → IsBookFrom 0 (index + 3 * k) (place + 2 * k) es → IsBookFrom 0 index place (turns i place index k ++ es)
unfolding turns
turns_book zero i place index es b = let n : index + 3 * 0 ≡ index = omega arith in let p : place + 2 * 0 ≡ place = omega arith in subst (λ (z : ℕ). IsBookFrom 0 z place es) n (subst (λ (z : ℕ). IsBookFrom 0 (index + 3 * 0) z es) p b)
turns_book (suc k) i place index es b =
    let n : index + 3 * suc k ≡ index + 3 + 3 * k = omega arith in let p : place + 2 * suc k ≡ place + 2 + 2 * k = omega arith in
    let behind = turns_book k (i + 1) (place + 2) (index + 3) es (subst (λ (z : ℕ). IsBookFrom 0 z (place + 2 + 2 * k) es) n (subst (λ (z : ℕ). IsBookFrom 0 (index + 3 * suc k) z es) p b)) in
    let m : index + 3 ≡ index + 1 + 1 + 1 = omega arith in
    (refl, refl, omega arith, (λ e. absurd (cc)), (refl, refl, omega arith, (λ e. omega arith), (refl, omega arith, omega arith, (λ e. omega arith), subst (λ (z : ℕ). IsBookFrom 0 z (place + 2) (turns (i + 1) (place + 2) (index + 3) k ++ es)) m behind)))

turns_allowed : (n k i place index : ℕ) → i + k ≤ n → Each (λ e. IsAllowed (frames n) e.dones) (turns i place index k)
unfolding turns
turns_allowed n zero i place index l = tt
turns_allowed n (suc k) i place index l =
    let w = frames_whole n i (omega arith) in
    (nothing_queued refl, (take_whole i w refl, (match_whole i (in_child (AppendPlaced 0 (i * 2 ^ 32 + 8)) (Value i) ∷ []) w (subst (λ (z : List ℕ). Appends (frames n) z (in_child (AppendPlaced 0 (i * 2 ^ 32 + 8)) (Value i) ∷ [])) (sym (frames_values n i)) (refl, refl, tt)) refl, turns_allowed n k (i + 1) (place + 2) (index + 3) (omega arith))))

-- the tasks that are given are the next batch
all_given : (w : Work) (k i : ℕ) → given_out i k ≡ gives w (numbers_from i k)
all_given w zero i = refl
all_given w (suc k) i = ap (λ (z : List Done). outside (Give 0 i) (Flag true) ∷ z) (all_given w k (i + 1))

module _ (fits : CapacitiesStay) (parts : RecordsRunInParts) (books : OneBookIsAHistory) (ends : RunsEndLawful) where
  turns_run : (k i place index : ℕ) (s : State) → Ready s i k → (t : State) × IsLegalRun s (turns i place index k) t × Turned s k t
  unfolding turns
  turns_run zero i place index s r = (s, refl, record { empty = r.empty; room = refl; held = omega arith; slots = refl; logged = omega arith; space = refl; cell = refl; within = r.within })
  turns_run (suc k) i place index s r =
      let u : State = taken s i in
      let q : (u.queues 0).items ≡ task_item i ∷ [] = ap (λ (z : List ℕ). z ++ task_item i ∷ []) r.empty in
      let l = r.logged in let sp = r.space in let ro = r.room in
      let c1 : IsWithinCapacity u = fits.queue (put_pool s 0 (less (s.pools 0) i)) 0 ((s.queues 0).items ++ task_item i ∷ []) (fits.pool s 0 (less (s.pools 0) i) r.within) (let e = ap length q in omega arith) in
      let c2 : IsWithinCapacity (put_queue u 0 (rest (u.queues 0).items)) = fits.queue u 0 (rest (u.queues 0).items) c1 (let e = ap (λ (z : List ℕ). length (rest z)) q in omega arith) in
      let n = push_length (s.logs 0).items (i * 2 ^ 32 + 8) in
      let c3 : IsWithinCapacity (turned s i) = fits.log (put_queue u 0 (rest (u.queues 0).items)) 0 ((s.logs 0).items ++ (i * 2 ^ 32 + 8) ∷ []) c2 (omega arith) in
      let next : Ready (turned s i) (i + 1) k = record {
        empty = ap rest q;
        room = r.room;
        there = λ j a b. let e = with_at_other (s.pools 0).count i ((s.pools 0).count i - 1) j (λ y. omega arith) in let h = r.there j (omega arith) (omega arith) in omega arith;
        held = let h = r.held in omega arith;
        logged = omega arith;
        space = omega arith;
        within = c3;
      } in
      let i' = turns_run k (i + 1) (place + 2) (index + 3) (turned s i) next in
      let v = i'.2 in let vh = v.held in let vl = v.logged in let h = r.held in (
        i'.0,
        (
          s,
          (ap first (sym r.empty), refl),
          r.within,
          (λ _. refl),
          (
            u,
            (r.there i (omega arith) (omega arith), (refl, refl)),
            c1,
            (λ e. absurd (cc)),
            (turned s i, (ap first (sym q), (ap (λ (z : ℕ). Value z) (sym r.logged), refl)), c3, (λ e. absurd (cc)), i'.1),
          ),
        ),
        record { empty = v.empty; room = v.room; held = omega arith; slots = v.slots; logged = omega arith; space = v.space; cell = v.cell; within = v.within },
      )

  -- ---- all of it

  module _ (n : ℕ) (low : 4096 < n) (high : n ≤ 8192) where
    abbrev w : Work
    w = frames n

    abbrev o : State
    o = opening (frames n) 65536

    tasks : length (frames n).tasks ≡ n
    tasks = frames_length n

    o_queue : ((opening (frames n) 65536).queues 0).items ≡ []
    unfolding opening_of layout_by
    o_queue = refl

    o_room : ((opening (frames n) 65536).queues 0).capacity ≡ 4096
    unfolding opening_of layout_by
    o_room = let t = tasks in omega arith

    o_slots : ((opening (frames n) 65536).pools 0).slots ≡ 4096
    unfolding opening_of layout_by
    o_slots = let t = tasks in omega arith

    o_held : ((opening (frames n) 65536).pools 0).held ≡ 4096
    unfolding opening_of layout_by
    o_held = let t = tasks in let l = numbers_length 0 (given_count (frames n) 0) in omega arith

    o_there : (j : ℕ) → j < 4096 → 0 < ((opening (frames n) 65536).pools 0).count j
    unfolding opening_of layout_by
    o_there j l = let t = tasks in let x = times_numbers j 0 (given_count (frames n) 0) (omega arith) (omega arith) in omega arith

    o_log : length ((opening (frames n) 65536).logs 0).items ≡ 0
    unfolding opening_of layout_by
    o_log = refl

    o_space : ((opening (frames n) 65536).logs 0).capacity ≡ 65536
    unfolding opening_of layout_by
    o_space = refl

    o_cell : (opening (frames n) 65536).cells 0 ≡ 0
    unfolding opening_of layout_by
    o_cell = refl

    first_batch : (t : State) × IsLegalRun (opening (frames n) 65536) (turns 0 0 0 4096) t × Turned (opening (frames n) 65536) 4096 t
    first_batch = turns_run 4096 0 0 0 (opening (frames n) 65536) (record {
      empty = o_queue;
      room = let r = o_room in omega arith;
      there = λ j a b. o_there j (omega arith);
      held = let h = o_held in omega arith;
      logged = o_log;
      space = let s = o_space in omega arith;
      within = fits.opening (layout_of (frames n) 65536);
    })

    many : length (next_batch (frames n) 0) ≡ n - 4096
    many = let t = tasks in let l = numbers_length 4096 (given_count (frames n) 1 - 4096) in omega arith

    in_batch : (j : ℕ) → 4096 ≤ j → j < n → 0 < times j (next_batch (frames n) 0)
    in_batch j a b = let t = tasks in let x = times_numbers j 4096 (given_count (frames n) 1 - 4096) a (omega arith) in omega arith

    abbrev filling : List Done
    filling = outside (QueueLen 0) (Value 0) ∷ outside (CellGet 0) (Value 0) ∷ outside (CellPut 0 1) Nothing ∷ given_out 4096 (n - 4096)

    same_batch : given_out 4096 (n - 4096) ≡ gives (frames n) (next_batch (frames n) 0)
    same_batch = let t = tasks in let m : n - 4096 ≡ given_count (frames n) 1 - 4096 = omega arith in all_given (frames n) (n - 4096) 4096 ∙ ap (λ (z : ℕ). gives (frames n) (numbers_from 4096 z)) m

    abbrev last_two : List (Entry Done)
    last_two = reads 0 (3 * n + 3) (2 * n + 1) (no_item ∷ []) ∷ reads 0 (3 * n + 4) (2 * n + 1) (no_task ∷ []) ∷ []

    -- from the state after the first batch
    module _ (s : State) (r : Turned (opening (frames n) 65536) 4096 s) where
      s_held : (s.pools 0).held ≡ 0
      s_held = let h = r.held in let o = o_held in omega arith

      s_slots : (s.pools 0).slots ≡ 4096
      s_slots = r.slots ∙ o_slots

      s_cell : s.cells 0 ≡ 0
      s_cell = r.cell ∙ o_cell

      abbrev filled : State
      filled = put_pool (put_cell s 0 1) 0 (pool_with (s.pools 0) (next_batch (frames n) 0))

      fill_runs : Runs s filling filled
      fill_runs =
          let h = s_held in let k = s_slots in let m = many in
          let u : State = put_cell s 0 1 in
          let room : (u.pools 0).held + length (next_batch (frames n) 0) ≤ (u.pools 0).slots = omega arith in
          let a : Runs u (given_out 4096 (n - 4096)) filled = subst (λ (z : List Done). Runs u z filled) (sym same_batch) (gives_fit (frames n) (next_batch (frames n) 0) u room) in
          (ap (λ (z : List ℕ). Value (length z)) (sym r.empty), (ap (λ (z : ℕ). Value z) (sym s_cell), (refl, a)))

      filled_within : IsWithinCapacity filled
      filled_within = fits.pool (put_cell s 0 1) 0 (pool_with (s.pools 0) (next_batch (frames n) 0)) (fits.cell s 0 1 r.within)

      second_ready : Ready filled 4096 (n - 4096)
      second_ready = record {
        empty = r.empty;
        room = let a = r.room in let b = o_room in omega arith;
        there = λ j a b. let m = in_batch j a (omega arith) in omega arith;
        held = let m = many in omega arith;
        logged = let a = r.logged in let b = o_log in omega arith;
        space = let a = r.space in let b = o_space in omega arith;
        within = filled_within;
      }

      rest_runs : (t : State) → IsLegalRun filled (turns 4096 8193 12291 (n - 4096)) t → Turned filled (n - 4096) t
          → IsLegalRun s (reads 0 12288 8192 (no_item ∷ []) ∷ reads 0 12289 8192 (no_task ∷ []) ∷ writes 0 12290 8193 filling ∷ (turns 4096 8193 12291 (n - 4096) ++ last_two)) t
      rest_runs t l v =
          let held : (t.pools 0).held ≡ 0 = (let h = v.held in let a = s_held in let m = many in omega arith) in
          let two : IsLegalRun t last_two t = (t, (ap first (sym v.empty), refl), v.within, (λ _. refl), (t, (held, refl), v.within, (λ _. refl), refl)) in (
            s,
            (ap first (sym r.empty), refl),
            r.within,
            (λ _. refl),
            (
              s,
              (s_held, refl),
              r.within,
              (λ _. refl),
              (
                filled,
                fill_runs,
                filled_within,
                (λ e. absurd (cc)),
                (parts (turns 4096 8193 12291 (n - 4096)) last_two filled t).1 (t, l, two),
              ),
            ),
          )

      finished : (t : State) → Turned filled (n - 4096) t → IsFinished (frames n) t
      finished t v = record {
        pool = let h = v.held in let a = s_held in let m = many in omega arith;
        queue = v.empty;
        given = let c : given_count (frames n) (t.cells 0) ≡ given_count (frames n) 1 = ap (given_count (frames n)) v.cell in let e = tasks in omega arith;
      }

      rest_allowed : Each (λ e. IsAllowed (frames n) e.dones) (reads 0 12288 8192 (no_item ∷ []) ∷ reads 0 12289 8192 (no_task ∷ []) ∷ writes 0 12290 8193 filling ∷ (turns 4096 8193 12291 (n - 4096) ++ last_two))
      rest_allowed = (
        nothing_queued refl,
        (
          nothing_pooled refl,
          (
            fill 0 (let e = tasks in omega arith) (ap (λ (z : List Done). outside (QueueLen 0) (Value 0) ∷ outside (CellGet 0) (Value 0) ∷ outside (CellPut 0 1) Nothing ∷ z) same_batch),
            each_append (λ e. IsAllowed (frames n) e.dones) (turns 4096 8193 12291 (n - 4096)) last_two (turns_allowed n (n - 4096) 4096 8193 12291 (omega arith)) (nothing_queued refl, (nothing_pooled refl, tt)),
          ),
        ),
      )

    -- the whole run
    second_batch : (t : State) × IsLegalRun (filled first_batch.0 first_batch.2) (turns 4096 8193 12291 (n - 4096)) t × Turned (filled first_batch.0 first_batch.2) (n - 4096) t
    second_batch = turns_run (n - 4096) 4096 8193 12291 (filled first_batch.0 first_batch.2) (second_ready first_batch.0 first_batch.2)

    run : IsRunOfWork (frames n) 65536 (batch_records n) second_batch.0
    unfolding batch_records
    run = record {
      run = (parts (turns 0 0 0 4096) _ (opening (frames n) 65536) second_batch.0).1 (first_batch.0, first_batch.1, rest_runs first_batch.0 first_batch.2 second_batch.0 second_batch.1 second_batch.2);
      allowed = each_append (λ e. IsAllowed (frames n) e.dones) (turns 0 0 0 4096) _ (turns_allowed n 4096 0 0 0 (omega arith)) (rest_allowed first_batch.0 first_batch.2);
    }

    one_book : IsBookFrom 0 0 0 (batch_records n)
    unfolding batch_records
    one_book =
        let index : 12291 + 3 * (n - 4096) ≡ 3 * n + 3 = omega arith in let place : 8193 + 2 * (n - 4096) ≡ 2 * n + 1 = omega arith in
        let two : IsBookFrom 0 (3 * n + 3) (2 * n + 1) last_two = (refl, refl, omega arith, (λ e. absurd (cc)), (refl, omega arith, omega arith, (λ e. absurd (cc)), tt)) in
        let behind = turns_book (n - 4096) 4096 8193 12291 last_two (subst (λ (z : ℕ). IsBookFrom 0 z (8193 + 2 * (n - 4096)) last_two) (sym index) (subst (λ (z : ℕ). IsBookFrom 0 (3 * n + 3) z last_two) (sym place) two)) in
        turns_book 4096 0 0 0 _ (refl, refl, lit≤ tt, (λ e. absurd (cc)), (refl, refl, lit≤ tt, (λ e. absurd (cc)), (refl, refl, lit≤ tt, (λ e. lit< tt), behind)))

    pub whole_run : IsWholeRun (frames n) 65536 (batch_records n)
    whole_run = let b = books 0 (batch_records n) one_book in record {
      sound = frames_sound n;
      end = second_batch.0;
      history = record { order = b.0; run = run.run; counted = b.1; apart = b.2; placed = b.3 };
      allowed = run.allowed;
      lawful = ends (frames n) (frames_sound n) 65536 (batch_records n) second_batch.0 run;
      finished = finished first_batch.0 first_batch.2 second_batch.0 second_batch.2;
    }

  pub batches_run : BatchesRun
  batches_run n low high = whole_run n low high
