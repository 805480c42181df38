-- The next tasks are given.
use Rattle.std.proofs.Common.{◌≡◌, ℕ, ◌+◌, ◌-◌, ◌*◌, ◌<◌, ◌≤◌, List, length, inl, inr, ⊎_elim, arith}
use Rattle.std.specs.Prelude.{Option}
use Rattle.serial_terms.specs.Counts.{times}
use Rattle.serial_terms.specs.Serial.{Pool, Sequence}
use Rattle.run_stages.specs.Work.{Work, given_count, task_item}
use Rattle.run_stages.specs.Allowed.{next_batch}
use Rattle.run_stages.specs.Stages.{IsAdded, Stages}
use Rattle.run_stages.proofs.Counting.{zero_or, below_or, total_add, total_times, times_numbers, times_no_numbers}

-- the pool with these items more
abbrev pub pool_with : Pool → List ℕ → Pool
pool_with p xs = record { count = λ i. p.count i + times i xs; held = p.held + length xs; slots = p.slots }

module _ {w : Work} {f : ℕ} {pool : Pool} {queue : Sequence} {words links : ℕ → Option ℕ} {log matched : List ℕ} {chain : ℕ → List ℕ} (g : Stages w f pool queue words links log matched chain)
    (short : 4096 * (f + 1) < length w.tasks) (empty : length queue.items ≡ 0) (slots : pool.held + length (next_batch w f) ≤ pool.slots) where
  was_given : given_count w f ≡ 4096 * (f + 1)
  was_given = omega arith

  end : 4096 * (f + 1) + (given_count w (f + 1) - 4096 * (f + 1)) ≡ given_count w (f + 1)
  end = omega arith

  more : given_count w f ≤ given_count w (f + 1)
  more = omega arith

  old_task : (i : ℕ) → i < given_count w f → times i (next_batch w f) ≡ 0
  old_task i l = times_no_numbers i (4096 * (f + 1)) (given_count w (f + 1) - 4096 * (f + 1)) (inl (omega arith))

  new_task : (i : ℕ) → given_count w f ≤ i → i < given_count w (f + 1) → times i (next_batch w f) ≡ 1
  new_task i l m = times_numbers i (4096 * (f + 1)) (given_count w (f + 1) - 4096 * (f + 1)) (omega arith) (omega arith)

  no_task : (i : ℕ) → given_count w (f + 1) ≤ i → times i (next_batch w f) ≡ 0
  no_task i l = times_no_numbers i (4096 * (f + 1)) (given_count w (f + 1) - 4096 * (f + 1)) (inr (omega arith))

  not_pooled : (i : ℕ) → given_count w f ≤ i → pool.count i ≡ 0
  not_pooled i l = zero_or (pool.count i) (λ m. let p = g.pooled i m in omega arith)

  still_added : (h i : ℕ) → IsAdded w f pool h i → IsAdded w (f + 1) (pool_with pool (next_batch w f)) h i
  still_added h i a = record { member = a.member; given = let l = a.given in let m = more in omega arith; taken = let t = a.taken in let o = old_task i a.given in omega arith }

  was_added : (h i : ℕ) → IsAdded w (f + 1) (pool_with pool (next_batch w f)) h i → IsAdded w f pool h i
  was_added h i a = record { member = a.member; given = ⊎_elim (λ l. l) (λ l. let n = new_task i l a.given in let t = a.taken in absurd (omega arith)) (below_or i (given_count w f)); taken = let t = a.taken in omega arith }

  in_range : (i : ℕ) → 0 < times i (next_batch w f) → i < given_count w (f + 1)
  in_range i l = ⊎_elim (λ m. m) (λ m. let n = no_task i m in absurd (omega arith)) (below_or i (given_count w (f + 1)))

  pub filled : Stages w (f + 1) (pool_with pool (next_batch w f)) queue words links log matched chain
  filled = record {
    slots = g.slots;
    capacity = g.capacity;
    fits = let a = g.slots in omega arith;
    pooled = λ i l. ⊎_elim (λ m. let a = more in omega arith) (λ m. let n = not_pooled i m in in_range i (omega arith)) (below_or i (given_count w f));
    once = λ i. ⊎_elim (λ m. let o = old_task i m in let a = g.once i in omega arith)
        (λ m. let n = not_pooled i m in ⊎_elim (λ k. let a = new_task i m k in omega arith) (λ k. let a = no_task i k in omega arith) (below_or i (given_count w (f + 1))))
        (below_or i (given_count w f));
    held = let a = g.held in let b = total_add pool.count (λ i. times i (next_batch w f)) (length w.tasks) in let c = total_times (next_batch w f) (length w.tasks) (λ i l. let r = in_range i l in omega arith) in omega arith;
    whole = λ i a l. ⊎_elim
        (λ m. let x = g.whole i a m in let o = old_task i m in omega arith)
        (λ m. let n = not_pooled i m in let o = new_task i m l in let z = zero_or (times (task_item i) queue.items + times (task_item i) matched) (λ k. let y = (g.only_whole i k).1 in omega arith) in omega arith)
        (below_or i (given_count w f));
    only_whole = λ i l. let o = g.only_whole i l in let m = more in let r = o.1 in (o.0, omega arith);
    group = λ h c a. g.group h c (λ i m. was_added h i (a i m));
    only_group = λ h l. let o = g.only_group h l in (o.0, λ i m. still_added h i (o.1 i m));
    found = g.found;
    chained = λ h i a m. g.chained h i (was_added h i a) m;
    only_chained = λ h i l. let o = g.only_chained h i l in (still_added h i o.0, o.1);
    word = g.word;
    lead = g.lead;
    only_linked = g.only_linked;
  }
