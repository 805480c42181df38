-- A task leaves the pool.
use Rattle.std.proofs.Common.{◌≡◌, ◌≢◌, ℕ, ◌+◌, ◌-◌, ◌<◌, ◌≤◌, List, [], ◌∷◌, ◌++◌, length, sym, refl, ◌∙◌, subst, arith}
use Rattle.std.specs.Prelude.{Option, Some, None}
use mathlib.Core.Logic.{dite}
use native.Mathlib.Decide.{ℕ_discrete}
use Rattle.serial_terms.specs.Counts.{times}
use Rattle.serial_terms.specs.Serial.{Pool, Sequence, less}
use Rattle.run_stages.specs.Work.{Work, IsWhole, IsMember, given_count, total_below, task_item, group_item}
use Rattle.run_stages.specs.Stages.{IsAdded, Stages}
use Rattle.run_stages.proofs.Counting.{total_at, times_push_same, times_push_other, push_length, task_items, task_no_group}
use Rattle.serial_terms.specs.Facts.{with_at_same, with_at_other}

-- a whole task is no group's
pub whole_no_member : (w : Work) (h i : ℕ) → IsWhole w i → IsMember w h i → ⊥
whole_no_member w h i a b = let c : None ≡ Some h = sym a.alone ∙ b.belongs in absurd (cc)

-- a task is of one group
pub one_group : (w : Work) (h k i : ℕ) → IsMember w h i → IsMember w k i → h ≡ k
one_group w h k i a b = let c : Some h ≡ Some k = sym a.belongs ∙ b.belongs in cc

module _ {w : Work} {f : ℕ} {pool : Pool} {queue : Sequence} {words links : ℕ → Option ℕ} {log matched : List ℕ} {chain : ℕ → List ℕ} (g : Stages w f pool queue words links log matched chain) (i : ℕ) (there : 0 < pool.count i) where
  pub one_there : pool.count i ≡ 1
  one_there = let a = g.once i in omega arith

  pub taken_here : (less pool i).count i ≡ 0
  taken_here = let a = g.once i in let b = with_at_same pool.count i (pool.count i - 1) i refl in omega arith

  pub taken_other : (j : ℕ) → j ≢ i → (less pool i).count j ≡ pool.count j
  taken_other j e = with_at_other pool.count i (pool.count i - 1) j e

  pub taken_le : (j : ℕ) → (less pool i).count j ≤ pool.count j
  taken_le j = dite (ℕ_discrete j i) (λ e. subst (λ (z : ℕ). (less pool i).count z ≤ pool.count z) (sym e) (let a = taken_here in omega arith)) (λ e. let a = taken_other j e in omega arith)

  pub taken_held : (less pool i).held ≡ total_below (less pool i).count (length w.tasks)
  taken_held = let a = g.held in let l = g.pooled i there in let t = total_at pool.count i (pool.count i - 1) (length w.tasks) (omega arith) in let o = one_there in omega arith

  -- what was added before is added after, and only the task itself may be added anew
  pub still_added : (h j : ℕ) → IsAdded w f pool h j → IsAdded w f (less pool i) h j
  still_added h j a = record { member = a.member; given = a.given; taken = let l = taken_le j in let t = a.taken in omega arith }

  pub was_added : (h j : ℕ) → j ≢ i → IsAdded w f (less pool i) h j → IsAdded w f pool h j
  was_added h j e a = record { member = a.member; given = a.given; taken = sym (taken_other j e) ∙ a.taken }

  pub some_held : 0 < pool.held
  some_held = let a = taken_held in let b = g.held in let l = g.pooled i there in let t = total_at pool.count i (pool.count i - 1) (length w.tasks) (omega arith) in let o = one_there in omega arith

  module _ (alone : IsWhole w i) where
    was : (h j : ℕ) → IsAdded w f (less pool i) h j → IsAdded w f pool h j
    was h j a = was_added h j (λ e. whole_no_member w h i alone (subst (λ (z : ℕ). IsMember w h z) e a.member)) a

    -- a whole task goes from the pool into the queue
    pub whole_taken : Stages w f (less pool i) (record { items = queue.items ++ task_item i ∷ []; capacity = queue.capacity }) words links log matched chain
    whole_taken = record {
      slots = g.slots;
      capacity = g.capacity;
      fits = let a = g.fits in let b = push_length queue.items (task_item i) in let o = one_there in let t = some_held in omega arith;
      pooled = λ j l. let m = taken_le j in g.pooled j (omega arith);
      once = λ j. let m = taken_le j in let o = g.once j in omega arith;
      held = taken_held;
      whole = λ j a b. dite (ℕ_discrete j i)
          (λ e. subst (λ (z : ℕ). (less pool i).count z + times (task_item z) (queue.items ++ task_item i ∷ []) + times (task_item z) matched ≡ 1) (sym e)
          (let x = g.whole i alone (g.pooled i there) in let y = times_push_same (task_item i) (task_item i) queue.items refl in let o = one_there in let t = taken_here in omega arith))
          (λ e. let x = g.whole j a b in let y = times_push_other (task_item j) (task_item i) queue.items (λ q. e (task_items j i q)) in let t = taken_other j e in omega arith);
      only_whole = λ j l. dite (ℕ_discrete j i)
          (λ e. subst (λ (z : ℕ). IsWhole w z × (z < given_count w f)) (sym e) (alone, g.pooled i there))
          (λ e. let y = times_push_other (task_item j) (task_item i) queue.items (λ q. e (task_items j i q)) in g.only_whole j (omega arith));
      group = λ h c a. let x = g.group h c (λ j m. was h j (a j m)) in let y = times_push_other (group_item h) (task_item i) queue.items (λ q. task_no_group i h (sym q)) in omega arith;
      only_group = λ h l. let y = times_push_other (group_item h) (task_item i) queue.items (λ q. task_no_group i h (sym q)) in let o = g.only_group h (omega arith) in (o.0, λ j m. still_added h j (o.1 j m));
      found = g.found;
      chained = λ h j a m. g.chained h j (was h j a) m;
      only_chained = λ h j l. let o = g.only_chained h j l in (still_added h j o.0, o.1);
      word = g.word;
      lead = g.lead;
      only_linked = g.only_linked;
    }
