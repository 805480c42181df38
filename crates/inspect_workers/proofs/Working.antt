-- How the last turn of a worker ends its run, and how many versions the turns draw.
use Rattle.std.proofs.Common.{◌≡◌, ℕ, ◌+◌, ◌-◌, ◌*◌, ◌^◌, ◌≤◌, inl, inr, Some, None, subst, arith, mul-le-mul}
use Rattle.run_bodies.specs.RunStores.{work_of_run}
use Rattle.run_purpose.specs.declared.purpose.RunPurpose.{RunPurpose}
use Rattle.store_meaning.specs.declared.meaning.StoreMeaning.{StoreMeaning}
use Rattle.tx_store.specs.declared.run.RunEnd.{RunEnd}
use Rattle.tx_store.specs.declared.run.RunEnd.TheVariants as runs
use Rattle.tx_store.specs.Stores.{StoreView, PassView}
use Rattle.inspect_workers.specs.declared.turns.TurnEnd.{TurnEnd}
use Rattle.inspect_workers.specs.declared.turns.TurnEnd.TheVariants as turns
use Rattle.inspect_workers.specs.declared.works.WorkEnd.{WorkEnd}
use Rattle.inspect_workers.specs.declared.works.WorkEnd.TheVariants as works
use Rattle.inspect_workers.specs.Noted.{AddsUpTo, IsOfWorker}
use Rattle.inspect_workers.specs.Turns.{HasWorked, IsRefusedTurn, IsTurnEnd}
use Rattle.inspect_workers.specs.Turns as one
use Rattle.inspect_workers.specs.Works.{IsLastTurn, last_end, most_draws}
use Rattle.inspect_workers.proofs.Recording.{none_more, item_more, both_more}

-- fewer than 2^31 versions are drawn by two transactions a turn, each of at most 1,024 tries, in at most two turns for each task
pub draws_few : (tries turns tasks : ℕ) → tries ≤ 1024 → turns ≤ 2 * tasks + 1 → tasks ≤ 262144 → 2 * tries * turns ≤ most_draws
draws_few tries turns tasks few low small =
    let all : 2 * tries * turns ≤ 2048 * 524289 = mul-le-mul (let x : 2 * tries ≤ 2048 = omega arith in x) (let y : turns ≤ 524289 = omega arith in y) in omega arith

pub draws_more : (tries turns : ℕ) → 2 * tries * turns + 2 * tries ≡ 2 * tries * (turns + 1)
draws_more tries turns = omega arith

same_end : (a b : WorkEnd) → Some a ≡ Some b → a ≡ b
same_end a b e = cc

module _ {K : Type 0} (run : RunPurpose) (store : StoreView (StoreMeaning RunPurpose K)) (tries : ℕ) (old new : PassView (StoreMeaning RunPurpose K)) where
  -- a turn that isn't the last one has worked
  pub goes_on : (end : TurnEnd) → last_end end ≡ None → IsTurnEnd run store tries old new end → HasWorked (work_of_run run) old.pass.books new.pass.books
  goes_on turns.Worked e is = is
  goes_on turns.Empty e is = absurd (cc)
  goes_on (turns.Spent n last) e is = absurd (cc)
  goes_on (turns.Full part values adding) e is = absurd (cc)
  goes_on turns.Memory e is = absurd (cc)

  pub ends_run : (end : TurnEnd) (last : WorkEnd) → last_end end ≡ Some last → IsTurnEnd run store tries old new end → IsLastTurn run store tries old new last
  ends_run turns.Worked last e is = absurd (cc)
  ends_run turns.Empty last e is = subst (IsLastTurn run store tries old new) (same_end _ last e) is
  ends_run (turns.Spent n stop) last e is = subst (IsLastTurn run store tries old new) (same_end _ last e) is
  ends_run (turns.Full part values adding) last e is = subst (IsLastTurn run store tries old new) (same_end _ last e) is
  ends_run turns.Memory last e is = subst (IsLastTurn run store tries old new) (same_end _ last e) is

  refused_records : (n : ℕ) (first : PassView (StoreMeaning RunPurpose K)) (end : RunEnd) → AddsUpTo n (IsOfWorker (work_of_run run)) first.pass.books old.pass.books
      → IsRefusedTurn run store tries old new end → AddsUpTo (n + 2) (IsOfWorker (work_of_run run)) first.pass.books new.pass.books
  refused_records n first end adds (inl is) = none_more (work_of_run run) n first.pass.books old.pass.books new.pass.books is.books adds
  refused_records n first end adds (inr is) = item_more (work_of_run run) n first.pass.books old.pass.books is.0.pass.books new.pass.books adds is.1 is.3.books

  -- the last turn adds two records at most
  pub last_records : (n : ℕ) (first : PassView (StoreMeaning RunPurpose K)) (last : WorkEnd) → AddsUpTo n (IsOfWorker (work_of_run run)) first.pass.books old.pass.books
      → IsLastTurn run store tries old new last → AddsUpTo (n + 2) (IsOfWorker (work_of_run run)) first.pass.books new.pass.books
  last_records n first works.Done adds is = both_more (work_of_run run) n first.pass.books old.pass.books new.pass.books is.item is.task adds is.books is.no_item is.no_task
  last_records n first (works.Spent m stop) adds is = refused_records n first (runs.Spent m stop) adds is
  last_records n first (works.Full part values adding) adds is = refused_records n first (runs.Full part values adding) adds is
  last_records n first works.Memory adds is = refused_records n first runs.Memory adds is
