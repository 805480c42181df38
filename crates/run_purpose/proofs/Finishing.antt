-- The history of a finished run has found all of the capture.
use Rattle.std.proofs.Common.{◌≡◌, ℕ, ◌+◌, ◌*◌, ◌≤◌, List, [], ◌∷◌, length, get_or, refl, sym, ap, ◌∙◌, subst, arith}
use Rattle.std.specs.Prelude.{IsPermutation}
use Rattle.capture_terms.specs.Capture.{contents_of}
use Rattle.inspection_terms.specs.Findings.{findings_of_capture}
use Rattle.serial_terms.specs.declared.store.Layout.{Layout}
use Rattle.serial_terms.specs.declared.store.StoreState.{StoreState}
use Rattle.serial_terms.specs.Histories.{IsLegalRun}
use Rattle.serial_terms.specs.RunLayout.{layout_by}
use Rattle.serial_terms.specs.Stores.{opening_of, state_of}
use Rattle.run_stages.specs.Ends.{IsFinished, fills_made}
use Rattle.run_stages.specs.FromCapture.{work_of_plan, TasksHaveFacts, PlansAreWork, FinishedFindsCapture, FindingsFitLog, KeysAreIncomplete}
use Rattle.run_stages.specs.Laws.{RunsEndLawful, FillsAreCounted}
use Rattle.run_stages.specs.Opening.{layout_of, IsRunOfWork}
use Rattle.run_stages.specs.Stages.{IsLawful}
use Rattle.run_purpose.specs.Lawful.{layout_for}
use Rattle.run_purpose.specs.Finished.{FinishedRunsFindAll}
use Rattle.run_purpose.proofs.LastReplies.{ends_empty, ends_pooled}

none : {A : Type 0} (xs : List A) → length xs ≡ 0 → xs ≡ []
none [] e = refl
none (x ∷ xs) e = absurd (omega (arith, e))

module _ (layout : Layout) (contents : StoreState) where
  log_is : ((state_of layout contents).logs 0).items ≡ get_or contents.logs 0 []
  unfolding state_of
  log_is = refl

  queue_is : ((state_of layout contents).queues 0).items ≡ get_or contents.queues 0 []
  unfolding state_of
  queue_is = refl

  pool_is : ((state_of layout contents).pools 0).held ≡ length (get_or contents.pools 0 [])
  unfolding state_of
  pool_is = refl

pub finished : TasksHaveFacts → PlansAreWork → FillsAreCounted → RunsEndLawful → FinishedFindsCapture → FindingsFitLog → KeysAreIncomplete → FinishedRunsFindAll
finished facts works fills lawful finds fits keys rules bytes capture window plan fine is findings history contents run =
    let w = work_of_plan rules bytes plan in
    let sound = works rules bytes capture window plan fine is in
    let f = facts rules bytes plan.tasks.items plan.groups.items in
    let layout = layout_for plan findings in
    let end = state_of layout contents in
    let same : layout_of w findings ≡ layout = ap (λ (n : ℕ). layout_by n w.groups findings) f.0 ∙ ap (λ (g : ℕ). layout_by (length plan.tasks.items) g findings) f.1 in
    let legal : IsLegalRun (opening_of (layout_of w findings)) history end = subst (λ (l : Layout). IsLegalRun (opening_of l) history end) (sym same) run.legal.run in
    let of_work : IsRunOfWork w findings history end = record { run = legal; allowed = run.allowed } in
    let queue = ends_empty history end run.legal run.item run.none_queued in
    let pool = ends_pooled history end run.legal run.task run.none_pooled in
    let given : length w.tasks ≤ 4096 * (fills_made history + 1) = (let n = f.0 in let g = run.given in omega arith) in
    let done : IsFinished w end = record { pool = pool; queue = queue; given = (fills w sound findings history end of_work).1 given } in
    let stands : IsLawful w end = lawful w sound findings history end of_work in
    record {
      found = subst (IsPermutation (findings_of_capture rules bytes window (contents_of capture))) (log_is layout contents) (finds rules bytes capture window plan is end stands done);
      few = fits rules bytes capture window plan fine is findings history end of_work done;
      queue = sym (queue_is layout contents) ∙ queue;
      pool = none (get_or contents.pools 0 []) (sym (pool_is layout contents) ∙ pool);
      keys = λ ordered. keys rules bytes capture window plan fine is layout contents ordered stands done;
    }
