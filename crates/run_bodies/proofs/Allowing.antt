-- A matching's calls are those of a record that a worker may commit, and take one item.
use Rattle.std.proofs.Common.{◌≡◌, ℕ, ◌+◌, List, [], ◌∷◌, ◌++◌, Some, None, refl, sym, ap, ◌∙◌, subst, arith}
use Rattle.std.specs.Prelude.{Bool, true, false, All, Option}
use Rattle.serial_terms.specs.declared.call.Call.{Call}
use Rattle.serial_terms.specs.declared.call.Done.{Done}
use Rattle.serial_terms.specs.Ranges.{IsKept}
use Rattle.serial_terms.specs.Renaming.{by_key}
use Rattle.store_meaning.specs.declared.meaning.StoreMeaning.{StoreMeaning}
use Rattle.tx_core.specs.Calls.{MayCommit}
use Rattle.tx_core.specs.declared.stop.TxState.TheVariants.{Running}
use Rattle.tx_nest.specs.Attempts.{GoesOn, HasAdded}
use Rattle.tx_store.specs.Bodies.{Does}
use Rattle.tx_store.specs.BodyFacts.{does_nothing, does_then, does_nested}
use Rattle.tx_store.specs.Children.{GrowsOn, view_of}
use Rattle.tx_store.specs.Runs.{IsFresh, IsSameAttempt}
use Rattle.tx_store.specs.Stores.{StoreView, TxView}
use Rattle.run_findings.specs.declared.slots.Slot.{Slot}
use Rattle.run_purpose.specs.declared.item.Item.{Item}
use Rattle.run_purpose.specs.declared.item.Item.TheVariants.{Whole, Group}
use Rattle.run_purpose.specs.declared.purpose.RunPurpose.{RunPurpose}
use Rattle.run_stages.specs.Allowed.{IsAllowed, match_whole, match_group, nothing_queued, Appends, walk}
use Rattle.run_stages.specs.Ends.{took_item, items_taken}
use Rattle.run_stages.specs.Work.{Work, IsSoundWork, head_of}
use Rattle.run_bodies.specs.Matching.{MayMatch, AreTasksOf, TakesOut, IsTakenOut, HasAppended, IsMatched, HasTried, dequeued, word_taken}
use Rattle.run_bodies.specs.Records.{TookItem, AreFoundFor, values_at}
use Rattle.run_bodies.specs.RunStores.{IsRunStore, work_of_run}
use Rattle.run_bodies.proofs.Outside.{noted_then}
use Rattle.run_bodies.proofs.Telling.{same_work}

-- ---- no item is taken behind the first call

taken_append : (xs ys : List Done) → items_taken (xs ++ ys) ≡ items_taken xs + items_taken ys
taken_append [] ys = omega arith
taken_append (d ∷ xs) ys = let e = taken_append xs ys in omega arith

walk_takes_none : (w : Work) (i : ℕ) (js : List ℕ) → items_taken (walk w i js) ≡ 0
walk_takes_none w i [] = refl
walk_takes_none w i (j ∷ js) = let rest = walk_takes_none w j js in omega arith

appends_take_none : (w : Work) (values : List ℕ) (calls : List Done) → Appends w values calls → items_taken calls ≡ 0
appends_take_none w [] [] are = refl
appends_take_none w [] (d ∷ ds) are = absurd are
appends_take_none w (v ∷ vs) [] are = absurd are
appends_take_none w (v ∷ vs) (d ∷ ds) are =
    let first : took_item d.call d.reply ≡ 0 = ap (λ (c : Call). took_item c d.reply) are.0 in
    let rest = appends_take_none w vs ds are.2 in omega arith

takes_out_none : (w : Work) (item : Item) (calls : List Done) → TakesOut w item calls → items_taken calls ≡ 0
takes_out_none w (Whole task) calls takes = ap items_taken takes
takes_out_none w (Group group) calls takes =
    let rest = walk_takes_none w (head_of takes.0) takes.1 in
    let none : items_taken (word_taken group takes.0 ++ walk w (head_of takes.0) takes.1) ≡ 0 = omega arith in
    ap items_taken takes.2 ∙ none

-- ---- the record is allowed

allowed_by : (w : Work) → IsSoundWork w → (item : Item) (numbers : List ℕ) (calls more : List Done) → AreTasksOf w item numbers → TakesOut w item calls → Appends w (values_at w item) more
    → IsAllowed w (dequeued (Some item) ∷ (calls ++ more))
allowed_by w sound (Whole task) numbers calls more tasks takes appends =
    match_whole task more tasks appends (ap (λ (ds : List Done). dequeued (Some (Whole task)) ∷ (ds ++ more)) takes)
allowed_by w sound (Group group) numbers calls more tasks takes appends =
    match_group group takes.0 takes.1 more (sound.numbered group tasks.complete.ender tasks.complete.member) appends (ap (λ (ds : List Done). dequeued (Some (Group group)) ∷ (ds ++ more)) takes.2)

module _ {M : Type 0} (w : Work) (sound : IsSoundWork w) where
  -- a datagram was taken out, and its findings were appended
  pub matched : (item : Item) (numbers values : List ℕ) (a b d : TxView M) → IsTakenOut w item a b numbers → values ≡ values_at w item → HasAppended w values b d → IsMatched w item a d
  matched item numbers values a b d out are appended =
      let appends = subst (λ (vs : List ℕ). Appends w vs appended.calls) are appended.appends in
      record {
        calls = out.calls ++ appended.calls;
        does = does_then a b d out.calls appended.calls out.does appended.does;
        allowed = allowed_by w sound item numbers out.calls appended.calls out.tasks out.takes appends;
        none_taken =
            let both = taken_append out.calls appended.calls in
            let first = takes_out_none w item out.calls out.takes in
            let next = appends_take_none w (values_at w item) appended.calls appends in
            omega arith;
      }

module _ {M : Type 0} (w : Work) where
  pub tried_none : (a b : TxView M) → Does a b (dequeued None ∷ []) → HasTried w a b false
  tried_none a b does = record {
    calls = dequeued None ∷ [];
    does = does;
    allowed = nothing_queued refl;
    took = record { none = λ e. refl; one = λ e. absurd (cc) };
  }

  pub tried_one : (item : Item) (a b d : TxView M) → Does a b (dequeued (Some item) ∷ []) → IsMatched w item b d → HasTried w a d true
  tried_one item a b d does is = record {
    calls = dequeued (Some item) ∷ is.calls;
    does = does_then a b d (dequeued (Some item) ∷ []) is.calls does is.does;
    allowed = is.allowed;
    took = record { none = λ e. absurd (cc); one = λ e. (let none = is.none_taken in omega arith) };
  }

-- ---- the same store

module _ {K : Type 0} (run : RunPurpose) (a b : TxView (StoreMeaning RunPurpose K)) (same : IsSameAttempt a b) where
  pub run_store_after : IsRunStore run a.store → IsRunStore run b.store
  run_store_after is = subst (λ (s : StoreView (StoreMeaning RunPurpose K)). IsRunStore run s) (sym same.store) is

  module _ (ahead : List Slot) (found_for : Option Item) (values : List ℕ) where
    pub may_after : MayMatch run ahead found_for values a.store → MayMatch run ahead found_for values b.store
    may_after may = (run_store_after may.0, may.1, may.2)

    pub may_before : MayMatch run ahead found_for values b.store → MayMatch run ahead found_for values a.store
    may_before may = (subst (λ (s : StoreView (StoreMeaning RunPurpose K)). IsRunStore run s) same.store may.0, may.1, may.2)

-- with other findings
pub may_with : {K : Type 0} (run other : RunPurpose) (ahead more : List Slot) (found_for now : Option Item) (values items : List ℕ) (s : StoreView (StoreMeaning RunPurpose K)) → other ≡ run → more ≡ ahead
    → MayMatch run ahead found_for values s → AreFoundFor (work_of_run run) now items → MayMatch other more now items s
may_with run other ahead more found_for now values items s same_run same_ahead may found =
    subst (λ (r : RunPurpose). MayMatch r more now items s) (sym same_run) (subst (λ (slots : List Slot). MayMatch run slots now items s) (sym same_ahead) (may.0, may.1, found))

pub found_by : (w : Work) (found_for : Option Item) (item : Item) (values : List ℕ) → found_for ≡ Some item → AreFoundFor w found_for values → (values ≡ values_at w item) × All IsKept values
found_by w found_for item values is found = subst (λ (o : Option Item). AreFoundFor w o values) is found

-- ---- values are appended, or there are none

module _ {M : Type 0} (w : Work) (values : List ℕ) (a : TxView M) (may : MayCommit a.attempt) where
  pub appended_none : values ≡ [] → HasAppended w values a a
  appended_none none = record { calls = []; does = does_nothing a may.before_commit; appends = rw none tt }

  pub appended_nested : (b : TxView M) → GoesOn (view_of a) (view_of b) → GrowsOn a b → ((view_of b).state ≡ Running) × HasAdded (λ added. Appends w values (by_key added)) (view_of a) (view_of b) → HasAppended w values a b
  appended_nested b goes grows ends =
      let done = does_nested (λ added. Appends w values (by_key added)) a b may.running goes grows ends in
      record { calls = by_key done.0; does = done.2; appends = done.1 }

-- ---- a whole run

pub ran : {K : Type 0} (run : RunPurpose) (a b : TxView (StoreMeaning RunPurpose K)) (taken : Bool) → IsRunStore run a.store → IsFresh a.attempt → HasTried (work_of_run run) a b taken
    → (b.attempt.state ≡ Running) × IsAllowed (work_of_run a.store.table.meaning.purpose) (by_key b.attempt.notes) × TookItem (by_key b.attempt.notes) taken
ran run a b taken is fresh tried =
    let noted : by_key b.attempt.notes ≡ tried.calls = noted_then a b [] tried.calls (ap by_key fresh.notes) tried.does in (
      tried.does.state ∙ fresh.running,
      subst (λ (w : Work). IsAllowed w (by_key b.attempt.notes)) (sym (same_work run a.store is)) (subst (λ (ds : List Done). IsAllowed (work_of_run run) ds) (sym noted) tried.allowed),
      subst (λ (ds : List Done). TookItem ds taken) (sym noted) tried.took,
    )
