use Rattle.std.proofs.Common.{◌≡◌, ℕ, ◌+◌, ◌<◌, arith, true, List, [], ◌∷◌, ◌++◌, length, ap, ◌∙◌, subst, inl, inr}
use Rattle.std.specs.Prelude.{Ok, Option, None, Some}
use Rattle.serial_terms.specs.declared.call.Call.TheVariants.{Take, MapGet}
use Rattle.serial_terms.specs.declared.call.Done.{Done}
use Rattle.serial_terms.specs.declared.call.Reply.TheVariants.{Value}
use Rattle.serial_terms.specs.Histories.{Runs}
use Rattle.serial_terms.specs.Renaming.{by_key}
use Rattle.serial_terms.specs.Serial.{outside, in_child, found}
use Rattle.run_purpose.specs.Told.{RepliesTell}
use Rattle.run_purpose.specs.Words.{FitsWord}
use Rattle.run_stages.specs.Allowed.{IsAllowed, take_whole, take_fragment}
use Rattle.run_stages.specs.Ends.{tasks_taken}
use Rattle.run_stages.specs.Work.{Work, IsMember, head_of}
use Rattle.run_bodies.proofs.Adding.{added_takes}
use Rattle.run_bodies.proofs.Outside.{acts_outside, noted_then}
use Rattle.run_bodies.specs.InChild.{DoesInChild}
use Rattle.run_bodies.specs.Records.{TookTask, HandsOn}
use Rattle.run_bodies.specs.RunStores.{RunsFromLawful}
use Rattle.tx_store.specs.BodyFacts.{by_key_append}
use Rattle.store_layout.specs.Shapes.{Shape, Object}
use Rattle.store_parts.specs.Parts.{noted}
use Rattle.tx_store.specs.Calls.{IsCalled, in_child as child_of}
use Rattle.tx_store.specs.Runs.{IsFresh}
use Rattle.tx_store.specs.Stores.{TxView}

module _ {M : Type 0} where
  -- the call of an attempt that took an item, or found none
  pub took : (s : Shape) (o : Object) (n : ℕ) (a b : TxView M) (item : Option ℕ) → IsFresh a.attempt
      → IsCalled s o n a b (noted (Take 0) (found item) (child_of a.attempt.state) 0 ∷ []) None → by_key b.attempt.notes ≡ outside (Take 0) (found item) ∷ []
  took s o n a b item fresh is =
      noted_then a b [] (outside (Take 0) (found item) ∷ []) (ap by_key fresh.notes)
      (acts_outside s o n a b (Take 0) found (Ok item) (record { running = fresh.running; before_commit = fresh.before_commit }) is)

  -- the calls of an attempt and of its child
  pub with_child : (a b : TxView M) (before calls : List Done) → by_key a.attempt.notes ≡ before → DoesInChild a b calls → by_key b.attempt.notes ≡ before ++ calls
  with_child a b before calls is does =
      let open_by : by_key b.attempt.notes ≡ by_key (a.attempt.notes ++ does.added) = ap by_key does.notes in
      open_by ∙ (by_key_append a.attempt.notes does.added ∙ (ap (λ (l : List Done). l ++ by_key does.added) is ∙ ap (λ (l : List Done). before ++ l) does.keyed))

module _ (w : Work) (calls : List Done) (runs : RunsFromLawful w calls) (tell : RepliesTell w) where
  -- what the pool gave is a task
  pub taken_there : (item : Option ℕ) → calls ≡ outside (Take 0) (found item) ∷ [] → (i : ℕ) → item ≡ Some i → i < length w.tasks
  taken_there item is i some =
      tell.taken runs.state runs.now i runs.lawful (subst (λ (ds : List Done). Runs runs.state ds runs.now) (is ∙ ap (λ (x : Option ℕ). outside (Take 0) (found x) ∷ []) some) runs.run)

  -- the word of its group fits
  pub added_there : (h i : ℕ) (old : Option ℕ) → IsMember w h i → calls ≡ outside (Take 0) (Value i) ∷ in_child (MapGet 0 h) (found old) ∷ []
      → FitsWord w i old × ((x : ℕ) → old ≡ Some x → IsMember w h (head_of x))
  added_there h i old member is =
      tell.added runs.state runs.now h i old runs.lawful member (subst (λ (ds : List Done). Runs runs.state ds runs.now) is runs.run)

-- ---- the whole record

pub handed_allowed : (w : Work) (i : ℕ) (calls all : List Done) → HandsOn w i calls → all ≡ outside (Take 0) (Value i) ∷ calls → IsAllowed w all
handed_allowed w i calls all (inl (whole, is)) e = take_whole i whole (e ∙ ap (λ (ds : List Done). outside (Take 0) (Value i) ∷ ds) is)
handed_allowed w i calls all (inr (h, member, old, is)) e = take_fragment h i old member (e ∙ ap (λ (ds : List Done). outside (Take 0) (Value i) ∷ ds) is)

handed_takes : (w : Work) (i : ℕ) (calls : List Done) → HandsOn w i calls → tasks_taken calls ≡ 0
handed_takes w i calls (inl (whole, is)) = ap tasks_taken is
handed_takes w i calls (inr (h, member, old, is)) = ap tasks_taken is ∙ added_takes w h i old

pub took_one : (w : Work) (i : ℕ) (calls all : List Done) → HandsOn w i calls → all ≡ outside (Take 0) (Value i) ∷ calls → TookTask all true
took_one w i calls all hands e = record {
  none = λ is. absurd (cc);
  one = λ is. let none = handed_takes w i calls hands in let e1 : 1 + tasks_taken calls ≡ 1 = omega (arith, none) in ap tasks_taken e ∙ e1;
}
