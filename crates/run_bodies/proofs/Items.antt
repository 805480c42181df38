-- What the queue gave, and the keys of groups and tasks.
use Rattle.std.proofs.Common.{◌≡◌, ℕ, ◌^◌, ◌<◌, List, [], ◌∷◌, inl, inr, length, Option, Some, None, sym, ap, ◌∙◌, subst, arith}
use Rattle.std.specs.Prelude.{max, get_or}
use Rattle.std.proofs.lemmas.Bool.Decides.{nat_tests}
use Rattle.serial_terms.specs.declared.call.Call.TheVariants.{MapGet, Dequeue}
use Rattle.serial_terms.specs.declared.call.Done.{Done}
use Rattle.serial_terms.specs.declared.call.Reply.TheVariants.{Value}
use Rattle.serial_terms.specs.Histories.{Runs}
use Rattle.serial_terms.specs.Renaming.{by_key}
use Rattle.serial_terms.specs.Serial.{outside, found}
use Rattle.store_layout.specs.Shapes.{Shape}
use Rattle.store_meaning.specs.declared.meaning.StoreMeaning.{StoreMeaning}
use Rattle.tx_store.specs.Bodies.{Does}
use Rattle.tx_store.specs.Runs.{IsFresh}
use Rattle.tx_store.specs.Stores.{TxView}
use Rattle.run_purpose.specs.declared.item.Item.{Item}
use Rattle.run_purpose.specs.declared.item.Item.TheVariants.{Whole, Group}
use Rattle.run_purpose.specs.declared.purpose.RunPurpose.{RunPurpose}
use Rattle.run_purpose.specs.Lawful.{IsSmall}
use Rattle.run_purpose.specs.Told.{IsDatagramItem, RepliesTell}
use Rattle.run_purpose.specs.Words.{value_of}
use Rattle.run_stages.specs.FromCapture.{TasksHaveFacts}
use Rattle.run_stages.specs.Work.{Work, IsSoundWork, IsWhole, IsComplete}
use Rattle.run_bodies.specs.Matching.{IsDatagram, dequeued}
use Rattle.run_bodies.specs.RunStores.{HasParts, RunsFromLawful, work_of_run}
use Rattle.run_bodies.proofs.Outside.{noted_then}

below_max : (i n : ℕ) → i < n → i < max n 1
below_max i n low = grind (arith, nat_tests)

-- what the queue gave is the item of a datagram
pub datagram_of : (w : Work) (item : Item) → IsDatagramItem w (value_of item) → IsDatagram w item
datagram_of w (Whole i) (inl a) = let e : i ≡ a.0 = (let d = a.1 in omega arith) in subst (λ (n : ℕ). IsWhole w n) (sym e) a.2
datagram_of w (Whole i) (inr b) = absurd (let d = b.1 in omega arith)
datagram_of w (Group h) (inl a) = absurd (let d = a.1 in omega arith)
datagram_of w (Group h) (inr b) = let e : h ≡ b.0 = (let d = b.1 in omega arith) in subst (λ (n : ℕ). IsComplete w n) (sym e) b.2

pub told_item : (w : Work) (calls : List Done) (value : ℕ) → RepliesTell w → RunsFromLawful w calls → calls ≡ outside (Dequeue 0) (Value value) ∷ [] → IsDatagramItem w value
told_item w calls value tell runs e = tell.dequeued runs.state runs.now value runs.lawful (subst (λ (ds : List Done). Runs runs.state ds runs.now) e runs.run)

-- the group of a dequeued item has a word
pub told_word : (w : Work) (calls : List Done) (group : ℕ) (value : Option ℕ) → RepliesTell w → RunsFromLawful w calls
    → calls ≡ dequeued (Some (Group group)) ∷ outside (MapGet 0 group) (found value) ∷ [] → value ≡ None → ⊥
told_word w calls group value tell runs e none =
    let word = tell.worded runs.state runs.now group value runs.lawful (subst (λ (ds : List Done). Runs runs.state ds runs.now) e runs.run) in
    let both : None ≡ Some word.0 = sym none ∙ word.1 in absurd (cc)

module _ (run : RunPurpose) (facts : TasksHaveFacts) where
  pub task_there : (i : ℕ) → i < length (work_of_run run).tasks → i < length run.plan.now.tasks.items
  task_there i low = let e = (facts run.rules.now run.bytes.now run.plan.now.tasks.items run.plan.now.groups.items).0 in omega arith

  pub group_there : IsSoundWork (work_of_run run) → (group : ℕ) → IsComplete (work_of_run run) group → group < length run.plan.now.groups.items
  group_there sound group complete =
      let e = (facts run.rules.now run.bytes.now run.plan.now.tasks.items run.plan.now.groups.items).1 in
      let low = sound.numbered group complete.ender complete.member in omega arith

  pub item_small : IsSoundWork (work_of_run run) → IsSmall run.plan.now → (value : ℕ) → IsDatagramItem (work_of_run run) value → value < 2 ^ 33
  item_small sound small value (inl a) = let e = a.1 in let low = task_there a.0 a.2.below in let most = small.tasks in omega arith
  item_small sound small value (inr b) = let e = b.1 in let low = group_there sound b.0 b.2 in let most = small.groups in omega arith

-- ---- what a fresh attempt took out of the queue

module _ {K : Type 0} (run : RunPurpose) (facts : TasksHaveFacts) (a b : TxView (StoreMeaning RunPurpose K)) (fresh : IsFresh a.attempt) (there : Option ℕ) (value : ℕ) (is : there ≡ Some value)
    (does : Does a b (outside (Dequeue 0) (found there) ∷ [])) (runs : RunsFromLawful (work_of_run run) (by_key b.attempt.notes)) (tell : RepliesTell (work_of_run run)) where
  gave : Does a b (outside (Dequeue 0) (Value value) ∷ [])
  gave = subst (λ (o : Option ℕ). Does a b (outside (Dequeue 0) (found o) ∷ [])) is does

  gave_item : IsDatagramItem (work_of_run run) value
  gave_item = told_item (work_of_run run) (by_key b.attempt.notes) value tell runs (noted_then a b [] (outside (Dequeue 0) (Value value) ∷ []) (ap by_key fresh.notes) gave)

  pub gave_small : IsSmall run.plan.now → value < 2 ^ 33
  gave_small small = item_small run facts runs.lawful.sound small value gave_item

  module _ (item : Item) (same : value_of item ≡ value) where
    pub gave_dequeued : Does a b (dequeued (Some item) ∷ [])
    gave_dequeued = subst (λ (v : ℕ). Does a b (outside (Dequeue 0) (Value v) ∷ [])) (sym same) gave

    pub gave_datagram : IsDatagram (work_of_run run) item
    gave_datagram = datagram_of (work_of_run run) item (subst (λ (v : ℕ). IsDatagramItem (work_of_run run) v) (sym same) gave_item)

-- ---- keys

module _ (run : RunPurpose) (s : Shape) (parts : HasParts run s) where
  pub group_key : (group : ℕ) → group < length run.plan.now.groups.items → (0 < length s.maps) × (group < get_or s.maps 0 0)
  group_key group low = (rw parts.maps (omega arith), rw parts.maps (below_max group (length run.plan.now.groups.items) low))

  pub task_key : (task : ℕ) → task < length run.plan.now.tasks.items → (1 < length s.maps) × (task < get_or s.maps 1 0)
  task_key task low = (rw parts.maps (omega arith), rw parts.maps (below_max task (length run.plan.now.tasks.items) low))
