-- What the records are that give the next tasks.
use Rattle.std.proofs.Common.{◌≡◌, ℕ, List, [], ◌∷◌, length, refl, sym, ap, ◌∙◌, subst, arith}
use Rattle.cell_table.specs.Pass.{PassState}
use Rattle.run_stages.specs.Allowed.{IsAllowed, gives}
use Rattle.run_stages.specs.Ends.{is_fill, asks_length}
use Rattle.run_stages.specs.Work.{Work}
use Rattle.serial_terms.specs.declared.call.Call.{Call}
use Rattle.serial_terms.specs.declared.call.Call.TheVariants.{QueueLen}
use Rattle.serial_terms.specs.declared.call.Done.{Done}
use Rattle.serial_terms.specs.Histories.{Runs}
use Rattle.serial_terms.specs.Renaming.{NamedDone, with_key, by_key, by_name}
use Rattle.serial_terms.specs.Serial.{State, Sequence}
use Rattle.inspect_workers.specs.Noted.{Adds, AddsOne, IsFill}
use Rattle.inspect_workers.specs.Turns.{RunsToFullLog}

asks_by_name : (n : ℕ) (c : Call) → asks_length (with_key n c) ≡ asks_length c
asks_by_name n (QueueLen q) = refl
asks_by_name n c = refl

fill_by_name : (ds : List NamedDone) → is_fill (by_name ds) ≡ is_fill (by_key ds)
fill_by_name [] = refl
fill_by_name (d ∷ ds) = asks_by_name d.name d.done.call

module _ (w : Work) where
  gives_no_finding : (is : List ℕ) (s t : State) → Runs s (gives w is) t → t.logs 0 ≡ s.logs 0
  gives_no_finding [] s t r = ap (λ (z : State). z.logs 0) (sym r)
  gives_no_finding (i ∷ is) s t r = gives_no_finding is _ t r.1

  -- a fill leaves the log as it was
  fill_leaves_log : (ds : List Done) → IsAllowed w ds → is_fill ds ≡ 1 → (s t : State) → Runs s ds t → t.logs 0 ≡ s.logs 0
  fill_leaves_log ds (IsAllowed.take_whole i whole e) one s t r = absurd (let z = ap is_fill e in omega (arith, z, one))
  fill_leaves_log ds (IsAllowed.take_fragment h i old member e) one s t r = absurd (let z = ap is_fill e in omega (arith, z, one))
  fill_leaves_log ds (IsAllowed.match_whole i more whole appends e) one s t r = absurd (let z = ap is_fill e in omega (arith, z, one))
  fill_leaves_log ds (IsAllowed.match_group h x before more low appends e) one s t r = absurd (let z = ap is_fill e in omega (arith, z, one))
  fill_leaves_log ds (IsAllowed.nothing_queued e) one s t r = absurd (let z = ap is_fill e in omega (arith, z, one))
  fill_leaves_log ds (IsAllowed.nothing_pooled e) one s t r = absurd (let z = ap is_fill e in omega (arith, z, one))
  fill_leaves_log ds (IsAllowed.fill f left e) one s t r =
      let run = subst (λ (z : List Done). Runs s z t) e r in
      gives_no_finding _ _ t run.1.1.1

  -- so it never finds it full
  pub never_full : (notes : List NamedDone) → is_fill (by_key notes) ≡ 1 → (values adding : ℕ) → RunsToFullLog w (by_name notes) values adding → ⊥
  never_full notes one values adding is =
      let same = fill_leaves_log (by_name notes) is.allowed (fill_by_name notes ∙ one) is.start is.end is.runs in
      let count = ap (λ (l : Sequence). length l.items) same in
      let room = ap (λ (l : Sequence). l.capacity) same in
      let low = is.within.logs 0 in
      let ends = is.full.0 in
      let over = is.full.1 in omega arith

  pub filled : {M O : Type 0} (old new : PassState M NamedDone) (out : O) → AddsOne (λ calls. IsAllowed w calls × (is_fill calls ≡ 1)) old new → Adds (IsFill w) old.books new.books
  filled old new out is = record { entry = is.entry; books = is.books; calls = record { allowed = is.calls.0; one = is.calls.1 } }
