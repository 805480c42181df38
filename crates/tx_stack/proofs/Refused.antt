-- Why a call on a stack isn't committed.
use Rattle.std.proofs.Common.{◌≡◌, ℕ, ◌+◌, ◌-◌, ◌≤◌, Bool, true, false, List, [], ◌∷◌, ◌++◌, length, nat_lt, if◌then◌else◌, refl, sym, ap, ◌∙◌, subst, arith}
use Rattle.serial_terms.specs.declared.call.Done.{Done}
use Rattle.serial_terms.specs.declared.sight.SightEnd.{SightEnd}
use Rattle.serial_terms.specs.declared.sight.SightEnd.TheVariants.{Full}
use Rattle.serial_terms.specs.Histories.{Runs}
use Rattle.serial_terms.specs.Renaming.{NamedDone}
use Rattle.serial_terms.specs.Serial.{State, Sequence, IsWithinCapacity, put_cell}
use Rattle.serial_terms.specs.Sights.{Seen, part_of, EndsAs}
use Rattle.store_meaning.specs.declared.meaning.StoreMeaning.{StoreMeaning}
use Rattle.tx_store.specs.Bodies.{NoMap}
use Rattle.tx_store.specs.declared.run.RunEnd.{RunEnd}
use Rattle.tx_store.specs.declared.run.RunEnd.TheVariants as run_ends
use Rattle.tx_store.specs.Known.{Vouches}
use Rattle.tx_store.specs.Runs.{IsAnswered, IsRefusedRun, IfEndKeysFull}
use Rattle.tx_store.specs.Sees.{SeesState}
use Rattle.tx_store.specs.Stores.{PassView}
use Rattle.tx_stack.specs.Calls.{lawful_stacks, allowed_stacks, IsSpentOrMemory}
use Rattle.tx_stack.specs.declared.part.StackPart.{StackPart}
use Rattle.tx_stack.specs.declared.purpose.Stacks.{Stacks}
use Rattle.tx_stack.specs.Stacks.{Act, counted, pushed, shown, popped, StackCall, cell_calls, all_cell_calls}

-- ---- calls on stacks leave queues and logs

one_leaves : (p : StackPart) (n : ℕ) (b : Bool) (act : Act) (ds : List Done) (s t : State) → Runs s (cell_calls (record { part = p; had = n; child = b; act = act }) ++ ds) t
    → (u : State) × Runs u ds t × (u.queues ≡ s.queues) × (u.logs ≡ s.logs)
one_leaves p n b counted ds s t r = (s, r.1, refl, refl)
one_leaves p n b (pushed v) ds s t r = (put_cell (put_cell s (p.base + 1 + n) v) p.base (n + 1), r.1.1.1, refl, refl)
one_leaves p n b (shown v) ds s t r = (s, r.1.1, refl, refl)
one_leaves p n b (popped v) ds s t r = (put_cell s p.base (n - 1), r.1.1.1, refl, refl)

all_leave : (calls : List StackCall) (s t : State) → Runs s (all_cell_calls calls) t → (t.queues ≡ s.queues) × (t.logs ≡ s.logs)
all_leave [] s t r = (ap (λ (x : State). x.queues) (sym r), ap (λ (x : State). x.logs) (sym r))
all_leave (c ∷ cs) s t r =
    let one = one_leaves c.part c.had c.child c.act (all_cell_calls cs) s t r in
    let more = all_leave cs one.0 t one.1 in
    (more.0 ∙ one.2, more.1 ∙ one.3)

part_within : (queues : ℕ) (s : State) → IsWithinCapacity s → (part : ℕ) → length (part_of queues s part).items ≤ (part_of queues s part).capacity
part_within queues s within part = by_test (nat_lt part queues)
  where
    by_test : (low : Bool) → length (if low then s.queues part else s.logs (part - queues)).items ≤ (if low then s.queues part else s.logs (part - queues)).capacity
    by_test true = within.queues part
    by_test false = within.logs (part - queues)

-- so they leave none that is longer than its capacity
never_full : (queues : ℕ) (s t : State) (calls : List StackCall) → IsWithinCapacity s → Runs s (all_cell_calls calls) t → (part values adding : ℕ) → EndsAs queues t (Full part values adding) → ⊥
never_full queues s t calls within run part values adding ends =
    let left = all_leave calls s t run in
    let within_there : IsWithinCapacity t = record {
      queues = λ q. subst (λ (f : ℕ → Sequence). length (f q).items ≤ (f q).capacity) (sym left.0) (within.queues q);
      logs = λ l. subst (λ (f : ℕ → Sequence). length (f l).items ≤ (f l).capacity) (sym left.1) (within.logs l);
    } in
    let few = part_within queues t within_there part in
    let long = ends.0 in
    let over = ends.1 in
    omega (arith, few, long, over)

module _ {K O : Type 0} (m : StoreMeaning Stacks K) (parts : ℕ) (runs : List Done → O → Type 0) (tries : ℕ) (p q : PassView (StoreMeaning Stacks K)) where
  pub spent_or_memory : (end : RunEnd) → IfEndKeysFull NoMap end → IsRefusedRun (Vouches lawful_stacks m) parts (IsAnswered (allowed_stacks m.purpose) runs) tries p q end
      → ((seen : Seen NamedDone) → Vouches lawful_stacks m q seen → SeesState lawful_stacks m seen) → IsSpentOrMemory end
  spent_or_memory (run_ends.Spent n last) keyless refused sees = tt
  spent_or_memory (run_ends.Full part values adding) keyless refused sees =
      let found = refused.ends in
      let there = sees found.seen found.saw in
      let read = found.calls.placed in
      never_full _ there.state there.now read.0 there.within (subst (λ (ds : List Done). Runs there.state ds there.now) read.1.all there.run) part values adding
      (subst (λ (end : SightEnd). EndsAs _ there.now end) found.end there.ends)
  spent_or_memory (run_ends.KeysFull map capacity) keyless refused sees = keyless
  spent_or_memory run_ends.Memory keyless refused sees = tt
