-- What a look at a key's cell, and a write of it, say of the map and leave of the attempt.
use Rattle.std.proofs.Common.{◌≡◌, ℕ, zero, suc, ◌+◌, ◌-◌, ◌^◌, ◌<◌, ◌≤◌, List, get_or, Option, Some, None, IfSome, IsErrAnd, Result, Ok, Err, add-one, refl, sym, subst, ap, ◌∙◌, arith, inl, inr}
use Rattle.std.proofs.lemmas.Bool.Decides.{nat_tests}
use Rattle.std.specs.Option.{SomeIff}
use Rattle.attempt_lists.specs.Cells.{word_at, put}
use Rattle.cell_table.specs.declared.view.View.{View}
use Rattle.cell_table.specs.Pass.{PassState}
use Rattle.tx_core.specs.Seen.{LooksOnly}
use Rattle.tx_core.specs.declared.stop.Stop.{Stop as AttemptStop}
use Rattle.tx_core.specs.Tx.{Attempt, Observed}
use Rattle.tx_map.specs.declared.part.MapPart.{MapPart}
use Rattle.tx_map.specs.Map.{map_of, value_in}
use Rattle.tx_core.specs.Calls.{MayObserve, Stays}
use Rattle.tx_map.specs.declared.part.MapStop.{MapStop}
use Rattle.tx_map.specs.declared.part.MapStop.TheVariants.{Stop}
use Rattle.tx_map.specs.Calls.{Writes, IsStopped, LooksThen, FillsBy}

abbrev answer : ℕ → Result ℕ AttemptStop
answer x = Ok x

module _ {M D : Type 0} (old new : Attempt M D) (cell : ℕ) where
  -- an answered read leaves the attempt as it was, or has observed the cell
  pub read_observes : (x : ℕ) → ((y : ℕ) → word_at old.writes cell ≡ Some y → (answer x ≡ answer y) × (new ≡ old))
      → ((y : ℕ) → word_at old.writes cell ≡ None → word_at old.observations cell ≡ Some y → (answer x ≡ answer y) × (new ≡ old))
      → (word_at old.writes cell ≡ None → word_at old.observations cell ≡ None → Observed old new cell x) → MayObserve old new cell
  read_observes x own seen observes = written (word_at old.writes cell) refl
    where
      observed : word_at old.writes cell ≡ None → (o : Option ℕ) → word_at old.observations cell ≡ o → MayObserve old new cell
      observed none (Some y) e = inl (seen y none e).1
      observed none None e = inr (none, e, x, observes none e)

      written : (o : Option ℕ) → word_at old.writes cell ≡ o → MayObserve old new cell
      written (Some y) e = inl (own y e).1
      written None e = observed e (word_at old.observations cell) refl

module _ {M D : Type 0} (old : Attempt M D) where
  -- an attempt that is the old one but for its pass, its state, and what it observed and wrote
  abbrev other : Attempt M D → Attempt M D
  other a = record old { pass = a.pass; state = a.state; observations = a.observations; versions = a.versions; writes = a.writes }

  stays_other : (new : Attempt M D) → new ≡ other new → Stays old new
  stays_other new is = record {
    table = ap (λ (a : Attempt M D). a.table) is;
    version = ap (λ (a : Attempt M D). a.version) is;
    notes = ap (λ (a : Attempt M D). a.notes) is;
    additions = ap (λ (a : Attempt M D). a.additions) is;
    spare = ap (λ (a : Attempt M D). a.spare) is;
    committing = ap (λ (a : Attempt M D). a.committing) is;
    mark = ap (λ (a : Attempt M D). a.mark) is;
  }

  pub stays_looked : (new : Attempt M D) (cell : ℕ) → MayObserve old new cell → Stays old new × (new.writes ≡ old.writes)
  stays_looked new cell (inl same) = (stays_other new (same ∙ sym (ap other same)), ap (λ (a : Attempt M D). a.writes) same)
  stays_looked new cell (inr seen) = (stays_other new (seen.3.is ∙ sym (ap other seen.3.is)), ap (λ (a : Attempt M D). a.writes) seen.3.is)

  pub stays_stopped : (new : Attempt M D) → IsStopped old new → Stays old new × (new.writes ≡ old.writes)
  stays_stopped new is = (stays_other new (is ∙ sym (ap other is)), ap (λ (a : Attempt M D). a.writes) is)

  pub stays_written : (new : Attempt M D) (cell word : ℕ) → Writes cell word old new → Stays old new × (new.writes ≡ put old.writes cell word)
  stays_written new cell word is = (stays_other new (is ∙ sym (ap other is)), ap (λ (a : Attempt M D). a.writes) is)

pub stays_trans : {M D : Type 0} (a b d : Attempt M D) → Stays a b → Stays b d → Stays a d
stays_trans a b d s t = record {
  table = t.table ∙ s.table;
  version = t.version ∙ s.version;
  notes = t.notes ∙ s.notes;
  additions = t.additions ∙ s.additions;
  spare = t.spare ∙ s.spare;
  committing = t.committing ∙ s.committing;
  mark = t.mark ∙ s.mark;
}

-- the map has at the position what its cell says
pub map_has : (part : MapPart) (cells : List ℕ) (position word : ℕ) → position < part.capacity → get_or cells (part.base + position) 0 ≡ word → map_of part cells position ≡ value_in word
map_has part cells position word inside here = grind (arith, nat_tests, inside, here)

-- a word's value, where the word less 1 is there
pub value_is : (word : ℕ) (r : Option ℕ) → SomeIff r (1 ≤ word) (word - 1) → r ≡ value_in word
value_is zero None e = refl
value_is zero (Some v) e = absurd (omega (arith, e.0))
value_is (suc w) None e = absurd (e (omega arith))
value_is (suc w) (Some v) e = ap Some (omega (arith, e.1))

pub value_below : (word : ℕ) (r : Option ℕ) → word < 2 ^ 64 → SomeIff r (1 ≤ word) (word - 1) → IfSome r (λ v. v < 2 ^ 64 - 1)
value_below word None low e = tt
value_below word (Some v) low e = omega (arith, low, e.0, e.1)

-- the word of a value
pub value_next : (value : ℕ) → value_in (value + 1) ≡ Some value
value_next value = ap value_in (add-one value)

-- a pass that was looked with, and then got more places for locks
pub looks_places : {M D : Type 0} (p q r : PassState M D) → LooksOnly p q → r ≡ record q { places = r.places } → LooksOnly p (record r { places = p.places })
looks_places p q r looks same =
    let view : r.view ≡ q.view = ap (λ (s : PassState _ _). s.view) same in
    let narrow : PassState _ _ → PassState _ _ = λ s. record s { places = p.places } in
    (ap narrow same ∙ ap narrow looks.0 ∙ ap (λ (v : View _ _). record p { view = v }) (sym view), rw view looks.1)

-- a stop within is the call's
pub fills_stopped : {M D : Type 0} (cell word : ℕ) (old new : Attempt M D) (result : Result (Option ℕ) MapStop) (stop : AttemptStop) → IsErrAnd result (λ e. e ≡ Stop stop) → LooksThen cell IsStopped old new → FillsBy cell word old new result
fills_stopped cell word old new (Ok there) stop is stopped = absurd is
fills_stopped cell word old new (Err e) stop is stopped = subst (λ (z : MapStop). FillsBy cell word old new (Err z)) (sym is) stopped
