-- Runs that are shown call by call: the states between, and that they are within capacity.
use Rattle.std.proofs.Common.{◌≡◌, ◌≢◌, ℕ, ◌≤◌, false, List, [], ◌∷◌, length, sym, refl, ◌∙◌, subst, arith, eqb, ne_eqb}
use Rattle.std.specs.Prelude.{Option}
use mathlib.Core.Logic.{dite}
use native.Mathlib.Decide.{ℕ_discrete}
use Rattle.serial_terms.specs.declared.call.Done.{Done}
use Rattle.serial_terms.specs.declared.store.Layout.{Layout}
use Rattle.serial_terms.specs.Counts.{with_at}
use Rattle.serial_terms.specs.Entries.{Entry, Each, by_caller, IsCountedFrom}
use Rattle.serial_terms.specs.Histories.{Runs, IsLegalRun}
use Rattle.serial_terms.specs.Laws.{CapacitiesStay}
use Rattle.serial_terms.specs.Serial.{State, Sequence, Pool, IsWithinCapacity, IsReplied, step, put_map, put_pool, put_queue, put_log, put_cell}
use Rattle.serial_terms.specs.Stores.{opening_of}
use Rattle.std.proofs.lemmas.Bool.{cond-false}
use Rattle.serial_terms.specs.Facts.{with_at_same, with_at_other}

-- the state after calls, and after records
abbrev pub after_calls : State → List Done → State
after_calls s [] = s
after_calls s (d ∷ ds) = after_calls (step s d) ds

abbrev pub after_records : State → List (Entry Done) → State
after_records s [] = s
after_records s (e ∷ es) = after_records (after_calls s e.dones) es

abbrev pub AreReplied : State → List Done → Type 0
AreReplied s [] = Unit {0}
AreReplied s (d ∷ ds) = IsReplied s d × AreReplied (step s d) ds

abbrev pub AreLegal : State → List (Entry Done) → Type 0
AreLegal s [] = Unit {0}
AreLegal s (e ∷ es) = AreReplied s e.dones × IsWithinCapacity (after_calls s e.dones) × (e.writer ≡ false → after_calls s e.dones ≡ s) × AreLegal (after_calls s e.dones) es

pub ran : (ds : List Done) (s : State) → AreReplied s ds → Runs s ds (after_calls s ds)
ran [] s a = refl
ran (d ∷ ds) s a = (a.0, ran ds (step s d) a.1)

pub legal : (es : List (Entry Done)) (s : State) → AreLegal s es → IsLegalRun s es (after_records s es)
legal [] s a = refl
legal (e ∷ es) s a = (after_calls s e.dones, ran e.dones s a.0, a.1, a.2, legal es (after_calls s e.dones) a.3)

-- ---- within capacity

pub opening_within : (l : Layout) → IsWithinCapacity (opening_of l)
unfolding opening_of
opening_within l = record { queues = λ q. omega arith; logs = λ q. omega arith }

abbrev Fits : Sequence → Type 0
Fits x = length x.items ≤ x.capacity

fits_at : (f : ℕ → Sequence) (n : ℕ) (x : Sequence) → ((q : ℕ) → Fits (f q)) → Fits x → (q : ℕ) → Fits (with_at f n x q)
fits_at f n x a b q = dite (ℕ_discrete q n) (λ e. subst Fits (sym (with_at_same f n x q e)) b) (λ e. subst Fits (sym (with_at_other f n x q e)) (a q))

pub queue_within : (s : State) (q : ℕ) (xs : List ℕ) → IsWithinCapacity s → length xs ≤ (s.queues q).capacity → IsWithinCapacity (put_queue s q xs)
queue_within s q xs c l = record { queues = fits_at s.queues q (record { items = xs; capacity = (s.queues q).capacity }) c.queues l; logs = c.logs }

pub log_within : (s : State) (n : ℕ) (xs : List ℕ) → IsWithinCapacity s → length xs ≤ (s.logs n).capacity → IsWithinCapacity (put_log s n xs)
log_within s n xs c l = record { queues = c.queues; logs = fits_at s.logs n (record { items = xs; capacity = (s.logs n).capacity }) c.logs l }

pub map_within : (s : State) (m k : ℕ) (v : Option ℕ) → IsWithinCapacity s → IsWithinCapacity (put_map s m k v)
map_within s m k v c = record { queues = c.queues; logs = c.logs }

pub pool_within : (s : State) (p : ℕ) (x : Pool) → IsWithinCapacity s → IsWithinCapacity (put_pool s p x)
pool_within s p x c = record { queues = c.queues; logs = c.logs }

pub cell_within : (s : State) (k v : ℕ) → IsWithinCapacity s → IsWithinCapacity (put_cell s k v)
cell_within s k v c = record { queues = c.queues; logs = c.logs }

-- ---- indices

-- a caller that has no record
pub no_records : (k : ℕ) (es : List (Entry Done)) → Each (λ e. e.caller ≢ k) es → by_caller k es ≡ []
no_records k [] a = refl
no_records k (e ∷ es) a = cond-false (eqb e.caller k) (e ∷ by_caller k es) (by_caller k es) (ne_eqb e.caller k a.0) ∙ no_records k es a.1

-- where caller 0 alone has records
pub counted_alone : (es : List (Entry Done)) → ((k : ℕ) → 0 ≢ k → Each (λ e. e.caller ≢ k) es) → IsCountedFrom 0 (by_caller 0 es) → (k : ℕ) → IsCountedFrom 0 (by_caller k es)
counted_alone es alone c k = dite (ℕ_discrete 0 k) (λ e. subst (λ (z : ℕ). IsCountedFrom 0 (by_caller z es)) e c) (λ n. subst (IsCountedFrom 0) (sym (no_records k es (alone k n))) tt)

-- where the callers 0 and 1 alone have records
pub counted_both : (es : List (Entry Done)) → ((k : ℕ) → 0 ≢ k → 1 ≢ k → Each (λ e. e.caller ≢ k) es) → IsCountedFrom 0 (by_caller 0 es) → IsCountedFrom 0 (by_caller 1 es) → (k : ℕ) → IsCountedFrom 0 (by_caller k es)
counted_both es both c d k = dite (ℕ_discrete 0 k) (λ e. subst (λ (z : ℕ). IsCountedFrom 0 (by_caller z es)) e c)
    (λ n. dite (ℕ_discrete 1 k) (λ e. subst (λ (z : ℕ). IsCountedFrom 0 (by_caller z es)) e d) (λ m. subst (IsCountedFrom 0) (sym (no_records k es (both k n m))) tt))

pub capacities : CapacitiesStay
capacities = record { opening = opening_within; queue = queue_within; log = log_within; map = map_within; pool = pool_within; cell = cell_within }
